use Rattle.std.proofs.Common.{◌≡◌, length, Ok}
use Rattle.script.specs.Entries.{lists_of, entries_onto, entries_in}
use Rattle.script.proofs.entries.read_entries.Given as goal

abbrev pub invariant-loop-rest : goal.invariant-loop-rest
invariant-loop-rest l = entries_onto (length l.rest) (Ok (lists_of l.lists)) l.rest ≡ entries_in l.line

abbrev pub decreases-loop-rest : goal.decreases-loop-rest
decreases-loop-rest l = length l.rest
