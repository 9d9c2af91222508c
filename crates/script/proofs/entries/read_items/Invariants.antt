use Rattle.std.proofs.Common.{◌≡◌, drop, Ok, vec_items}
use Rattle.script.specs.Entries.{bytes_onto, bytes_in}
use Rattle.script.proofs.entries.read_items.Given as goal

abbrev pub invariant-loop-token : goal.invariant-loop-token
invariant-loop-token l = bytes_onto (Ok (vec_items l.items)) (drop l.token-index l.line) ≡ bytes_in l.line
