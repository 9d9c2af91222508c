use Rattle.std.proofs.Common.{◌≡◌}
use Rattle.journal.specs.Records.{records}
use Rattle.journal.specs.Held.{lookup}
use Rattle.journal.proofs.scan.JournalVersions.find.Given as goal

abbrev pub invariant-loop-record : goal.invariant-loop-record
invariant-loop-record l =
    (goal.iterator-loop-record).can_next l.record-iterator
    × (goal.iterator-loop-record).is_finite l.record-iterator
    × (lookup (records l.record-iterator.0.now) l.item l.stamp ≡ lookup (records l.self.bytes.items) l.item l.stamp)
