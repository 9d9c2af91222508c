use Rattle.std.proofs.Common.{◌≡◌, length}
use Rattle.protocol.specs.Refusals.{bad_items}
use Rattle.service.proofs.lists.is_tangled.Given as goal

abbrev pub invariant-loop-item : goal.invariant-loop-item
invariant-loop-item l = bad_items l.items ≡ bad_items l.rest

abbrev pub decreases-loop-item : goal.decreases-loop-item
decreases-loop-item l = length l.rest
