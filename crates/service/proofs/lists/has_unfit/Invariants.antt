use Rattle.std.proofs.Common.{◌≡◌}
use Rattle.protocol.specs.Refusals.{unfit}
use Rattle.service.proofs.lists.has_unfit.Given as goal

abbrev pub invariant-loop-item : goal.invariant-loop-item
invariant-loop-item l = unfit l.items l.codes ≡ unfit l.item-iterator.a.rest.now l.item-iterator.b.rest.now
