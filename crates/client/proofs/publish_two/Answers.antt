use Rattle.std.proofs.Common.{arith}
use Rattle.blend.proofs.Order.{by_number}
use Rattle.client.proofs.Twice.{later_stays}
use Rattle.client.proofs.publish_two.Goals as goal

pub returns : goal.returns
returns g c =
    λ e. later_stays _ _ _ 100 33 17 5 6 1 2 _ c.publish-2.result (omega arith) (omega arith) (by_number 33 17) e
    c.in_ok-publish.ensures
    c.publish-2.ensures
