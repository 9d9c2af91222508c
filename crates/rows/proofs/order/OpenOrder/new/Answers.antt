use Rattle.std.proofs.Common.{arith}
use Rattle.rows.proofs.Changed.{laid_order}
use Rattle.rows.proofs.order.OpenOrder.new.Goals as goal

pub returns : goal.returns
returns c = λ w.
    laid_order w c.args.stamp c.count_of.result c.filed_places.result c.args.items.now c.args.codes.now
    (omega (arith, c.count_of.ensures)) c.count_of.ensures c.filed_places.ensures
