use Rattle.std.proofs.Common.{Some, ap, ◌∙◌}
use Rattle.protocol.specs.State.{OpenOrder}
use Rattle.rows.proofs.Changed.{laid_whole}
use Rattle.rows.proofs.order.OrderRow.file.Goals as goal

pub returns : goal.returns
returns c = λ few same w.
    ap (λ (x : OpenOrder). record { sequence = c.args.sequence; current = Some x })
    (c.new-order.ensures w ∙ laid_whole w c.args.stamp c.args.items.now c.args.codes.now few same)
