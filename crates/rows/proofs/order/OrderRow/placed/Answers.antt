use Rattle.std.proofs.Common.{Option, sym, ap, ◌∙◌}
use Rattle.std.specs.Option.{option_map}
use Rattle.rows.specs.declared.order.OpenOrder.{OpenOrder}
use Rattle.rows.specs.OrderCalls.{placed_at}
use Rattle.rows.specs.Rows.{order_in}
use Rattle.rows.proofs.order.OrderRow.placed.Goals as goal

pub returns : goal.returns
returns c = λ w.
    c.placed.ensures w ∙ sym (ap (λ (o : Option OpenOrder). placed_at (option_map (order_in w) o) c.args.place) c.in-Some.is)
