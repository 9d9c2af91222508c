use Rattle.std.proofs.Common.{◌≡◌, get_or, ◌∙◌, arith}
use Rattle.std.proofs.lemmas.Grind.{common_steps}
use Rattle.rows.specs.Places.{in_eight}
use Rattle.rows.specs.Rows.{order_items}
use Rattle.rows.proofs.Changed.{padded_eight}
use Rattle.rows.proofs.order.OpenOrder.items.Goals as goal

pub returns : goal.returns
returns c =
    let listed = order_items c.args.self.now in
    let e : c.from_fn.result ≡ in_eight (λ k. get_or listed k 0) = grind (arith, common_steps) in
    e ∙ padded_eight listed
