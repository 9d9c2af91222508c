use Rattle.std.proofs.Common.{Bool, take, sym, ◌∙◌, rules, tests}
use Rattle.std.proofs.lemmas.Iterator.{YieldsList-from_slice}
use Rattle.std.proofs.lemmas.Iterator.Search.{all_from_yields_List}
use Rattle.rows.specs.declared.order.OrderPlace.{OrderPlace}
use Rattle.rows.specs.Rows.{no_order_place}
use Rattle.rows.proofs.Below.{all_listed}
use Rattle.rows.proofs.order.OpenOrder.is_prepared.Goals as goal

pub returns : goal.returns
returns c = λ w.
    let x = c.args.self.now in
    let test : OrderPlace → Bool = λ p. p.prepared in
    all_from_yields_List test _ _ _ c.all.ensures.ran (YieldsList-from_slice (take x.count x.places) (cc)) (λ p b q k. search (rules, tests))
    ∙ sym (all_listed test (λ p. p.item) no_order_place x.count x.places)
