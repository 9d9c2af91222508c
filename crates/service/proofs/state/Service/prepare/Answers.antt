use Rattle.std.proofs.Common.{◌≡◌, ◌<◌, length, Err, Option, sym, refl, ap, ◌∙◌, subst, arith}
use Rattle.std.proofs.lemmas.Grind.{common_steps}
use Rattle.std.proofs.lemmas.Result.{err_from_is_err_and}
use Rattle.store.specs.Outcomes.{PutOutcome}
use Rattle.protocol.specs.State.{OpenOrder, the_order}
use Rattle.protocol.specs.Calls.{by_writer, prepare}
use Rattle.protocol.specs.Step.{prepared_at}
use Rattle.protocol.proofs.Intro.{prepare_in, prepare_no}
use Rattle.rows.specs.declared.fault.Fault.{Fault}
use Rattle.rows.specs.declared.order_changes.Placed.{Placed}
use Rattle.rows.specs.declared.order_calls.OrderCall.TheVariants.{Prepare}
use Rattle.rows.specs.Faults.{with_item}
use Rattle.rows.specs.OrderCalls.{prepared_in}
use Rattle.service.specs.Meaning.{meaning}
use Rattle.service.proofs.Admitted.{may_prepare, was_ok, was_err, was_item, about_as, put_there, refused_as, store_same, writer_set, order_set, placed_there, admitted_there, few_there, order_there}
use Rattle.service.proofs.state.Service.prepare.Goals as goal

pub returns-in_err-fresh : goal.returns-in_err-fresh
returns-in_err-fresh g c =
    let ν = g.N.Naming.rule in
    let view = g.S.Store.view in
    let x = c.args.self.now in
    let s = meaning view x in
    let w = c.args.writer in
    let k = c.args.place in
    let o : Option OpenOrder = (s.writers w).current in
    let row = c.in_ok-row.ensures in
    let in_order = may_prepare o k (admitted_there w row.value (Prepare k) (c.in_ok-admit.ensures.answer w)) in
    let fault = c.in_err-fresh.field-0.0 in
    let failed = was_err c.placed-at.result.item c.put.result fault (sym c.in_err-fresh.was ∙ c.about.ensures) in
    let put = put_there (view x.store) (view c.put.new.self) g.N.Naming.rule.marks o k c.placed-at.result (placed_there w row.value k (c.placed-at.ensures w))
    c.mark-mark.result c.put.result c.mark-mark.ensures c.put.ensures in
    let kept = subst (PutOutcome (view x.store) (view c.put.new.self) _ _ _ _) failed put in
    let b = err_from_is_err_and c.from_residual-in_err-fresh.result c.from_residual-in_err-fresh.ensures.1 in
    let is : c.from_residual-in_err-fresh.result ≡ Err (with_item fault) = b.1 ∙ ap (λ (f : Fault). Err f) b.2 in
    let item =
    was_item c.placed-at.result.item c.put.result fault (sym c.in_err-fresh.was ∙ c.about.ensures) ∙
    ap (λ (q : Placed). q.item) (placed_there w row.value k (c.placed-at.ensures w))
    in
    record {
      step =
          refused_as ν s _ (by_writer w (prepare k)) c.from_residual-in_err-fresh.result (with_item fault)
          is
          (prepare_no ν s _ w row.within (the_order o) in_order.there k in_order.within _ kept.why
          (store_same view x c.put.new.self kept.same));
      carries = about_as _ c.from_residual-in_err-fresh.result (with_item fault) is item;
    }

pub returns : goal.returns
returns g c =
    let ν = g.N.Naming.rule in
    let view = g.S.Store.view in
    let x = c.args.self.now in
    let s = meaning view x in
    let w = c.args.writer in
    let k = c.args.place in
    let o : Option OpenOrder = (s.writers w).current in
    let row = c.in_ok-row.ensures in
    let in_order = may_prepare o k (admitted_there w row.value (Prepare k) (c.in_ok-admit.ensures.answer w)) in
    let done = was_ok c.placed-at.result.item c.put.result c.in_ok-fresh.fresh c.in_ok-fresh.ensures in
    let put = put_there (view x.store) (view c.put.new.self) g.N.Naming.rule.marks o k c.placed-at.result (placed_there w row.value k (c.placed-at.ensures w))
    c.mark-mark.result c.put.result c.mark-mark.ensures c.put.ensures in
    let few = few_there w row.value k in_order.within (c.in_ok-admit.ensures.few w) in
    let h : w < length x.orders.rows = grind arith in
    let changed = order_there w _ c.from.ensures x.orders.rows _ h (λ (z : Option OpenOrder). prepared_in z k) c.prepare.new.self (c.prepare.ensures few w) in
    record {
      step =
          prepare_in ν s _ w row.within (the_order o) in_order.there k in_order.within c.from-2.result
          (record {
            fresh = c.in_ok-fresh.fresh;
            puts = subst (PutOutcome (view x.store) (view c.put.new.self) _ _ _ _) done put;
            answer = grind (arith, common_steps);
            writers =
                writer_set view x w _ c.from.ensures _ _ h
                (changed ∙ order_set (s.writers w) (λ (y : OpenOrder). prepared_at y k) in_order.there);
            readers = refl;
          });
      carries = tt;
    }
