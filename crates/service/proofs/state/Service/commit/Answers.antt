use Rattle.std.proofs.Common.{◌≡◌, ◌<◌, length, Err, Option, sym, refl, ap, ◌∙◌, subst, arith}
use Rattle.std.proofs.lemmas.Grind.{common_steps}
use Rattle.std.proofs.lemmas.Result.{err_from_is_err_and}
use Rattle.store.specs.Outcomes.{CommitOutcome}
use Rattle.protocol.specs.State.{OpenOrder, the_order}
use Rattle.protocol.specs.Calls.{by_writer, commit}
use Rattle.protocol.specs.Step.{committed_at}
use Rattle.protocol.proofs.Intro.{commit_in, commit_no}
use Rattle.rows.specs.declared.fault.Fault.{Fault}
use Rattle.rows.specs.declared.order_changes.Placed.{Placed}
use Rattle.rows.specs.declared.order_calls.OrderCall.TheVariants.{Commit}
use Rattle.rows.specs.Faults.{with_item}
use Rattle.rows.specs.OrderCalls.{committed_in}
use Rattle.service.specs.Meaning.{meaning}
use Rattle.service.proofs.Admitted.{may_commit, was_ok, was_err, was_item, about_as, commit_there, refused_as, store_same, writer_set, order_set, placed_there, admitted_there, few_there, order_there}
use Rattle.service.proofs.state.Service.commit.Goals as goal

pub returns-in_err-rose : goal.returns-in_err-rose
returns-in_err-rose g c =
    let ν = g.N.Naming.rule in
    let view = g.S.Store.view in
    let x = c.args.self.now in
    let s = meaning view x in
    let w = c.args.writer in
    let k = c.args.place in
    let o : Option OpenOrder = (s.writers w).current in
    let row = c.in_ok-row.ensures in
    let in_order = may_commit o k (admitted_there w row.value (Commit k) (c.in_ok-admit.ensures.answer w)) in
    let fault = c.in_err-rose.field-0.0 in
    let failed = was_err c.placed-at.result.item c.commit.result fault (sym c.in_err-rose.was ∙ c.about.ensures) in
    let tried = commit_there (view x.store) (view c.commit.new.self) g.N.Naming.rule.marks o k c.placed-at.result
    (placed_there w row.value k (c.placed-at.ensures w)) c.commit.result c.commit.ensures in
    let kept = subst (CommitOutcome (view x.store) (view c.commit.new.self) _ _) failed tried in
    let b = err_from_is_err_and c.from_residual-in_err-rose.result c.from_residual-in_err-rose.ensures.1 in
    let is : c.from_residual-in_err-rose.result ≡ Err (with_item fault) = b.1 ∙ ap (λ (f : Fault). Err f) b.2 in
    let item =
    was_item c.placed-at.result.item c.commit.result fault (sym c.in_err-rose.was ∙ c.about.ensures) ∙
    ap (λ (q : Placed). q.item) (placed_there w row.value k (c.placed-at.ensures w))
    in
    record {
      step =
          refused_as ν s _ (by_writer w (commit k)) c.from_residual-in_err-rose.result (with_item fault)
          is
          (commit_no ν s _ w row.within (the_order o) in_order.0.there k in_order.0.within _ in_order.1 kept.why
          (store_same view x c.commit.new.self kept.same));
      carries = about_as _ c.from_residual-in_err-rose.result (with_item fault) is item;
    }

pub returns : goal.returns
returns g c =
    let ν = g.N.Naming.rule in
    let view = g.S.Store.view in
    let x = c.args.self.now in
    let s = meaning view x in
    let w = c.args.writer in
    let k = c.args.place in
    let o : Option OpenOrder = (s.writers w).current in
    let row = c.in_ok-row.ensures in
    let in_order = may_commit o k (admitted_there w row.value (Commit k) (c.in_ok-admit.ensures.answer w)) in
    let done = was_ok c.placed-at.result.item c.commit.result c.in_ok-rose.rose c.in_ok-rose.ensures in
    let tried = commit_there (view x.store) (view c.commit.new.self) g.N.Naming.rule.marks o k c.placed-at.result
    (placed_there w row.value k (c.placed-at.ensures w)) c.commit.result c.commit.ensures in
    let few = few_there w row.value k in_order.0.within (c.in_ok-admit.ensures.few w) in
    let h : w < length x.orders.rows = grind arith in
    let changed = order_there w _ c.from.ensures x.orders.rows _ h (λ (z : Option OpenOrder). committed_in z k) c.commit-2.new.self (c.commit-2.ensures few w) in
    record {
      step =
          commit_in ν s _ w row.within (the_order o) in_order.0.there k in_order.0.within c.from-2.result in_order.1
          (record {
            rose = c.in_ok-rose.rose;
            commits = subst (CommitOutcome (view x.store) (view c.commit.new.self) _ _) done tried;
            answer = grind (arith, common_steps);
            writers =
                writer_set view x w _ c.from.ensures _ _ h
                (changed ∙ order_set (s.writers w) (λ (y : OpenOrder). committed_at y k) in_order.0.there);
            readers = refl;
          });
      carries = tt;
    }
