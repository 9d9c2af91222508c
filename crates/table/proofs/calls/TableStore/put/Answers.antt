use Rattle.std.proofs.Common.{◌≡◌, ◌<◌, length, get_or, is_some, vec_items, None, sym, ap, ◌∙◌, arith}
use Rattle.store.proofs.Passing.{real, new_none}
use Rattle.table.specs.Rows.{lookup}
use Rattle.table.proofs.Rows.{push_done, push_keeps, push_other}
use Rattle.table.proofs.calls.TableStore.put.Goals as goal

pub invariant_of-self : goal.invariant_of-self
invariant_of-self c =
    let rs = vec_items c.args.self.now.rows in
    let numbers = real c.args.item c.args.stamp c.in_ok-check_version.ensures in
    let e = c.push_reserved.ensures.items in
    record {
      within = omega arith;
      reserved = omega arith;
      blank = λ i. ap (λ l. is_some (lookup l i 0)) e ∙ ap is_some (push_other rs _ _ _ _ i 0 (λ p q. omega arith)) ∙ c.args.self.now.blank i;
      committed = λ i h. ap (λ l. is_some (lookup l i (get_or c.args.self.now.lasts i 0))) e ∙ push_keeps rs _ i _ (c.args.self.now.committed i h);
    }

pub returns : goal.returns
returns c =
    let rs = vec_items c.args.self.now.rows in
    let numbers = real c.args.item c.args.stamp c.in_ok-check_version.ensures in
    let none : lookup rs c.args.item c.args.stamp ≡ None =
    sym c.find.ensures ∙ new_none c.find.result c.args.code c.args.mark c.in_ok-fresh.fresh c.in_ok-fresh.ensures c.if-not-fresh.false in
    let room : length rs < c.args.self.now.size = omega arith in
    push_done rs _ _ _ _ _ _ _ c.push_reserved.ensures.items (omega arith) (omega arith) none room
