use Rattle.std.proofs.Common.{sym, refl, ◌∙◌}
use Rattle.rows.proofs.order.OrderRow.stage.Goals as goal

pub returns-then-not-is_prepared : goal.returns-then-not-is_prepared
returns-then-not-is_prepared c = λ w.
    let p = sym (c.is_prepared.ensures w) ∙ c.if-not-is_prepared.true in rw (c.in-Some.is, p) refl

pub returns-then-is_committed : goal.returns-then-is_committed
returns-then-is_committed c = λ w.
    let p = sym (c.is_prepared.ensures w) ∙ c.if-not-is_prepared.false in
    let q = sym (c.is_committed.ensures w) ∙ c.if-is_committed.true in
    rw (c.in-Some.is, p, q) refl

pub returns-else-is_committed : goal.returns-else-is_committed
returns-else-is_committed c = λ w.
    let p = sym (c.is_prepared.ensures w) ∙ c.if-not-is_prepared.false in
    let q = sym (c.is_committed.ensures w) ∙ c.if-is_committed.false in
    rw (c.in-Some.is, p, q) refl
