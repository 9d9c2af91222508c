use Rattle.std.proofs.Common.{◌≡◌, Some, None, sym, ◌∙◌, arith, rules}
use Rattle.std.proofs.lemmas.List.{at_drop_all}
use Rattle.text.specs.Numbers.{digits_after}
use Rattle.text.proofs.Steps.{some_digits, digits_more}
use Rattle.text.proofs.number.number_of.Goals as goal

pub loop-b-init : goal.loop-b-init
loop-b-init c = some_digits c.args.text.now c.if-is_empty.ensures

pub loop-b-preserved : goal.loop-b-preserved
loop-b-preserved c =
    sym (digits_more c.loop-b.n c.args.text.now c.loop-b.b-index (Some c.in_ok-n.n) (omega arith) c.in_ok-n.ensures) ∙
    c.loop-b.invariant

pub returns-in_err-n : goal.returns-in_err-n
returns-in_err-n c =
    let none : c.from_residual.result ≡ None = search rules in
    none ∙
    sym (digits_more c.loop-b.n c.args.text.now c.loop-b.b-index None (omega arith) c.in_err-n.ensures) ∙
    c.loop-b.invariant

pub returns : goal.returns
returns c =
    sym (at_drop_all (digits_after (Some c.loop-b.n)) c.args.text.now c.loop-b.b-index (omega arith)) ∙
    c.loop-b.invariant
