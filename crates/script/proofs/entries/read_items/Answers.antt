use Rattle.std.proofs.Common.{vec_items, Ok, Err, arith}
use Rattle.std.proofs.lemmas.Grind.{common_steps}
use Rattle.script.proofs.Steps.{bytes_more, narrowed_byte}
use Rattle.script.proofs.entries.read_items.Goals as goal

pub returns-in_err-item : goal.returns-in_err-item
returns-in_err-item c =
    let m = bytes_more (vec_items c.loop-token.items) c.args.line.now c.loop-token.token-index _ (Err c.in_err-item.field-0.0) (omega arith) (narrowed_byte _ _ _ c.in_err-item.ensures) in
    grind (arith, common_steps, m)

pub loop-token-preserved : goal.loop-token-preserved
loop-token-preserved c =
    let m = bytes_more (vec_items c.loop-token.items) c.args.line.now c.loop-token.token-index _ (Ok c.in_ok-item.item) (omega arith) (narrowed_byte _ _ _ c.in_ok-item.ensures) in
    let p = c.in_ok-push.ensures.items in
    cc
