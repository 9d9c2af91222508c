use Rattle.std.proofs.Common.{ℕ, ◌<◌, List, [], ◌∷◌, ◌++◌, None, Option, sym, ap, ◌∙◌, arith}
use Rattle.std.proofs.ByRecursion.{All-from_get_or}
use Rattle.std.specs.Int.Digits.{AllBelowBase}
use Rattle.std.proofs.lemmas.List.{append-nil}
use Rattle.std.proofs.lemmas.Bool.{cond-true, eq-eqb}
use Rattle.layout.specs.Layout.{parsed}
use Rattle.frames.specs.declared.fault.FrameFault.{FrameFault}
use Rattle.frames.specs.Family.{frame_of, written}
use Rattle.frames.specs.Requests.{pick, requests, stamp_widths}
use Rattle.frames.proofs.Pieces.{pick_frame}
use Rattle.frames.proofs.request.write_pick.Goals as goal

pub returns-clause-after : goal.returns-clause-after
returns-clause-after c =
    let stamps : List ℕ = c.args.stamps.now in
    let item : ℕ = c.args.item in
    let buf : List ℕ = c.args.buf.now in
    let u : AllBelowBase 256 stamps = All-from_get_or (λ (n : ℕ). n < 256) stamps 0 (λ i _. (c.type_inv.stamps i).fits) in
    let body = ap (λ (ys : List ℕ). 4 ∷ item ∷ (ys ++ [])) c.copy_from_slice.ensures.after
    ∙ ap (λ (ys : List ℕ). 4 ∷ item ∷ ys) (append-nil stamps)
    ∙ pick_frame item stamps (omega arith) u c.if-stamps-ne32.false in
    c.place.ensures.after
    ∙ ap (λ (f : List ℕ). written None f buf) body
    ∙ ap (λ (o : Option FrameFault). written o (frame_of requests (pick item (parsed stamp_widths stamps))) buf) (sym (cond-true _ _ _ (eq-eqb _ 32 c.if-stamps-ne32.false)))
