use Rattle.std.proofs.Common.{rules, ◌≡◌, ℕ, ◌<◌, List, [], length, get_or, Some, sym, ap, ◌∙◌}
use Rattle.std.specs.Int.Digits.{number_from_digits}
use Rattle.std.specs.Simd.{first_chunks}
use Rattle.std.proofs.lemmas.Bool.{cond-true, eq-eqb}
use Rattle.frames.proofs.Stamped.{parts_read}
use Rattle.frames.proofs.stamps.stamps_of.Goals as goal

pub returns : goal.returns
returns c =
    let bs : List ℕ = c.args.bytes.now in
    let xs : List (List ℕ) = c.in_ok-stamps.stamps in
    let ys : List ℕ = c.map.result in
    let long : length bs ≡ 32 = c.if-bytes-ne32.false in
    let parts : xs ≡ first_chunks 4 8 bs = search rules in
    let each : (i : ℕ) → i < 8 → get_or ys i 0 ≡ number_from_digits 256 (get_or xs i []) = λ i h. let q = c.map.ensures.items.at i [] 0 h in search rules in
    let all = parts_read 8 bs ys c.map.ensures.items.long (λ i h. each i h ∙ ap (λ (l : List (List ℕ)). number_from_digits 256 (get_or l i [])) parts) in
    ap Some all ∙ sym (cond-true _ _ _ (eq-eqb (length bs) 32 long))
