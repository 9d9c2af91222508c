use Rattle.std.proofs.Common.{rules, ◌≡◌, ℕ, ◌<◌, List, [], length, get_or, sym, ap, ◌∙◌, arith}
use Rattle.std.proofs.lemmas.List.{append-nil}
use Rattle.layout.specs.Layout.{bytes_of, laid, parsed}
use Rattle.layout.proofs.Layouts.{again}
use Rattle.frames.specs.Requests.{stamp_widths}
use Rattle.frames.proofs.Stamped.{parts_laid, stamps_fit}
use Rattle.frames.proofs.stamps.stamp_bytes.Goals as goal

pub returns : goal.returns
returns c =
    let ss : List ℕ = c.args.stamps.now in
    let ys : List (List ℕ) = c.map-parts.result in
    let each : (i : ℕ) → i < 8 → get_or ys i [] ≡ bytes_of 4 (get_or ss i 0) = λ i h. let q = c.map-parts.ensures.items.at i 0 [] h in search rules in
    let long : length ss ≡ 8 = omega arith in
    let all = c.copy_from_slice.ensures.after ∙ c.as_flattened.ensures.value ∙ parts_laid 8 ss ys long c.map-parts.ensures.items.long each in
    record {
      bytes = all;
      back = ap (parsed stamp_widths) (all ∙ sym (append-nil (laid stamp_widths ss))) ∙ again stamp_widths ss [] (stamps_fit 8 ss long c.fits-stamps);
    }
