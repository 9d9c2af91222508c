-- The frame of a pick as it is put together.
use Rattle.std.proofs.Common.{◌≡◌, ℕ, ◌/◌, ◌%◌, ◌<◌, List, ◌∷◌, length, sym, ap, ◌∙◌, arith}
use Rattle.std.specs.Int.Digits.{AllBelowBase}
use Rattle.layout.specs.Layout.{parsed}
use Rattle.layout.proofs.Layouts as layouts
use Rattle.frames.specs.Family.{frame_of}
use Rattle.frames.specs.Requests.{pick, requests, stamp_widths}

pub pick_frame : (i : ℕ) (b : List ℕ) → i < 256 → AllBelowBase 256 b → length b ≡ 32 → 4 ∷ i ∷ b ≡ frame_of requests (pick i (parsed stamp_widths b))
pick_frame i b h u l =
    let one : i ≡ i / 1 % 256 = omega arith in
    ap (λ (x : ℕ). 4 ∷ x ∷ b) one ∙ ap (λ (y : List ℕ). 4 ∷ (i / 1 % 256) ∷ y) (sym (layouts.only stamp_widths b u l))
