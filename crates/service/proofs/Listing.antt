-- The end of a list tested.
use Rattle.std.proofs.Common.{◌≡◌, ℕ, false, List, [], ◌∷◌, length, refl, arith}
use Rattle.protocol.specs.Refusals.{unfit}

pub no_items : (l m : List ℕ) → length l ≡ 0 → unfit l m ≡ false
no_items [] m e = refl
no_items (x ∷ l) m e = absurd (omega (arith, e))

pub no_codes : (l m : List ℕ) → length m ≡ 0 → unfit l m ≡ false
no_codes [] m e = refl
no_codes (x ∷ l) [] e = refl
no_codes (x ∷ l) (y ∷ m) e = absurd (omega (arith, e))
