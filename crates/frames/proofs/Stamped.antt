-- Eight stamps and their bytes, part by part.
use Rattle.std.proofs.Common.{◌≡◌, ℕ, zero, suc, ◌^◌, ◌<◌, List, [], ◌∷◌, ◌++◌, length, get_or, take, drop, replicate, refl, ap, ◌∙◌, arith}
use Rattle.std.specs.Int.Digits.{number_from_digits}
use Rattle.std.specs.List.{flat_map}
use Rattle.std.specs.Simd.{first_chunks}
use Rattle.layout.specs.Layout.{bytes_of, laid, parsed, Fit}

-- the parts of four bytes, each read as a number
pub parts_read : (n : ℕ) (bs ys : List ℕ) → length ys ≡ n → ((i : ℕ) → i < n → get_or ys i 0 ≡ number_from_digits 256 (get_or (first_chunks 4 n bs) i [])) → ys ≡ parsed (replicate n 4) bs
parts_read zero bs [] l h = refl
parts_read zero bs (y ∷ ys) l h = absurd (omega arith)
parts_read (suc n) bs [] l h = absurd (omega arith)
parts_read (suc n) bs (y ∷ ys) l h =
    ap (λ (x : ℕ). x ∷ ys) (h 0 (omega arith))
    ∙ ap (λ (zs : List ℕ). number_from_digits 256 (take 4 bs) ∷ zs) (parts_read n (drop 4 bs) ys (omega arith) (λ i k. h (suc i) (omega arith)))

-- and each number laid in four bytes
pub parts_laid : (n : ℕ) (ss : List ℕ) (ys : List (List ℕ)) → length ss ≡ n → length ys ≡ n → ((i : ℕ) → i < n → get_or ys i [] ≡ bytes_of 4 (get_or ss i 0)) → flat_map (λ x. x) ys ≡ laid (replicate n 4) ss
parts_laid zero [] [] k l h = refl
parts_laid zero (s ∷ ss) ys k l h = absurd (omega arith)
parts_laid zero ss (y ∷ ys) k l h = absurd (omega arith)
parts_laid (suc n) [] ys k l h = absurd (omega arith)
parts_laid (suc n) ss [] k l h = absurd (omega arith)
parts_laid (suc n) (s ∷ ss) (y ∷ ys) k l h =
    ap (λ (x : List ℕ). x ++ flat_map (λ z. z) ys) (h 0 (omega arith))
    ∙ ap (λ (zs : List ℕ). bytes_of 4 s ++ zs) (parts_laid n ss ys (omega arith) (omega arith) (λ i k. h (suc i) (omega arith)))

pub stamps_fit : (n : ℕ) (vs : List ℕ) → length vs ≡ n → ((i : ℕ) → get_or vs i 0 < 2 ^ 32) → Fit (replicate n 4) vs
stamps_fit zero [] e h = tt
stamps_fit zero (v ∷ vs) e h = absurd (omega arith)
stamps_fit (suc n) [] e h = absurd (omega arith)
stamps_fit (suc n) (v ∷ vs) e h = (h 0, stamps_fit n vs (omega arith) (λ i. h (suc i)))
