-- The three rules keep the law: a mark names what it was made from, and never item 0.
use Rattle.std.specs.Prelude.{◌≡◌, ℕ, zero, suc, ◌/◌, ◌%◌, ◌^◌, ◌<◌, true, List, [], ◌∷◌, length, fold, bit_or, slice_index, refl}
use Rattle.std.proofs.Common.{ap, ◌∙◌, inl, inr, one-mul, arith}
use Rattle.std.proofs.lemmas.Nat.{or_shr, or_mod, or_comm, shl-shr}
use Rattle.std.proofs.lemmas.Bool.{eqb-true, eq-eqb, lt-ltb, and_from, or_left, or_right, cases_eq}
use Rattle.blend.specs.Lists.{has}
use Rattle.protocol.specs.Naming.{Lawful}
use Rattle.naming.specs.Marks.{has_bit, bits_of, filter_mark, filter_names, filter_rule, stamp_rule, bytes_of, list_mark, list_names, list_rule}

-- a bit that is set in a is set in `a | b`
or_one : (x y : ℕ) → x % 2 ≡ 1 → bit_or x y % 2 ≡ 1
or_one x y h =
    let e : bit_or x y % 2 ≡ bit_or (x % 2) (y % 2) = or_mod x y 1 in
    elim (cases_eq (y % 2) 0) [
      | inl z ↦ e ∙ rw (h, z) refl
      | inr n ↦ let o : y % 2 ≡ 1 = omega arith in e ∙ rw (h, o) refl
    ]

or_keeps : (a b k : ℕ) → has_bit a k ≡ true → has_bit (bit_or a b) k ≡ true
or_keeps a b k h =
    let o = or_one (a / 2 ^ k) (b / 2 ^ k) (eqb-true (a / 2 ^ k % 2) 1 h) in
    eq-eqb (bit_or a b / 2 ^ k % 2) 1 (rw or_shr o)

or_gains : (a b k : ℕ) → has_bit b k ≡ true → has_bit (bit_or a b) k ≡ true
or_gains a b k h = rw (or_comm a b) (or_keeps b a k h)

own_bit : (k : ℕ) → has_bit (2 ^ k) k ≡ true
own_bit k = eq-eqb (2 ^ k / 2 ^ k % 2) 1 (let e : 2 ^ k / 2 ^ k ≡ 1 = simp one-mul at (shl-shr 1 k) in rw e refl)

abbrev step : ℕ → ℕ → ℕ
step m x = bit_or m (bits_of x)

fold_keeps : (xs : List ℕ) (m k : ℕ) → has_bit m k ≡ true → has_bit (fold step m xs) k ≡ true
fold_keeps [] m k h = h
fold_keeps (x ∷ xs) m k h = fold_keeps xs (step m x) k (or_keeps m (bits_of x) k h)

low : (x : ℕ) → 0 < x → has_bit (bits_of x) (x % 64) ≡ true
low x h = rw (lt-ltb 0 x h) (or_keeps (2 ^ (x % 64)) (2 ^ (x / 4)) (x % 64) (own_bit (x % 64)))

high : (x : ℕ) → 0 < x → has_bit (bits_of x) (x / 4) ≡ true
high x h = rw (lt-ltb 0 x h) (or_gains (2 ^ (x % 64)) (2 ^ (x / 4)) (x / 4) (own_bit (x / 4)))

-- a bit that each item sets is set in the mark for each item of the list
fold_sets : (bit : ℕ → ℕ) → ((x : ℕ) → 0 < x → has_bit (bits_of x) (bit x) ≡ true) →
    (xs : List ℕ) (m k : ℕ) → 0 < slice_index xs k → has_bit (fold step m xs) (bit (slice_index xs k)) ≡ true
fold_sets bit sets [] m k h = absurd (omega arith)
fold_sets bit sets (x ∷ xs) m zero h = fold_keeps xs (step m x) (bit x) (or_gains m (bits_of x) (bit x) (sets x h))
fold_sets bit sets (x ∷ xs) m (suc k) h = fold_sets bit sets xs (step m x) k h

pub filter_complete : (xs : List ℕ) (k : ℕ) → 0 < slice_index xs k → filter_names (filter_mark xs) (slice_index xs k) ≡ true
filter_complete xs k h =
    and_from _ _ (lt-ltb 0 (slice_index xs k) h) (and_from _ _ (fold_sets (λ x. x % 64) low xs 0 k h) (fold_sets (λ x. x / 4) high xs 0 k h))

has_at : (xs : List ℕ) (k : ℕ) → 0 < slice_index xs k → has (slice_index xs k) xs ≡ true
has_at [] k h = absurd (omega arith)
has_at (x ∷ xs) zero h = or_left _ _ (eq-eqb x x refl)
has_at (x ∷ xs) (suc k) h = or_right _ _ (has_at xs k h)

eight : (a b c d e f g h : ℕ) → a < 256 → b < 256 → c < 256 → d < 256 → e < 256 → f < 256 → g < 256 → h < 256
    → bytes_of (list_mark (a ∷ b ∷ c ∷ d ∷ e ∷ f ∷ g ∷ h ∷ [])) ≡ a ∷ b ∷ c ∷ d ∷ e ∷ f ∷ g ∷ h ∷ []
eight a b c d e f g h pa pb pc pd pe pf pg ph =
    let m : ℕ = list_mark (a ∷ b ∷ c ∷ d ∷ e ∷ f ∷ g ∷ h ∷ []) in
    let qa : m / 256 ^ 7 % 256 ≡ a = omega arith in
    let qb : m / 256 ^ 6 % 256 ≡ b = omega arith in
    let qc : m / 256 ^ 5 % 256 ≡ c = omega arith in
    let qd : m / 256 ^ 4 % 256 ≡ d = omega arith in
    let qe : m / 256 ^ 3 % 256 ≡ e = omega arith in
    let qf : m / 256 ^ 2 % 256 ≡ f = omega arith in
    let qg : m / 256 % 256 ≡ g = omega arith in
    let qh : m % 256 ≡ h = omega arith in
    cc

list_bytes : (xs : List ℕ) → length xs ≡ 8 → ((j : ℕ) → slice_index xs j < 256) → bytes_of (list_mark xs) ≡ xs
list_bytes [] l t = absurd (omega arith)
list_bytes (a ∷ []) l t = absurd (omega arith)
list_bytes (a ∷ b ∷ []) l t = absurd (omega arith)
list_bytes (a ∷ b ∷ c ∷ []) l t = absurd (omega arith)
list_bytes (a ∷ b ∷ c ∷ d ∷ []) l t = absurd (omega arith)
list_bytes (a ∷ b ∷ c ∷ d ∷ e ∷ []) l t = absurd (omega arith)
list_bytes (a ∷ b ∷ c ∷ d ∷ e ∷ f ∷ []) l t = absurd (omega arith)
list_bytes (a ∷ b ∷ c ∷ d ∷ e ∷ f ∷ g ∷ []) l t = absurd (omega arith)
list_bytes (a ∷ b ∷ c ∷ d ∷ e ∷ f ∷ g ∷ h ∷ []) l t = eight a b c d e f g h (t 0) (t 1) (t 2) (t 3) (t 4) (t 5) (t 6) (t 7)
list_bytes (a ∷ b ∷ c ∷ d ∷ e ∷ f ∷ g ∷ h ∷ i ∷ xs) l t = absurd (omega arith)

pub list_complete : (xs : List ℕ) (k : ℕ) → length xs ≡ 8 → ((j : ℕ) → slice_index xs j < 256) → 0 < slice_index xs k
    → list_names (list_mark xs) (slice_index xs k) ≡ true
list_complete xs k l t h =
    and_from _ _ (lt-ltb 0 (slice_index xs k) h) (ap (has (slice_index xs k)) (list_bytes xs l t) ∙ has_at xs k h)

pub list_lawful : Lawful list_rule
list_lawful = record { complete = λ items long bytes k h. list_complete items k long bytes h; nonzero = λ mark. refl }

pub filter_lawful : Lawful filter_rule
filter_lawful = record { complete = λ items long bytes k h. filter_complete items k h; nonzero = λ mark. refl }

pub stamp_lawful : Lawful stamp_rule
stamp_lawful = record { complete = λ items long bytes k h. lt-ltb 0 (slice_index items k) h; nonzero = λ mark. refl }
