-- Layouts, there and back, over any list of widths.
use Rattle.std.proofs.Common.{◌≡◌, ℕ, zero, suc, ◌+◌, ◌*◌, ◌/◌, ◌%◌, ◌^◌, ◌<◌, ◌≤◌, true, not, List, [], ◌∷◌, ◌++◌, length, take, drop, sym, refl, ap, ◌∙◌, subst, mod-eq_of_lt, mul_assoc, mul_comm, add-mul, pow-suc, arith}
use Rattle.std.specs.Int.Digits.{number_from_digits, number_from_digits_after, AllBelowBase}
use Rattle.std.proofs.ByRecursion.{All-append}
use Rattle.std.proofs.lemmas.Nat.{mod-pow-add, shr_high, mod-mul-add, pow-add}
use Rattle.std.proofs.lemmas.Int.Digits.{number_lt}
use Rattle.std.proofs.lemmas.List.{append_assoc, take_at, drop_at, length-append, length-take-le, length-drop, take-append-drop}
use Rattle.std.proofs.lemmas.Bool.{cond-true, le-ltb}
use Rattle.layout.specs.Places.{within, over}
use Rattle.layout.specs.Layout.{bytes_of, laid, parsed, Fit, Long, Bytes, Again, Only, FitsRead}

length_bytes_of : (w n : ℕ) → length (bytes_of w n) ≡ w
length_bytes_of zero n = refl
length_bytes_of (suc w) n = ap suc (length_bytes_of w n)

eight_more : (w : ℕ) → 2 ^ (8 * suc w) ≡ 256 * 2 ^ (8 * w)
eight_more w = let e : 8 * suc w ≡ 8 + 8 * w = omega arith in ap (λ (x : ℕ). 2 ^ x) e ∙ pow-add 2 8 (8 * w)

after_bytes : (w n a : ℕ) → number_from_digits_after 256 a (bytes_of w n) ≡ a * 2 ^ (8 * w) + n % 2 ^ (8 * w)
after_bytes zero n a = omega arith
after_bytes (suc w) n a =
    let p : ℕ = 2 ^ (8 * w) in
    let d : ℕ = n / p % 256 in
    let e : 8 * suc w ≡ 8 + 8 * w = omega arith in
    let m : n % 2 ^ (8 * suc w) ≡ d * p + n % p = ap (λ (x : ℕ). n % 2 ^ x) e ∙ mod-pow-add n 8 (8 * w) in
    let q : a * 2 ^ (8 * suc w) ≡ a * 256 * p = ap (λ (x : ℕ). a * x) (eight_more w) ∙ sym (mul_assoc a 256 p) in
    let h = after_bytes w n (a * 256 + d) in
    let r : (a * 256 + d) * p ≡ a * 256 * p + d * p = add-mul (a * 256) d p in
    omega arith

number_bytes : (w n : ℕ) → n < 2 ^ (8 * w) → number_from_digits 256 (bytes_of w n) ≡ n
number_bytes w n h = let e : n % 2 ^ (8 * w) ≡ n = mod-eq_of_lt h in after_bytes w n 0 ∙ omega arith

pub long : Long
long [] vs f = refl
long (w ∷ ws) [] f = absurd (omega arith)
long (w ∷ ws) (v ∷ vs) f =
    length-append (bytes_of w v) (laid ws vs) ∙ omega (arith, length_bytes_of w v, long ws vs (omega arith))

under_bytes : (w n : ℕ) → AllBelowBase 256 (bytes_of w n)
under_bytes zero n = tt
under_bytes (suc w) n = (omega arith, under_bytes w n)

pub bytes : Bytes
bytes [] vs = tt
bytes (w ∷ ws) [] = tt
bytes (w ∷ ws) (v ∷ vs) = All-append _ (bytes_of w v) (laid ws vs) (under_bytes w v) (bytes ws vs)

-- values that fit are as many as the widths
pub as_many : (ws vs : List ℕ) → Fit ws vs → length vs ≡ length ws
as_many [] [] f = refl
as_many [] (v ∷ vs) f = absurd f
as_many (w ∷ ws) [] f = absurd f
as_many (w ∷ ws) (v ∷ vs) f = ap suc (as_many ws vs f.1)

pub again : Again
again [] [] ys f = refl
again [] (v ∷ vs) ys f = absurd f
again (w ∷ ws) [] ys f = absurd f
again (w ∷ ws) (v ∷ vs) ys f =
    let b = bytes_of w v in
    let t = laid ws vs ++ ys in
    let e : (b ++ laid ws vs) ++ ys ≡ b ++ t = append_assoc b (laid ws vs) ys in
    let x : number_from_digits 256 (take w (b ++ t)) ≡ v = ap (number_from_digits 256) (take_at b t w (length_bytes_of w v)) ∙ number_bytes w v f.0 in
    let y : parsed ws (drop w (b ++ t)) ≡ vs = ap (parsed ws) (drop_at b t w (length_bytes_of w v)) ∙ again ws vs ys f.1 in
    ap (parsed (w ∷ ws)) e ∙ ap (λ (n : ℕ). n ∷ parsed ws (drop w (b ++ t))) x ∙ ap (λ (l : List ℕ). v ∷ l) y

after_is : (a : ℕ) (bs : List ℕ) → number_from_digits_after 256 a bs ≡ a * 2 ^ (8 * length bs) + number_from_digits 256 bs
after_is a [] = omega arith
after_is a (d ∷ ds) =
    let p : ℕ = 2 ^ (8 * length ds) in
    let h = after_is (a * 256 + d) ds in
    let g = after_is (0 * 256 + d) ds in
    let q : a * 2 ^ (8 * suc (length ds)) ≡ a * 256 * p = ap (λ (x : ℕ). a * x) (eight_more (length ds)) ∙ sym (mul_assoc a 256 p) in
    let r : (a * 256 + d) * p ≡ a * 256 * p + d * p = add-mul (a * 256) d p in
    omega arith

pow_256 : (w : ℕ) → 256 ^ w ≡ 2 ^ (8 * w)
pow_256 zero = refl
pow_256 (suc w) = pow-suc 256 w ∙ ap (λ (x : ℕ). x * 256) (pow_256 w) ∙ mul_comm (2 ^ (8 * w)) 256 ∙ sym (eight_more w)

below : (bs : List ℕ) → AllBelowBase 256 bs → number_from_digits 256 bs < 2 ^ (8 * length bs)
below bs u = subst (λ (x : ℕ). number_from_digits 256 bs < x) (pow_256 (length bs)) (number_lt 256 bs u)

bytes_number : (a : ℕ) (bs : List ℕ) → AllBelowBase 256 bs → bytes_of (length bs) (number_from_digits_after 256 a bs) ≡ bs
bytes_number a [] u = refl
bytes_number a (d ∷ ds) u =
    let k : ℕ = 8 * length ds in
    let n : ℕ = number_from_digits_after 256 (a * 256 + d) ds in
    let h : n / 2 ^ k ≡ a * 256 + d = ap (λ (x : ℕ). x / 2 ^ k) (after_is (a * 256 + d) ds) ∙ shr_high (a * 256 + d) k (number_from_digits 256 ds) (below ds u.1) in
    let e : n / 2 ^ k % 256 ≡ d = ap (λ (x : ℕ). x % 256) h ∙ mod-mul-add a 256 d u.0 in
    ap (λ (x : ℕ). x ∷ bytes_of (length ds) n) e ∙ ap (λ (l : List ℕ). d ∷ l) (bytes_number (a * 256 + d) ds u.1)

under_take : (n : ℕ) (bs : List ℕ) → AllBelowBase 256 bs → AllBelowBase 256 (take n bs)
under_take zero bs u = tt
under_take (suc n) [] u = tt
under_take (suc n) (b ∷ bs) u = (u.0, under_take n bs u.1)

under_drop : (n : ℕ) (bs : List ℕ) → AllBelowBase 256 bs → AllBelowBase 256 (drop n bs)
under_drop zero bs u = u
under_drop (suc n) [] u = tt
under_drop (suc n) (b ∷ bs) u = under_drop n bs u.1

pub only : Only
only [] [] u l = refl
only [] (b ∷ bs) u l = absurd (omega arith)
only (w ∷ ws) bs u l =
    let t = take w bs in
    let m : length t ≡ w = length-take-le w bs (omega arith) in
    let x : bytes_of w (number_from_digits 256 t) ≡ t = subst (λ (k : ℕ). bytes_of k (number_from_digits 256 t) ≡ t) m (bytes_number 0 t (under_take w bs u)) in
    let y : laid ws (parsed ws (drop w bs)) ≡ drop w bs = only ws (drop w bs) (under_drop w bs u) (length-drop w bs ∙ omega arith) in
    ap (λ (l : List ℕ). l ++ laid ws (parsed ws (drop w bs))) x ∙ ap (λ (l : List ℕ). t ++ l) y ∙ take-append-drop w bs

pub fits_read : FitsRead
fits_read [] bs u l = tt
fits_read (w ∷ ws) bs u l =
    let t = take w bs in
    let m : length t ≡ w = length-take-le w bs (omega arith) in
    (subst (λ (k : ℕ). number_from_digits 256 t < 2 ^ (8 * k)) m (below t (under_take w bs u)), fits_read ws (drop w bs) (under_drop w bs u) (length-drop w bs ∙ omega arith))

-- so many bytes from a place on are within
is_within : (at n : ℕ) (bs : List ℕ) → at + n ≤ length bs → within at n bs ≡ true
is_within at n bs h = ap not (le-ltb (length bs) (at + n) h)

pub over_is : (at : ℕ) (bs out : List ℕ) → at + length bs ≤ length out → over at bs out ≡ take at out ++ (bs ++ drop (at + length bs) out)
over_is at bs out h = cond-true _ _ _ (is_within at (length bs) out h)
