-- Tests and what they say.
use Rattle.std.proofs.Common.{◌≡◌, ℕ, zero, suc, ◌<◌, ◌≤◌, Bool, true, false, cond, not, ◌||◌, eqb, ltb, List, [], ◌∷◌, length, get_or, is_some, Some, None, Option, sym, refl, ap, ◌∙◌, inl, inr, arith}
use Rattle.std.proofs.lemmas.Bool.{and_parts, and_from, and_cases, or_cases, or_parts, or_left, or_right, not-true, not-false, not_from_false, ne_eqb, eqb-false, ltb-false, cases_eq, cases_Bool}
use Rattle.blend.specs.Refusals.{Tests, first_of}
use Rattle.protocol.specs.Naming.{Naming, Bytes}
use Rattle.protocol.specs.State.{OpenOrder, OpenRead, the_order, the_read}
use Rattle.protocol.specs.Asks.{Progress, wanted, AsksAgain, Finished, all_below, any_below, all_made, asks_again, due_second, finished}
use Rattle.blend.specs.Lists.{has}
use Rattle.protocol.specs.Refusals.{bad_items, bad_size}
use Rattle.protocol.proofs.Basics.{never, true_false}

-- where no test fires
abbrev pub Clear : Tests → Type 0
Clear [] = Unit {0}
Clear (t ∷ ts) = (t.1 ≡ false) × Clear ts

pub clear : (ts : Tests) → first_of ts ≡ None → Clear ts
clear [] e = tt
clear (t ∷ ts) e = go t.1 refl e (clear ts)
  where
    go : (b : Bool) → t.1 ≡ b → cond b (Some t.0) (first_of ts) ≡ None → (first_of ts ≡ None → Clear ts) → (t.1 ≡ false) × Clear ts
    go true f g rest = never (sym g)
    go false f g rest = (f, rest g)

-- ── below a number ──

pub all_true : (n : ℕ) (f : ℕ → Bool) → all_below n f ≡ true → (k : ℕ) → k < n → f k ≡ true
all_true zero f e k l = absurd (omega arith)
all_true (suc n) f e k l =
    let z = and_parts (f n) (all_below n f) e in
    elim (cases_eq k n) [ inl s ↦ ap f s ∙ z.0 | inr d ↦ all_true n f z.1 k (omega (arith, d)) ]

pub true_all : (n : ℕ) (f : ℕ → Bool) → ((k : ℕ) → k < n → f k ≡ true) → all_below n f ≡ true
true_all zero f e = refl
true_all (suc n) f e = and_from (f n) (all_below n f) (e n (omega arith)) (true_all n f (λ k l. e k (omega arith)))

pub all_false : (n : ℕ) (f : ℕ → Bool) → all_below n f ≡ false → (k : ℕ) × (k < n) × (f k ≡ false)
all_false zero f e = true_false (sym e)
all_false (suc n) f e = elim (and_cases (f n) (all_below n f) e) [
  | inl g ↦ (n, omega arith, g)
  | inr g ↦ let z = all_false n f g in let l = z.1 in (z.0, omega arith, z.2)
]

pub any_true : (n : ℕ) (f : ℕ → Bool) → any_below n f ≡ true → (k : ℕ) × (k < n) × (f k ≡ true)
any_true zero f e = true_false e
any_true (suc n) f e = elim (or_cases (f n) (any_below n f) e) [
  | inl g ↦ (n, omega arith, g)
  | inr g ↦ let z = any_true n f g in let l = z.1 in (z.0, omega arith, z.2)
]

pub true_any : (n : ℕ) (f : ℕ → Bool) (k : ℕ) → k < n → f k ≡ true → any_below n f ≡ true
true_any zero f k l e = absurd (omega arith)
true_any (suc n) f k l e = elim (cases_eq k n) [
  | inl s ↦ or_left (f n) (any_below n f) (ap f (sym s) ∙ e)
  | inr d ↦ or_right (f n) (any_below n f) (true_any n f k (omega (arith, d)) e)
]

-- ── lists ──

has_none : (x : ℕ) (l : List ℕ) → has x l ≡ false → (k : ℕ) → k < length l → ¬ (x ≡ get_or l k 0)
has_none x [] e k h s = absurd (omega arith)
has_none x (y ∷ l) e zero h s = let z = or_parts (eqb y x) (has x l) e in eqb-false y x z.0 (sym s)
has_none x (y ∷ l) e (suc k) h s = let z = or_parts (eqb y x) (has x l) e in has_none x l z.1 k (omega arith) s

pub tidy_real : (l : List ℕ) → bad_items l ≡ false → (k : ℕ) → k < length l → ¬ (get_or l k 0 ≡ 0)
tidy_real [] e k h s = absurd (omega arith)
tidy_real (x ∷ l) e zero h s = let z = or_parts (eqb x 0) (has x l || bad_items l) e in eqb-false x 0 z.0 s
tidy_real (x ∷ l) e (suc k) h s =
    let z = or_parts (eqb x 0) (has x l || bad_items l) e in
    tidy_real l (or_parts (has x l) (bad_items l) z.1).1 k (omega arith) s

pub tidy_apart : (l : List ℕ) → bad_items l ≡ false → (j k : ℕ) → j < k → k < length l → ¬ (get_or l j 0 ≡ get_or l k 0)
tidy_apart [] e j k i h s = absurd (omega arith)
tidy_apart (x ∷ l) e j zero i h s = absurd (omega arith)
tidy_apart (x ∷ l) e zero (suc k) i h s =
    let z = or_parts (eqb x 0) (has x l || bad_items l) e in
    has_none x l (or_parts (has x l) (bad_items l) z.1).0 k (omega arith) s
tidy_apart (x ∷ l) e (suc j) (suc k) i h s =
    let z = or_parts (eqb x 0) (has x l || bad_items l) e in
    tidy_apart l (or_parts (has x l) (bad_items l) z.1).1 j k (omega arith) (omega arith) s

-- a list that an order or a read may have
pub record Listed (items : List ℕ) : Type 0 where
  pub one : 1 ≤ length items
  pub eight : length items ≤ 8
  pub bytes : Bytes items
  pub real : (k : ℕ) → k < length items → ¬ (get_or items k 0 ≡ 0)
  pub apart : (j k : ℕ) → j < k → k < length items → ¬ (get_or items j 0 ≡ get_or items k 0)

pub listed_from : (l : List ℕ) → bad_size l ≡ false → bad_items l ≡ false → Bytes l → Listed l
listed_from l e f bytes =
    let z = or_parts (eqb (length l) 0) (ltb 8 (length l)) e in
    let a = eqb-false (length l) 0 z.0 in
    let b = ltb-false 8 (length l) z.1 in
    record { one = omega (arith, a); eight = b; bytes = bytes; real = tidy_real l f; apart = tidy_apart l f }

-- ── options ──

pub order_there : (o : Option OpenOrder) → not (is_some o) ≡ false → o ≡ Some (the_order o)
order_there None e = true_false (sym e)
order_there (Some x) e = refl

pub read_there : (o : Option OpenRead) → not (is_some o) ≡ false → o ≡ Some (the_read o)
read_there None e = true_false (sym e)
read_there (Some x) e = refl

-- ── asks ──

module _ (ν : Naming) (v : Progress) where
  want : ℕ → ℕ → Bool
  want p q = not (eqb (wanted ν v p q) 0)

  pub asks_to : (p : ℕ) → asks_again ν v p ≡ true → AsksAgain ν v p
  unfolding want
  asks_to p e = elim (or_cases ν.twice (any_below (length v.items) (want p)) e) [
    | inl t ↦ inl t
    | inr t ↦ let z = any_true (length v.items) (want p) t in
        inr (z.0, z.1, eqb-false (wanted ν v p z.0) 0 (not-true (eqb (wanted ν v p z.0) 0) z.2))
  ]

  pub asks_from : (p : ℕ) → AsksAgain ν v p → asks_again ν v p ≡ true
  unfolding want
  asks_from p = elim [
    | inl t ↦ or_left ν.twice (any_below (length v.items) (want p)) t
    | inr z ↦ or_right ν.twice (any_below (length v.items) (want p))
        (true_any (length v.items) (want p) z.0 z.1
        (not_from_false (eqb (wanted ν v p z.0) 0) (ne_eqb (wanted ν v p z.0) 0 z.2)))
  ]

  quiet_to : (p : ℕ) → not (due_second ν v p) ≡ true → AsksAgain ν v p → v.again p ≡ true
  quiet_to p e a = elim (and_cases (asks_again ν v p) (not (v.again p)) (not-true (due_second ν v p) e)) [
    | inl f ↦ true_false (sym f ∙ asks_from p a)
    | inr f ↦ not-false (v.again p) f
  ]

  quiet_from : (p : ℕ) → (AsksAgain ν v p → v.again p ≡ true) → not (due_second ν v p) ≡ true
  quiet_from p f = elim (cases_Bool (due_second ν v p)) [
    | inl t ↦ let z = and_parts (asks_again ν v p) (not (v.again p)) t in
        true_false (sym (not-true (v.again p) z.1) ∙ f (asks_to p z.0))
    | inr t ↦ not_from_false (due_second ν v p) t
  ]

  pub finished_to : finished ν v ≡ true → Finished ν v
  finished_to e =
      let z = and_parts (all_made v) (all_below (length v.items) (λ p. not (due_second ν v p))) e in
      record {
        firsts = all_true (length v.items) v.made z.0;
        seconds = λ p l. quiet_to p (all_true (length v.items) (λ p. not (due_second ν v p)) z.1 p l);
      }

  pub finished_from : Finished ν v → finished ν v ≡ true
  finished_from f = and_from (all_made v) (all_below (length v.items) (λ p. not (due_second ν v p)))
      (true_all (length v.items) v.made f.firsts)
      (true_all (length v.items) (λ p. not (due_second ν v p)) (λ p l. quiet_from p (f.seconds p l)))
