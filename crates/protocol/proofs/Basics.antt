-- Small facts: a function changed at one place, options, counts.
use Rattle.std.proofs.Common.{◌≡◌, ℕ, zero, suc, ◌<◌, ◌≤◌, Bool, true, false, cond, eqb, ◌⊎◌, List, length, get_or, set, is_some, Some, None, Option, sym, refl, ap, ◌∙◌, inl, inr, arith}
use mathlib.Core.Path.{fun_ext}
use Rattle.std.proofs.lemmas.List.{get_or-set_same, get_or-set_other}
use Rattle.std.proofs.lemmas.Bool.{cond-true, cond-false, eq-eqb, ne_eqb, cases_eq}
use Rattle.std.specs.Option.{option_map}
use Rattle.protocol.specs.State.{upd}
use Rattle.protocol.specs.Asks.{count_below}

pub upd_at : {A : Type 0} (f : ℕ → A) (n : ℕ) (x : A) (m : ℕ) → m ≡ n → upd f n x m ≡ x
upd_at f n x m e = cond-true (eqb m n) x (f m) (eq-eqb m n e)

pub upd_off : {A : Type 0} (f : ℕ → A) (n : ℕ) (x : A) (m : ℕ) → ¬ (m ≡ n) → upd f n x m ≡ f m
upd_off f n x m d = cond-false (eqb m n) x (f m) (ne_eqb m n d)

pub never : {A : Type 0} {P : Type 0} {a : A} → None ≡ Some a → P
never {A} {P} {a} e = let z : ◌≡◌ {A = ℕ} 0 1 = cc in absurd (omega arith)

pub true_false : {P : Type 0} → false ≡ true → P
true_false {P} e = let z : ◌≡◌ {A = ℕ} 0 1 = cc in absurd (omega arith)

pub inside : {A : Type 0} {a b : A} → Some a ≡ Some b → a ≡ b
inside {A} {a} {b} e = cc

pub upd_ext : {A B : Type 0} (g : A → B) (f : ℕ → A) (n : ℕ) (x : A) (m : ℕ) → g (upd f n x m) ≡ upd (λ k. g (f k)) n (g x) m
upd_ext g f n x m =
    elim (cases_eq m n) [
      | inl e ↦ ap g (upd_at f n x m e) ∙ sym (upd_at (λ k. g (f k)) n (g x) m e)
      | inr d ↦ ap g (upd_off f n x m d) ∙ sym (upd_off (λ k. g (f k)) n (g x) m d)
    ]

-- an entry after one has changed
pub at_upd : {A : Type 0} (f : ℕ → A) (n : ℕ) (x : A) (m : ℕ) (y : A) → upd f n x m ≡ y → ((m ≡ n) × (x ≡ y)) ⊎ ((¬ (m ≡ n)) × (f m ≡ y))
at_upd f n x m y h =
    elim (cases_eq m n) [
      | inl e ↦ inl (e, sym (upd_at f n x m e) ∙ h)
      | inr d ↦ inr (d, sym (upd_off f n x m d) ∙ h)
    ]

pub none_of : {A : Type 0} (o : Option A) → is_some o ≡ false → o ≡ None
none_of None e = refl
none_of (Some a) e = true_false (sym e)

pub some_of : {A : Type 0} (o : Option A) → is_some o ≡ true → (a : A) × (o ≡ Some a)
some_of None e = true_false e
some_of (Some a) e = (a, refl)

-- two functions to options that agree, after one entry of each has changed
pub agree_after : {A B : Type 0} (g : A → B) (u : ℕ → Option B) (f : ℕ → Option A) (n : ℕ) (y : Option B) (x : Option A) →
    ((m : ℕ) → u m ≡ option_map g (f m)) → y ≡ option_map g x → (m : ℕ) → upd u n y m ≡ option_map g (upd f n x m)
agree_after g u f n y x agree e m =
    elim (cases_eq m n) [
      | inl p ↦ upd_at u n y m p ∙ e ∙ ap (option_map g) (sym (upd_at f n x m p))
      | inr d ↦ upd_off u n y m d ∙ agree m ∙ ap (option_map g) (sym (upd_off f n x m d))
    ]

-- for a program's rows: a list read by place, after one row was written, is the function changed there
pub upd_set : {A B : Type 0} (f : A → B) (l : List A) (n : ℕ) (x d : A) → n < length l →
    (λ m. f (get_or (set l n x) m d)) ≡ upd (λ m. f (get_or l m d)) n (f x)
upd_set f l n x d h = fun_ext (λ m. elim (cases_eq m n) [
  | inl e ↦ ap (λ k. f (get_or (set l n x) k d)) e ∙ ap f (get_or-set_same l n x d h) ∙ sym (upd_at (λ k. f (get_or l k d)) n (f x) m e)
  | inr e ↦ ap f (get_or-set_other l n m x d e) ∙ sym (upd_off (λ k. f (get_or l k d)) n (f x) m e)
])

-- the same, from what is known at each place
pub upd_from : {A : Type 0} (f g : ℕ → A) (n : ℕ) (x : A) → g n ≡ x → ((m : ℕ) → ¬ (m ≡ n) → g m ≡ f m) → g ≡ upd f n x
upd_from f g n x here there = fun_ext (λ m. elim (cases_eq m n) [
  | inl e ↦ ap g e ∙ here ∙ sym (upd_at f n x m e)
  | inr e ↦ there m e ∙ sym (upd_off f n x m e)
])

-- ── counts ──

abbrev one_if : Bool → ℕ
one_if b = cond b 1 0

pub count_same : (f g : ℕ → Bool) (n : ℕ) → ((p : ℕ) → p < n → f p ≡ g p) → count_below n f ≡ count_below n g
count_same f g zero e = refl
count_same f g (suc n) e =
    let here : one_if (f n) ≡ one_if (g n) = ap one_if (e n (omega arith)) in
    let rest : count_below n f ≡ count_below n g = count_same f g n (λ p l. e p (omega arith)) in
    omega arith

pub count_none : (n : ℕ) → count_below n (λ p. false) ≡ 0
count_none zero = refl
count_none (suc n) = let r = count_none n in omega arith

at_most_one : (b : Bool) → one_if b ≤ 1
at_most_one true = omega arith
at_most_one false = omega arith

pub count_most : (f : ℕ → Bool) (n : ℕ) → count_below n f ≤ n
count_most f zero = omega arith
count_most f (suc n) =
    let r = count_most f n in
    let c = at_most_one (f n) in
    omega arith

pub count_more : (f : ℕ → Bool) (n p : ℕ) → p < n → f p ≡ false → count_below n (upd f p true) ≡ suc (count_below n f)
count_more f zero p l e = absurd (omega arith)
count_more f (suc n) p l e = go (cases_eq n p) (λ m. count_more f n p m e)
  where
    go : (n ≡ p) ⊎ (n ≡ p → ⊥) → (p < n → count_below n (upd f p true) ≡ suc (count_below n f)) →
        count_below (suc n) (upd f p true) ≡ suc (count_below (suc n) f)
    go (inl s) ih =
        let a : one_if (upd f p true n) ≡ 1 = ap one_if (upd_at f p true n s) in
        let b : one_if (f n) ≡ 0 = ap one_if (ap f s ∙ e) in
        let r : count_below n (upd f p true) ≡ count_below n f =
        count_same (upd f p true) f n (λ q m. upd_off f p true q (λ t. omega (arith, t, s))) in
        omega arith
    go (inr d) ih =
        let a : one_if (upd f p true n) ≡ one_if (f n) = ap one_if (upd_off f p true n d) in
        let m : p < n = omega (arith, d) in
        let r = ih m in
        omega arith
