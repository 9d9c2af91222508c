-- Tests and counts below a bound, of the elements that a list begins with and of numbers.
use Rattle.std.proofs.Common.{◌≡◌, ℕ, zero, suc, ◌+◌, ◌<◌, ◌≤◌, Bool, false, cond, inl, inr, List, [], ◌∷◌, length, get_or, take, sym, refl, ap, ◌∙◌, arith}
use mathlib.Core.List.{map}
use Rattle.std.specs.List.{list_all, list_any, filter, range_with_len}
use Rattle.std.proofs.lemmas.List.{get_or-take, length-map, length-take}
use Rattle.std.proofs.lemmas.List.FromFn.{length-range_with_len, get_or-range_with_len}
use Rattle.std.proofs.lemmas.List.Recursion.{and_is, or_is}
use Rattle.std.proofs.lemmas.Bool.{cases_Bool}
use Rattle.protocol.specs.Asks.{all_below, any_below, count_below}
use Rattle.protocol.proofs.Basics.{true_false}
use Rattle.protocol.proofs.Tests.{all_true, all_false, any_true, true_any}

-- as many are listed as counted
pub length_listed : {A B : Type 0} (h : A → B) (n : ℕ) (l : List A) → n ≤ 8 → length l ≡ 8 → length (map h (take n l)) ≡ n
length_listed h n l few e = omega (arith, few, e, length-map (take n l) h, length-take n l)

module _ {A B : Type 0} (f : A → Bool) (h : A → B) (d : A) where
  -- the first n of a list all pass
  pub all_listed : (n : ℕ) (l : List A) → all_below (length (map h (take n l))) (λ k. f (get_or l k d)) ≡ list_all f (take n l)
  all_listed n l =
      let g : ℕ → Bool = λ k. f (get_or l k d) in
      let m = length (map h (take n l)) in
      let same : (i : ℕ) → i < length (take n l) → f (get_or (take n l) i d) ≡ g i =
      λ i u. ap f (get_or-take n l i d (omega (arith, length-take n l)))
      in
      and_is (list_all f) f refl (λ _ _. refl) (take n l) d (all_below m g)
      (λ e i u. same i u ∙ all_true m g e i (omega (arith, length-map (take n l) h)))
      (λ e. let z = all_false m g e in let u = z.1 in let v : z.0 < length (take n l) = omega (arith, length-map (take n l) h) in (z.0, v, same z.0 v ∙ z.2))

  count_shift : (n : ℕ) (g : ℕ → Bool) → count_below (suc n) g ≡ cond (g 0) 1 0 + count_below n (λ k. g (suc k))
  count_shift zero g = refl
  count_shift (suc n) g = let e = count_shift n g in omega (arith, e)

  -- how many of the first n of a list pass
  pub count_listed : (n : ℕ) (l : List A) → count_below (length (map h (take n l))) (λ k. f (get_or l k d)) ≡ length (filter f (take n l))
  count_listed zero l = refl
  count_listed (suc n) [] = refl
  count_listed (suc n) (x ∷ l) =
      count_shift (length (map h (take n l))) (λ k. f (get_or (x ∷ l) k d)) ∙ ap (λ m. cond (f x) 1 0 + m) (count_listed n l) ∙
      elim (cases_Bool (f x)) [ inl e ↦ rw e (omega arith) | inr e ↦ rw e (omega arith) ]

any_false : (f : ℕ → Bool) (n : ℕ) → any_below n f ≡ false → (i : ℕ) → i < n → f i ≡ false
any_false f n e i u = elim (cases_Bool (f i)) [ inl t ↦ true_false (sym e ∙ true_any n f i u t) | inr z ↦ z ]

-- some of the first n numbers passes
pub any_range : (f : ℕ → Bool) (n : ℕ) → any_below n f ≡ list_any f (range_with_len 0 n)
any_range f n =
    let l = range_with_len 0 n in
    let long = length-range_with_len 0 n in
    let at : (i : ℕ) → i < n → f (get_or l i 0) ≡ f i = λ i u. ap f (omega (arith, get_or-range_with_len 0 n i 0 u)) in
    or_is (list_any f) f refl (λ _ _. refl) l 0 (any_below n f)
    (λ e. let z = any_true n f e in let u = z.1 in (z.0, omega (arith, long), at z.0 u ∙ z.2))
    (λ e i u. let v : i < n = omega (arith, long) in at i v ∙ any_false f n e i v)

-- all of them do
pub all_range : (f : ℕ → Bool) (n : ℕ) → all_below n f ≡ list_all f (range_with_len 0 n)
all_range f n =
    let l = range_with_len 0 n in
    let long = length-range_with_len 0 n in
    let at : (i : ℕ) → i < n → f (get_or l i 0) ≡ f i = λ i u. ap f (omega (arith, get_or-range_with_len 0 n i 0 u)) in
    and_is (list_all f) f refl (λ _ _. refl) l 0 (all_below n f)
    (λ e i u. let v : i < n = omega (arith, long) in at i v ∙ all_true n f e i v)
    (λ e. let z = all_false n f e in let u = z.1 in (z.0, omega (arith, long), at z.0 u ∙ z.2))
