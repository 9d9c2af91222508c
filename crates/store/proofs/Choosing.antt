-- A pick is the latest held version among the stamps. Also the step of a loop over the stamps.
use Rattle.std.proofs.Common.{◌≡◌, ℕ, zero, suc, ◌<◌, Bool, true, false, cond, ◌⊎◌, List, [], ◌∷◌, ◌++◌, length, get_or, is_some, Some, None, Option, sym, refl, ap, ◌∙◌, inl, inr, arith}
use Rattle.std.proofs.lemmas.Bool.{both_ways, cond-true, cond-false}
use Rattle.blend.specs.Stamps.{later}
use Rattle.blend.proofs.Order.{never_itself, onward, zero_first, never_before_zero, not_both, not_later_on}
use Rattle.std.specs.List.{fold}
use Rattle.std.proofs.lemmas.List.Sums.{fold-append}
use Rattle.store.specs.Meaning.{Content, Version, blank, version_with, later_version, later_with, latest_held, version_of, picked}
use Rattle.store.specs.Choice.{LatestOf, NoneOf, PicksTheLatest}

none_not_some : (o : Option Content) → o ≡ None → is_some o ≡ true → ⊥
none_not_some o e h = both_ways (is_some o) (ap is_some e) h

-- of three versions the latest, in either order of choosing
later_version_assoc : (x y z : Version) (a b : Bool) → later z.0 y.0 ≡ a → later y.0 x.0 ≡ b →
    later_version (later_version x y) z ≡ later_version x (later_version y z)
later_version_assoc x y z true true p q = let t = onward x.0 y.0 z.0 q p in simp (p, q, t)
later_version_assoc x y z true false p q = simp (p, q)
later_version_assoc x y z false true p q = simp (p, q)
later_version_assoc x y z false false p q = let t = not_later_on x.0 y.0 z.0 q p in simp (p, q, t)

module _ (h : ℕ → Option Content) where
  record Top (ss : List ℕ) (t : ℕ) : Type 0 where
    pub held : is_some (h t) ≡ true
    pub place : ℕ
    pub within : place < length ss
    pub among : get_or ss place 0 ≡ t
    pub latest : (k : ℕ) → k < length ss → is_some (h (get_or ss k 0)) ≡ true → later (get_or ss k 0) t ≡ false

  abbrev Found : List ℕ → Option ℕ → Type 0
  Found ss None = (k : ℕ) → k < length ss → h (get_or ss k 0) ≡ None
  Found ss (Some t) = Top ss t

  none_more : (x : ℕ) (xs : List ℕ) → h x ≡ None → Found xs None → Found (x ∷ xs) None
  none_more x xs e f zero l = e
  none_more x xs e f (suc k) l = f k (omega arith)

  latest_more : (x : ℕ) (xs : List ℕ) (t : ℕ) → (is_some (h x) ≡ true → later x t ≡ false) →
      ((k : ℕ) → k < length xs → is_some (h (get_or xs k 0)) ≡ true → later (get_or xs k 0) t ≡ false) →
      (k : ℕ) → k < length (x ∷ xs) → is_some (h (get_or (x ∷ xs) k 0)) ≡ true → later (get_or (x ∷ xs) k 0) t ≡ false
  latest_more x xs t here rest zero l g = here g
  latest_more x xs t here rest (suc k) l g = rest k (omega arith) g

  -- a stamp of the rest that is not before the first
  from_rest : (x : ℕ) (xs : List ℕ) (t : ℕ) → (is_some (h x) ≡ true → later x t ≡ false) → Top xs t → Top (x ∷ xs) t
  from_rest x xs t here f = record {
    held = f.held;
    place = suc f.place;
    within = omega (arith, f.within);
    among = f.among;
    latest = latest_more x xs t here f.latest;
  }

  first_is : (x : ℕ) (xs : List ℕ) → is_some (h x) ≡ true →
      ((k : ℕ) → k < length xs → is_some (h (get_or xs k 0)) ≡ true → later (get_or xs k 0) x ≡ false) → Top (x ∷ xs) x
  first_is x xs e rest = record {
    held = e;
    place = 0;
    within = omega arith;
    among = refl;
    latest = latest_more x xs x (λ _. never_itself x) rest;
  }

  of_two : (x : ℕ) (xs : List ℕ) (t : ℕ) (b : Bool) → later t x ≡ b → is_some (h x) ≡ true → Top xs t → Top (x ∷ xs) (cond b t x)
  of_two x xs t true e i f = from_rest x xs t (λ _. not_both t x e) f
  of_two x xs t false e i f = first_is x xs i (λ k l g. not_later_on x t (get_or xs k 0) e (f.latest k l g))

  step : (x : ℕ) (xs : List ℕ) (c : Option Content) → h x ≡ c → (o : Option ℕ) → Found xs o →
      Found (x ∷ xs) (cond (is_some c) (Some (later_with x o)) o)
  step x xs None e None f = none_more x xs e f
  step x xs None e (Some t) f = from_rest x xs t (λ g. absurd (none_not_some (h x) e g)) f
  step x xs (Some c) e None f = first_is x xs (ap is_some e) (λ k l g. absurd (none_not_some (h (get_or xs k 0)) (f k l) g))
  step x xs (Some c) e (Some t) f = of_two x xs t (later t x) refl (ap is_some e) f

  found : (ss : List ℕ) → Found ss (latest_held h ss)
  found [] = λ k l. absurd (omega arith)
  found (x ∷ xs) = step x xs (h x) refl (latest_held h xs) (found xs)

  stamp_kept : (t : ℕ) (c : Option Content) → is_some c ≡ true → (version_with t c).0 ≡ t
  stamp_kept t None e = absurd (both_ways false refl e)
  stamp_kept t (Some x) e = refl

  content_kept : (t : ℕ) (c : Option Content) → is_some c ≡ true → c ≡ Some ((version_with t c).1, (version_with t c).2)
  content_kept t None e = absurd (both_ways false refl e)
  content_kept t (Some x) e = refl

  by_found : (ss : List ℕ) (o : Option ℕ) → Found ss o → LatestOf h ss (version_of h o) ⊎ NoneOf h ss (version_of h o)
  by_found ss None f = inr (record { nothing = f; answer = refl })
  by_found ss (Some t) f =
      let same = stamp_kept t (h t) f.held in
      inl (record {
        held = ap h same ∙ content_kept t (h t) f.held;
        place = f.place;
        within = f.within;
        among = f.among ∙ sym same;
        latest = λ k l g. ap (later (get_or ss k 0)) same ∙ f.latest k l g;
      })

  -- ── a fold over the stamps, where stamp 0 is not held ──

  module _ (none : is_some (h 0) ≡ false) where
    -- blanks before what is picked change nothing
    blank_first : (ss : List ℕ) (o : Option ℕ) → Found ss o → later_version blank (version_of h o) ≡ version_of h o
    blank_first ss None f = simp (never_itself 0)
    blank_first ss (Some t) f =
        let real : t ≡ 0 → ⊥ = λ z. both_ways (is_some (h t)) (ap (λ n. is_some (h n)) z ∙ none) f.held in
        cond-true _ _ _ (ap (λ n. later n 0) (stamp_kept t (h t) f.held) ∙ zero_first t (omega arith))

    pick_cons : (s : ℕ) (ss : List ℕ) (c : Option Content) → h s ≡ c → (o : Option ℕ) → Found ss o →
        version_of h (cond (is_some c) (Some (later_with s o)) o) ≡ later_version (version_with s c) (version_of h o)
    pick_cons s ss None e o f = sym (blank_first ss o f)
    pick_cons s ss (Some x) e None f = simp (e, never_before_zero s)
    pick_cons s ss (Some x) e (Some t) f =
        elim (later t s) as (λ b. version_with (cond b t s) (h (cond b t s)) ≡ cond b (version_with t (h t)) (s, x.0, x.1)) [
          | true ↦ refl
          | false ↦ ap (version_with s) e
        ]
        ∙ ap (λ n. cond (later n s) (version_with t (h t)) (s, x.0, x.1)) (sym (stamp_kept t (h t) f.held))

    pick_onto : (best : Version) (ss : List ℕ) →
        fold (λ v s. later_version v (version_with s (h s))) best ss ≡ later_version best (picked h ss)
    pick_onto best [] = sym (cond-false _ _ _ (never_before_zero best.0))
    pick_onto best (s ∷ ss) =
        pick_onto (later_version best (version_with s (h s))) ss
        ∙ later_version_assoc best (version_with s (h s)) (picked h ss) _ _ refl refl
        ∙ ap (later_version best) (sym (pick_cons s ss (h s) refl (latest_held h ss) (found ss)))

    pub pick_fold : (ss : List ℕ) → fold (λ v s. later_version v (version_with s (h s))) blank ss ≡ picked h ss
    pick_fold ss = pick_onto blank ss ∙ blank_first ss (latest_held h ss) (found ss)

    pub pick_push : (ss : List ℕ) (s : ℕ) → picked h (ss ++ s ∷ []) ≡ later_version (picked h ss) (version_with s (h s))
    pick_push ss s =
        sym (pick_fold (ss ++ s ∷ []))
        ∙ fold-append (λ v s. later_version v (version_with s (h s))) blank ss (s ∷ [])
        ∙ ap (λ v. later_version v (version_with s (h s))) (pick_fold ss)

pub picks : PicksTheLatest
picks h ss = by_found h ss (latest_held h ss) (found h ss)
