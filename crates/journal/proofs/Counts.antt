-- Laws of one record more: what is held, last stamps, and that rises never outnumber versions.
use Rattle.std.proofs.Common.{◌≡◌, ℕ, suc, ◌+◌, ◌*◌, ◌<◌, ◌≤◌, Bool, true, false, cond, ◌&&◌, ◌||◌, eqb, List, [], ◌∷◌, ◌++◌, is_some, Some, sym, refl, ap, ◌∙◌, ⊎_elim, arith}
use Rattle.std.proofs.lemmas.Bool.{eq-eqb, ne_eqb, eqb-true, cases_Bool, cond-false, and_parts, and_from, or_from, both_ways, false≢true}
use Rattle.blend.specs.Stamps.{later, later_of}
use Rattle.blend.proofs.Order.{onward, not_later_on, never_itself}
use Rattle.std.specs.Option.{option_or}
use Rattle.store.proofs.Firsts.{option_or_none, option_or_some}
use Rattle.journal.specs.declared.record.Record.{Record}
use Rattle.journal.specs.declared.record.Record.TheVariants.{Put, Commit}
use Rattle.journal.specs.Records.{size, used}
use Rattle.journal.specs.Held.{lookup, last_from, last_of, versions, raises, raised, waiting, Waits}

-- ── what is held ──

pub lookup_append : (rs qs : List Record) (i s : ℕ) → lookup (rs ++ qs) i s ≡ option_or (lookup rs i s) (lookup qs i s)
lookup_append [] qs i s = refl
lookup_append (Put j t c m ∷ rs) qs i s =
    elim (eqb j i && eqb t s) as
    (λ b. cond b (Some (c, m)) (lookup (rs ++ qs) i s) ≡ option_or (cond b (Some (c, m)) (lookup rs i s)) (lookup qs i s)) [
      | true ↦ refl
      | false ↦ lookup_append rs qs i s
    ]
lookup_append (Commit j t ∷ rs) qs i s = lookup_append rs qs i s

-- a commit holds nothing
pub lookup_commit : (rs : List Record) (j t i s : ℕ) → lookup (rs ++ Commit j t ∷ []) i s ≡ lookup rs i s
lookup_commit rs j t i s = lookup_append rs (Commit j t ∷ []) i s ∙ option_or_none (lookup rs i s)

-- what was held is held with a record more
pub lookup_keeps : (rs : List Record) (r : Record) (i s : ℕ) → is_some (lookup rs i s) ≡ true → is_some (lookup (rs ++ r ∷ []) i s) ≡ true
lookup_keeps rs r i s e = ap is_some (lookup_append rs (r ∷ []) i s) ∙ option_or_some (lookup rs i s) _ e

-- ── last stamps ──

pub last_append : (l : ℕ) (rs qs : List Record) (i : ℕ) → last_from l (rs ++ qs) i ≡ last_from (last_from l rs i) qs i
last_append l [] qs i = refl
last_append l (Put j t c m ∷ rs) qs i = last_append l rs qs i
last_append l (Commit j t ∷ rs) qs i = last_append (cond (eqb j i) (later_of l t) l) rs qs i

-- ── counts ──

pub versions_push : (rs : List Record) (r : Record) → versions (rs ++ r ∷ []) ≡ versions rs + versions (r ∷ [])
versions_push [] r = omega arith
versions_push (Put j t c m ∷ rs) r = let e = versions_push rs r in omega arith
versions_push (Commit j t ∷ rs) r = versions_push rs r

raises_push : (rs : List Record) (r : Record) → raises (rs ++ r ∷ []) ≡ raises rs + raises (r ∷ [])
raises_push [] r = omega arith
raises_push (Put j t c m ∷ rs) r = raises_push rs r
raises_push (Commit j t ∷ rs) r = let e = raises_push rs r in omega arith

pub used_push : (rs : List Record) (r : Record) → used (rs ++ r ∷ []) ≡ used rs + size r
used_push [] r = omega arith
used_push (q ∷ rs) r = let e = used_push rs r in omega arith

pub used_is : (rs : List Record) → used rs ≡ versions rs * 22 + raises rs * 6
used_is [] = omega arith
used_is (Put j t c m ∷ rs) = let e = used_is rs in omega arith
used_is (Commit j t ∷ rs) = let e = used_is rs in omega arith

-- ── waiting for a rise ──

raised_put : (rs : List Record) (j t c m i s : ℕ) → raised (rs ++ Put j t c m ∷ []) i s ≡ raised rs i s
raised_put [] j t c m i s = refl
raised_put (Put a b x y ∷ rs) j t c m i s = raised_put rs j t c m i s
raised_put (Commit a b ∷ rs) j t c m i s = ap (λ (r : Bool). (eqb a i && eqb b s) || r) (raised_put rs j t c m i s)

raised_commit : (rs : List Record) (j t i s : ℕ) → raised (rs ++ Commit j t ∷ []) i s ≡ raised rs i s || (eqb j i && eqb t s)
raised_commit [] j t i s = elim (eqb j i && eqb t s) as (λ b. (b || false) ≡ (false || b)) [ true ↦ refl | false ↦ refl ]
raised_commit (Put a b x y ∷ rs) j t i s = raised_commit rs j t i s
raised_commit (Commit a b ∷ rs) j t i s =
    ap (λ (r : Bool). (eqb a i && eqb b s) || r) (raised_commit rs j t i s)
    ∙ elim (eqb a i && eqb b s) as
    (λ u. (u || (raised rs i s || (eqb j i && eqb t s))) ≡ ((u || raised rs i s) || (eqb j i && eqb t s))) [
      | true ↦ refl
      | false ↦ refl
    ]

-- a stamp later than the later of two is later than both
later_both : (l t s : ℕ) (b : Bool) → later t l ≡ b → later s (cond b t l) ≡ true → (later s l ≡ true) × (later s t ≡ true)
later_both l t s true e h = (onward l t s e h, h)
later_both l t s false e h =
    (h, ⊎_elim (λ y. y) (λ n. absurd (both_ways (later s l) (not_later_on l t s e n) h)) (cases_Bool (later s t)))

-- a stamp later than the last is later than what the last was before
later_before : (l : ℕ) (rs : List Record) (i s : ℕ) → later s (last_from l rs i) ≡ true → later s l ≡ true
later_before l [] i s h = h
later_before l (Put j t c m ∷ rs) i s h = later_before l rs i s h
later_before l (Commit j t ∷ rs) i s h =
    elim (eqb j i) as (λ b. later s (cond b (later_of l t) l) ≡ true → later s l ≡ true) [
      | true ↦ λ g. (later_both l t s (later t l) refl g).0
      | false ↦ λ g. g
    ] (later_before (cond (eqb j i) (later_of l t) l) rs i s h)

not_itself : (t s : ℕ) → later s t ≡ true → t ≡ s → ⊥
not_itself t s h e = both_ways (later s s) (never_itself s) (ap (later s) (sym e) ∙ h)

-- past the last stamp nothing was raised
raised_past : (l : ℕ) (rs : List Record) (i s : ℕ) → later s (last_from l rs i) ≡ true → raised rs i s ≡ false
raised_past l [] i s h = refl
raised_past l (Put j t c m ∷ rs) i s h = raised_past l rs i s h
raised_past l (Commit j t ∷ rs) i s h =
    or_from (eqb j i && eqb t s) (raised rs i s)
    (elim (eqb j i) as (λ b. later s (cond b (later_of l t) l) ≡ true → (b && eqb t s) ≡ false) [
      | true ↦ λ g. ne_eqb t s (not_itself t s (later_both l t s (later t l) refl g).1)
      | false ↦ λ g. refl
    ] (later_before (cond (eqb j i) (later_of l t) l) rs i s h))
    (raised_past (cond (eqb j i) (later_of l t) l) rs i s h)

waiting_put : (all rs : List Record) (j t c m : ℕ) → waiting (all ++ Put j t c m ∷ []) rs ≡ waiting all rs
waiting_put all [] j t c m = refl
waiting_put all (Put a b x y ∷ rs) j t c m =
    ap (λ (r : Bool). cond r (waiting (all ++ Put j t c m ∷ []) rs) (suc (waiting (all ++ Put j t c m ∷ []) rs))) (raised_put all j t c m a b)
    ∙ ap (λ (w : ℕ). cond (raised all a b) w (suc w)) (waiting_put all rs j t c m)
waiting_put all (Commit a b ∷ rs) j t c m = waiting_put all rs j t c m

waiting_push : (all rs : List Record) (r : Record) → waiting all (rs ++ r ∷ []) ≤ waiting all rs + versions (r ∷ [])
waiting_push all [] (Put j t c m) = elim (raised all j t) as (λ b. cond b 0 1 ≤ 0 + 1) [ true ↦ omega arith | false ↦ omega arith ]
waiting_push all [] (Commit j t) = omega arith
waiting_push all (Put a b x y ∷ rs) r =
    let e = waiting_push all rs r in
    elim (raised all a b) as
    (λ u. cond u (waiting all (rs ++ r ∷ [])) (suc (waiting all (rs ++ r ∷ []))) ≤ cond u (waiting all rs) (suc (waiting all rs)) + versions (r ∷ [])) [
      | true ↦ e
      | false ↦ omega arith
    ]
waiting_push all (Commit a b ∷ rs) r = waiting_push all rs r

one_less : (n : ℕ) (r h : Bool) (v w : ℕ) → v + n ≤ w → cond (r || h) v (suc v) + n ≤ cond r w (suc w)
one_less n true h v w l = l
one_less n false true v w l = omega arith
one_less n false false v w l = omega arith

waiting_commit : (all rs : List Record) (i s : ℕ) → waiting (all ++ Commit i s ∷ []) rs + 0 ≤ waiting all rs
waiting_commit all [] i s = omega arith
waiting_commit all (Put a b x y ∷ rs) i s =
    rw (raised_commit all i s a b) (one_less 0 (raised all a b) (eqb i a && eqb s b) _ _ (waiting_commit all rs i s))
waiting_commit all (Commit a b ∷ rs) i s = waiting_commit all rs i s

-- a commit of a version that waits leaves one less
waiting_falls : (all rs : List Record) (i s : ℕ) → is_some (lookup rs i s) ≡ true → raised all i s ≡ false →
    waiting (all ++ Commit i s ∷ []) rs + 1 ≤ waiting all rs
waiting_falls all [] i s e f = absurd (false≢true e)
waiting_falls all (Put a b x y ∷ rs) i s e f =
    rw (raised_commit all i s a b)
    (⊎_elim
    (λ t.
    let p = and_parts (eqb a i) (eqb b s) t in
    let ai = eqb-true a i p.0 in
    let bs = eqb-true b s p.1 in
    let no : raised all a b ≡ false = ap (λ (z : ℕ). raised all z b) ai ∙ ap (raised all i) bs ∙ f in
    let hit : (eqb i a && eqb s b) ≡ true = and_from _ _ (eq-eqb i a (sym ai)) (eq-eqb s b (sym bs)) in
    rw (no, hit) (let l = waiting_commit all rs i s in omega arith))
    (λ n.
    let rest = ap is_some (sym (cond-false (eqb a i && eqb b s) (Some (x, y)) (lookup rs i s) n)) ∙ e in
    one_less 1 (raised all a b) (eqb i a && eqb s b) _ _ (waiting_falls all rs i s rest f))
    (cases_Bool (eqb a i && eqb b s)))
waiting_falls all (Commit a b ∷ rs) i s e f = waiting_falls all rs i s e f

pub waits_put : (rs : List Record) (i s c m : ℕ) → Waits rs → Waits (rs ++ Put i s c m ∷ [])
waits_put rs i s c m h =
    let rs' = rs ++ Put i s c m ∷ [] in
    let a = waiting_put rs rs' i s c m in
    let b = waiting_push rs rs (Put i s c m) in
    omega (arith, versions_push rs (Put i s c m), raises_push rs (Put i s c m))

pub waits_commit : (rs : List Record) (i s : ℕ) → Waits rs → is_some (lookup rs i s) ≡ true → later s (last_of rs i) ≡ true →
    Waits (rs ++ Commit i s ∷ [])
waits_commit rs i s h held up =
    let a = waiting_push (rs ++ Commit i s ∷ []) rs (Commit i s) in
    let b = waiting_falls rs rs i s held (raised_past 0 rs i s up) in
    omega (arith, versions_push rs (Commit i s), raises_push rs (Commit i s))

-- a version that may still be committed waits
pub waits_one : (rs : List Record) (i s : ℕ) → is_some (lookup rs i s) ≡ true → later s (last_of rs i) ≡ true → 0 < waiting rs rs
waits_one rs i s held up = let b = waiting_falls rs rs i s held (raised_past 0 rs i s up) in omega arith
