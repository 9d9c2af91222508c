-- Laws of lookup, and what one more row comes to.
use Rattle.std.proofs.Common.{◌≡◌, ℕ, ◌+◌, ◌<◌, true, false, cond, List, [], ◌∷◌, ◌++◌, length, is_some, Some, None, Option, option_map, sym, refl, ap, ◌∙◌, arith}
use Rattle.std.proofs.lemmas.List.{length_push}
use Rattle.std.proofs.lemmas.Bool.{and_from, eq-eqb, cond-true, cond-false}
use Rattle.std.proofs.lemmas.Bool.Decides.{nat_tests}
use Rattle.std.specs.List.{find}
use Rattle.std.specs.Option.{option_or}
use Rattle.store.proofs.Firsts.{option_or_none, option_or_some}
use Rattle.store.specs.Meaning.{Content}
use Rattle.store.specs.Outcomes.{PutDone}
use Rattle.store.proofs.Passing.{put_passes}
use Rattle.table.specs.declared.Row.{Row}
use Rattle.table.specs.Rows.{hits, lookup}
use Rattle.table.specs.Means.{view_of}

-- the first row that is hit
pub lookup_find : (rs : List Row) (i s : ℕ) → option_map (λ (r : Row). (r.code, r.mark)) (find (λ r. hits r i s) rs) ≡ lookup rs i s
lookup_find [] i s = refl
lookup_find (r ∷ rs) i s =
    elim (hits r i s) as (λ b. option_map (λ (r : Row). (r.code, r.mark)) (cond b (Some r) (find (λ r. hits r i s) rs)) ≡ cond b (Some (r.code, r.mark)) (lookup rs i s)) [
      | true ↦ refl
      | false ↦ lookup_find rs i s
    ]

hits_true : (r : Row) (i s : ℕ) → r.item ≡ i → r.stamp ≡ s → hits r i s ≡ true
hits_true r i s p q = and_from _ _ (eq-eqb _ _ p) (eq-eqb _ _ q)

hits_false : (r : Row) (i s : ℕ) → (r.item ≡ i → r.stamp ≡ s → ⊥) → hits r i s ≡ false
hits_false r i s apart = grind (arith, nat_tests)

-- ── one more row ──

abbrev alone : Row → ℕ → ℕ → Option Content
alone r i s = cond (hits r i s) (Some (r.code, r.mark)) None

lookup_push : (rs : List Row) (r : Row) (i s : ℕ) → lookup (rs ++ r ∷ []) i s ≡ option_or (lookup rs i s) (alone r i s)
lookup_push [] r i s = refl
lookup_push (x ∷ xs) r i s =
    elim (hits x i s) as
    (λ b. cond b (Some (x.code, x.mark)) (lookup (xs ++ r ∷ []) i s)
    ≡ option_or (cond b (Some (x.code, x.mark)) (lookup xs i s)) (alone r i s)) [
      | true ↦ refl
      | false ↦ lookup_push xs r i s
    ]

abbrev pub row : ℕ → ℕ → ℕ → ℕ → Row
row item stamp code mark = record { item = item; stamp = stamp; code = code; mark = mark }

-- it is found where nothing was found before it
push_here : (rs : List Row) (i s code mark : ℕ) → lookup rs i s ≡ None → lookup (rs ++ row i s code mark ∷ []) i s ≡ Some (code, mark)
push_here rs i s code mark e =
    let r = row i s code mark in
    lookup_push rs r i s
    ∙ ap (λ o. option_or o (alone r i s)) e
    ∙ cond-true (hits r i s) (Some (code, mark)) None (hits_true r i s refl refl)

pub push_other : (rs : List Row) (item stamp code mark i s : ℕ) → (i ≡ item → s ≡ stamp → ⊥) →
    lookup (rs ++ row item stamp code mark ∷ []) i s ≡ lookup rs i s
push_other rs item stamp code mark i s apart =
    let r = row item stamp code mark in
    lookup_push rs r i s
    ∙ ap (option_or (lookup rs i s)) (cond-false (hits r i s) _ _ (hits_false r i s (λ p q. apart (sym p) (sym q))))
    ∙ option_or_none (lookup rs i s)

-- what was held is held after a push
pub push_keeps : (rs : List Row) (r : Row) (i s : ℕ) → is_some (lookup rs i s) ≡ true → is_some (lookup (rs ++ r ∷ []) i s) ≡ true
push_keeps rs r i s e = ap is_some (lookup_push rs r i s) ∙ option_or_some (lookup rs i s) _ e

pub push_done : (rows after : List Row) (lasts : List ℕ) (size item stamp code mark : ℕ) →
    after ≡ rows ++ row item stamp code mark ∷ [] → 0 < item → 0 < stamp → lookup rows item stamp ≡ None → length rows < size →
    PutDone (view_of rows lasts size) (view_of after lasts size) item stamp code mark true
push_done rows after lasts size item stamp code mark e io so none room =
    let more : length after ≡ length rows + 1 = ap length e ∙ length_push rows (row item stamp code mark) in
    record {
      passes = put_passes (view_of rows lasts size) item stamp code mark io so (omega arith) none;
      new = simp none;
      held = ap (λ l. lookup l item stamp) e ∙ push_here rows item stamp code mark none;
      others = λ i s apart. ap (λ l. lookup l i s) e ∙ push_other rows item stamp code mark i s apart;
      lasts = λ i. refl;
      space = omega arith;
      falls = λ i. omega arith;
      rises = λ i. omega arith;
    }
