-- Over a store with nothing of an item and space for two, two versions are published, and the later stays the last.
use Rattle.std.proofs.Common.{◌≡◌, ℕ, ◌+◌, ◌<◌, ◌≤◌, Bool, true, false, eqb, Some, None, Ok, Err, Option, Result, sym, ap, ◌∙◌, arith}
use Rattle.std.proofs.lemmas.Bool.{cond-true, cond-false, ne_eqb, both_ways}
use Rattle.blend.specs.Stamps.{later}
use Rattle.blend.proofs.Order.{never_itself, later_real, zero_first, not_both}
use Rattle.store.specs.declared.StoreFault.{StoreFault}
use Rattle.store.specs.Meaning.{View, Version, version_with}
use Rattle.store.specs.Outcomes.{one_if}
use Rattle.store.proofs.Passing.{put_passes}
use Rattle.client.specs.Publish.{Published, PublishOutcome, TakesTwo}

accepted_or_refused : (o : Option ℕ) (n : ℕ) → o ≡ None → o ≡ Some n → ⊥
accepted_or_refused o n p q = let z : ◌≡◌ {A = ℕ} 0 1 = cc in omega arith

-- a new version of an item with space is not refused
not_refused : (v w : View) (item stamp code mark : ℕ) (fault : StoreFault) → 0 < item → 0 < stamp → v.held item stamp ≡ None →
    0 < v.space item → PublishOutcome v w item stamp code mark (Err fault) → ⊥
not_refused v w item stamp code mark fault io so none room h =
    accepted_or_refused _ _ (put_passes v item stamp code mark io so room none) h.why

falls_one : (n m : ℕ) (b : Bool) → n + one_if b ≡ m → 2 ≤ m → 0 < n
falls_one n m true e h = omega arith
falls_one n m false e h = omega arith

-- s is published first, and then t, which is earlier
pub later_stays : (v u w : View) (item s t code mark c m : ℕ) (x : Version) (r : Result Version StoreFault) →
    0 < item → 0 < t → later s t ≡ true → TakesTwo v item →
    Published v u item s code mark x → PublishOutcome u w item t c m r → r ≡ Ok (s, code, mark)
later_stays v u w item s t code mark c m x (Ok y) io to after e first h =
    let so = later_real s t after in
    let rose : u.last item ≡ s = first.last ∙ cond-true (later s (v.last item)) s _ (ap (later s) e.last ∙ zero_first s so) in
    let stays : w.last item ≡ s = h.last ∙ cond-false (later t (u.last item)) t _ (ap (later t) rose ∙ not_both s t after) ∙ rose in
    let two : s ≡ t → ⊥ = λ q. both_ways (later s t) (ap (later s) (sym q) ∙ never_itself s) after in
    let kept : w.held item s ≡ Some (code, mark) = h.others item s (λ _ q. two q) ∙ first.held in
    ap Ok
    (h.answer
    ∙ cond-false (eqb (w.last item) 0) _ _ (ne_eqb (w.last item) 0 (λ z. omega arith))
    ∙ ap (λ k. version_with k (w.held item k)) stays
    ∙ ap (version_with s) kept)
later_stays v u w item s t code mark c m x (Err fault) io to after e first h =
    let two : t ≡ s → ⊥ = λ q. both_ways (later s t) (ap (later s) q ∙ never_itself s) after in
    let free : u.held item t ≡ None = first.others item t (λ _ q. two q) ∙ e.held t in
    absurd (not_refused u w item t c m fault io to free (falls_one _ _ _ first.space e.space) h)
