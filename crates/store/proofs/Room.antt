-- Space lasts over a run of calls, and what is held stays held.
use Rattle.std.proofs.Common.{◌≡◌, ℕ, ◌+◌, ◌≤◌, Bool, is_some, Some, Ok, Err, Result, sym, ap, ◌∙◌, ⊎_elim, arith}
use Rattle.std.proofs.lemmas.Bool.{cases_eq}
use Rattle.store.specs.declared.StoreFault.{StoreFault}
use Rattle.store.specs.Meaning.{View, Content}
use Rattle.store.specs.Outcomes.{PutOutcome, CommitOutcome}
use Rattle.store.specs.Room.{newly, Run, begun, put, commit, SpaceLasts}
use Rattle.store.proofs.Passing.{put_alike, put_passes, commit_passes}

put_falls : (v w : View) (item stamp code mark : ℕ) (r : Result Bool StoreFault) → PutOutcome v w item stamp code mark r →
    (i : ℕ) → v.space i ≤ w.space i + newly r
put_falls v w item stamp code mark (Ok fresh) h i = h.falls i
put_falls v w item stamp code mark (Err fault) h i = omega (arith, h.same.spaces i)

commit_spaces : (v w : View) (item stamp : ℕ) (r : Result Bool StoreFault) → CommitOutcome v w item stamp r →
    (i : ℕ) → w.space i ≡ v.space i
commit_spaces v w item stamp (Ok rose) h i = h.spaces i
commit_spaces v w item stamp (Err fault) h i = h.same.spaces i

space_falls : {v w : View} {n : ℕ} → Run v n w → (i : ℕ) → v.space i ≤ w.space i + n
space_falls begun i = omega arith
space_falls (put run w item stamp code mark r h) i = omega (arith, space_falls run i, put_falls _ w item stamp code mark r h i)
space_falls (commit run w item stamp r h) i = omega (arith, space_falls run i, commit_spaces _ w item stamp r h i)

put_keeps : (v w : View) (item stamp code mark : ℕ) (r : Result Bool StoreFault) → PutOutcome v w item stamp code mark r →
    (i s : ℕ) (x : Content) → v.held i s ≡ Some x → w.held i s ≡ Some x
put_keeps v w item stamp code mark (Ok fresh) h i s x e =
    ⊎_elim
    (λ p. ⊎_elim
    (λ q.
    let was = ap (λ j. v.held j s) p ∙ ap (v.held item) q in
    let is = ap (λ j. w.held j s) p ∙ ap (w.held item) q in
    let there = ap is_some (sym was ∙ e) in
    is ∙ h.held ∙ sym (put_alike v item stamp code mark h.passes there) ∙ sym was ∙ e)
    (λ ne. h.others i s (λ _ q. ne q) ∙ e)
    (cases_eq s stamp))
    (λ ne. h.others i s (λ p _. ne p) ∙ e)
    (cases_eq i item)
put_keeps v w item stamp code mark (Err fault) h i s x e = h.same.held i s ∙ e

commit_held : (v w : View) (item stamp : ℕ) (r : Result Bool StoreFault) → CommitOutcome v w item stamp r →
    (i s : ℕ) → w.held i s ≡ v.held i s
commit_held v w item stamp (Ok rose) h i s = h.held i s
commit_held v w item stamp (Err fault) h i s = h.same.held i s

held_stays : {v w : View} {n : ℕ} → Run v n w → (i s : ℕ) (x : Content) → v.held i s ≡ Some x → w.held i s ≡ Some x
held_stays begun i s x e = e
held_stays (put run w item stamp code mark r h) i s x e = put_keeps _ w item stamp code mark r h i s x (held_stays run i s x e)
held_stays (commit run w item stamp r h) i s x e = commit_held _ w item stamp r h i s ∙ held_stays run i s x e

pub lasts : SpaceLasts
lasts v w n run = record {
  puts = λ i s code mark io so few none. put_passes w i s code mark io so (omega (arith, space_falls run i)) none;
  kept = held_stays run;
  commits = commit_passes w;
}
