-- A fresh store, and how its space lasts over a run of calls.
use Rattle.std.specs.Prelude.{◌≡◌, ℕ, ◌+◌, ◌<◌, Bool, true, is_some, Some, None, Ok, Err, Result}
use Rattle.blend.specs.Refusals.{first_of}
use Rattle.store.specs.declared.StoreFault.{StoreFault}
use Rattle.store.specs.Meaning.{View, Content}
use Rattle.store.specs.Tests.{put_tests, commit_tests}
use Rattle.store.specs.Outcomes.{one_if, PutOutcome, CommitOutcome}

-- nothing held, nothing committed, and as much space for every item
pub record Fresh (size : ℕ) (v : View) : Type 0 where
  pub held : (i s : ℕ) → v.held i s ≡ None
  pub lasts : (i : ℕ) → v.last i ≡ 0
  pub spaces : (i : ℕ) → v.space i ≡ size

-- the new versions of a put: 1 where it was accepted as new
abbrev pub newly : Result Bool StoreFault → ℕ
newly (Ok fresh) = one_if fresh
newly (Err fault) = 0

-- Puts and commits from one meaning to another, accepted or refused, with the count of new versions. A question changes nothing.
pub data Run (v : View) : ℕ → View → Type 0 where
  begun : Run v 0 v
  put : {n : ℕ} {u : View} → Run v n u →
      (w : View) (item stamp code mark : ℕ) (r : Result Bool StoreFault) → PutOutcome u w item stamp code mark r → Run v (n + newly r) w
  commit : {n : ℕ} {u : View} → Run v n u →
      (w : View) (item stamp : ℕ) (r : Result Bool StoreFault) → CommitOutcome u w item stamp r → Run v n w

-- After a run, a put of a version that is not held passes every test while the new versions are fewer than the item's space was; what
-- was held is held alike; and a commit of what is held passes every test.
pub record Lasts (v : View) (n : ℕ) (w : View) : Type 0 where
  pub puts : (i s code mark : ℕ) → 0 < i → 0 < s → n < v.space i → w.held i s ≡ None → first_of (put_tests w i s code mark) ≡ None
  pub kept : (i s : ℕ) (x : Content) → v.held i s ≡ Some x → w.held i s ≡ Some x
  pub commits : (i s : ℕ) → 0 < i → 0 < s → is_some (w.held i s) ≡ true → first_of (commit_tests w i s) ≡ None

abbrev pub SpaceLasts : Type 0
SpaceLasts = (v w : View) (n : ℕ) → Run v n w → Lasts v n w
