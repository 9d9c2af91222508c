-- What each call of a store comes to, from the meaning v before it to the meaning w after it.
use Rattle.std.specs.Prelude.{◌≡◌, ℕ, ◌+◌, ◌≤◌, Bool, cond, not, List, is_some, Some, None, Ok, Err, Result, ◌≢◌}
use Rattle.blend.specs.Refusals.{Tests, first_of}
use Rattle.blend.specs.Stamps.{later, later_of}
use Rattle.store.specs.declared.StoreFault.{StoreFault}
use Rattle.store.specs.Faults.{number_of}
use Rattle.store.specs.Meaning.{View, Version, last_version, picked}
use Rattle.store.specs.Tests.{put_tests, commit_tests, question_tests}

-- an answer of 1 or 0
abbrev pub one_if : Bool → ℕ
one_if b = cond b 1 0

-- nothing of the meaning changed
pub record Same (v w : View) : Type 0 where
  pub held : (i s : ℕ) → w.held i s ≡ v.held i s
  pub lasts : (i : ℕ) → w.last i ≡ v.last i
  pub spaces : (i : ℕ) → w.space i ≡ v.space i

-- refused by the first test that fires, and nothing changed
pub record Refused (tests : Tests) (v w : View) (fault : StoreFault) : Type 0 where
  pub why : first_of tests ≡ Some (number_of fault)
  pub same : Same v w

-- The version is held; nothing held is dropped or altered; every last stamp stays. A new version takes one space of its item and
-- at most one of another; a version held alike takes none.
pub record PutDone (v w : View) (item stamp code mark : ℕ) (fresh : Bool) : Type 0 where
  pub passes : first_of (put_tests v item stamp code mark) ≡ None
  pub new : fresh ≡ not (is_some (v.held item stamp))
  pub held : w.held item stamp ≡ Some (code, mark)
  pub others : (i s : ℕ) → (i ≡ item → s ≢ stamp) → w.held i s ≡ v.held i s
  pub lasts : (i : ℕ) → w.last i ≡ v.last i
  pub space : w.space item + one_if fresh ≡ v.space item
  pub falls : (i : ℕ) → v.space i ≤ w.space i + one_if fresh
  pub rises : (i : ℕ) → w.space i ≤ v.space i

abbrev pub PutOutcome : View → View → ℕ → ℕ → ℕ → ℕ → Result Bool StoreFault → Type 0
PutOutcome v w item stamp code mark (Ok fresh) = PutDone v w item stamp code mark fresh
PutOutcome v w item stamp code mark (Err fault) = Refused (put_tests v item stamp code mark) v w fault

-- The item's last stamp becomes the later of itself and this one; all else stays.
pub record CommitDone (v w : View) (item stamp : ℕ) (rose : Bool) : Type 0 where
  pub passes : first_of (commit_tests v item stamp) ≡ None
  pub rises : rose ≡ later stamp (v.last item)
  pub last : w.last item ≡ later_of (v.last item) stamp
  pub lasts : (i : ℕ) → (i ≢ item) → w.last i ≡ v.last i
  pub held : (i s : ℕ) → w.held i s ≡ v.held i s
  pub spaces : (i : ℕ) → w.space i ≡ v.space i

abbrev pub CommitOutcome : View → View → ℕ → ℕ → Result Bool StoreFault → Type 0
CommitOutcome v w item stamp (Ok rose) = CommitDone v w item stamp rose
CommitOutcome v w item stamp (Err fault) = Refused (commit_tests v item stamp) v w fault

-- A question is refused for item 0 alone, and else answers the right version.
pub record Answered (item : ℕ) (right given : Version) : Type 0 where
  pub passes : first_of (question_tests item) ≡ None
  pub value : given ≡ right

abbrev pub AnswerOutcome : ℕ → Version → Result Version StoreFault → Type 0
AnswerOutcome item right (Ok x) = Answered item right x
AnswerOutcome item right (Err fault) = first_of (question_tests item) ≡ Some (number_of fault)

abbrev pub LastOutcome : View → ℕ → Result Version StoreFault → Type 0
LastOutcome v item r = AnswerOutcome item (last_version v item) r

abbrev pub PickOutcome : View → ℕ → List ℕ → Result Version StoreFault → Type 0
PickOutcome v item stamps r = AnswerOutcome item (picked (v.held item) stamps) r
