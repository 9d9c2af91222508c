-- What it comes to that a version is published: put, then committed, then the last one asked for.
use Rattle.std.specs.Prelude.{◌≡◌, ℕ, ◌+◌, ◌≤◌, not, is_some, Some, None, Ok, Err, Result, ◌≢◌}
use Rattle.blend.specs.Refusals.{first_of}
use Rattle.blend.specs.Stamps.{later_of}
use Rattle.store.specs.declared.StoreFault.{StoreFault}
use Rattle.store.specs.Meaning.{View, Version, last_version}
use Rattle.store.specs.Tests.{put_tests}
use Rattle.store.specs.Outcomes.{one_if, Refused}

-- taken where the version was not held before
abbrev pub taken : View → ℕ → ℕ → ℕ
taken v item stamp = one_if (not (is_some (v.held item stamp)))

-- The version is held and the item's last stamp is the later of what it was and this one; all else is as a put leaves it.
pub record Published (v w : View) (item stamp code mark : ℕ) (x : Version) : Type 0 where
  pub passes : first_of (put_tests v item stamp code mark) ≡ None
  pub held : w.held item stamp ≡ Some (code, mark)
  pub others : (i s : ℕ) → (i ≡ item → s ≢ stamp) → w.held i s ≡ v.held i s
  pub last : w.last item ≡ later_of (v.last item) stamp
  pub lasts : (i : ℕ) → (i ≢ item) → w.last i ≡ v.last i
  pub space : w.space item + taken v item stamp ≡ v.space item
  pub falls : (i : ℕ) → v.space i ≤ w.space i + taken v item stamp
  pub rises : (i : ℕ) → w.space i ≤ v.space i
  pub answer : x ≡ last_version w item

-- refused as the put is, and nothing changed
abbrev pub PublishOutcome : View → View → ℕ → ℕ → ℕ → ℕ → Result Version StoreFault → Type 0
PublishOutcome v w item stamp code mark (Ok x) = Published v w item stamp code mark x
PublishOutcome v w item stamp code mark (Err fault) = Refused (put_tests v item stamp code mark) v w fault

-- nothing of the item is held or committed, and there is space for two
pub record TakesTwo (v : View) (item : ℕ) : Type 0 where
  pub held : (s : ℕ) → v.held item s ≡ None
  pub last : v.last item ≡ 0
  pub space : 2 ≤ v.space item
