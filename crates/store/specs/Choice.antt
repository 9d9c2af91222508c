-- What a pick answers, in plain words.
use Rattle.std.specs.Prelude.{◌≡◌, ℕ, ◌<◌, true, false, ◌⊎◌, List, length, is_some, Some, None, Option, slice_index, slice_index_or}
use Rattle.blend.specs.Stamps.{later}
use Rattle.store.specs.Meaning.{Content, Version, blank, picked}

-- x is held and among the stamps, and no held one among them is later
pub record LatestOf (h : ℕ → Option Content) (stamps : List ℕ) (x : Version) : Type 0 where
  pub held : h x.0 ≡ Some (x.1, x.2)
  pub place : ℕ
  pub within : place < length stamps
  pub among : slice_index_or stamps place 0 ≡ x.0
  pub latest : (k : ℕ) → k < length stamps → is_some (h (slice_index stamps k)) ≡ true → later (slice_index stamps k) x.0 ≡ false

-- none of the stamps is held, and the answer is the blank
pub record NoneOf (h : ℕ → Option Content) (stamps : List ℕ) (x : Version) : Type 0 where
  pub nothing : (k : ℕ) → k < length stamps → h (slice_index stamps k) ≡ None
  pub answer : x ≡ blank

abbrev pub PicksTheLatest : Type 0
PicksTheLatest =
    (h : ℕ → Option Content) (stamps : List ℕ) → LatestOf h stamps (picked h stamps) ⊎ NoneOf h stamps (picked h stamps)
