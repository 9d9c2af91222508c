-- The widths of the fields that frames and journal records hold: item 1, stamp 4, code 8, mark 8.
use Rattle.std.specs.Prelude.{ℕ, cond, List, [], ◌∷◌, length, Some, None, Option, ◌==◌, slice_index}
use Rattle.layout.specs.Layout.{parsed}

-- stamp, code, mark
abbrev pub version_widths : List ℕ
version_widths = 4 ∷ 8 ∷ 8 ∷ []

abbrev pub put_widths : List ℕ
put_widths = 1 ∷ version_widths

abbrev pub commit_widths : List ℕ
commit_widths = 1 ∷ 4 ∷ []

-- the three values of a version
abbrev pub triple : List ℕ → ℕ × ℕ × ℕ
triple vs = (slice_index vs 0, slice_index vs 1, slice_index vs 2)

-- the version that twenty bytes hold
abbrev pub version_in : List ℕ → Option (ℕ × ℕ × ℕ)
version_in bs = cond (length bs == 20) (Some (triple (parsed version_widths bs))) None
