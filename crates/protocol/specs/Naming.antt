-- The naming rule that the service is given, and its law.
use Rattle.std.specs.Prelude.{◌≡◌, ℕ, zero, suc, ◌<◌, Bool, true, false, List, [], ◌∷◌, length, slice_index}

pub record Naming : Type 0 where
  -- the mark of eight items, 0 at an empty place
  pub marks : List ℕ → ℕ
  -- whether a mark names an item
  pub names : ℕ → ℕ → Bool
  -- whether a read always asks twice
  pub twice : Bool

abbrev pub Bytes : List ℕ → Type 0
Bytes items = (k : ℕ) → slice_index items k < 256

pub record Lawful (ν : Naming) : Type 0 where
  pub complete :
      (items : List ℕ) → length items ≡ 8 → Bytes items →
      (k : ℕ) → 0 < slice_index items k → ν.names (ν.marks items) (slice_index items k) ≡ true
  pub nonzero : (mark : ℕ) → ν.names mark 0 ≡ false

-- the first n places of a list, with 0 past its end
abbrev pub padded : ℕ → List ℕ → List ℕ
padded zero l = []
padded (suc n) [] = 0 ∷ padded n []
padded (suc n) (x ∷ l) = x ∷ padded n l

-- the mark of an order's items
abbrev pub mark_for : Naming → List ℕ → ℕ
mark_for ν items = ν.marks (padded 8 items)
