-- Refusals are numbers: the number of each refusal of plain input, and which of a call's tests refuses.
use Rattle.std.specs.Prelude.{ℕ, Bool, cond, List as ListOf, [], ◌∷◌, Some, None, Option}
use Rattle.blend.specs.declared.refusal.Refusal.{Refusal}
use Rattle.blend.specs.declared.refusal.Refusal.TheVariants.{Writer, Sequence, List, Item, NoBody}

abbrev pub number_of : Refusal → ℕ
number_of Writer = 10
number_of Sequence = 12
number_of List = 13
number_of Item = 14
number_of NoBody = 15

-- the tests of a call in the order in which they are made, each with the number that it refuses with
abbrev pub Tests : Type 0
Tests = ListOf (ℕ × Bool)

-- the number of the first test that fires; none where the call is accepted
abbrev pub first_of : Tests → Option ℕ
first_of [] = None
first_of (t ∷ ts) = cond t.1 (Some t.0) (first_of ts)
