-- Eight places, and what stands in each.
use Rattle.std.specs.Prelude.{ℕ, false, List, [], ◌∷◌, None, slice_index}
use Rattle.store.specs.Meaning.{blank}
use Rattle.rows.specs.declared.order.OrderPlace.{OrderPlace}
use Rattle.rows.specs.declared.read.ReadPlace.{ReadPlace}

abbrev pub in_eight : {A : Type 0} → (ℕ → A) → List A
in_eight f = f 0 ∷ f 1 ∷ f 2 ∷ f 3 ∷ f 4 ∷ f 5 ∷ f 6 ∷ f 7 ∷ []

-- the places of a new order and of a new read; item and code 0 past the lists
abbrev pub filed_place : List ℕ → List ℕ → ℕ → OrderPlace
filed_place items codes k = record { item = slice_index items k; code = slice_index codes k; prepared = false; committed = false }

abbrev pub opened_place : List ℕ → ℕ → ReadPlace
opened_place items k = record { item = slice_index items k; first = None; again = false; kept = blank }
