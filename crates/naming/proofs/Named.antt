-- What the list rule finds in its mark.
use Rattle.std.specs.Prelude.{◌≡◌, ℕ, Bool, List, nat_eq, refl}
use Rattle.std.specs.List.{IsAnyAnswer}
use Rattle.std.proofs.lemmas.List.Elements.{contains_decides}
use Rattle.std.proofs.lemmas.Bool.Decides.{same_from_decides, Decides-by_or, Decides-eqb}
use Rattle.blend.specs.Lists.{has}

-- what `contains` answers
pub has_is : (i : ℕ) (xs : List ℕ) (r : Bool) → IsAnyAnswer (λ y t. nat_eq y i ≡ t) xs r → r ≡ has i xs
has_is i xs r h =
    same_from_decides r (has i xs) (contains_decides nat_eq Decides-eqb xs i r h)
    (Decides-by_or (λ x. nat_eq x i) (λ x. x ≡ i) (has i) (λ x. Decides-eqb x i) refl (λ _ _. refl) xs)
