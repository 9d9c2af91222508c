-- Whether a code is of a body of its item's kind.
use Rattle.std.specs.Prelude.{◌≡◌, ℕ, Bool, true, false, is_some, Some, None, Option}
use Rattle.blend.specs.declared.item.Kind.{Kind}
use Rattle.blend.specs.declared.item.Kind.TheVariants as kind
use Rattle.blend.specs.declared.quantity.Quantity.{Quantity}
use Rattle.blend.specs.declared.line_up.LineUp.{LineUp}
use Rattle.blend.specs.declared.card.TankCard.{TankCard}
use Rattle.blend.specs.Items.{kind_at}
use Rattle.blend.specs.Codes.{quantity_code, quantity_at, line_up_code, line_up_at, card_code, card_at}

abbrev pub fits_kind : Kind → ℕ → Bool
fits_kind kind.Quantity c = is_some (quantity_at c)
fits_kind kind.LineUp c = is_some (line_up_at c)
fits_kind kind.TankCard c = is_some (card_at c)

abbrev pub fits_by : Option Kind → ℕ → Bool
fits_by None c = false
fits_by (Some k) c = fits_kind k c

abbrev pub fits : ℕ → ℕ → Bool
fits item c = fits_by (kind_at item) c

-- some body of the kind codes to it
abbrev pub SomeBody : Option Kind → ℕ → Type 0
SomeBody None c = ⊥
SomeBody (Some kind.Quantity) c = (b : Quantity) × (quantity_code b ≡ Some c)
SomeBody (Some kind.LineUp) c = (b : LineUp) × (line_up_code b ≡ Some c)
SomeBody (Some kind.TankCard) c = (b : TankCard) × (card_code b ≡ Some c)

-- the answer is yes exactly where a body of the item's kind codes to the code
pub record OfABody (item c : ℕ) (answer : Bool) : Type 0 where
  pub only : answer ≡ true → SomeBody (kind_at item) c
  pub always : SomeBody (kind_at item) c → answer ≡ true
