-- The permit: whether a blend may start, by the line-up, the quantity and the tank card that a read shows.
use Rattle.std.specs.Prelude.{◌≡◌, ℕ, ◌≤◌, Bool, true, false, cond, not, ◌&&◌, Some, None, Option, ◌==◌, nat_le, slice_index}
use Rattle.blend.specs.declared.item.Kind.TheVariants as kind
use Rattle.blend.specs.declared.line_up.LineUp.{LineUp}
use Rattle.blend.specs.declared.quantity.Quantity.{Quantity}
use Rattle.blend.specs.declared.card.TankCard.{TankCard}
use Rattle.blend.specs.Items.{of_kind}
use Rattle.blend.specs.Codes.{line_up_at, quantity_at, card_at}
use Rattle.store.specs.Meaning.{Version}
use Rattle.protocol.specs.State.{OpenRead}

-- the body of a version; the blank has none, whatever its code would decode to
abbrev pub body_of : {B : Type 0} → (ℕ → Option B) → Version → Option B
body_of decodes v = cond (v.0 == 0) None (decodes v.1)

-- none is blank, the card is of the destination, and the volume is at most the limit
abbrev pub permits : Option LineUp → Option Quantity → Option TankCard → Bool
permits None q c = false
permits (Some l) None c = false
permits (Some l) (Some q) None = false
permits (Some l) (Some q) (Some c) = c.tank == l.destination && nat_le q.litres c.limit

-- the same as a fact
pub record Permitted (l : Option LineUp) (q : Option Quantity) (c : Option TankCard) : Type 0 where
  pub line_up : LineUp
  pub shows_line_up : l ≡ Some line_up
  pub quantity : Quantity
  pub shows_quantity : q ≡ Some quantity
  pub card : TankCard
  pub shows_card : c ≡ Some card
  pub tank : card.tank ≡ line_up.destination
  pub within : quantity.litres ≤ card.limit

-- the answer is yes exactly where it is permitted
pub record Permit (l : Option LineUp) (q : Option Quantity) (c : Option TankCard) (answer : Bool) : Type 0 where
  pub only : answer ≡ true → Permitted l q c
  pub always : Permitted l q c → answer ≡ true

-- a place of the three is not of its kind
abbrev pub other_kinds : OpenRead → ℕ → ℕ → ℕ → Bool
other_kinds x l q c =
    not (of_kind (slice_index x.items l) kind.LineUp &&
    (of_kind (slice_index x.items q) kind.Quantity && of_kind (slice_index x.items c) kind.TankCard))

-- what the places of a read show
abbrev pub permit_at : OpenRead → ℕ → ℕ → ℕ → Bool
permit_at x l q c = permits (body_of line_up_at (x.kept l)) (body_of quantity_at (x.kept q)) (body_of card_at (x.kept c))
