-- Items by number: 1 to 99 are quantities, 100 to 199 line-ups, 200 to 255 tank cards.
use Rattle.std.specs.Prelude.{ℕ, Bool, false, cond, Some, None, Option, ◌==◌, nat_le}
use Rattle.blend.specs.declared.item.Kind.{Kind}
use Rattle.blend.specs.declared.item.Kind.TheVariants.{Quantity, LineUp, TankCard}

abbrev pub kind_number : Kind → ℕ
kind_number Quantity = 1
kind_number LineUp = 2
kind_number TankCard = 3

-- no kind for 0, nor past 255
abbrev pub kind_at : ℕ → Option Kind
kind_at i =
    cond (i == 0) None (cond (nat_le i 99) (Some Quantity) (cond (nat_le i 199) (Some LineUp) (cond (nat_le i 255) (Some TankCard) None)))

abbrev pub same_kind : Option Kind → Kind → Bool
same_kind None k = false
same_kind (Some j) k = kind_number j == kind_number k

-- whether an item is of a kind
abbrev pub of_kind : ℕ → Kind → Bool
of_kind i k = same_kind (kind_at i) k
