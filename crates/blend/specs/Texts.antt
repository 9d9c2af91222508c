-- Kinds and bodies in words.
use Rattle.std.specs.Prelude.{ℕ, List, ◌++◌, Some, None, codes, decimal, Option}
use Rattle.blend.specs.declared.item.Kind.{Kind}
use Rattle.blend.specs.declared.item.Kind.TheVariants as kind
use Rattle.blend.specs.declared.quantity.Quantity.{Quantity}
use Rattle.blend.specs.declared.line_up.LineUp.{LineUp}
use Rattle.blend.specs.declared.card.TankCard.{TankCard}

abbrev pub kind_name : Kind → List ℕ
kind_name kind.Quantity = codes "quantity"
kind_name kind.LineUp = codes "line-up"
kind_name kind.TankCard = codes "tank card"

abbrev pub quantity_words : Option Quantity → List ℕ
quantity_words None = codes "no body"
quantity_words (Some q) = codes "volume " ++ (decimal q.litres ++ (codes " rate " ++ decimal q.rate))

abbrev pub line_up_words : Option LineUp → List ℕ
line_up_words None = codes "no body"
line_up_words (Some x) =
    codes "from " ++
    (decimal x.source ++ (codes " to " ++ (decimal x.destination ++ (codes " valves " ++ decimal x.valves))))

abbrev pub card_words : Option TankCard → List ℕ
card_words None = codes "no body"
card_words (Some x) = codes "tank " ++ (decimal x.tank ++ (codes " limit " ++ decimal x.limit))
