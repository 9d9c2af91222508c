-- What a line of a sheet says: an item number, then the fields of a body of the item's kind, each a word and a number.
use Rattle.std.specs.Prelude.{ℕ, Bool, cond, List, length, Some, None, Ok, Err, Option, Result, ◌==◌, nat_le, slice_index_or}
use Rattle.blend.specs.declared.item.Kind.{Kind}
use Rattle.blend.specs.declared.item.Kind.TheVariants as kind
use Rattle.blend.specs.Items.{kind_at}
use Rattle.blend.specs.Codes.{quantity_code, line_up_code, card_code}
use Rattle.text.specs.declared.token.Token.{Token}
use Rattle.text.specs.declared.token.Token.TheVariants.{Other}
use Rattle.text.specs.declared.word.Word.TheVariants.{Volume, Rate, From, To, Valves, Tank, Limit}
use Rattle.text.specs.Tokens.{number_in, field_at}
use Rattle.sheet.specs.declared.entry.Entry.{Entry}
use Rattle.sheet.specs.declared.fault.LineFault.{LineFault}
use Rattle.sheet.specs.declared.fault.LineFault.TheVariants.{Item, Fields, Body}

-- a code, or values that make no body
abbrev pub body_code : Option ℕ → Result ℕ LineFault
body_code None = Err Body
body_code (Some c) = Ok c

abbrev pub with_two : Option ℕ → Option ℕ → Bool → (ℕ → ℕ → Option ℕ) → Result ℕ LineFault
with_two None y whole f = Err Fields
with_two (Some a) None whole f = Err Fields
with_two (Some a) (Some b) whole f = cond whole (body_code (f a b)) (Err Fields)

abbrev pub with_three : Option ℕ → Option ℕ → Option ℕ → Bool → (ℕ → ℕ → ℕ → Option ℕ) → Result ℕ LineFault
with_three None y z whole f = Err Fields
with_three (Some a) y z whole f = with_two y z whole (f a)

-- volume N rate N
abbrev pub quantity_in : List Token → Result ℕ LineFault
quantity_in line =
    with_two (field_at line 1 Volume) (field_at line 3 Rate) (length line == 5)
    (λ v r. quantity_code (record { litres = v; rate = r }))

-- from N to N valves N
abbrev pub line_up_in : List Token → Result ℕ LineFault
line_up_in line =
    with_three (field_at line 1 From) (field_at line 3 To) (field_at line 5 Valves) (length line == 7)
    (λ s d v. line_up_code (record { source = s; destination = d; valves = v }))

-- tank N limit N
abbrev pub card_in : List Token → Result ℕ LineFault
card_in line =
    with_two (field_at line 1 Tank) (field_at line 3 Limit) (length line == 5)
    (λ t l. card_code (record { tank = t; limit = l }))

abbrev pub as_item : Option ℕ → Result ℕ LineFault
as_item None = Err Item
as_item (Some n) = cond (nat_le n 255) (Ok n) (Err Item)

-- the number at the head, if it is a byte
abbrev pub item_in : List Token → Result ℕ LineFault
item_in line = as_item (number_in (slice_index_or line 0 Other))

abbrev pub code_in : Kind → List Token → Result ℕ LineFault
code_in kind.Quantity line = quantity_in line
code_in kind.LineUp line = line_up_in line
code_in kind.TankCard line = card_in line

abbrev pub entry_with : ℕ → Result ℕ LineFault → Result Entry LineFault
entry_with i (Ok c) = Ok (record { item = i; code = c })
entry_with i (Err e) = Err e

abbrev pub entry_of_kind : ℕ → Option Kind → List Token → Result Entry LineFault
entry_of_kind i None line = Err Item
entry_of_kind i (Some k) line = entry_with i (code_in k line)

abbrev pub entry_of_item : Result ℕ LineFault → List Token → Result Entry LineFault
entry_of_item (Ok i) line = entry_of_kind i (kind_at i) line
entry_of_item (Err e) line = Err e

abbrev pub entry_in : List Token → Result Entry LineFault
entry_in line = entry_of_item (item_in line) line
