-- The lists of a call: entries as a sheet has them, one after another, and items.
use Rattle.std.specs.Prelude.{ℕ, zero, suc, min, List, [], ◌∷◌, ◌++◌, length, take, drop, Some, None, Ok, Err, vec_items, Option, Result, slice_index_or}
use Rattle.blend.specs.declared.item.Kind.{Kind}
use Rattle.blend.specs.declared.item.Kind.TheVariants as kind
use Rattle.blend.specs.Items.{kind_at}
use Rattle.text.specs.declared.token.Token.{Token}
use Rattle.text.specs.declared.token.Token.TheVariants.{Other}
use Rattle.text.specs.Tokens.{number_in}
use Rattle.sheet.specs.declared.entry.Entry.{Entry}
use Rattle.sheet.specs.declared.fault.LineFault.{LineFault}
use Rattle.sheet.specs.Lines.{entry_in}
use Rattle.script.specs.declared.entries.Lists.{Lists}
use Rattle.script.specs.declared.fault.ScriptFault.{ScriptFault}
use Rattle.script.specs.declared.fault.ScriptFault.TheVariants as fault
use Rattle.script.specs.Numbers.{at_most}

-- an item, then a word and a number for each field
abbrev pub width_of : Option Kind → ℕ
width_of None = 1
width_of (Some kind.Quantity) = 5
width_of (Some kind.LineUp) = 7
width_of (Some kind.TankCard) = 5

abbrev pub width_at : Result ℕ ScriptFault → ℕ
width_at (Err f) = 1
width_at (Ok n) = width_of (kind_at n)

-- the tokens of the entry that a list begins with, as far as the list goes
abbrev pub part_of : List Token → ℕ
part_of ts = min (width_at (at_most 255 (number_in (slice_index_or ts 0 Other)))) (length ts)

abbrev pub with_entry : List ℕ × List ℕ → Result Entry LineFault → Result (List ℕ × List ℕ) ScriptFault
with_entry x (Err f) = Err (fault.Entry f)
with_entry x (Ok e) = Ok (x.0 ++ e.item ∷ [], x.1 ++ e.code ∷ [])

-- the items and codes so far, then those of at most n entries
abbrev pub entries_onto : ℕ → Result (List ℕ × List ℕ) ScriptFault → List Token → Result (List ℕ × List ℕ) ScriptFault
entries_onto n (Err f) ts = Err f
entries_onto zero (Ok x) ts = Ok x
entries_onto (suc n) (Ok x) [] = Ok x
entries_onto (suc n) (Ok x) (t ∷ ts) =
    entries_onto n (with_entry x (entry_in (take (part_of (t ∷ ts)) (t ∷ ts)))) (drop (part_of (t ∷ ts)) (t ∷ ts))

-- the items and codes of a list of entries
abbrev pub entries_in : List Token → Result (List ℕ × List ℕ) ScriptFault
entries_in ts = entries_onto (length ts) (Ok ([], [])) ts

abbrev pub with_byte : List ℕ → Result ℕ ScriptFault → Result (List ℕ) ScriptFault
with_byte xs (Err f) = Err f
with_byte xs (Ok n) = Ok (xs ++ n ∷ [])

abbrev pub bytes_onto : Result (List ℕ) ScriptFault → List Token → Result (List ℕ) ScriptFault
bytes_onto (Err f) ts = Err f
bytes_onto (Ok xs) [] = Ok xs
bytes_onto (Ok xs) (t ∷ ts) = bytes_onto (with_byte xs (at_most 255 (number_in t))) ts

-- every token is a number of one byte
abbrev pub bytes_in : List Token → Result (List ℕ) ScriptFault
bytes_in ts = bytes_onto (Ok []) ts

-- the items and the codes that the read lists hold
abbrev pub lists_of : Lists → List ℕ × List ℕ
lists_of l = (vec_items l.items, vec_items l.codes)

-- what was read, in other terms; a fault stays
abbrev pub in_terms : {X Y : Type 0} → (X → Y) → Result X ScriptFault → Result Y ScriptFault
in_terms f (Err e) = Err e
in_terms f (Ok x) = Ok (f x)
