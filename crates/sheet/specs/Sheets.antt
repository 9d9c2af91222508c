-- What a sheet has taken.
use Rattle.std.specs.Prelude.{ℕ, cond, List, [], ◌∷◌, ◌++◌, length, take, Ok, Err, Result, nat_le}
use Rattle.blend.specs.Lists.{has}
use Rattle.sheet.specs.declared.entry.Entry.{Entry}
use Rattle.sheet.specs.declared.rows.Sheet.{Sheet}
use Rattle.sheet.specs.declared.fault.LineFault.{LineFault}
use Rattle.sheet.specs.declared.fault.LineFault.TheVariants.{Full, Twice}

abbrev pub items_of : Sheet → List ℕ
items_of s = take s.count s.items

abbrev pub codes_of : Sheet → List ℕ
codes_of s = take s.count s.codes

-- the line is read by itself; then a ninth item is refused, then an item twice
abbrev pub taken : List ℕ → Result Entry LineFault → Result Entry LineFault
taken items (Err f) = Err f
taken items (Ok e) = cond (nat_le 8 (length items)) (Err Full) (cond (has e.item items) (Err Twice) (Ok e))

abbrev pub items_after : Result Entry LineFault → List ℕ → List ℕ
items_after (Err f) items = items
items_after (Ok e) items = items ++ e.item ∷ []

abbrev pub codes_after : Result Entry LineFault → List ℕ → List ℕ
codes_after (Err f) codes = codes
codes_after (Ok e) codes = codes ++ e.code ∷ []
