-- The lines of a sheet in words.
use Rattle.std.specs.Prelude.{ℕ, ◌/◌, ◌%◌, List, ◌++◌, Some, None, codes, decimal, Option}
use Rattle.blend.specs.declared.item.Kind.{Kind}
use Rattle.blend.specs.declared.item.Kind.TheVariants as kind
use Rattle.blend.specs.Texts.{kind_name, quantity_words, line_up_words, card_words}
use Rattle.blend.specs.Items.{kind_at}
use Rattle.sheet.specs.declared.entry.Entry.{Entry}
use Rattle.blend.specs.Codes.{quantity_at, line_up_at, card_at}

-- a body in words, or that there is none
abbrev pub or_no_body : {B : Type 0} → (B → Option (List ℕ)) → Option B → Option (List ℕ)
or_no_body words None = Some (codes "no body")
or_no_body words (Some b) = words b

abbrev pub words_of_kind : Kind → ℕ → List ℕ
words_of_kind kind.Quantity c = quantity_words (quantity_at c)
words_of_kind kind.LineUp c = line_up_words (line_up_at c)
words_of_kind kind.TankCard c = card_words (card_at c)

abbrev pub words_by : Option Kind → ℕ → List ℕ
words_by None c = codes "no body"
words_by (Some k) c = words_of_kind k c

abbrev pub body_words : ℕ → ℕ → List ℕ
body_words item c = words_by (kind_at item) c

abbrev pub entry_words_by : Option Kind → Entry → List ℕ
entry_words_by None e = codes "no item"
entry_words_by (Some k) e =
    codes "item " ++
    (decimal e.item ++
    (codes " " ++ (kind_name k ++ (codes " code " ++ (decimal e.code ++ (codes ": " ++ words_of_kind k e.code))))))

abbrev pub entry_words : Entry → List ℕ
entry_words e = entry_words_by (kind_at e.item) e

abbrev pub refused_line : ℕ → ℕ → List ℕ → List ℕ
refused_line line number reason =
    codes "line " ++ (decimal line ++ (codes ": refused " ++ (decimal number ++ (codes ": " ++ reason))))

abbrev pub stamp_words : ℕ → List ℕ
stamp_words s =
    codes "stamp " ++
    (decimal s ++ (codes ": writer " ++ (decimal (s % 16) ++ (codes " sequence " ++ decimal (s / 16)))))
