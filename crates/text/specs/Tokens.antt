-- The tokens of a line.
use Rattle.std.specs.Prelude.{ℕ, ◌+◌, Bool, false, cond, ◌||◌, List, [], ◌∷◌, ◌++◌, Some, None, Option, ◌==◌, slice_index_or}
use Rattle.text.specs.declared.word.Word.{Word}
use Rattle.text.specs.declared.token.Token.{Token}
use Rattle.text.specs.declared.token.Token.TheVariants.{Number, Name, Other}
use Rattle.text.specs.Words.{index_of, word_at}
use Rattle.text.specs.Numbers.{number_at}

-- space, tab, carriage return
abbrev pub is_blank : ℕ → Bool
is_blank b = b == 32 || (b == 9 || b == 13)

abbrev pub named : Option Word → Token
named None = Other
named (Some w) = Name w

abbrev pub numbered : Option ℕ → Option Word → Token
numbered None w = named w
numbered (Some n) w = Number n

-- a number, else a word, else neither
abbrev pub token_at : List ℕ → Token
token_at t = numbered (number_at t) (word_at t)

-- the token of the bytes read so far, if there are any
abbrev pub token_if : List ℕ → List Token
token_if [] = []
token_if (b ∷ bs) = token_at (b ∷ bs) ∷ []

-- the tokens of a line whose bytes since the last blank are w
abbrev pub tokens_from : List ℕ → List ℕ → List Token
tokens_from w [] = token_if w
tokens_from w (b ∷ bs) = cond (is_blank b) (token_if w ++ tokens_from [] bs) (tokens_from (w ++ b ∷ []) bs)

abbrev pub tokens_of : List ℕ → List Token
tokens_of line = tokens_from [] line

abbrev pub number_in : Token → Option ℕ
number_in (Number n) = Some n
number_in (Name w) = None
number_in Other = None

abbrev pub is_word : Token → Word → Bool
is_word (Number n) w = false
is_word (Name v) w = index_of v == index_of w
is_word Other w = false

-- the number after a word that stands at a place; past the end stands neither
abbrev pub field_at : List Token → ℕ → Word → Option ℕ
field_at line p w = cond (is_word (slice_index_or line p Other) w) (number_in (slice_index_or line (p + 1) Other)) None
