-- The numbers after the word of a call.
use Rattle.std.specs.Prelude.{◌≡◌, ℕ, cond, List, length, Some, None, Ok, Err, Option, Result, ◌==◌, nat_le, slice_index_or}
use Rattle.text.specs.declared.token.Token.{Token}
use Rattle.text.specs.declared.token.Token.TheVariants.{Other}
use Rattle.text.specs.Tokens.{number_in}
use Rattle.script.specs.declared.fault.ScriptFault.{ScriptFault}
use Rattle.script.specs.declared.fault.ScriptFault.TheVariants.{Numbers, TooLarge}

-- a number up to a bound
abbrev pub at_most : ℕ → Option ℕ → Result ℕ ScriptFault
at_most most None = Err Numbers
at_most most (Some n) = cond (nat_le n most) (Ok n) (Err TooLarge)

abbrev pub byte_at : List Token → ℕ → Result ℕ ScriptFault
byte_at line p = at_most 255 (number_in (slice_index_or line p Other))

-- 32 bits
abbrev pub sequence_at : List Token → ℕ → Result ℕ ScriptFault
sequence_at line p = at_most 4294967295 (number_in (slice_index_or line p Other))

abbrev pub paired : Result ℕ ScriptFault → Result ℕ ScriptFault → Result (ℕ × ℕ) ScriptFault
paired (Err f) y = Err f
paired (Ok a) (Err f) = Err f
paired (Ok a) (Ok b) = Ok (a, b)

-- the word and one number
abbrev pub one_byte : List Token → Result ℕ ScriptFault
one_byte line = cond (length line == 2) (byte_at line 1) (Err Numbers)

-- the word and two numbers
abbrev pub two_bytes : List Token → Result (ℕ × ℕ) ScriptFault
two_bytes line = cond (length line == 3) (paired (byte_at line 1) (byte_at line 2)) (Err Numbers)

abbrev pub or_too_large : {T E : Type 0} → Result T E → Result T ScriptFault
or_too_large (Ok x) = Ok x
or_too_large (Err e) = Err TooLarge

-- a number as the value that its conversion gives, if it gives one
abbrev pub Narrowed : {T E : Type 0} → (ℕ → Result T E → Type 0) → Option ℕ → Result T ScriptFault → Type 0
Narrowed gives None r = r ≡ Err Numbers
Narrowed {T} {E} gives (Some n) r = (x : Result T E) × gives n x × (r ≡ or_too_large x)
