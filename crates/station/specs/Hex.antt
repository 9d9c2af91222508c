-- Bytes as hexadecimal digits.
use Rattle.std.specs.Prelude.{◌≡◌, ℕ, ◌+◌, ◌-◌, ◌*◌, ◌/◌, ◌%◌, ◌<◌, cond, ◌&&◌, List, [], ◌∷◌, ◌++◌, Some, None, Ok, Err, vec_items, Option, Result, Vec, nat_le, ⊤}
use Rattle.std.specs.Char.{digit_char}
use Rattle.std.specs.List.{flat_map}
use Rattle.text.specs.Tokens.{is_blank}
use Rattle.station.specs.declared.fault.HexFault.{HexFault}
use Rattle.station.specs.declared.fault.HexFault.TheVariants.{Digit, Odd}
use Rattle.station.specs.declared.fault.HexError.{HexError}
use Rattle.station.specs.declared.fault.HexError.TheVariants.{Fault, Memory}

-- 0 to 9, a to f, A to F
abbrev pub hex_value : ℕ → Option ℕ
hex_value c =
    cond (nat_le 48 c && nat_le c 57) (Some (c - 48))
    (cond (nat_le 97 c && nat_le c 102) (Some (c - 97 + 10)) (cond (nat_le 65 c && nat_le c 70) (Some (c - 65 + 10)) None))

-- a digit that is there is below 16
abbrev pub Small : Option ℕ → Type 0
Small None = Unit {0}
Small (Some d) = d < 16

-- the bytes so far, and the first digit of the next, if it is read
abbrev pub State : Type 0
State = List ℕ × Option ℕ

-- a blank stands between bytes
abbrev pub at_blank : List ℕ → Option ℕ → Result State HexFault
at_blank xs None = Ok (xs, None)
at_blank xs (Some d) = Err Odd

abbrev pub at_digit : List ℕ → Option ℕ → Option ℕ → Result State HexFault
at_digit xs half None = Err Digit
at_digit xs None (Some d) = Ok (xs, Some d)
at_digit xs (Some h) (Some d) = Ok (xs ++ (h * 16 + d) ∷ [], None)

-- one more character
abbrev pub hex_step : State → ℕ → Result State HexFault
hex_step x c = cond (is_blank c) (at_blank x.0 x.1) (at_digit x.0 x.1 (hex_value c))

abbrev pub at_end : List ℕ → Option ℕ → Result (List ℕ) HexFault
at_end xs None = Ok xs
at_end xs (Some d) = Err Odd

-- the first fault ends the reading
abbrev pub hex_after : Result State HexFault → List ℕ → Result (List ℕ) HexFault
hex_after (Err f) cs = Err f
hex_after (Ok x) [] = at_end x.0 x.1
hex_after (Ok x) (c ∷ cs) = hex_after (hex_step x c) cs

-- the bytes of a line
abbrev pub hex_of : List ℕ → Result (List ℕ) HexFault
hex_of line = hex_after (Ok ([], None)) line

-- what one more character came to: the bytes after it, and the first digit of the next; of want of memory nothing is said
abbrev pub Steps : Result State HexFault → List ℕ → Result (Option ℕ) HexError → Type 0
Steps right xs (Ok half) = Ok (xs, half) ≡ right
Steps right xs (Err (Fault f)) = Err f ≡ right
Steps right xs (Err (Memory e)) = ⊤

-- what was read is right, or the fault; of want of memory nothing is said
abbrev pub Reads : {Z : Type 0} → Result (List ℕ) HexFault → Result (Vec ℕ Z) HexError → Type 0
Reads right (Ok v) = Ok (vec_items v) ≡ right
Reads right (Err (Fault f)) = Err f ≡ right
Reads right (Err (Memory e)) = ⊤

-- a blank and two digits
abbrev pub byte_hex : ℕ → List ℕ
byte_hex b = 32 ∷ digit_char (b / 16) ∷ digit_char (b % 16) ∷ []

abbrev pub hex_line : List ℕ → List ℕ
hex_line bs = flat_map byte_hex bs
