-- The text of each reason.
use Rattle.std.specs.Prelude.{ℕ, List, ⊤, codes}
use Rattle.station.specs.declared.fault.HexFault.{HexFault}
use Rattle.station.specs.declared.fault.HexFault.TheVariants.{Digit, Odd}
use Rattle.station.specs.declared.fault.HexError.{HexError}
use Rattle.station.specs.declared.fault.HexError.TheVariants.{Fault, Memory}

abbrev pub hex_reason : HexFault → List ℕ
hex_reason Digit = codes "a character is no hexadecimal digit"
hex_reason Odd = codes "a byte has one digit"

abbrev pub IsMemory : HexError → Type 0
IsMemory (Fault f) = ⊥
IsMemory (Memory e) = ⊤

abbrev pub error_words : HexError → List ℕ
error_words (Fault f) = hex_reason f
error_words (Memory e) = codes "memory allocation failed"
