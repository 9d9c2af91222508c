-- Fields at a place of a byte buffer.
use Rattle.std.specs.Prelude.{ℕ, ◌+◌, Bool, cond, not, List, ◌++◌, length, take, drop, Some, None, Option, nat_lt}
use Rattle.std.specs.Int.Digits.{number_from_digits}

-- so many bytes from a place on are within
abbrev pub within : ℕ → ℕ → List ℕ → Bool
within at n bs = not (nat_lt (length bs) (at + n))

-- the number in the bytes at a place, absent where they are not all there
abbrev pub field_at : ℕ → ℕ → List ℕ → Option ℕ
field_at w at bs = cond (within at w bs) (Some (number_from_digits 256 (take w (drop at bs)))) None

-- bytes laid over those at a place; all stays where they do not fit
abbrev pub over : ℕ → List ℕ → List ℕ → List ℕ
over at bs out = cond (within at (length bs) out) (take at out ++ (bs ++ drop (at + length bs) out)) out
