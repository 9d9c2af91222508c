-- The marks of the three rules, and which items they name.
use Rattle.std.specs.Prelude.{ℕ, ◌+◌, ◌*◌, ◌/◌, ◌%◌, ◌^◌, Bool, true, false, cond, ◌&&◌, List, [], ◌∷◌, fold, ◌==◌, bit_or, nat_lt, slice_index}
use Rattle.blend.specs.Lists.{has}
use Rattle.protocol.specs.Naming.{Naming}

-- ── list rule: the eight bytes, the first one highest ──

abbrev pub list_mark : List ℕ → ℕ
list_mark xs =
    slice_index xs 0 * 256 ^ 7 + slice_index xs 1 * 256 ^ 6 + slice_index xs 2 * 256 ^ 5 + slice_index xs 3 * 256 ^ 4 + slice_index xs 4 * 256 ^ 3 +
    slice_index xs 5 * 256 ^ 2 + slice_index xs 6 * 256 + slice_index xs 7

abbrev pub bytes_of : ℕ → List ℕ
bytes_of m =
    (m / 256 ^ 7 % 256) ∷ (m / 256 ^ 6 % 256) ∷ (m / 256 ^ 5 % 256) ∷ (m / 256 ^ 4 % 256) ∷ (m / 256 ^ 3 % 256) ∷
    (m / 256 ^ 2 % 256) ∷ (m / 256 % 256) ∷ (m % 256) ∷ []

abbrev pub list_names : ℕ → ℕ → Bool
list_names m i = nat_lt 0 i && has i (bytes_of m)

abbrev pub list_rule : Naming
list_rule = record { marks = list_mark; names = list_names; twice = false }

-- ── stamp rule: no mark, and any item may be named ──

abbrev pub stamp_mark : List ℕ → ℕ
stamp_mark xs = 0

abbrev pub stamp_names : ℕ → ℕ → Bool
stamp_names m i = nat_lt 0 i

abbrev pub stamp_rule : Naming
stamp_rule = record { marks = stamp_mark; names = stamp_names; twice = true }

-- ── filter rule: item i sets the bits i mod 64 and i div 4 ──

abbrev pub has_bit : ℕ → ℕ → Bool
has_bit m b = m / 2 ^ b % 2 == 1

-- an empty place sets no bit
abbrev pub bits_of : ℕ → ℕ
bits_of i = cond (nat_lt 0 i) (bit_or (2 ^ (i % 64)) (2 ^ (i / 4))) 0

abbrev pub filter_mark : List ℕ → ℕ
filter_mark xs = fold (λ m i. bit_or m (bits_of i)) 0 xs

abbrev pub filter_names : ℕ → ℕ → Bool
filter_names m i = nat_lt 0 i && (has_bit m (i % 64) && has_bit m (i / 4))

abbrev pub filter_rule : Naming
filter_rule = record { marks = filter_mark; names = filter_names; twice = false }
