-- Decimal numbers below 2^64.
use Rattle.std.specs.Prelude.{ℕ, ◌+◌, ◌-◌, ◌*◌, ◌^◌, Bool, cond, ◌&&◌, List, [], ◌∷◌, Some, None, Option, nat_le, nat_lt}

abbrev pub is_digit : ℕ → Bool
is_digit b = nat_le 48 b && nat_le b 57

abbrev pub one_digit_more : ℕ → ℕ → ℕ
one_digit_more n b = n * 10 + (b - 48)

-- the number n with one digit after it, as far as 64 bits reach
abbrev pub digit_after : ℕ → ℕ → Option ℕ
digit_after n b = cond (is_digit b && nat_lt (one_digit_more n b) (2 ^ 64)) (Some (one_digit_more n b)) None

-- the number n, if it is there, with the digits after it
abbrev pub digits_after : Option ℕ → List ℕ → Option ℕ
digits_after None bs = None
digits_after (Some n) [] = Some n
digits_after (Some n) (b ∷ bs) = digits_after (digit_after n b) bs

-- at least one digit
abbrev pub number_at : List ℕ → Option ℕ
number_at [] = None
number_at (b ∷ bs) = digits_after (Some 0) (b ∷ bs)
