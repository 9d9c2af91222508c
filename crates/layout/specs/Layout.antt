-- Numbers laid out as bytes, high byte first, by a list of widths in bytes.
use Rattle.std.specs.Prelude.{◌≡◌, ℕ, zero, suc, ◌+◌, ◌*◌, ◌/◌, ◌%◌, ◌^◌, ◌<◌, List, [], ◌∷◌, ◌++◌, length, take, drop}
use Rattle.std.specs.Int.Digits.{number_from_digits, AllBelowBase}

-- the low bytes of a number, as many as the width
abbrev pub bytes_of : ℕ → ℕ → List ℕ
bytes_of zero n = []
bytes_of (suc w) n = (n / 2 ^ (8 * w) % 256) ∷ bytes_of w n

-- the bytes of the values, each at its width
abbrev pub laid : List ℕ → List ℕ → List ℕ
laid [] vs = []
laid (w ∷ ws) [] = []
laid (w ∷ ws) (v ∷ vs) = bytes_of w v ++ laid ws vs

-- the values that bytes hold
abbrev pub parsed : List ℕ → List ℕ → List ℕ
parsed [] bs = []
parsed (w ∷ ws) bs = number_from_digits 256 (take w bs) ∷ parsed ws (drop w bs)

-- the bytes that the widths take
abbrev pub total : List ℕ → ℕ
total [] = 0
total (w ∷ ws) = w + total ws

-- as many values as widths, and each fits its own
abbrev pub Fit : List ℕ → List ℕ → Type 0
Fit [] [] = Unit {0}
Fit [] (v ∷ vs) = ⊥
Fit (w ∷ ws) [] = ⊥
Fit (w ∷ ws) (v ∷ vs) = (v < 2 ^ (8 * w)) × Fit ws vs

-- what is laid is as long as its widths
abbrev pub Long : Type 0
Long = (ws vs : List ℕ) → length vs ≡ length ws → length (laid ws vs) ≡ total ws

-- what is laid is bytes
abbrev pub Bytes : Type 0
Bytes = (ws vs : List ℕ) → AllBelowBase 256 (laid ws vs)

-- what is laid reads as it was, whatever stands behind it
abbrev pub Again : Type 0
Again = (ws vs ys : List ℕ) → Fit ws vs → parsed ws (laid ws vs ++ ys) ≡ vs

-- bytes that are read and laid again are the bytes
abbrev pub Only : Type 0
Only = (ws bs : List ℕ) → AllBelowBase 256 bs → length bs ≡ total ws → laid ws (parsed ws bs) ≡ bs

-- and what is read fits
abbrev pub FitsRead : Type 0
FitsRead = (ws bs : List ℕ) → AllBelowBase 256 bs → length bs ≡ total ws → Fit ws (parsed ws bs)
