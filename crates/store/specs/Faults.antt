-- The number of each refusal of a store, and the refusal of each number.
use Rattle.std.specs.Prelude.{ℕ, cond, Some, None, Option, Result, ok_or, ◌==◌}
use Rattle.store.specs.declared.UnknownNumber.{UnknownNumber}
use Rattle.store.specs.declared.StoreFault.{StoreFault}
use Rattle.store.specs.declared.StoreFault.TheVariants.{NoItem, NoStamp, Clash, Full, NotHeld}

abbrev pub number_of : StoreFault → ℕ
number_of NoItem = 1
number_of NoStamp = 2
number_of Clash = 3
number_of Full = 4
number_of NotHeld = 5

-- the refusal of a store that has a number
abbrev pub fault_with : ℕ → Option StoreFault
fault_with n =
    cond (n == number_of NoItem) (Some NoItem)
    (cond (n == number_of NoStamp) (Some NoStamp)
    (cond (n == number_of Clash) (Some Clash) (cond (n == number_of Full) (Some Full) (cond (n == number_of NotHeld) (Some NotHeld) None))))

-- the same, with an error for a number of none
abbrev pub fault_numbered : ℕ → Result StoreFault UnknownNumber
fault_numbered n = ok_or (fault_with n) (record {})
