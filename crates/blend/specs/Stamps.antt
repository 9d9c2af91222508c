-- Stamps: sequence × 16 + writer, and which of two is later.
use Rattle.std.specs.Prelude.{◌≡◌, ℕ, ◌+◌, ◌*◌, ◌/◌, ◌%◌, ◌<◌, Bool, true, false, cond, ◌||◌, ◌⊎◌, Ok, Err, Result, ◌==◌, ◌≢◌, nat_lt}
use Rattle.blend.specs.declared.refusal.Refusal.{Refusal}
use Rattle.blend.specs.declared.refusal.Refusal.TheVariants.{Writer, Sequence}

-- writers are 0 to 15, sequences 1 to 268,435,455; the writer is tested first
abbrev pub stamped : ℕ → ℕ → Result ℕ Refusal
stamped w q = cond (nat_lt 15 w) (Err Writer) (cond (q == 0 || nat_lt 268435455 q) (Err Sequence) (Ok (q * 16 + w)))

-- a stamp that was made gives back its sequence and its writer, and is not the blank's
abbrev pub ReadsBack : ℕ → ℕ → Result ℕ Refusal → Type 0
ReadsBack w q (Ok s) = (s / 16 ≡ q) × (s % 16 ≡ w) × (0 < s)
ReadsBack w q (Err e) = Unit {0}

-- the stamp a is later than the stamp b: the one definition that compares stamps, used only by its laws
unfoldable pub later : ℕ → ℕ → Bool
later a b = nat_lt b a

-- the later of two stamps
abbrev pub later_of : ℕ → ℕ → ℕ
later_of a b = cond (later b a) b a

-- what every order of stamps keeps: strict, total, 0 first
pub record StampOrder (after : ℕ → ℕ → Bool) : Type 0 where
  pub never_itself : (a : ℕ) → after a a ≡ false
  pub onward : (a b c : ℕ) → after b a ≡ true → after c b ≡ true → after c a ≡ true
  pub one_of_two : (a b : ℕ) → (a ≢ b) → (after a b ≡ true) ⊎ (after b a ≡ true)
  pub zero_first : (a : ℕ) → 0 < a → after a 0 ≡ true
