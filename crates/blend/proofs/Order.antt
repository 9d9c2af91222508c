-- The laws of the order of stamps. Whoever compares stamps cites these and never unfolds the definition.
use Rattle.std.proofs.Common.{◌≡◌, ℕ, ◌<◌, Bool, true, false, ltb, ◌⊎◌, refl, inl, inr, arith}
use Rattle.blend.specs.Stamps.{later, StampOrder}

pub never_itself : (a : ℕ) → later a a ≡ false
unfolding later
never_itself a = grind arith

pub onward : (a b c : ℕ) → later b a ≡ true → later c b ≡ true → later c a ≡ true
unfolding later
onward a b c h k = grind arith

by_test : (a b : ℕ) (t : Bool) → ltb b a ≡ t → (a ≡ b → ⊥) → (ltb b a ≡ true) ⊎ (ltb a b ≡ true)
by_test a b true e ne = inl e
by_test a b false e ne = inr (grind arith)

pub one_of_two : (a b : ℕ) → (a ≡ b → ⊥) → (later a b ≡ true) ⊎ (later b a ≡ true)
unfolding later
one_of_two a b ne = by_test a b (ltb b a) refl ne

pub zero_first : (a : ℕ) → 0 < a → later a 0 ≡ true
unfolding later
zero_first a h = grind arith

-- nothing comes before stamp 0
pub never_before_zero : (a : ℕ) → later 0 a ≡ false
unfolding later
never_before_zero a = grind arith

-- not both ways
pub not_both : (a b : ℕ) → later a b ≡ true → later b a ≡ false
unfolding later
not_both a b h = grind arith

-- neither is later only of a stamp and itself
pub neither : (a b : ℕ) → later a b ≡ false → later b a ≡ false → a ≡ b
unfolding later
neither a b h k = grind arith

-- a later stamp is not stamp 0
pub later_real : (a b : ℕ) → later a b ≡ true → 0 < a
unfolding later
later_real a b h = grind arith

-- not later goes on: where b is not later than a, nor c than b, c is not later than a
pub not_later_on : (a b c : ℕ) → later b a ≡ false → later c b ≡ false → later c a ≡ false
unfolding later
not_later_on a b c h k = grind arith

-- by its definition, for worked figures alone
pub by_number : (a b : ℕ) → later a b ≡ ltb b a
unfolding later
by_number a b = refl

pub stamp_order : StampOrder later
stamp_order =
    record { never_itself = never_itself; onward = onward; one_of_two = one_of_two; zero_first = zero_first }
