-- Which asks of a read are due, and when it is finished.
use Rattle.std.specs.Prelude.{◌≡◌, ℕ, zero, suc, ◌+◌, ◌<◌, Bool, true, false, cond, not, ◌&&◌, ◌||◌, ◌⊎◌, List, [], ◌∷◌, length, is_some, Some, None, Option, ◌==◌, nat_lt, slice_index}
use Rattle.blend.specs.Stamps.{later}
use Rattle.store.specs.Meaning.{Version}
use Rattle.protocol.specs.Naming.{Naming}
use Rattle.protocol.specs.State.{OpenRead}

-- What decides the asks of a read: its items; by place whether the first ask was made, the stamp that it answered and the mark of that
-- stamp; and whether the second ask was made.
pub record Progress : Type 0 where
  pub items : List ℕ
  pub made : ℕ → Bool
  pub stamp : ℕ → ℕ
  pub mark : ℕ → ℕ
  pub again : ℕ → Bool

abbrev pub stamp_in : Option Version → ℕ
stamp_in None = 0
stamp_in (Some v) = v.0

abbrev pub mark_in : Option Version → ℕ
mark_in None = 0
mark_in (Some v) = v.2

abbrev pub progress : OpenRead → Progress
progress x = record {
  items = x.items;
  made = λ p. is_some (x.first p);
  stamp = λ p. stamp_in (x.first p);
  mark = λ p. mark_in (x.first p);
  again = x.again;
}

-- The stamp that the place p wants from the place q: from another place its first stamp, if that is later than the own one and its mark
-- names the own item; a rule that always asks twice also wants the own first stamp; other places are 0.
abbrev pub wanted : Naming → Progress → ℕ → ℕ → ℕ
wanted ν x p q =
    cond (nat_lt q (length x.items))
    (cond (p == q)
    (cond ν.twice (x.stamp p) 0)
    (cond (later (x.stamp q) (x.stamp p) && ν.names (x.mark q) (slice_index x.items p)) (x.stamp q) 0))
    0

abbrev pub eight : (ℕ → ℕ) → List ℕ
eight f = f 0 ∷ f 1 ∷ f 2 ∷ f 3 ∷ f 4 ∷ f 5 ∷ f 6 ∷ f 7 ∷ []

-- ── as facts ──

abbrev pub AllMade : Progress → Type 0
AllMade x = (p : ℕ) → p < length x.items → x.made p ≡ true

-- once all first asks are made: the place p is to be asked again
abbrev pub AsksAgain : Naming → Progress → ℕ → Type 0
AsksAgain ν x p = (ν.twice ≡ true) ⊎ ((q : ℕ) × (q < length x.items) × (¬ (wanted ν x p q ≡ 0)))

pub record DueFirst (x : Progress) (p : ℕ) : Type 0 where
  pub within : p < length x.items
  pub not_made : x.made p ≡ false

pub record DueSecond (ν : Naming) (x : Progress) (p : ℕ) : Type 0 where
  pub within : p < length x.items
  pub firsts : AllMade x
  pub asks : AsksAgain ν x p
  pub not_made : x.again p ≡ false

pub record Finished (ν : Naming) (x : Progress) : Type 0 where
  pub firsts : AllMade x
  pub seconds : (p : ℕ) → p < length x.items → AsksAgain ν x p → x.again p ≡ true

-- ── as tests ──

-- each, or one, of the first n numbers passes; how many do
abbrev pub all_below : ℕ → (ℕ → Bool) → Bool
all_below zero f = true
all_below (suc n) f = f n && all_below n f

abbrev pub any_below : ℕ → (ℕ → Bool) → Bool
any_below zero f = false
any_below (suc n) f = f n || any_below n f

abbrev pub count_below : ℕ → (ℕ → Bool) → ℕ
count_below zero f = 0
count_below (suc n) f = cond (f n) 1 0 + count_below n f

abbrev pub all_made : Progress → Bool
all_made x = all_below (length x.items) x.made

abbrev pub asks_again : Naming → Progress → ℕ → Bool
asks_again ν x p = ν.twice || any_below (length x.items) (λ q. not (wanted ν x p q == 0))

abbrev pub due_second : Naming → Progress → ℕ → Bool
due_second ν x p = asks_again ν x p && not (x.again p)

abbrev pub finished : Naming → Progress → Bool
finished ν x = all_made x && all_below (length x.items) (λ p. not (due_second ν x p))

-- how many asks were made
abbrev pub asks_made : Progress → ℕ
asks_made x = count_below (length x.items) x.made + count_below (length x.items) x.again
