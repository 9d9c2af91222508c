-- What records hold, and why each version's bytes suffice.
use Rattle.std.specs.Prelude.{◌≡◌, ℕ, suc, ◌+◌, ◌<◌, ◌≤◌, Bool, true, false, cond, ◌&&◌, ◌||◌, List, [], ◌∷◌, is_some, Some, None, Option, ◌==◌}
use Rattle.blend.specs.Stamps.{later_of}
use Rattle.store.specs.Meaning.{Content}
use Rattle.journal.specs.declared.record.Record.{Record}
use Rattle.journal.specs.declared.record.Record.TheVariants.{Put, Commit}
use Rattle.journal.specs.Records.{size}

-- code and mark of the version of an item with a stamp
abbrev pub lookup : List Record → ℕ → ℕ → Option Content
lookup [] i s = None
lookup (Put j t c m ∷ rs) i s = cond (j == i && t == s) (Some (c, m)) (lookup rs i s)
lookup (Commit j t ∷ rs) i s = lookup rs i s

-- the last stamp of an item behind the records, from what it was before them
abbrev pub last_from : ℕ → List Record → ℕ → ℕ
last_from l [] i = l
last_from l (Put j t c m ∷ rs) i = last_from l rs i
last_from l (Commit j t ∷ rs) i = last_from (cond (j == i) (later_of l t) l) rs i

abbrev pub last_of : List Record → ℕ → ℕ
last_of rs i = last_from 0 rs i

-- no version has stamp 0
abbrev pub NoBlank : List Record → Type 0
NoBlank rs = (i : ℕ) → is_some (lookup rs i 0) ≡ false

-- a last stamp is 0 or held
abbrev pub LastsHeld : List Record → Type 0
LastsHeld rs = (i : ℕ) → 0 < last_of rs i → is_some (lookup rs i (last_of rs i)) ≡ true

-- how many versions the records hold
abbrev pub versions : List Record → ℕ
versions [] = 0
versions (Put j t c m ∷ rs) = suc (versions rs)
versions (Commit j t ∷ rs) = versions rs

-- the bytes of a version: of its put, and of a rise to it
abbrev pub per_version : ℕ
per_version = size (Put 0 0 0 0) + size (Commit 0 0)

-- ── why the bytes suffice ──

-- how often a last stamp was raised
abbrev pub raises : List Record → ℕ
raises [] = 0
raises (Put j t c m ∷ rs) = raises rs
raises (Commit j t ∷ rs) = suc (raises rs)

-- whether an item was raised to a stamp
abbrev pub raised : List Record → ℕ → ℕ → Bool
raised [] i s = false
raised (Put j t c m ∷ rs) i s = raised rs i s
raised (Commit j t ∷ rs) i s = (j == i && t == s) || raised rs i s

-- how many versions of rs no commit among `all` raised to
abbrev pub waiting : List Record → List Record → ℕ
waiting all [] = 0
waiting all (Put j t c m ∷ rs) = cond (raised all j t) (waiting all rs) (suc (waiting all rs))
waiting all (Commit j t ∷ rs) = waiting all rs

-- the versions that wait for a rise, and the rises, are no more than the versions
abbrev pub Waits : List Record → Type 0
Waits rs = waiting rs rs + raises rs ≤ versions rs
