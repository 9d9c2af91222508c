-- What a quota means.
use Rattle.std.specs.Prelude.{ℕ, ◌-◌, min, get_or}
use Rattle.store.specs.Meaning.{View}
use Rattle.quota.specs.declared.Quota.{Quota}

-- a meaning within a limit: an item's space is at most the limit less the new versions of it so far
abbrev pub limited : ℕ → (ℕ → ℕ) → View → View
limited limit counts v = record {
  held = v.held;
  last = v.last;
  space = λ i. min (v.space i) (limit - counts i);
}

-- by what the store below means
abbrev pub quota_view : {S : Type 0} → (S → View) → Quota S → View
quota_view below q = limited q.limit (λ i. get_or q.counts i 0) (below q.below)
