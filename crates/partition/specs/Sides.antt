-- What a partition means.
use Rattle.std.specs.Prelude.{ℕ, cond, nat_lt}
use Rattle.store.specs.Meaning.{View}
use Rattle.partition.specs.declared.Partition.{Partition}

-- two meanings in one: items below the bound are the first's, the others the second's
abbrev pub parted : ℕ → View → View → View
parted bound v w = record {
  held = λ i. cond (nat_lt i bound) (v.held i) (w.held i);
  last = λ i. cond (nat_lt i bound) (v.last i) (w.last i);
  space = λ i. cond (nat_lt i bound) (v.space i) (w.space i);
}

-- by what each of its two stores means
abbrev pub partition_view : {A B : Type 0} → (A → View) → (B → View) → Partition A B → View
partition_view first second p = parted p.bound (first p.first) (second p.second)
