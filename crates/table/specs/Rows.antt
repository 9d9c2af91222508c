-- What rows hold.
use Rattle.std.specs.Prelude.{ℕ, Bool, cond, ◌&&◌, List, [], ◌∷◌, Some, None, Option, ◌==◌}
use Rattle.store.specs.Meaning.{Content}
use Rattle.table.specs.declared.Row.{Row}

abbrev pub hits : Row → ℕ → ℕ → Bool
hits r i s = r.item == i && r.stamp == s

-- code and mark of the first row with the item and the stamp
abbrev pub lookup : List Row → ℕ → ℕ → Option Content
lookup [] i s = None
lookup (r ∷ rs) i s = cond (hits r i s) (Some (r.code, r.mark)) (lookup rs i s)
