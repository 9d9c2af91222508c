-- What a table means: its rows are the versions held, and every item may take each row that is left.
use Rattle.std.specs.Prelude.{ℕ, ◌-◌, List, length, vec_items, slice_index}
use Rattle.store.specs.Meaning.{View}
use Rattle.table.specs.declared.Row.{Row}
use Rattle.table.specs.declared.Table.{Table}
use Rattle.table.specs.Rows.{lookup}

abbrev pub view_of : List Row → List ℕ → ℕ → View
view_of rows lasts size = record {
  held = lookup rows;
  last = λ i. slice_index lasts i;
  space = λ i. size - length rows;
}

abbrev pub table_view : Table → View
table_view t = view_of (vec_items t.rows) t.lasts t.size
