-- What a journal means: a function of its bytes alone.
use Rattle.std.specs.Prelude.{◌≡◌, ℕ, ◌+◌, ◌-◌, ◌*◌, ◌/◌, ◌≤◌, List, length, replicate, vec_items}
use Rattle.store.specs.Meaning.{View}
use Rattle.journal.specs.declared.record.Record.TheVariants.{Commit}
use Rattle.journal.specs.declared.Journal.{Journal}
use Rattle.journal.specs.Records.{records, size}
use Rattle.journal.specs.Held.{lookup, last_of, versions, waiting, per_version}

abbrev pub bytes_view : List ℕ → View
bytes_view bs = record {
  held = lookup (records bs);
  last = last_of (records bs);
  space = λ i. length bs / per_version - versions (records bs);
}

abbrev pub journal_view : Journal → View
journal_view j = bytes_view (vec_items j.bytes)

-- Room for so many more versions, each with a rise, and for a rise to each version that waits.
abbrev pub RoomFor : ℕ → Journal → Type 0
RoomFor n j =
    j.end + n * per_version + waiting (records (vec_items j.bytes)) (records (vec_items j.bytes)) * size (Commit 0 0) ≤ length (vec_items j.bytes)

-- empty journals of 27, 28, 55 and 56 bytes
abbrev pub WorkedSpaces : Type 0
WorkedSpaces =
    (i : ℕ) →
    ((bytes_view (replicate 27 0)).space i ≡ 0)
    × ((bytes_view (replicate 28 0)).space i ≡ 1)
    × ((bytes_view (replicate 55 0)).space i ≡ 1)
    × ((bytes_view (replicate 56 0)).space i ≡ 2)
