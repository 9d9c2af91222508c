-- The records that bytes spell: a kind byte and a body, one behind the other, up to the first that is none.
use Rattle.std.specs.Prelude.{◌≡◌, ℕ, zero, suc, ◌+◌, ◌≤◌, cond, List, [], ◌∷◌, length, take, drop, Some, None, Option, ◌==◌, nat_lt, slice_index, slice_set}
use Rattle.layout.specs.Layout.{laid, parsed, total}
use Rattle.layout.specs.Places.{over}
use Rattle.layout.specs.Bodies.{put_widths, commit_widths}
use Rattle.journal.specs.declared.record.Record.{Record}
use Rattle.journal.specs.declared.record.Record.TheVariants.{Put, Commit}

-- ── a record as bytes ──

abbrev pub kind_of : Record → ℕ
kind_of (Put i s c m) = 1
kind_of (Commit i s) = 2

abbrev pub widths_of : Record → List ℕ
widths_of (Put i s c m) = put_widths
widths_of (Commit i s) = commit_widths

abbrev pub values_of : Record → List ℕ
values_of (Put i s c m) = i ∷ s ∷ c ∷ m ∷ []
values_of (Commit i s) = i ∷ s ∷ []

abbrev pub body_of : Record → List ℕ
body_of r = laid (widths_of r) (values_of r)

abbrev pub record_bytes : Record → List ℕ
record_bytes r = kind_of r ∷ body_of r

abbrev pub size : Record → ℕ
size r = suc (total (widths_of r))

-- the body stands behind the place of the kind byte
pub record Stands (end : ℕ) (r : Record) (bs : List ℕ) : Type 0 where
  pub fits : end + size r ≤ length bs
  pub body : take (total (widths_of r)) (drop (end + 1) bs) ≡ body_of r

-- the bytes with a record at a place: its body, and its kind byte before it
abbrev pub appended : ℕ → Record → List ℕ → List ℕ
appended end r bs = slice_set (over (end + 1) (body_of r) bs) end (kind_of r)

-- ── bytes as records ──

abbrev pub put_from : List ℕ → Record
put_from vs = Put (slice_index vs 0) (slice_index vs 1) (slice_index vs 2) (slice_index vs 3)

abbrev pub commit_from : List ℕ → Record
commit_from vs = Commit (slice_index vs 0) (slice_index vs 1)

-- a body, where there are bytes enough for it
abbrev pub body_in : List ℕ → (List ℕ → Record) → List ℕ → Option Record
body_in ws make b = cond (nat_lt (length b) (total ws)) None (Some (make (parsed ws b)))

-- the record that bytes begin with: kind 1 is a put, kind 2 a commit, any other the end
abbrev pub first : List ℕ → Option Record
first [] = None
first (k ∷ b) =
    cond (k == 1) (body_in put_widths put_from b) (cond (k == 2) (body_in commit_widths commit_from b) None)

-- a record and those behind it, by its kind
abbrev pub follow : Option Record → List Record → List Record → List Record
follow None p q = []
follow (Some (Put i s c m)) p q = Put i s c m ∷ p
follow (Some (Commit i s)) p q = Commit i s ∷ q

-- the records behind so many bytes
abbrev pub scan : ℕ → List ℕ → List Record
scan n [] = []
scan zero (k ∷ b) = follow (first (k ∷ b)) (scan (total put_widths) b) (scan (total commit_widths) b)
scan (suc n) (x ∷ b) = scan n b

abbrev pub records : List ℕ → List Record
records bs = scan 0 bs

-- the bytes that records take
abbrev pub used : List Record → ℕ
used [] = 0
used (r ∷ rs) = size r + used rs
