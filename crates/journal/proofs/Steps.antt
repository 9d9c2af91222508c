-- The ghost fields of a journal as one record and back, and its calls that write.
use Rattle.std.proofs.Common.{◌≡◌, ℕ, ◌+◌, ◌/◌, ◌<◌, ◌≤◌, true, List, length, is_some, None, vec_items, vec_len, sym, ap, ◌∙◌, arith, rules}
use Rattle.std.specs.Vec.{with_items}
use Rattle.std.proofs.lemmas.List.{with_items_is}
use Rattle.blend.specs.Stamps.{later}
use Rattle.journal.specs.declared.Journal.{Journal}
use Rattle.journal.specs.declared.record.Record.{Record}
use Rattle.journal.specs.declared.record.Record.TheVariants.{Put, Commit}
use Rattle.journal.specs.Records.{records, appended, size}
use Rattle.journal.specs.Held.{lookup, last_of}
use Rattle.journal.specs.Means.{bytes_view}
use Rattle.journal.proofs.Writes.{Fits, length_appended}
use Rattle.journal.proofs.Outcomes.{Kept, PutStep, put_step, put_room, CommitStep, commit_step, commit_room}

pub kept_of : (j : Journal) → Kept (vec_items j.bytes) j.end j.count
kept_of j = search rules

abbrev pub PutOf : Journal → List ℕ → ℕ → ℕ → ℕ → ℕ → ℕ → Type 0
PutOf j last n i s c m = PutStep (vec_items j.bytes) (vec_items (with_items j.bytes last)) j.end n j.count i s c m

abbrev pub CommitOf : Journal → List ℕ → ℕ → ℕ → ℕ → Type 0
CommitOf j last n i s = CommitStep (vec_items j.bytes) (vec_items (with_items j.bytes last)) j.end n j.count i s

-- What a call that writes leaves. The slice of the journal's bytes is `now` as it is lent and `last` as it is given back, with the
-- record appended.
module _ (j : Journal) (now last : List ℕ) (long : vec_len j.bytes ≡ length (vec_items j.bytes)) (lent : now ≡ vec_items j.bytes) where
  abbrev bs : List ℕ
  bs = vec_items j.bytes

  written : (r : Record) → j.end + size r ≤ length bs → last ≡ appended j.end r now → vec_items (with_items j.bytes last) ≡ appended j.end r bs
  written r room w =
      let e = w ∙ ap (appended j.end r) lent in
      with_items_is j.bytes last (ap length e ∙ length_appended bs j.end r room ∙ sym long) ∙ e

  pub put_at : (n i s c m : ℕ) → n ≡ 22 → Fits (Put i s c m) → 0 < i → 0 < s → lookup (records bs) i s ≡ None → 0 < (bytes_view bs).space i →
      last ≡ appended j.end (Put i s c m) now → PutOf j last n i s c m
  put_at n i s c m e f io so none room w =
      let k = kept_of j in
      let less : j.count < length bs / 28 = omega (arith, k.counted) in
      put_step bs _ j.end n j.count i s c m k e f io so none less (written (Put i s c m) (put_room bs j.end j.count k less) w)

  pub commit_at : (n i s : ℕ) → n ≡ 6 → Fits (Commit i s) → 0 < i → 0 < s → is_some (lookup (records bs) i s) ≡ true →
      later s (last_of (records bs) i) ≡ true → last ≡ appended j.end (Commit i s) now → CommitOf j last n i s
  commit_at n i s e f io so held up w =
      let k = kept_of j in
      commit_step bs _ j.end n j.count i s k e f io so held up (written (Commit i s) (commit_room bs j.end j.count i s k held up) w)
