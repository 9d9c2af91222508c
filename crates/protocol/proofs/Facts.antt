-- What an accepted call says.
use Rattle.std.proofs.Common.{◌≡◌, ℕ, ◌+◌, ◌*◌, ◌<◌, ◌≤◌, true, false, not, ◌||◌, eqb, ltb, leb, List, length, Some, None, arith}
use Rattle.std.proofs.lemmas.Bool.{or_parts, and_parts, not-true, not-false, eqb-false, ltb-false, leb-false}
use Rattle.protocol.specs.Naming.{Naming}
use Rattle.protocol.specs.Calls.{file, prepare, commit, withdraw, open_read, first_ask, second_ask, take, release, by_writer, by_reader, accepted}
use Rattle.protocol.specs.State.{OpenOrder, State, order_of, read_of}
use Rattle.protocol.specs.Asks.{DueFirst, DueSecond, Finished, progress, all_below, asks_again, due_second}
use Rattle.protocol.specs.Refusals.{tests, bad_size, all_prepared}
use Rattle.protocol.specs.Step.{Step, filed_row, set_writer}
use Rattle.protocol.proofs.Basics.{none_of}
use Rattle.protocol.proofs.Tests.{clear, all_true, all_false, Listed, listed_from, order_there, read_there, asks_to, finished_to}

-- ── orders ──

abbrev pub AllPrepared : OpenOrder → Type 0
AllPrepared x = (k : ℕ) → k < length x.order.items → x.prepared k ≡ true

pub record Files (s : State) (w q : ℕ) (items codes : List ℕ) (a : ℕ) (s' : State) : Type 0 where
  pub writer : w < 16
  pub idle : (s.writers w).current ≡ None
  pub positive : 1 ≤ q
  pub rises : (s.writers w).sequence < q
  pub listed : Listed items
  pub answer : a ≡ q * 16 + w
  pub after : s' ≡ set_writer s w (filed_row w q items codes a)

-- an order is open, and the place is one of its own
pub record Placed (s : State) (w k : ℕ) : Type 0 where
  pub open_order : (s.writers w).current ≡ Some (order_of s w)
  pub within : k < length (order_of s w).order.items

module _ (ν : Naming) (s s' : State) (w a b : ℕ) where
  pub files : (q : ℕ) (items codes : List ℕ) → Step ν s (by_writer w (file q items codes)) (accepted a b) s' → Files s w q items codes a s'
  files q items codes z =
      let t = clear (tests ν s (by_writer w (file q items codes))) z.0 in
      let sequence = or_parts (eqb q 0) (ltb 268435455 q || leb q (s.writers w).sequence) t.1.1.0 in
      let above = or_parts (ltb 268435455 q) (leb q (s.writers w).sequence) sequence.1 in
      let size = or_parts (bad_size items) (not (eqb (length codes) (length items))) t.1.1.1.0 in
      let low = ltb-false 15 w t.0 in
      let pos = eqb-false q 0 sequence.0 in
      record {
        writer = omega arith;
        idle = none_of (s.writers w).current t.1.0;
        positive = omega (arith, pos);
        rises = leb-false q (s.writers w).sequence above.1;
        listed = listed_from items size.0 t.1.1.1.1.0 z.1.0;
        answer = z.1.1;
        after = z.1.2;
      }

  pub prepares : (k : ℕ) → Step ν s (by_writer w (prepare k)) (accepted a b) s' → Placed s w k
  prepares k z =
      let t = clear (tests ν s (by_writer w (prepare k))) z.0 in
      record {
        open_order = order_there (s.writers w).current t.1.0;
        within = leb-false (length (order_of s w).order.items) k t.1.1.0;
      }

  pub commits : (k : ℕ) → Step ν s (by_writer w (commit k)) (accepted a b) s' → Placed s w k × AllPrepared (order_of s w)
  commits k z =
      let t = clear (tests ν s (by_writer w (commit k))) z.0 in
      let x = order_of s w in (
        record {
          open_order = order_there (s.writers w).current t.1.0;
          within = leb-false (length x.order.items) k t.1.1.0;
        },
        all_true (length x.order.items) x.prepared (not-false (all_prepared x) t.1.1.1.0),
      )

  -- a place is not prepared
  pub withdraws : Step ν s (by_writer w withdraw) (accepted a b) s' → (k : ℕ) × Placed s w k × ((order_of s w).prepared k ≡ false)
  withdraws z =
      let t = clear (tests ν s (by_writer w withdraw)) z.0 in
      let x = order_of s w in
      let f = all_false (length x.order.items) x.prepared t.1.1.0 in
      (f.0, record { open_order = order_there (s.writers w).current t.1.0; within = f.1 }, f.2)

-- ── reads ──

pub record ReadsAt (s : State) (r : ℕ) : Type 0 where
  pub low : r ≤ 15
  pub is_open : s.readers r ≡ Some (read_of s r)

module _ (ν : Naming) (s s' : State) (r a b : ℕ) where
  pub opens : (items : List ℕ) → Step ν s (by_reader r (open_read items)) (accepted a b) s' → (r ≤ 15) × Listed items
  opens items z =
      let t = clear (tests ν s (by_reader r (open_read items))) z.0 in
      (ltb-false 15 r t.0, listed_from items t.1.1.0 t.1.1.1.0 z.1.0)

  pub first_asks : (p : ℕ) → Step ν s (by_reader r (first_ask p)) (accepted a b) s' → ReadsAt s r × DueFirst (progress (read_of s r)) p
  first_asks p z =
      let t = clear (tests ν s (by_reader r (first_ask p))) z.0 in (
        record { low = ltb-false 15 r t.0; is_open = read_there (s.readers r) t.1.0 },
        record { within = leb-false (length (read_of s r).items) p t.1.1.0; not_made = t.1.1.1.0 },
      )

  pub second_asks : (p : ℕ) → Step ν s (by_reader r (second_ask p)) (accepted a b) s' →
      ReadsAt s r × DueSecond ν (progress (read_of s r)) p
  second_asks p z =
      let t = clear (tests ν s (by_reader r (second_ask p))) z.0 in
      let x = progress (read_of s r) in
      let due = and_parts (asks_again ν x p) (not (x.again p)) (not-false (due_second ν x p) t.1.1.1.1.0) in (
        record { low = ltb-false 15 r t.0; is_open = read_there (s.readers r) t.1.0 },
        record {
          within = leb-false (length x.items) p t.1.1.0;
          firsts = all_true (length x.items) x.made (not-false (all_below (length x.items) x.made) t.1.1.1.0);
          asks = asks_to ν x p due.0;
          not_made = not-true (x.again p) due.1;
        },
      )

  pub takes : (p : ℕ) → Step ν s (by_reader r (take p)) (accepted a b) s' →
      ReadsAt s r × (p < length (read_of s r).items) × Finished ν (progress (read_of s r))
  takes p z =
      let t = clear (tests ν s (by_reader r (take p))) z.0 in (
        record { low = ltb-false 15 r t.0; is_open = read_there (s.readers r) t.1.0 },
        leb-false (length (read_of s r).items) p t.1.1.0,
        finished_to ν (progress (read_of s r)) (not-false _ t.1.1.1.0),
      )

  pub releases : Step ν s (by_reader r release) (accepted a b) s' → ReadsAt s r
  releases z =
      let t = clear (tests ν s (by_reader r release)) z.0 in
      record { low = ltb-false 15 r t.0; is_open = read_there (s.readers r) t.1.0 }
