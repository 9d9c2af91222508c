-- What a call may answer from a state, and the state after it.
use Rattle.std.specs.Prelude.{◌≡◌, ℕ, ◌+◌, ◌*◌, Bool, true, false, List, length, Some, None, Option}
use Rattle.store.specs.Meaning.{View, Version, blank, later_version, last_version, picked}
use Rattle.store.specs.Outcomes.{PutDone, CommitDone, one_if}
use Rattle.protocol.specs.Naming.{Naming, Bytes, mark_for}
use Rattle.protocol.specs.Calls.{file, prepare, commit, close, withdraw, open_read, first_ask, second_ask, take, release, Call, by_writer, by_reader, Answer, refused, accepted}
use Rattle.protocol.specs.State.{upd, OpenOrder, OrderRow, OpenRead, State, order_of, read_of}
use Rattle.protocol.specs.Asks.{progress, wanted, eight, asks_made}
use Rattle.protocol.specs.Refusals.{refusal, item_at, code_at, read_item}

-- ── rows after a call ──

abbrev pub filed_row : ℕ → ℕ → List ℕ → List ℕ → ℕ → OrderRow
filed_row w q items codes t = record {
  sequence = q;
  current = Some (record {
    order = record { writer = w; items = items; codes = codes; stamp = t };
    prepared = λ k. false;
    committed = λ k. false;
  });
}

-- the row with another open order, or none
abbrev pub with_order : OrderRow → Option OpenOrder → OrderRow
with_order row o = record { sequence = row.sequence; current = o }

abbrev pub prepared_at : OpenOrder → ℕ → OpenOrder
prepared_at x k = record { order = x.order; prepared = upd x.prepared k true; committed = x.committed }

abbrev pub committed_at : OpenOrder → ℕ → OpenOrder
committed_at x k = record { order = x.order; prepared = x.prepared; committed = upd x.committed k true }

abbrev pub fresh_read : List ℕ → OpenRead
fresh_read items = record { items = items; first = λ p. None; again = λ p. false; kept = λ p. blank }

abbrev pub first_asked : OpenRead → ℕ → Version → OpenRead
first_asked x p v = record { items = x.items; first = upd x.first p (Some v); again = x.again; kept = upd x.kept p v }

abbrev pub second_asked : OpenRead → ℕ → Version → OpenRead
second_asked x p v = record {
  items = x.items;
  first = x.first;
  again = upd x.again p true;
  kept = upd x.kept p (later_version (x.kept p) v);
}

-- what the asks of a place get from the store
abbrev pub first_version : View → OpenRead → ℕ → Version
first_version store x p = last_version store (read_item x p)

abbrev pub second_version : Naming → View → OpenRead → ℕ → Version
second_version ν store x p = picked (store.held (read_item x p)) (eight (wanted ν (progress x) p))

-- ── the state with a row changed ──

abbrev pub set_writer : State → ℕ → OrderRow → State
set_writer s w row = record { store = s.store; writers = upd s.writers w row; readers = s.readers }

abbrev pub set_reader : State → ℕ → Option OpenRead → State
set_reader s r o = record { store = s.store; writers = s.writers; readers = upd s.readers r o }

-- ── an accepted call ──

pub record Prepares (ν : Naming) (s : State) (x : OpenOrder) (w k a : ℕ) (s' : State) : Type 0 where
  pub fresh : Bool
  pub puts : PutDone s.store s'.store (item_at x k) x.order.stamp (code_at x k) (mark_for ν x.order.items) fresh
  pub answer : a ≡ one_if fresh
  pub writers : s'.writers ≡ upd s.writers w (with_order (s.writers w) (Some (prepared_at x k)))
  pub readers : s'.readers ≡ s.readers

pub record Commits (s : State) (x : OpenOrder) (w k a : ℕ) (s' : State) : Type 0 where
  pub rose : Bool
  pub commits : CommitDone s.store s'.store (item_at x k) x.order.stamp rose
  pub answer : a ≡ one_if rose
  pub writers : s'.writers ≡ upd s.writers w (with_order (s.writers w) (Some (committed_at x k)))
  pub readers : s'.readers ≡ s.readers

-- the number answered, and the state after; the items of a list are bytes
abbrev pub Effect : Naming → State → Call → ℕ → State → Type 0
Effect ν s (by_writer w (file q items codes)) a s' =
    Bytes items × (a ≡ q * 16 + w) × (s' ≡ set_writer s w (filed_row w q items codes a))
Effect ν s (by_writer w (prepare k)) a s' = Prepares ν s (order_of s w) w k a s'
Effect ν s (by_writer w (commit k)) a s' = Commits s (order_of s w) w k a s'
Effect ν s (by_writer w close) a s' = (a ≡ (order_of s w).order.stamp) × (s' ≡ set_writer s w (with_order (s.writers w) None))
Effect ν s (by_writer w withdraw) a s' = (a ≡ (order_of s w).order.stamp) × (s' ≡ set_writer s w (with_order (s.writers w) None))
Effect ν s (by_reader r (open_read items)) a s' = Bytes items × (a ≡ length items) × (s' ≡ set_reader s r (Some (fresh_read items)))
Effect ν s (by_reader r (first_ask p)) a s' =
    let x = read_of s r in
    let v = first_version s.store x p in
    (a ≡ v.0) × (s' ≡ set_reader s r (Some (first_asked x p v)))
Effect ν s (by_reader r (second_ask p)) a s' =
    let x = read_of s r in
    let v = second_version ν s.store x p in
    (a ≡ (later_version (x.kept p) v).0) × (s' ≡ set_reader s r (Some (second_asked x p v)))
Effect ν s (by_reader r (take p)) a s' = (a ≡ ((read_of s r).kept p).0) × (s' ≡ s)
Effect ν s (by_reader r release) a s' = (a ≡ asks_made (progress (read_of s r))) × (s' ≡ set_reader s r None)

-- the code beside the number answered: of a take alone
abbrev pub code_beside : State → Call → ℕ
code_beside s (by_writer w c) = 0
code_beside s (by_reader r (open_read items)) = 0
code_beside s (by_reader r (first_ask p)) = 0
code_beside s (by_reader r (second_ask p)) = 0
code_beside s (by_reader r (take p)) = ((read_of s r).kept p).1
code_beside s (by_reader r release) = 0

-- A call is refused with the number of its first test that fires, and then changes nothing; where none fires it is accepted.
abbrev pub Step : Naming → State → Call → Answer → State → Type 0
Step ν s c (refused n) s' = (refusal ν s c ≡ Some n) × (s' ≡ s)
Step ν s c (accepted a b) s' = (refusal ν s c ≡ None) × Effect ν s c a s' × (b ≡ code_beside s c)
