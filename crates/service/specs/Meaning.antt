-- What the service means, as a state of the protocol.
use Rattle.std.specs.Prelude.{◌≡◌, ℕ, ◌<◌, ◌≤◌, List, None, Ok, Err, Result, slice_index_or}
use Rattle.store.specs.Meaning.{View}
use Rattle.protocol.specs.State.{State}
use Rattle.protocol.specs.Calls.{Answer, refused, accepted}
use Rattle.rows.specs.declared.fault.Fault.{Fault}
use Rattle.rows.specs.Faults.{number_of}
use Rattle.rows.specs.Rows.{row_of, reading, empty_row, empty_read_row}
use Rattle.service.specs.declared.state.Service.{Service}

abbrev pub meaning : {S N : Type 0} → (S → View) → Service S N → State
meaning view x = record {
  store = view x.store;
  writers = λ w. row_of w (slice_index_or x.orders.rows w empty_row);
  readers = λ r. reading (slice_index_or x.reads.rows r empty_read_row);
}

-- the answer of a call: its number, or the number of its refusal
abbrev pub answer : Result ℕ Fault → Answer
answer (Ok n) = accepted n 0
answer (Err f) = refused (number_of f)

-- a take answers stamp and code
abbrev pub answer_both : Result (ℕ × ℕ) Fault → Answer
answer_both (Ok x) = accepted x.0 x.1
answer_both (Err f) = refused (number_of f)

-- over a store of the meaning v: no sequence used, nothing open
pub record Started (v : View) (s : State) : Type 0 where
  pub store : s.store ≡ v
  pub sequences : (w : ℕ) → (s.writers w).sequence ≡ 0
  pub orders : (w : ℕ) → (s.writers w).current ≡ None
  pub reads : (r : ℕ) → s.readers r ≡ None

-- the row of the number n, one of the sixteen
pub record IsRow {R : Type 0} (rows : List R) (empty : R) (n : ℕ) (row : R) : Type 0 where
  pub within : n ≤ 15
  pub value : row ≡ slice_index_or rows n empty

-- the number n has no row, and is refused so
pub record IsBeyond (n : ℕ) (why fault : Fault) : Type 0 where
  pub beyond : 15 < n
  pub value : fault ≡ why
