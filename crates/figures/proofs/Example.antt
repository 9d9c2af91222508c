-- The run in which a read overtakes an order, step by step.
use Rattle.std.proofs.Common.{◌≡◌, ℕ, suc, true, cond, ◌&&◌, eqb, List, [], ◌∷◌, Some, None, refl, inl, inr, arith, rules}
use Rattle.naming.specs.Marks.{list_rule}
use Rattle.naming.specs.Named.{list_lawful}
use Rattle.blend.specs.Refusals.{first_of}
use Rattle.blend.specs.Stamps.{later}
use Rattle.store.specs.Meaning.{View, blank}
use Rattle.store.specs.Tests.{put_tests}
use Rattle.store.specs.Outcomes.{PutDone, CommitDone}
use Rattle.protocol.specs.Naming.{Bytes}
use Rattle.protocol.specs.State.{upd, OpenOrder, State, order_of, read_of}
use Rattle.protocol.specs.Step.{filed_row, with_order, prepared_at, committed_at, set_writer, set_reader, fresh_read, first_asked, second_asked}
use Rattle.protocol.specs.History.{opened, with_first, with_second, progress_in}
use Rattle.protocol.specs.Law.{Trace, start, next}
use Rattle.figures.specs.Example.{example, ReadOvertakes}
use Rattle.protocol.proofs.Basics.{upd_off}
use Rattle.protocol.proofs.Tests.{finished_to}
use Rattle.protocol.proofs.Inv.{Held}

-- ── the store ──

-- the list mark of 5 and 130
abbrev mark : ℕ
mark = 396879717162024960

-- with one version more
abbrev holding : Held → ℕ → ℕ → ℕ → Held
holding held item stamp code i t = cond (eqb i item && eqb t stamp) (Some (code, mark)) (held i t)

abbrev store : Held → (ℕ → ℕ) → ℕ → View
store held last room = record { held = held; last = last; space = λ i. room }

abbrev items : List ℕ
items = 5 ∷ 130 ∷ []

abbrev codes : List ℕ
codes = 655363 ∷ 16908291 ∷ []

abbrev held₀ : Held
held₀ i t = None

abbrev held₁ : Held
held₁ = holding held₀ 5 17 655363

abbrev held₂ : Held
held₂ = holding held₁ 130 17 16908291

abbrev none : ℕ → ℕ
none i = 0

other : (held : Held) (item stamp code i t : ℕ) → (i ≡ item → t ≡ stamp → ⊥) → holding held item stamp code i t ≡ held i t
other held item stamp code i t d = grind arith

-- a new version takes one space of every item
puts : (held : Held) (room item code : ℕ) → first_of (put_tests (store held none (suc room)) item 17 code mark) ≡ None →
    held item 17 ≡ None → holding held item 17 code item 17 ≡ Some (code, mark) →
    PutDone (store held none (suc room)) (store (holding held item 17 code) none room) item 17 code mark true
puts held room item code passes absent here = record {
  passes = passes;
  new = rw absent refl;
  held = here;
  others = other held item 17 code;
  lasts = λ i. refl;
  space = omega arith;
  falls = λ i. omega arith;
  rises = λ i. omega arith;
}

committed : CommitDone (store held₂ none 0) (store held₂ (upd none 5 17) 0) 5 17 true
unfolding later
committed = record {
  passes = refl;
  rises = refl;
  last = refl;
  lasts = λ i d. upd_off none 5 17 i d;
  held = λ i t. refl;
  spaces = λ i. refl;
}

-- ── the states ──

bytes : Bytes items
bytes k = search rules

abbrev s₀ : State
s₀ = record { store = store held₀ none 2; writers = λ w. record { sequence = 0; current = None }; readers = λ r. None }

abbrev s₁ : State
s₁ = set_writer s₀ 1 (filed_row 1 1 items codes 17)

-- another store, and another state of the order
abbrev moved : State → View → OpenOrder → State
moved s v x = record { store = v; writers = upd s.writers 1 (with_order (s.writers 1) (Some x)); readers = s.readers }

abbrev s₂ : State
s₂ = moved s₁ (store held₁ none 1) (prepared_at (order_of s₁ 1) 0)

abbrev s₃ : State
s₃ = moved s₂ (store held₂ none 0) (prepared_at (order_of s₂ 1) 1)

abbrev s₄ : State
s₄ = moved s₃ (store held₂ (upd none 5 17) 0) (committed_at (order_of s₃ 1) 0)

abbrev s₅ : State
s₅ = set_reader s₄ 0 (Some (fresh_read items))

abbrev s₆ : State
s₆ = set_reader s₅ 0 (Some (first_asked (read_of s₅ 0) 0 (17, 655363, mark)))

abbrev s₇ : State
s₇ = set_reader s₆ 0 (Some (first_asked (read_of s₆ 0) 1 blank))

abbrev s₈ : State
s₈ = set_reader s₇ 0 (Some (second_asked (read_of s₇ 0) 1 (17, 16908291, mark)))

-- ── the run ──

run : Trace list_rule s₀ example s₈
unfolding later
run =
    next {s = s₇} {s' = s₈} (
    next {s = s₇} {s' = s₇} (
    next {s = s₆} {s' = s₇} (
    next {s = s₅} {s' = s₆} (
    next {s = s₄} {s' = s₅} (
    next {s = s₃} {s' = s₄} (
    next {s = s₂} {s' = s₃} (
    next {s = s₁} {s' = s₂} (
    next {s = s₀} {s' = s₁} start
    (refl, (bytes, refl, refl), refl))
    (refl, record { fresh = true; puts = puts held₀ 1 5 655363 refl refl refl; answer = refl; writers = refl; readers = refl }, refl))
    (refl, record { fresh = true; puts = puts held₁ 0 130 16908291 refl refl refl; answer = refl; writers = refl; readers = refl }, refl))
    (refl, record { rose = true; commits = committed; answer = refl; writers = refl; readers = refl }, refl))
    (refl, (bytes, refl, refl), refl))
    (refl, (refl, refl), refl))
    (refl, (refl, refl), refl))
    (refl, refl))
    (refl, (refl, refl), refl)

pub read_overtakes : ReadOvertakes
unfolding later
read_overtakes = record {
  lawful = list_lawful;
  before = s₀;
  after = s₈;
  last_held = λ i l. absurd (omega arith);
  untouched = record {
    nothing_held = λ i t. refl;
    no_sequence = λ w. refl;
    no_order = λ w. refl;
    no_read = λ r. refl;
  };
  run = run;
  is_order = inl refl;
  prepared = (inr (inl (refl, refl)), inl (refl, refl));
  read = with_second 1 (with_first 1 0 (with_first 0 17 (opened items)));
  is_read = refl;
  finished = finished_to list_rule (progress_in list_rule example (with_second 1 (with_first 1 0 (with_first 0 17 (opened items))))) refl;
  first = (s₈, (refl, (refl, refl), refl));
  second = (s₈, (refl, (refl, refl), refl));
  asks = (set_reader s₈ 0 None, (refl, (refl, refl), refl));
  not_closed = (s₈, (refl, refl));
}
