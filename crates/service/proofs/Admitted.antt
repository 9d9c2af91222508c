-- From what a row admits and a store answers to a step of the protocol.
use Rattle.std.proofs.Common.{◌≡◌, ℕ, ◌<◌, ◌≤◌, Bool, true, false, cond, List, [], ◌∷◌, length, get_or, set, Some, None, Ok, Err, Option, Result, sym, ap, ◌∙◌, subst, arith}
use Rattle.std.specs.Option.{option_map}
use Rattle.std.proofs.lemmas.List.{get_or-set_same, get_or-set_other, get_or_default}
use Rattle.std.proofs.lemmas.Bool.{leb-false, not-false, le-ltb}
use Rattle.blend.specs.Refusals.{Tests, first_of}
use Rattle.store.specs.Tests.{question_tests}
use Rattle.store.specs.declared.StoreFault.{StoreFault}
use Rattle.store.specs.Meaning.{View}
use Rattle.store.specs.Outcomes.{PutOutcome, CommitOutcome, Same}
use Rattle.protocol.specs.Naming.{Naming, padded}
use Rattle.protocol.specs.State.{State, OpenOrder, OrderRow as WriterRow, OpenRead, the_order, the_read, upd}
use Rattle.protocol.specs.Calls.{Call, by_reader, second_ask, refused}
use Rattle.protocol.specs.Asks.{progress, all_made, due_second}
use Rattle.protocol.specs.Refusals.{all_prepared, item_at, code_at, read_item, refusal}
use Rattle.protocol.specs.Step.{Step, with_order, set_reader}
use Rattle.protocol.proofs.Tests.{clear, order_there as some_order, read_there}
use Rattle.protocol.proofs.Basics.{upd_from, upd_set}
use Rattle.protocol.proofs.Intro.{same_store}
use Rattle.rows.specs.declared.order.OrderRow.{OrderRow}
use Rattle.rows.specs.declared.read.ReadRow.{ReadRow}
use Rattle.rows.specs.declared.fault.Fault.{Fault}
use Rattle.rows.specs.declared.fault.AtItem.{AtItem}
use Rattle.rows.specs.declared.order_calls.OrderCall.{OrderCall}
use Rattle.rows.specs.declared.order_calls.OrderCall.TheVariants.{Prepare, Commit}
use Rattle.rows.specs.declared.read_calls.ReadCall.TheVariants.{Second}
use Rattle.rows.specs.declared.order_changes.Placed.{Placed}
use Rattle.rows.specs.Faults.{number_of, at_item, AboutItem, About}
use Rattle.rows.specs.OrderCalls.{order_tests, placed_at, items_in}
use Rattle.rows.specs.ReadCalls.{read_tests}
use Rattle.rows.specs.Rows.{row_of, reading, empty_row, empty_read_row}
use Rattle.service.specs.declared.state.Service.{Service}
use Rattle.service.specs.Meaning.{meaning, answer}

-- ── what the rows admit ──

pub record PlacedIn (o : Option OpenOrder) (k : ℕ) : Type 0 where
  pub there : o ≡ Some (the_order o)
  pub within : k < length (the_order o).order.items

pub may_prepare : (o : Option OpenOrder) (k : ℕ) → first_of (order_tests o (Prepare k)) ≡ None → PlacedIn o k
may_prepare o k e =
    let z = clear (order_tests o (Prepare k)) e in
    record { there = some_order o z.0; within = leb-false (length (the_order o).order.items) k z.1.0 }

pub may_commit : (o : Option OpenOrder) (k : ℕ) → first_of (order_tests o (Commit k)) ≡ None → PlacedIn o k × (all_prepared (the_order o) ≡ true)
may_commit o k e =
    let z = clear (order_tests o (Commit k)) e in (
      record { there = some_order o z.0; within = leb-false (length (the_order o).order.items) k z.1.0 },
      not-false (all_prepared (the_order o)) z.1.1.0,
    )

pub record ReadIn (o : Option OpenRead) (p : ℕ) : Type 0 where
  pub there : o ≡ Some (the_read o)
  pub within : p < length (the_read o).items

module _ (ν : Naming) (o : Option OpenRead) (p : ℕ) where
  pub may_second : first_of (read_tests ν o (Second p)) ≡ None → ReadIn o p
  may_second e =
      let z = clear (read_tests ν o (Second p)) e in
      record { there = read_there o z.0; within = leb-false (length (the_read o).items) p z.1.0 }

  pub second_made : first_of (read_tests ν o (Second p)) ≡ None → all_made (progress (the_read o)) ≡ true
  second_made e = not-false (all_made (progress (the_read o))) (clear (read_tests ν o (Second p)) e).1.1.0

  pub second_due : first_of (read_tests ν o (Second p)) ≡ None → due_second ν (progress (the_read o)) p ≡ true
  second_due e = not-false (due_second ν (progress (the_read o)) p) (clear (read_tests ν o (Second p)) e).1.1.1.0

-- the row's refusal comes before the store's tests
abbrev followed : Tests → Tests → Tests
followed [] bs = bs
followed (t ∷ ts) bs = t ∷ followed ts bs

early : (ts bs : Tests) (n : ℕ) → first_of ts ≡ Some n → first_of (followed ts bs) ≡ Some n
early [] bs n e = let z : ◌≡◌ {A = ℕ} 0 1 = cc in absurd (omega arith)
early (t ∷ ts) bs n e =
    elim t.1 as (λ b. cond b (Some t.0) (first_of ts) ≡ Some n → cond b (Some t.0) (first_of (followed ts bs)) ≡ Some n)
    [ true ↦ λ h. h | false ↦ λ h. early ts bs n h ] e

pub second_early : (ν : Naming) (s : State) (r p n : ℕ) → r ≤ 15 → first_of (read_tests ν (s.readers r) (Second p)) ≡ Some n →
    refusal ν s (by_reader r (second_ask p)) ≡ Some n
second_early ν s r p n low e =
    rw (le-ltb 15 r low) (early (read_tests ν (s.readers r) (Second p)) (question_tests (read_item (the_read (s.readers r)) p)) n e)

-- ── what the store answered ──

module _ {X : Type 0} (i : ℕ) (r : Result X StoreFault) where
  pub was_ok : (x : X) → Ok x ≡ at_item i r → r ≡ Ok x
  was_ok x e = elim r as (λ z. Ok x ≡ at_item i z → z ≡ Ok x) [
    | Ok y ↦ λ h. cc
    | Err f ↦ λ h. let z : ◌≡◌ {A = ℕ} 0 1 = cc in absurd (omega arith)
  ] e

  pub was_item : (a : AtItem) → Err a ≡ at_item i r → a.item ≡ i
  was_item a e = elim r as (λ z. Err a ≡ at_item i z → a.item ≡ i) [
    | Ok y ↦ λ h. let z : ◌≡◌ {A = ℕ} 0 1 = cc in absurd (omega arith)
    | Err f ↦ λ h. ap (λ (q : Result X AtItem). item_in q) h
  ] e
    where
      item_in : Result X AtItem → ℕ
      item_in (Ok y) = i
      item_in (Err b) = b.item

  pub was_err : (a : AtItem) → Err a ≡ at_item i r → r ≡ Err a.fault
  was_err a e = elim r as (λ z. Err a ≡ at_item i z → z ≡ Err a.fault) [
    | Ok y ↦ λ h. let z : ◌≡◌ {A = ℕ} 0 1 = cc in absurd (omega arith)
    | Err f ↦ λ h. ap (λ (q : Result X AtItem). fault_in f q) (sym h)
  ] e
    where
      fault_in : StoreFault → Result X AtItem → Result X StoreFault
      fault_in f (Ok y) = Err f
      fault_in f (Err b) = Err b.fault

-- the store's outcomes at the place that the row gave
module _ (v w : View) (marks : List ℕ → ℕ) (o : Option OpenOrder) (k : ℕ) (at : Placed) (same : at ≡ placed_at o k) where
  pub put_there : (m : ℕ) (r : Result Bool StoreFault) → m ≡ marks at.items → PutOutcome v w at.item at.stamp at.code m r →
      PutOutcome v w (item_at (the_order o) k) (the_order o).order.stamp (code_at (the_order o) k) (marks (padded 8 (the_order o).order.items)) r
  put_there m r e h =
      subst (λ (q : Placed). PutOutcome v w q.item q.stamp q.code (marks q.items) r) same
      (subst (λ (n : ℕ). PutOutcome v w at.item at.stamp at.code n r) e h)

  pub commit_there : (r : Result Bool StoreFault) → CommitOutcome v w at.item at.stamp r →
      CommitOutcome v w (item_at (the_order o) k) (the_order o).order.stamp r
  commit_there r h = subst (λ (q : Placed). CommitOutcome v w q.item q.stamp r) same h

-- what a row says, of the row at its place in the table
module _ (w : ℕ) {row z : OrderRow} (same : row ≡ z) where
  pub placed_there : (k : ℕ) {at : Placed} → at ≡ placed_at (row_of w row).current k → at ≡ placed_at (row_of w z).current k
  placed_there k {at = at} e = subst (λ (y : OrderRow). at ≡ placed_at (row_of w y).current k) same e

  pub admitted_there : (call : OrderCall) → first_of (order_tests (row_of w row).current call) ≡ None →
      first_of (order_tests (row_of w z).current call) ≡ None
  admitted_there call e = subst (λ (y : OrderRow). first_of (order_tests (row_of w y).current call) ≡ None) same e

  pub few_there : (k : ℕ) → k < length (the_order (row_of w z).current).order.items → items_in (row_of w row).current ≤ 8 → k < 8
  few_there k a e = let b = subst (λ (y : OrderRow). items_in (row_of w y).current ≤ 8) same e in omega (arith, a, b)

-- a refusal that came up by `?`
pub refused_as : (ν : Naming) (s s' : State) (call : Call) (r : Result ℕ Fault) (f : Fault) → r ≡ Err f →
    Step ν s call (refused (number_of f)) s' → Step ν s call (answer r) s'
refused_as ν s s' call r f e z = subst (λ (a : Result ℕ Fault). Step ν s call (answer a) s') (sym e) z

-- and the item that it is about
pub about_as : (i : ℕ) (r : Result ℕ Fault) (f : Fault) → r ≡ Err f → AboutItem i f → About i r
about_as i r f e h = subst (λ (a : Result ℕ Fault). About i a) (sym e) h

-- ── the service with a row changed ──

module _ {S N : Type 0} (view : S → View) (x : Service S N) where
  -- a store of the same meaning
  pub store_same : (store : S) → Same (view x.store) (view store) →
      meaning {N = N} view (record { store = store; rule = x.rule; orders = x.orders; reads = x.reads }) ≡ meaning view x
  store_same store h =
      ap (λ (z : View). record { store = z; writers = (meaning view x).writers; readers = (meaning view x).readers })
      (same_store (view x.store) (view store) h)

  pub writer_set : (w i : ℕ) → i ≡ w → (row : OrderRow) (z : WriterRow) → w < length x.orders.rows → row_of w row ≡ z →
      (λ m. row_of m (get_or (set x.orders.rows i row) m empty_row)) ≡ upd (meaning view x).writers w z
  writer_set w i at row z h e = rw at (
      upd_from (meaning view x).writers (λ m. row_of m (get_or (set x.orders.rows w row) m empty_row)) w z
      (ap (row_of w) (get_or-set_same x.orders.rows w row empty_row h) ∙ e)
      (λ m d. ap (row_of m) (get_or-set_other x.orders.rows w m row empty_row d)))

-- a row of the table changed in its order, read with any default
pub order_there : (w i : ℕ) → i ≡ w → (rows : List OrderRow) (d : OrderRow) → w < length rows → (f : Option OpenOrder → Option OpenOrder) (new : OrderRow) →
    row_of w new ≡ with_order (row_of w (get_or rows i d)) (f (row_of w (get_or rows i d)).current) →
    row_of w new ≡ with_order (row_of w (get_or rows w empty_row)) (f (row_of w (get_or rows w empty_row)).current)
order_there w i at rows d h f new e =
    let same : get_or rows i d ≡ get_or rows w empty_row = ap (λ m. get_or rows m d) at ∙ get_or_default rows w d empty_row h in
    subst (λ (z : OrderRow). row_of w new ≡ with_order (row_of w z) (f (row_of w z).current)) same e

-- the open order with a place changed
pub order_set : (row : WriterRow) (f : OpenOrder → OpenOrder) → row.current ≡ Some (the_order row.current) →
    with_order row (option_map f row.current) ≡ with_order row (Some (f (the_order row.current)))
order_set row f e = ap (λ (o : Option OpenOrder). with_order row (option_map f o)) e

-- a state with one reader's row changed
module _ {S N : Type 0} (view : S → View) (x : Service S N) where
  pub read_set : (r i : ℕ) → i ≡ r → (row : ReadRow) (z : Option OpenRead) → r < length x.reads.rows → reading row ≡ z →
      meaning {N = N} view (record { store = x.store; rule = x.rule; orders = x.orders; reads = record { rows = set x.reads.rows i row } }) ≡
      set_reader (meaning view x) r z
  read_set r i at row z h e = rw at (
      ap (λ (f : ℕ → Option OpenRead). record { store = view x.store; writers = (meaning view x).writers; readers = f })
      (upd_set reading x.reads.rows r row empty_read_row h ∙ ap (upd (meaning view x).readers r) e))
