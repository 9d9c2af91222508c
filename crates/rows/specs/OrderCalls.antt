-- Which calls a writer's row admits: the protocol's tests on the row alone.
use Rattle.std.specs.Prelude.{ℕ, cond, not, [], ◌∷◌, length, is_some, Some, None, Ok, Err, Option, Result, nat_le}
use Rattle.std.specs.Option.{option_map}
use Rattle.blend.specs.Refusals.{Tests}
use Rattle.protocol.specs.State.{OpenOrder, the_order}
use Rattle.protocol.specs.Refusals.{beyond, item_at, code_at, all_prepared, all_committed, gathering, complete}
use Rattle.protocol.specs.Naming.{padded}
use Rattle.protocol.specs.Step.{prepared_at, committed_at}
use Rattle.rows.specs.declared.order_changes.Placed.{Placed}
use Rattle.rows.specs.declared.fault.Fault.{Fault}
use Rattle.rows.specs.declared.fault.Fault.TheVariants.{Place}
use Rattle.rows.specs.declared.order_calls.Stage.{Stage}
use Rattle.rows.specs.declared.order_calls.Stage.TheVariants.{Idle, Gathering, Sealed, Complete}
use Rattle.rows.specs.declared.order_calls.OrderCall.{OrderCall}
use Rattle.rows.specs.declared.order_calls.OrderCall.TheVariants.{Prepare, Commit, Close, Withdraw}

abbrev pub stage_of : Option OpenOrder → Stage
stage_of None = Idle
stage_of (Some x) = cond (all_prepared x) (cond (all_committed x) Complete Sealed) Gathering

abbrev pub items_in : Option OpenOrder → ℕ
items_in o = length (the_order o).order.items

-- the tests of a call on the row, in their order
abbrev pub order_tests : Option OpenOrder → OrderCall → Tests
order_tests o (Prepare k) = (16, not (is_some o)) ∷ (17, beyond (the_order o).order.items k) ∷ []
order_tests o (Commit k) = (16, not (is_some o)) ∷ (17, beyond (the_order o).order.items k) ∷ (18, gathering (the_order o)) ∷ []
order_tests o Close = (16, not (is_some o)) ∷ (19, not (complete (the_order o))) ∷ []
order_tests o Withdraw = (16, not (is_some o)) ∷ (20, all_prepared (the_order o)) ∷ []

abbrev pub within_list : ℕ → ℕ → Result (Unit {0}) Fault
within_list n k = cond (nat_le n k) (Err Place) (Ok tt)

-- a place of an order, with all its items in eight places
abbrev pub placed_at : Option OpenOrder → ℕ → Placed
placed_at o k = record {
  item = item_at (the_order o) k;
  code = code_at (the_order o) k;
  stamp = (the_order o).order.stamp;
  items = padded 8 (the_order o).order.items;
}

-- the open order, if there is one, with a place prepared or committed
abbrev pub prepared_in : Option OpenOrder → ℕ → Option OpenOrder
prepared_in o k = option_map (λ x. prepared_at x k) o

abbrev pub committed_in : Option OpenOrder → ℕ → Option OpenOrder
committed_in o k = option_map (λ x. committed_at x k) o
