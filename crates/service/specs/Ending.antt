-- How an order ends, by a call that its writer's row admits.
use Rattle.std.specs.Prelude.{◌≡◌, ℕ, ◌∷◌, Some, None, Ok, Err, Result, nat_lt}
use Rattle.blend.specs.Refusals.{Tests, first_of}
use Rattle.protocol.specs.State.{State, order_of}
use Rattle.protocol.specs.Step.{with_order, set_writer}
use Rattle.rows.specs.declared.fault.Fault.{Fault}
use Rattle.rows.specs.declared.order_calls.OrderCall.{OrderCall}
use Rattle.rows.specs.Faults.{number_of}
use Rattle.rows.specs.OrderCalls.{order_tests}

-- the tests of a writer's number and of its row
abbrev pub end_tests : State → ℕ → OrderCall → Tests
end_tests s w call = (10, nat_lt 15 w) ∷ order_tests (s.writers w).current call

-- the stamp answered, and the state without the order
abbrev pub EndsOrder : State → ℕ → OrderCall → Result ℕ Fault → State → Type 0
EndsOrder s w call (Ok a) s' =
    (first_of (end_tests s w call) ≡ None) × (a ≡ (order_of s w).order.stamp) ×
    (s' ≡ set_writer s w (with_order (s.writers w) None))
EndsOrder s w call (Err f) s' = (first_of (end_tests s w call) ≡ Some (number_of f)) × (s' ≡ s)
