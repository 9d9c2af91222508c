-- Which calls a reader's row admits: the protocol's tests on the row alone.
use Rattle.std.specs.Prelude.{ℕ, not, [], ◌∷◌, is_some, Option}
use Rattle.std.specs.Option.{option_map}
use Rattle.blend.specs.Refusals.{Tests}
use Rattle.protocol.specs.Naming.{Naming}
use Rattle.protocol.specs.State.{OpenRead, the_read}
use Rattle.protocol.specs.Asks.{progress, all_made, due_second, finished}
use Rattle.protocol.specs.Refusals.{beyond}
use Rattle.protocol.specs.Step.{first_asked, second_asked}
use Rattle.store.specs.Meaning.{Version}
use Rattle.rows.specs.declared.read_calls.ReadCall.{ReadCall}
use Rattle.rows.specs.declared.read_calls.ReadCall.TheVariants.{First, Second, Take, Release}

abbrev pub first_tests_at : OpenRead → ℕ → Tests
first_tests_at x p = (17, beyond x.items p) ∷ (24, is_some (x.first p)) ∷ []

abbrev pub second_tests_at : Naming → OpenRead → ℕ → Tests
second_tests_at ν x p =
    (17, beyond x.items p) ∷ (25, not (all_made (progress x))) ∷ (26, not (due_second ν (progress x) p)) ∷ []

abbrev pub take_tests_at : Naming → OpenRead → ℕ → Tests
take_tests_at ν x p = (17, beyond x.items p) ∷ (27, not (finished ν (progress x))) ∷ []

-- the tests of a call on the row, in their order
abbrev pub read_tests : Naming → Option OpenRead → ReadCall → Tests
read_tests ν o (First p) = (23, not (is_some o)) ∷ first_tests_at (the_read o) p
read_tests ν o (Second p) = (23, not (is_some o)) ∷ second_tests_at ν (the_read o) p
read_tests ν o (Take p) = (23, not (is_some o)) ∷ take_tests_at ν (the_read o) p
read_tests ν o Release = (23, not (is_some o)) ∷ []

-- the open read, if there is one, with an ask of a place answered
abbrev pub first_in : Option OpenRead → ℕ → Version → Option OpenRead
first_in o p v = option_map (λ x. first_asked x p v) o

abbrev pub second_in : Option OpenRead → ℕ → Version → Option OpenRead
second_in o p v = option_map (λ x. second_asked x p v) o
