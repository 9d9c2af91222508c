-- When a store refuses: the tests of each call, in their order.
use Rattle.std.specs.Prelude.{◌≡◌, ℕ, Bool, false, not, ◌&&◌, [], ◌∷◌, is_some, Some, None, Option, Result, MatchResult, ◌==◌}
use Rattle.blend.specs.Refusals.{Tests, first_of}
use Rattle.store.specs.declared.StoreFault.{StoreFault}
use Rattle.store.specs.Faults.{number_of}
use Rattle.store.specs.Meaning.{View, Content}

-- held, with another code or mark
abbrev pub clashes : Option Content → ℕ → ℕ → Bool
clashes None code mark = false
clashes (Some x) code mark = not (x.0 == code && x.1 == mark)

abbrev pub put_tests : View → ℕ → ℕ → ℕ → ℕ → Tests
put_tests v item stamp code mark =
    (1, (item == 0)) ∷
    ((2, (stamp == 0)) ∷
    ((3, clashes (v.held item stamp) code mark) ∷ ((4, not (is_some (v.held item stamp)) && v.space item == 0) ∷ [])))

abbrev pub commit_tests : View → ℕ → ℕ → Tests
commit_tests v item stamp = (1, (item == 0)) ∷ ((2, (stamp == 0)) ∷ ((5, not (is_some (v.held item stamp))) ∷ []))

abbrev pub question_tests : ℕ → Tests
question_tests item = (1, (item == 0)) ∷ []

-- the tests that put and commit begin with
abbrev pub version_tests : ℕ → ℕ → Tests
version_tests item stamp = (1, (item == 0)) ∷ ((2, (stamp == 0)) ∷ [])

-- accepted where no test fires, and else refused by the first that does
abbrev pub Tested : {T : Type 0} → Tests → Result T StoreFault → Type 0
Tested tests r = MatchResult r (λ x. first_of tests ≡ None) (λ fault. first_of tests ≡ Some (number_of fault))
