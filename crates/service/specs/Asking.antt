-- What a second ask gets from the store.
use Rattle.std.specs.Prelude.{◌≡◌, ℕ, Some, Ok, Err, Result}
use Rattle.blend.specs.Refusals.{first_of}
use Rattle.store.specs.Meaning.{View, Version}
use Rattle.store.specs.Faults.{number_of}
use Rattle.store.specs.Tests.{question_tests}
use Rattle.store.specs.Outcomes.{Answered}
use Rattle.protocol.specs.Naming.{Naming}
use Rattle.protocol.specs.State.{OpenRead}
use Rattle.protocol.specs.Refusals.{read_item}
use Rattle.protocol.specs.Step.{second_version}
use Rattle.rows.specs.declared.fault.AtItem.{AtItem}

-- the latest of the wanted stamps, or the store's refusal with the item
abbrev pub AskedAgain : Naming → View → OpenRead → ℕ → Result Version AtItem → Type 0
AskedAgain ν v x p (Ok u) = Answered (read_item x p) (second_version ν v x p) u
AskedAgain ν v x p (Err e) = (first_of (question_tests (read_item x p)) ≡ Some (number_of e.fault)) × (e.item ≡ read_item x p)
