use Rattle.std.proofs.Common.{◌≡◌, ◌≤◌, [], length, take, vec_items, vec_len, vec_capacity}
use Rattle.protocol.specs.Law.{Trace}
use Rattle.service.specs.Meaning.{meaning}
use Rattle.runs.specs.Runs.{happened}
use Rattle.runs.proofs.driver.run.Given as goal

abbrev pub invariant-loop-call : goal.invariant-loop-call
invariant-loop-call g l =
    Trace g.N.Naming.rule (meaning g.S.Store.view l.initial.service)
    (happened (take l.call-index l.calls) (vec_items l.answers) []) (meaning g.S.Store.view l.service) ×
    (vec_len l.answers ≡ l.call-index) × (length l.calls ≤ vec_capacity l.answers)
