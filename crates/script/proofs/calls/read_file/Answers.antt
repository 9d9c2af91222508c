use Rattle.std.proofs.Common.{arith}
use Rattle.std.proofs.lemmas.Grind.{common_steps}
use Rattle.runs.specs.Runs.{call_of}
use Rattle.script.specs.Entries.{lists_of}
use Rattle.script.proofs.Steps.{error_read, narrowed_byte, narrowed_sequence}
use Rattle.script.proofs.calls.read_file.Goals as goal

pub returns-in_err-items : goal.returns-in_err-items
returns-in_err-items c =
    let a = narrowed_byte _ _ _ c.in_ok-writer.ensures in
    let b = narrowed_sequence _ _ _ c.in_ok-sequence.ensures in
    error_read lists_of call_of _ _ _ _ c.in_err-items.ensures c.from_residual-in_err-items.ensures.1 (λ k p. grind (arith, common_steps, a, b, p))
