use Rattle.std.proofs.Common.{Some, List, ℕ, ap, ◌∙◌}
use Rattle.std.proofs.lemmas.List.{take_all}
use Rattle.protocol.specs.State.{OpenRead}
use Rattle.protocol.specs.Step.{fresh_read}
use Rattle.rows.proofs.read.ReadRow.open.Goals as goal

pub returns : goal.returns
returns c = λ few.
    ap (λ (x : OpenRead). Some x) (c.new-read.ensures ∙ ap (λ (l : List ℕ). fresh_read l) (take_all 8 c.args.items.now few))
