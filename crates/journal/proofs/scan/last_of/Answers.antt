use Rattle.std.proofs.Common.{◌≡◌, List, [], ◌∷◌, refl, rules}
use Rattle.std.specs.Iterator.{YieldsFirst}
use Rattle.std.proofs.lemmas.Fn.{fold_over}
use Rattle.std.proofs.lemmas.Iterator.Consumers.{YieldsList-from_first}
use Rattle.journal.specs.declared.record.Record.{Record}
use Rattle.journal.specs.declared.scan.Records.{Records}
use Rattle.journal.specs.Records.{records}
use Rattle.journal.specs.Held.{last_from}
use Rattle.journal.proofs.Counts.{last_append}
use Rattle.journal.proofs.scan.last_of.Goals as goal

pub returns : goal.returns
returns c =
    let i = c.args.item in
    let rest : Records → List Record = λ r. records r.0.now in
    let s : Records = record { 0 = record { ref_ptr = _; now = c.args.bytes.now } } in
    fold_over (YieldsFirst rest) (λ x. x) _ (λ rs l. l ≡ last_from 0 rs i) _
    (λ rs a x b f' j k.
    let more = last_append 0 rs (x ∷ []) i in
    search rules)
    s (rest s) _ _ (YieldsList-from_first (λ x. x) rest (rest s) refl).runs refl c.fold.ensures.ran
