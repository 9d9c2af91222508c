use Rattle.std.proofs.Common.{Bool, take, is_some, sym, ◌∙◌, rules, tests}
use Rattle.std.proofs.lemmas.Iterator.{YieldsList-from_slice}
use Rattle.std.proofs.lemmas.Iterator.Search.{all_from_yields_List}
use Rattle.rows.specs.declared.read.ReadPlace.{ReadPlace}
use Rattle.rows.specs.Rows.{no_read_place}
use Rattle.rows.proofs.Below.{all_listed}
use Rattle.rows.proofs.read.OpenRead.all_made.Goals as goal

pub returns : goal.returns
returns c =
    let x = c.args.self.now in
    let made : ReadPlace → Bool = λ p. is_some p.first in
    all_from_yields_List made _ _ _ c.all.ensures.ran (YieldsList-from_slice (take x.count x.places) (cc)) (λ p b q k. search (rules, tests))
    ∙ sym (all_listed made (λ p. p.item) no_read_place x.count x.places)
