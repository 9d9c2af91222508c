use Rattle.std.proofs.Common.{Bool, take, is_some, rules, tests, arith}
use Rattle.std.proofs.lemmas.Iterator.{YieldsList-from_slice}
use Rattle.std.proofs.lemmas.Iterator.Consumers.{YieldsList-from_filter, count_from_yields_List}
use Rattle.rows.specs.declared.read.ReadPlace.{ReadPlace}
use Rattle.rows.specs.Rows.{no_read_place}
use Rattle.rows.proofs.Below.{count_listed}
use Rattle.rows.proofs.read.OpenRead.asks.Goals as goal

pub returns : goal.returns
returns c =
    let x = c.args.self.now in
    let listed = take x.count x.places in
    let made : ReadPlace → Bool = λ p. is_some p.first in
    let again : ReadPlace → Bool = λ p. p.again in
    let m =
    count_from_yields_List _ _ c.count.ensures.ran
    (YieldsList-from_filter _ made (YieldsList-from_slice listed (cc)) c.filter-made.ensures.closure (λ p b q k. search (rules, tests)))
    in
    let n =
    count_from_yields_List _ _ c.count-2.ensures.ran
    (YieldsList-from_filter _ again (YieldsList-from_slice listed (cc)) c.filter-again.ensures.closure (λ p b q k. search (rules, tests)))
    in
    let a = count_listed made (λ p. p.item) no_read_place x.count x.places in
    let b = count_listed again (λ p. p.item) no_read_place x.count x.places in
    omega (arith, m, n, a, b)
