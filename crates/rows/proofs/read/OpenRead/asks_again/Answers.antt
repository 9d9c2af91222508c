use Rattle.std.proofs.Common.{◌≡◌, ℕ, Bool, false, not, ◌||◌, eqb, length, sym, refl, ap, ◌∙◌, rules, tests, arith}
use Rattle.std.proofs.lemmas.Iterator.{YieldsList-from_range}
use Rattle.std.proofs.lemmas.Iterator.Search.{any_from_yields_List}
use Rattle.protocol.specs.Asks.{wanted, progress, any_below}
use Rattle.rows.specs.Rows.{read_in}
use Rattle.rows.proofs.Below.{any_range, length_listed}
use Rattle.rows.proofs.read.OpenRead.asks_again.Goals as goal

pub returns-else-asks_twice : goal.returns-else-asks_twice
returns-else-asks_twice g c =
    let x = c.args.self.now in
    let want : ℕ → Bool = λ q. not (eqb (wanted g.N.Naming.rule (progress (read_in x)) c.args.p q) 0) in
    let once : g.N.Naming.rule.twice ≡ false = sym c.asks_twice.ensures ∙ c.if-asks_twice.false in
    let long : length x.places ≡ 8 = grind arith in
    any_from_yields_List want _ _ _ c.any.ensures.ran (YieldsList-from_range 0 x.count x.count refl (omega arith)) (λ q b f k. search (rules, tests))
    ∙ sym (any_range want x.count) ∙ ap (λ n. any_below n want) (sym (length_listed (λ p. p.item) x.count x.places x.few long))
    ∙ sym (ap (λ (t : Bool). t || any_below (length (read_in x).items) want) once)
