use Rattle.std.proofs.Common.{◌≡◌, ℕ, Bool, true, not, ◌&&◌, length, sym, refl, ap, ◌∙◌, rules, tests, arith}
use Rattle.std.proofs.lemmas.Iterator.{YieldsList-from_range}
use Rattle.std.proofs.lemmas.Iterator.Search.{all_from_yields_List}
use Rattle.protocol.specs.Asks.{due_second, progress, all_below, all_made}
use Rattle.rows.specs.Rows.{read_in}
use Rattle.rows.proofs.Below.{all_range, length_listed}
use Rattle.rows.proofs.read.OpenRead.is_finished.Goals as goal

pub returns-then-all_made : goal.returns-then-all_made
returns-then-all_made g c =
    let x = c.args.self.now in
    let quiet : ℕ → Bool = λ p. not (due_second g.N.Naming.rule (progress (read_in x)) p) in
    let made : all_made (progress (read_in x)) ≡ true = sym c.all_made.ensures ∙ c.if-all_made.true in
    let long : length x.places ≡ 8 = grind arith in
    all_from_yields_List quiet _ _ _ c.all.ensures.ran (YieldsList-from_range 0 x.count x.count refl (omega arith)) (λ q b f k. search (rules, tests))
    ∙ sym (all_range quiet x.count) ∙ ap (λ n. all_below n quiet) (sym (length_listed (λ p. p.item) x.count x.places x.few long))
    ∙ sym (ap (λ (t : Bool). t && all_below (length (read_in x).items) quiet) made)
