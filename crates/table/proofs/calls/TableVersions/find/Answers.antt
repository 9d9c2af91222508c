use Rattle.std.proofs.Common.{◌≡◌, ap, ◌∙◌, option_map, rules}
use borrow.Author.Tests.{tests}
use Rattle.std.proofs.lemmas.Iterator.{YieldsList-from_slice}
use Rattle.std.proofs.lemmas.Iterator.Search.{find_from_yields_List}
use Rattle.table.specs.declared.Row.{Row}
use Rattle.table.specs.Rows.{hits}
use Rattle.table.proofs.Rows.{lookup_find}
use Rattle.table.proofs.calls.TableVersions.find.Goals as goal

pub returns : goal.returns
returns c =
    let e = find_from_yields_List (λ (r : Row). hits r c.args.item c.args.stamp) _ _ c.find.result c.find.ensures.ran (YieldsList-from_slice c.args.self.now.rows.items cc) (λ x b q k. search (rules, tests)) in
    let f : c.map.result ≡ option_map (λ (r : Row). (r.code, r.mark)) (option_map (λ y. y.now) c.find.result) = search rules in
    f ∙ ap (option_map (λ (r : Row). (r.code, r.mark))) e ∙ lookup_find c.args.self.now.rows.items c.args.item c.args.stamp
