use Rattle.std.proofs.Common.{◌≡◌, refl, subst, rules}
use Rattle.std.proofs.lemmas.Fn.{fold_over, slice_gives, fronts}
use Rattle.store.specs.Meaning.{picked}
use Rattle.store.proofs.Choosing.{pick_push}
use Rattle.store.proofs.pick_from.Goals as goal

pub returns : goal.returns
returns g c =
    let v = c.args.versions.now in
    let h = g.V.Versions.held v c.args.item in
    record {
      passes = search rules;
      value = subst (λ l. c.fold-best.result ≡ picked h l) c.iter.ensures.rest
          (fold_over fronts (λ y. y.now) _ (λ ss best. best ≡ picked h ss) _
          (λ ss a x b f' j k.
          let more = pick_push h (g.met.V.Versions.none_blank v c.args.item) ss x.now in
          search rules)
          _ _ _ _ (slice_gives c.iter.result) refl c.fold-best.ensures.ran);
    }
