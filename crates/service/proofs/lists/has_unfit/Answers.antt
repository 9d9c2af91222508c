use Rattle.std.proofs.Common.{◌∙◌, sym, arith}
use Rattle.std.proofs.lemmas.Grind.{common_steps}
use Rattle.service.proofs.Listing.{no_items, no_codes}
use Rattle.service.proofs.lists.has_unfit.Goals as goal

pub returns : goal.returns
returns c = sym (c.loop-item.invariant ∙ grind (arith, common_steps, no_items, no_codes))
