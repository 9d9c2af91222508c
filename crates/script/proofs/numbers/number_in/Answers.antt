use Rattle.std.proofs.Common.{rules, sym, ◌∙◌}
use Rattle.script.proofs.numbers.number_in.Goals as goal

pub returns : goal.returns
returns g c = rw (sym c.number.ensures ∙ c.in_ok-number.ensures.ok_part) (c.try_from.result, c.try_from.ensures, search rules)
