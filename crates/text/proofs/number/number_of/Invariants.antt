use Rattle.std.proofs.Common.{◌≡◌, drop, Some}
use Rattle.text.specs.Numbers.{digits_after, number_at}
use Rattle.text.proofs.number.number_of.Given as goal

abbrev pub invariant-loop-b : goal.invariant-loop-b
invariant-loop-b l = digits_after (Some l.n) (drop l.b-index l.text) ≡ number_at l.text
