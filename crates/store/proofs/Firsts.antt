-- The first of two answers: what is held where one more version stands behind the others.
use Rattle.std.proofs.Common.{◌≡◌, true, is_some, Some, None, Option, refl}
use Rattle.std.specs.Option.{option_or}
use Rattle.std.proofs.lemmas.Bool.{false≢true}
use Rattle.store.specs.Meaning.{Content}

pub option_or_none : (o : Option Content) → option_or o None ≡ o
option_or_none None = refl
option_or_none (Some x) = refl

pub option_or_some : (o p : Option Content) → is_some o ≡ true → is_some (option_or o p) ≡ true
option_or_some None p e = absurd (false≢true e)
option_or_some (Some x) p e = refl
