use Rattle.std.proofs.Common.{refl, arith}
use Rattle.store.proofs.Zeros.{all_zero}
use Rattle.quota.proofs.Quota.new.Goals as goal

pub returns : goal.returns
returns g c = record { held = λ i s. refl; lasts = λ i. refl; spaces = λ i. omega (arith, all_zero 256 i) }
