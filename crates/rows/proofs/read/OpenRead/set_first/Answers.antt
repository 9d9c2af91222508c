use Rattle.std.proofs.Common.{arith}
use Rattle.rows.proofs.Changed.{first_set}
use Rattle.rows.proofs.read.OpenRead.set_first.Goals as goal

pub returns-then-place-lt8 : goal.returns-then-place-lt8
returns-then-place-lt8 c = λ h. rw c.from-at.ensures (first_set c.args.self.now c.args.place (grind arith) c.args.version c.args.self.now.few)
