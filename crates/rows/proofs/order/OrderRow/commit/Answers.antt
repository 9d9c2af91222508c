use Rattle.std.proofs.Common.{arith}
use Rattle.rows.proofs.Changed.{row_committed}
use Rattle.rows.proofs.order.OrderRow.commit.Goals as goal

pub returns-then-place-lt8 : goal.returns-then-place-lt8
returns-then-place-lt8 c = λ h w. rw c.from.ensures (row_committed w c.args.self.now c.in-Some.order c.args.place (grind arith) c.in-Some.order.few c.in-Some.is)
