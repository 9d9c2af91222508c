use Rattle.std.proofs.Common.{arith}
use Rattle.rows.proofs.Changed.{read_opened}
use Rattle.rows.proofs.read.OpenRead.new.Goals as goal

pub returns : goal.returns
returns c =
    read_opened c.count_of.result c.opened_places.result c.args.items.now (omega (arith, c.count_of.ensures)) c.count_of.ensures
    c.opened_places.ensures
