use Rattle.store.proofs.Choosing.{picks}
use Rattle.store.proofs.picks_the_latest.Goals as goal

pub returns : goal.returns
returns c = picks
