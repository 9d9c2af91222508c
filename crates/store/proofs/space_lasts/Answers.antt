use Rattle.store.proofs.Room.{lasts}
use Rattle.store.proofs.space_lasts.Goals as goal

pub returns : goal.returns
returns c = lasts
