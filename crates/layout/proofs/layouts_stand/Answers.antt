use Rattle.layout.proofs.Layouts as layouts
use Rattle.layout.proofs.layouts_stand.Goals as goal

pub returns : goal.returns
returns c =
    record { long = layouts.long; bytes = layouts.bytes; again = layouts.again; only = layouts.only; fits = layouts.fits_read }
