-- What a link makes of a refusal that comes back.
use Rattle.std.specs.Prelude.{unwrap_or}
use Rattle.store.specs.declared.StoreFault.{StoreFault}
use Rattle.store.specs.declared.StoreFault.TheVariants.{NotHeld}
use Rattle.store.specs.Faults.{fault_with}
use Rattle.frames.specs.declared.reply.Reply.{Reply}
use Rattle.frames.specs.declared.reply.Reply.TheVariants.{Done, Version, Refused}

-- the refusal of a store that a reply says; a number that no store refuses with stands for "not held"
abbrev pub refusal_in : Reply → StoreFault
refusal_in (Done b) = NotHeld
refusal_in (Version x) = NotHeld
refusal_in (Refused n) = unwrap_or (fault_with n) NotHeld
