-- The reason of each refusal of a store, in words.
use Rattle.std.specs.Prelude.{ℕ, List, codes}
use Rattle.store.specs.declared.StoreFault.{StoreFault}
use Rattle.store.specs.declared.StoreFault.TheVariants.{NoItem, NoStamp, Clash, Full, NotHeld}

abbrev pub reason_of : StoreFault → List ℕ
reason_of NoItem = codes "the item is 0"
reason_of NoStamp = codes "the stamp is 0"
reason_of Clash = codes "this item and stamp are held with another code or mark"
reason_of Full = codes "no space is left for the item"
reason_of NotHeld = codes "this item and stamp are not held"
