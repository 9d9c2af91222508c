-- What a reading gives, unless memory runs out.
use Rattle.std.specs.Prelude.{◌≡◌, ⊤, Ok, Err, Result}
use Rattle.script.specs.declared.fault.ScriptFault.{ScriptFault}
use Rattle.script.specs.declared.fault.ScriptError.{ScriptError}
use Rattle.script.specs.declared.fault.ScriptError.TheVariants.{Fault, Memory}

abbrev pub IsMemory : ScriptError → Type 0
IsMemory (Fault f) = ⊥
IsMemory (Memory e) = ⊤

-- what was read is, in other terms, the value or the fault that is said; of want of memory nothing is said
abbrev pub Reads : {X Y : Type 0} → (X → Y) → Result X ScriptError → Result Y ScriptFault → Type 0
Reads f (Ok x) r = Ok (f x) ≡ r
Reads f (Err (Fault e)) r = Err e ≡ r
Reads f (Err (Memory e)) r = ⊤
