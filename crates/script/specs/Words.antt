-- Faults of lines in words.
use Rattle.std.specs.Prelude.{ℕ, List, ◌++◌, Some, None, Option, codes, decimal}
use Rattle.sheet.specs.Faults.{number_of, reason_of}
use Rattle.script.specs.declared.fault.ScriptFault.{ScriptFault}
use Rattle.script.specs.declared.fault.ScriptFault.TheVariants.{NoCall, Numbers, TooLarge, Entry}
use Rattle.script.specs.declared.fault.ScriptError.{ScriptError}
use Rattle.script.specs.declared.fault.ScriptError.TheVariants.{Fault, Memory}

abbrev pub no_call : List ℕ → List ℕ
no_call why = codes "no call: " ++ why

-- a line that is no call: the reason, with the refusal number of an entry
abbrev pub fault_words : ScriptFault → List ℕ
fault_words (Entry f) = codes "refused " ++ (decimal (number_of f) ++ (codes ": " ++ reason_of f))
fault_words NoCall = no_call (codes "it begins with none of the ten calls")
fault_words Numbers = no_call (codes "the call wants other numbers")
fault_words TooLarge = no_call (codes "a number is too large for its field")

-- the same after the number of the line
abbrev pub fault_line : ℕ → ScriptFault → List ℕ
fault_line line f = codes "line " ++ (decimal line ++ (codes ": " ++ fault_words f))

-- of want of memory std has the words
abbrev pub error_words : ScriptError → Option (List ℕ)
error_words (Fault f) = Some (fault_words f)
error_words (Memory e) = None
