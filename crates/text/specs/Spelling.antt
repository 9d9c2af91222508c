-- What a function that makes text gives.
use Rattle.std.specs.Prelude.{◌≡◌, ℕ, List, Result, String, IfOk, string_bytes}
use Rattle.std.specs.declared.alloc.Global.{Global}
use Rattle.std.specs.declared.alloc.AllocError.{AllocError}

-- the result, where there is memory for it, is the text of these bytes
abbrev pub Spells : Result (String Global) AllocError → List ℕ → Type 0
Spells r text = IfOk r (λ s. string_bytes s ≡ text)
