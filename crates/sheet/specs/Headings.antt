-- What the heading of a sheet says.
use Rattle.std.specs.Prelude.{ℕ, cond, List, length, Some, None, Ok, Err, Option, Result, ◌==◌}
use Rattle.std.specs.Option.{unwrap_or}
use Rattle.blend.specs.declared.refusal.Refusal.{Refusal}
use Rattle.blend.specs.Stamps.{stamped}
use Rattle.text.specs.declared.token.Token.{Token}
use Rattle.text.specs.declared.word.Word.TheVariants as word
use Rattle.text.specs.Tokens.{field_at}
use Rattle.sheet.specs.Faults.{stamp_fault}
use Rattle.sheet.specs.declared.fault.LineFault.{LineFault}
use Rattle.sheet.specs.declared.fault.LineFault.TheVariants.{Writer}

abbrev pub stamp_or_fault : Result ℕ Refusal → Result ℕ LineFault
stamp_or_fault (Ok s) = Ok s
stamp_or_fault (Err e) = Err (stamp_fault e)

-- a missing sequence, or words after it, count as sequence 0, which is refused
abbrev pub sequence_in : List Token → ℕ
sequence_in line = cond (length line == 4) (unwrap_or (field_at line 2 word.Sequence) 0) 0

abbrev pub heading_of : Option ℕ → ℕ → Result ℕ LineFault
heading_of None q = Err Writer
heading_of (Some w) q = stamp_or_fault (stamped w q)

abbrev pub heading_in : List Token → Result ℕ LineFault
heading_in line = heading_of (field_at line 0 word.Writer) (sequence_in line)
