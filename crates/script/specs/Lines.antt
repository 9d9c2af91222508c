-- The call that a line says.
use Rattle.std.specs.Prelude.{ℕ, cond, List, length, drop, Ok, Err, Result, nat_lt, slice_index_or}
use Rattle.protocol.specs.Calls.{Call, by_writer, by_reader, file, prepare, commit, close, withdraw, open_read, first_ask, second_ask, take, release}
use Rattle.text.specs.declared.token.Token.{Token}
use Rattle.text.specs.declared.token.Token.TheVariants.{Number, Name, Other}
use Rattle.text.specs.declared.word.Word.{Word}
use Rattle.text.specs.declared.word.Word.TheVariants.{Writer, Sequence, Volume, Rate, From, To, Valves, Tank, Limit, File, Prepare, Commit, Close, Withdraw, Open, First, Second, Take, Release}
use Rattle.text.specs.Tokens.{is_word}
use Rattle.script.specs.declared.fault.ScriptFault.{ScriptFault}
use Rattle.script.specs.declared.fault.ScriptFault.TheVariants.{NoCall, Numbers}
use Rattle.script.specs.Numbers.{byte_at, sequence_at, one_byte, two_bytes}
use Rattle.script.specs.Entries.{entries_in, bytes_in, in_terms}

abbrev pub file_with : Result ℕ ScriptFault → Result ℕ ScriptFault → Result (List ℕ × List ℕ) ScriptFault → Result Call ScriptFault
file_with (Err f) q lists = Err f
file_with (Ok w) (Err f) lists = Err f
file_with (Ok w) (Ok q) (Err f) = Err f
file_with (Ok w) (Ok q) (Ok lists) = Ok (by_writer w (file q lists.0 lists.1))

-- file WRITER SEQUENCE, then entries
abbrev pub file_in : List Token → Result Call ScriptFault
file_in line =
    cond (nat_lt (length line) 3) (Err Numbers)
    (file_with (byte_at line 1) (sequence_at line 2) (entries_in (drop 3 line)))

abbrev pub open_with : Result ℕ ScriptFault → Result (List ℕ) ScriptFault → Result Call ScriptFault
open_with (Err f) items = Err f
open_with (Ok r) (Err f) = Err f
open_with (Ok r) (Ok items) = Ok (by_reader r (open_read items))

-- open READER, then items
abbrev pub open_in : List Token → Result Call ScriptFault
open_in line = cond (nat_lt (length line) 2) (Err Numbers) (open_with (byte_at line 1) (bytes_in (drop 2 line)))

-- the eight calls without lists; the other words begin none of these
abbrev pub short_named : Word → List Token → Result Call ScriptFault
short_named Prepare line = in_terms (λ x. by_writer x.0 (prepare x.1)) (two_bytes line)
short_named Commit line = in_terms (λ x. by_writer x.0 (commit x.1)) (two_bytes line)
short_named Close line = in_terms (λ w. by_writer w close) (one_byte line)
short_named Withdraw line = in_terms (λ w. by_writer w withdraw) (one_byte line)
short_named First line = in_terms (λ x. by_reader x.0 (first_ask x.1)) (two_bytes line)
short_named Second line = in_terms (λ x. by_reader x.0 (second_ask x.1)) (two_bytes line)
short_named Take line = in_terms (λ x. by_reader x.0 (take x.1)) (two_bytes line)
short_named Release line = in_terms (λ r. by_reader r release) (one_byte line)
short_named Writer line = Err NoCall
short_named Sequence line = Err NoCall
short_named Volume line = Err NoCall
short_named Rate line = Err NoCall
short_named From line = Err NoCall
short_named To line = Err NoCall
short_named Valves line = Err NoCall
short_named Tank line = Err NoCall
short_named Limit line = Err NoCall
short_named File line = Err NoCall
short_named Open line = Err NoCall

abbrev pub short_in : Token → List Token → Result Call ScriptFault
short_in (Name w) line = short_named w line
short_in (Number n) line = Err NoCall
short_in Other line = Err NoCall

-- the first word tells the call
abbrev pub call_in : List Token → Result Call ScriptFault
call_in line =
    cond (is_word (slice_index_or line 0 Other) File) (file_in line)
    (cond (is_word (slice_index_or line 0 Other) Open) (open_in line) (short_in (slice_index_or line 0 Other) line))
