-- What calls and answers mean in the protocol, the history of a run, and what a run promises.
use Rattle.std.specs.Prelude.{ℕ, List, [], ◌∷◌, Ok, Err, vec_items, Result}
use Rattle.protocol.specs.Naming.{Naming}
use Rattle.protocol.specs.State.{State, Untouched}
use Rattle.protocol.specs.Calls as protocol
use Rattle.protocol.specs.History.{called, History}
use Rattle.protocol.specs.Law.{Trace, AlwaysWhole}
use Rattle.rows.specs.declared.fault.Fault.{Fault}
use Rattle.rows.specs.Faults.{number_of}
use Rattle.runs.specs.declared.calls.Call.{Call}
use Rattle.runs.specs.declared.calls.Call.TheVariants.{File, Prepare, Commit, Close, Withdraw, Open, First, Second, Take, Release}
use Rattle.runs.specs.declared.calls.Answer.{Answer}
use Rattle.runs.specs.declared.calls.Answer.TheVariants.{Number, Shown, Refused}

abbrev pub call_of : Call → protocol.Call
call_of (File w q items codes) = protocol.by_writer w (protocol.file q (vec_items items) (vec_items codes))
call_of (Prepare w k) = protocol.by_writer w (protocol.prepare k)
call_of (Commit w k) = protocol.by_writer w (protocol.commit k)
call_of (Close w) = protocol.by_writer w protocol.close
call_of (Withdraw w) = protocol.by_writer w protocol.withdraw
call_of (Open r items) = protocol.by_reader r (protocol.open_read (vec_items items))
call_of (First r p) = protocol.by_reader r (protocol.first_ask p)
call_of (Second r p) = protocol.by_reader r (protocol.second_ask p)
call_of (Take r p) = protocol.by_reader r (protocol.take p)
call_of (Release r) = protocol.by_reader r protocol.release

-- each answer's number and values
abbrev pub answer_of : Answer → protocol.Answer
answer_of (Number n) = protocol.accepted n 0
answer_of (Shown stamp code) = protocol.accepted stamp code
answer_of (Refused f) = protocol.refused (number_of f)

abbrev pub numbered : Result ℕ Fault → Answer
numbered (Ok n) = Number n
numbered (Err f) = Refused f

abbrev pub shown : Result (ℕ × ℕ) Fault → Answer
shown (Ok x) = Shown x.0 x.1
shown (Err f) = Refused f

-- the history after the calls with their answers, the newest first
abbrev pub happened : List Call → List Answer → History → History
happened [] rs h = h
happened (c ∷ cs) [] h = h
happened (c ∷ cs) (a ∷ rs) h = happened cs rs (called (call_of c) (answer_of a) ∷ h)

-- Each call steps from the state that those before it left; and from an untouched state reads are whole after the list and after every
-- beginning of it.
pub record Ran (ν : Naming) (s : State) (calls : List Call) (answers : List Answer) (s' : State) : Type 0 where
  pub trace : Trace ν s (happened calls answers []) s'
  pub whole : Untouched s → AlwaysWhole ν s (happened calls answers []) s'
