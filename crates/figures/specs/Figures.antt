-- Worked figures, each from the definitions that the code's contracts cite.
use Rattle.std.specs.Prelude.{◌≡◌, ℕ, Bool, cond, List, [], ◌∷◌, Some, None, Ok, Err, Option, Result, ◌==◌}
use Rattle.blend.specs.declared.refusal.Refusal.{Refusal}
use Rattle.blend.specs.declared.refusal.Refusal.TheVariants.{NoBody}
use Rattle.figures.specs.declared.Worked.{Worked}
use Rattle.blend.specs.Refusals.{number_of}
use Rattle.blend.specs.Stamps.{stamped}
use Rattle.blend.specs.Codes.{coded, quantity_code, line_up_code}
use Rattle.store.specs.Meaning.{View, Content, picked}
use Rattle.store.specs.Outcomes.{CommitDone, one_if}
use Rattle.naming.specs.Worked.{MarksWorked}
use Rattle.frames.specs.Requests.{requests, commit}
use Rattle.frames.specs.Family.{frame_of, read_as}
use Rattle.frames.specs.Faults.{fault_number}
use Rattle.frames.specs.declared.fault.FrameFault.TheVariants.{Length}
use Rattle.journal.specs.Means.{WorkedSpaces}
use Rattle.figures.specs.Example.{ReadOvertakes}

-- the number that a call is refused with
abbrev pub refusal_in : Result ℕ Refusal → Option ℕ
refusal_in (Ok n) = None
refusal_in (Err e) = Some (number_of e)

-- what the code gives for them
abbrev pub the_figures : Worked
the_figures =
    record { last_stamp = Ok 4294967295; quantity = Ok 655363; line_up = Ok 16908291; too_much = Err NoBody }

-- what is held of an item that has the versions 17 and 33
abbrev pub two_held : Content → Content → ℕ → Option Content
two_held a b s = cond (s == 17) (Some a) (cond (s == 33) (Some b) None)

abbrev pub asked_stamps : List ℕ
asked_stamps = 17 ∷ 40 ∷ 0 ∷ 0 ∷ 0 ∷ 0 ∷ 0 ∷ 0 ∷ []

pub record Figures : Type 0 where
  -- the last stamp: writer 15, sequence 268,435,455
  pub last_stamp : stamped 15 268435455 ≡ Ok 4294967295
  -- 10 litres at 3 a minute
  pub quantity : quantity_code (record { litres = 10; rate = 3 }) ≡ Some 655363
  -- from tank 1 to tank 2, valves 3
  pub line_up : line_up_code (record { source = 1; destination = 2; valves = 3 }) ≡ Some 16908291
  -- 100,000,000 litres are no body, at any rate
  pub too_much : (r : ℕ) → refusal_in (coded (quantity_code (record { litres = 100000000; rate = r }))) ≡ Some 15
  -- the filter mark of 1 and 8 is 263 and names 1, 8 and 2, not 3; their list mark does not name 2
  pub marks : MarksWorked
  -- a commit of item 5 and stamp 17 as a frame; the frame 03 05 05 is refused with 7
  pub commit_frame : frame_of requests (commit 5 17) ≡ 2 ∷ 5 ∷ 0 ∷ 0 ∷ 0 ∷ 17 ∷ []
  pub long_frame : read_as requests (3 ∷ 5 ∷ 5 ∷ []) ≡ Err Length
  pub long_number : fault_number Length ≡ 7
  -- 17 and 33 are held: a pick of 17 and 40 gives 17
  pub pick : (a b : Content) → picked (two_held a b) asked_stamps ≡ (17, a.0, a.1)
  -- commits of 33, then 17, of an item with nothing committed answer 1, then 0, in any store
  pub commits : (u v w : View) (first second : Bool) → u.last 5 ≡ 0 → CommitDone u v 5 33 first → CommitDone v w 5 17 second →
      (one_if first ≡ 1) × (one_if second ≡ 0)
  -- journals of 27, 28, 55 and 56 bytes have space 0, 1, 1 and 2
  pub spaces : WorkedSpaces
  -- by the list rule: first asks 17 and 0, second asks refused 26 and 17, takes of the whole order, release 3, close refused 19
  pub run : ReadOvertakes
