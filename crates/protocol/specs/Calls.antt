-- The ten calls, and their answers.
use Rattle.std.specs.Prelude.{ℕ, List}

pub data WriterCall : Type 0 where
  -- sequence, items, codes
  file : ℕ → List ℕ → List ℕ → WriterCall
  -- a place of the order
  prepare : ℕ → WriterCall
  commit : ℕ → WriterCall
  close : WriterCall
  withdraw : WriterCall

pub data ReaderCall : Type 0 where
  open_read : List ℕ → ReaderCall
  -- a place of the read
  first_ask : ℕ → ReaderCall
  second_ask : ℕ → ReaderCall
  take : ℕ → ReaderCall
  release : ReaderCall

pub data Call : Type 0 where
  by_writer : ℕ → WriterCall → Call
  by_reader : ℕ → ReaderCall → Call

-- A refusal has its number. An acceptance has the number answered and, of a take, the code beside the stamp (0 of any other call).
pub data Answer : Type 0 where
  refused : ℕ → Answer
  accepted : ℕ → ℕ → Answer
