-- Calls and answers in words.
use Rattle.std.specs.Prelude.{ℕ, List, ◌++◌, vec_len, codes, decimal}
use Rattle.rows.specs.Faults.{number_of}
use Rattle.rows.specs.Reasons.{reason_of}
use Rattle.runs.specs.declared.calls.Call.{Call}
use Rattle.runs.specs.declared.calls.Call.TheVariants.{File, Prepare, Commit, Close, Withdraw, Open, First, Second, Take, Release}
use Rattle.runs.specs.declared.calls.Answer.{Answer}
use Rattle.runs.specs.declared.calls.Answer.TheVariants.{Number, Shown, Refused}

abbrev pub refused_words : ℕ → List ℕ → List ℕ
refused_words n why = codes "refused " ++ (decimal n ++ (codes ": " ++ why))

abbrev pub shown_words : ℕ → ℕ → List ℕ
shown_words stamp code = codes "shows stamp " ++ (decimal stamp ++ (codes " code " ++ decimal code))

abbrev pub answer_words : Answer → List ℕ
answer_words (Number n) = codes "answer " ++ decimal n
answer_words (Shown stamp code) = shown_words stamp code
answer_words (Refused f) = refused_words (number_of f) (reason_of f)

-- a word and two numbers
abbrev pub two_words : List ℕ → ℕ → ℕ → List ℕ
two_words word a b = word ++ (decimal a ++ (codes " " ++ decimal b))

-- of a list the number of its items
abbrev pub call_words : Call → List ℕ
call_words (File w q items bodies) =
    codes "file " ++ (decimal w ++ (codes " " ++ (decimal q ++ (codes " of " ++ (decimal (vec_len items) ++ codes " items")))))
call_words (Prepare w k) = two_words (codes "prepare ") w k
call_words (Commit w k) = two_words (codes "commit ") w k
call_words (Close w) = codes "close " ++ decimal w
call_words (Withdraw w) = codes "withdraw " ++ decimal w
call_words (Open r items) = codes "open " ++ (decimal r ++ (codes " of " ++ (decimal (vec_len items) ++ codes " items")))
call_words (First r p) = two_words (codes "first ") r p
call_words (Second r p) = two_words (codes "second ") r p
call_words (Take r p) = two_words (codes "take ") r p
call_words (Release r) = codes "release " ++ decimal r
