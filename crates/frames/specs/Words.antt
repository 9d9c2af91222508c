-- Requests and replies in words.
use Rattle.std.specs.Prelude.{ℕ, List, [], ◌++◌, codes, decimal, unwrap_or}
use Rattle.std.specs.List.{flat_map}
use Rattle.store.specs.Outcomes.{one_if}
use Rattle.frames.specs.declared.request.Request.{Request}
use Rattle.frames.specs.declared.request.Request.TheVariants.{Put, Commit, Last, Pick}
use Rattle.frames.specs.declared.reply.Reply.{Reply}
use Rattle.frames.specs.declared.reply.Reply.TheVariants.{Done, Version, Refused}
use Rattle.frames.specs.Faults.{reason_of}
use Rattle.frames.specs.Requests.{Asked, put, commit, last, pick, stamps_in}

-- a stamp, a code and a mark
abbrev pub version_words : ℕ → ℕ → ℕ → List ℕ
version_words s c m = codes " stamp " ++ (decimal s ++ (codes " code " ++ (decimal c ++ (codes " mark " ++ decimal m))))

-- a number after a blank
abbrev pub spaced : ℕ → List ℕ
spaced n = codes " " ++ decimal n

abbrev pub asked_words : Asked → List ℕ
asked_words (put i s c m) = codes "put item " ++ (decimal i ++ version_words s c m)
asked_words (commit i s) = codes "commit item " ++ (decimal i ++ (codes " stamp " ++ decimal s))
asked_words (last i) = codes "last item " ++ decimal i
asked_words (pick i ss) = codes "pick item " ++ (decimal i ++ (codes " of" ++ flat_map spaced ss))

-- a request as it is told: a pick of other than 32 bytes is of no stamps
abbrev pub told : Request → Asked
told (Put i s c m) = put i s c m
told (Commit i s) = commit i s
told (Last i) = last i
told (Pick i p) = pick i (unwrap_or (stamps_in p.now) [])

-- a word, then the number of a refusal and its reason
abbrev pub reason_words : List ℕ → ℕ → List ℕ
reason_words w n = w ++ (codes " " ++ (decimal n ++ (codes ": " ++ reason_of n)))

abbrev pub replied_words : Reply → List ℕ
replied_words (Done b) = codes "done " ++ decimal (one_if b)
replied_words (Version x) = codes "version" ++ version_words x.0 x.1 x.2
replied_words (Refused n) = reason_words (codes "refused") n
