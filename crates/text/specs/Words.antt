-- The words, each with its place among them and its spelling.
use Rattle.std.specs.Prelude.{ℕ, cond, List, [], ◌∷◌, Some, None, codes, Option}
use Rattle.std.specs.Str.{bytes_eq}
use Rattle.text.specs.declared.word.Word.{Word}
use Rattle.text.specs.declared.word.Word.TheVariants.{Writer, Sequence, Volume, Rate, From, To, Valves, Tank, Limit, File, Prepare, Commit, Close, Withdraw, Open, First, Second, Take, Release}

abbrev pub index_of : Word → ℕ
index_of Writer = 0
index_of Sequence = 1
index_of Volume = 2
index_of Rate = 3
index_of From = 4
index_of To = 5
index_of Valves = 6
index_of Tank = 7
index_of Limit = 8
index_of File = 9
index_of Prepare = 10
index_of Commit = 11
index_of Close = 12
index_of Withdraw = 13
index_of Open = 14
index_of First = 15
index_of Second = 16
index_of Take = 17
index_of Release = 18

abbrev pub spelled : Word → List ℕ
spelled Writer = codes "writer"
spelled Sequence = codes "sequence"
spelled Volume = codes "volume"
spelled Rate = codes "rate"
spelled From = codes "from"
spelled To = codes "to"
spelled Valves = codes "valves"
spelled Tank = codes "tank"
spelled Limit = codes "limit"
spelled File = codes "file"
spelled Prepare = codes "prepare"
spelled Commit = codes "commit"
spelled Close = codes "close"
spelled Withdraw = codes "withdraw"
spelled Open = codes "open"
spelled First = codes "first"
spelled Second = codes "second"
spelled Take = codes "take"
spelled Release = codes "release"

abbrev pub all_words : List Word
all_words =
    Writer ∷ (Sequence ∷ (Volume ∷ (Rate ∷ (From ∷ (To ∷ (Valves ∷ (Tank ∷ (Limit ∷ (File ∷
    (Prepare ∷ (Commit ∷ (Close ∷ (Withdraw ∷ (Open ∷ (First ∷ (Second ∷ (Take ∷ (Release ∷ []))))))))))))))))))

abbrev pub word_among : List Word → List ℕ → Option Word
word_among [] t = None
word_among (w ∷ ws) t = cond (bytes_eq t (spelled w)) (Some w) (word_among ws t)

-- the word that a text spells, if any
abbrev pub word_at : List ℕ → Option Word
word_at t = word_among all_words t
