use Rattle.std.proofs.Common.{◌≡◌, ℕ, List, length, codes, sym, ap, arith, rules}
use Rattle.std.proofs.lemmas.Slice.Eq.{HasBytesAt, text_from_reads}
use Rattle.text.specs.Words.{word_at}
use Rattle.text.proofs.word.Word.read.Goals as goal

-- the word of a text that was read byte by byte
reads : (text word : List ℕ) → length text ≡ length word → HasBytesAt text 0 word → word_at word ≡ word_at text
reads text word l b = sym (ap word_at (text_from_reads text word l b))

pub returns-in-limit : goal.returns-in-limit
returns-in-limit c = reads c.args.text.now (codes "limit") (omega arith) (search rules)

pub returns-in-close : goal.returns-in-close
returns-in-close c = reads c.args.text.now (codes "close") (omega arith) (search rules)

pub returns-in-first : goal.returns-in-first
returns-in-first c = reads c.args.text.now (codes "first") (omega arith) (search rules)

pub returns-in-writer : goal.returns-in-writer
returns-in-writer c = reads c.args.text.now (codes "writer") (omega arith) (search rules)

pub returns-in-volume : goal.returns-in-volume
returns-in-volume c = reads c.args.text.now (codes "volume") (omega arith) (search rules)

pub returns-in-valves : goal.returns-in-valves
returns-in-valves c = reads c.args.text.now (codes "valves") (omega arith) (search rules)

pub returns-in-commit : goal.returns-in-commit
returns-in-commit c = reads c.args.text.now (codes "commit") (omega arith) (search rules)

pub returns-in-second : goal.returns-in-second
returns-in-second c = reads c.args.text.now (codes "second") (omega arith) (search rules)

pub returns-in-prepare : goal.returns-in-prepare
returns-in-prepare c = reads c.args.text.now (codes "prepare") (omega arith) (search rules)

pub returns-in-release : goal.returns-in-release
returns-in-release c = reads c.args.text.now (codes "release") (omega arith) (search rules)

pub returns-in-sequence : goal.returns-in-sequence
returns-in-sequence c = reads c.args.text.now (codes "sequence") (omega arith) (search rules)

pub returns-in-withdraw : goal.returns-in-withdraw
returns-in-withdraw c = reads c.args.text.now (codes "withdraw") (omega arith) (search rules)

pub returns-in-rate : goal.returns-in-rate
returns-in-rate c = reads c.args.text.now (codes "rate") (omega arith) (search rules)

pub returns-in-from : goal.returns-in-from
returns-in-from c = reads c.args.text.now (codes "from") (omega arith) (search rules)

pub returns-in-tank : goal.returns-in-tank
returns-in-tank c = reads c.args.text.now (codes "tank") (omega arith) (search rules)

pub returns-in-file : goal.returns-in-file
returns-in-file c = reads c.args.text.now (codes "file") (omega arith) (search rules)

pub returns-in-open : goal.returns-in-open
returns-in-open c = reads c.args.text.now (codes "open") (omega arith) (search rules)

pub returns-in-take : goal.returns-in-take
returns-in-take c = reads c.args.text.now (codes "take") (omega arith) (search rules)
