-- What frames ask and reply, in words.
use Rattle.std.specs.Prelude.{ℕ, List, Ok, Err, codes, Result}
use Rattle.frames.specs.declared.fault.FrameFault.{FrameFault}
use Rattle.frames.specs.declared.reply.Reply.{Reply}
use Rattle.frames.specs.Faults.{fault_number}
use Rattle.frames.specs.Requests.{Asked}
use Rattle.frames.specs.Words.{asked_words, replied_words, reason_words}

-- what a frame asks, or why it asks nothing
abbrev pub request_words : Result Asked FrameFault → List ℕ
request_words (Ok a) = asked_words a
request_words (Err e) = reason_words (codes "unread") (fault_number e)

-- what a frame replies, or why it replies nothing
abbrev pub reply_words : Result Reply FrameFault → List ℕ
reply_words (Ok x) = replied_words x
reply_words (Err e) = reason_words (codes "unread") (fault_number e)
