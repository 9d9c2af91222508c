-- What serving a frame comes to.
use Rattle.std.specs.Prelude.{◌≡◌, ℕ, ◌<◌, ◌≤◌, List, ◌++◌, length, drop, None, Ok, Err, Result}
use Rattle.store.specs.declared.StoreFault.{StoreFault}
use Rattle.store.specs.Faults.{number_of}
use Rattle.store.specs.Meaning.{View}
use Rattle.store.specs.Outcomes.{PutOutcome, CommitOutcome, LastOutcome, PickOutcome}
use Rattle.frames.specs.declared.fault.FrameFault.{FrameFault}
use Rattle.frames.specs.declared.fault.FrameFault.TheVariants.{Kind, Buffer}
use Rattle.frames.specs.declared.reply.Reply.{Reply}
use Rattle.frames.specs.declared.reply.Reply.TheVariants.{Done, Version, Refused}
use Rattle.frames.specs.Faults.{fault_number}
use Rattle.frames.specs.Family.{Fits, frame_of}
use Rattle.frames.specs.Requests.{Asked, put, commit, last, pick}
use Rattle.frames.specs.Replies.{replies, reply_fault}

-- the reply to what a store answered, where an answer is said so
abbrev pub reply_of : {T : Type 0} → (T → Reply) → Result T StoreFault → Reply
reply_of said (Ok x) = said x
reply_of said (Err f) = Refused (number_of f)

-- some outcome of the store, and its reply
abbrev pub OutcomeReplied : {T : Type 0} → (T → Reply) → (Result T StoreFault → Type 0) → Reply → Type 0
OutcomeReplied {T} said Outcome x = (o : Result T StoreFault) × Outcome o × (x ≡ reply_of said o)

-- The reply to a frame that was read so, with the store from s to t: that to the store's own outcome, or the refusal of the frame with
-- the store uncalled.
abbrev pub Replied : {S : Type 0} → (S → View) → S → S → Result Asked FrameFault → Reply → Type 0
Replied view s t (Err e) x = (t ≡ s) × (x ≡ Refused (fault_number e))
Replied view s t (Ok (put i n c m)) x = OutcomeReplied Done (PutOutcome (view s) (view t) i n c m) x
Replied view s t (Ok (commit i n)) x = OutcomeReplied Done (CommitOutcome (view s) (view t) i n) x
Replied view s t (Ok (last i)) x = (t ≡ s) × OutcomeReplied Version (LastOutcome (view s) i) x
Replied view s t (Ok (pick i ns)) x = (t ≡ s) × OutcomeReplied Version (PickOutcome (view s) i ns) x

-- a shared store answers questions; any other frame is of no kind that it knows
abbrev pub question : Result Asked FrameFault → Result Asked FrameFault
question (Err e) = Err e
question (Ok (put i n c m)) = Err Kind
question (Ok (commit i n)) = Err Kind
question (Ok (last i)) = Ok (last i)
question (Ok (pick i ns)) = Ok (pick i ns)

-- a reply that is listed and fits its fields
abbrev pub Sendable : Reply → Type 0
Sendable x = (reply_fault x ≡ None) × Fits replies x

-- a reply at the front of a buffer: the answer is its length, and the bytes after it are as they were
pub record Sent (x : Reply) (before after : List ℕ) (r : Result ℕ FrameFault) : Type 0 where
  pub sendable : Sendable x
  pub answer : r ≡ Ok (length (frame_of replies x))
  pub buffer : after ≡ frame_of replies x ++ drop (length (frame_of replies x)) before

-- a buffer under 21 bytes is refused and stays as it was; else a right reply is sent
pub record Served (Right : Reply → Type 0) (before after : List ℕ) (r : Result ℕ FrameFault) : Type 0 where
  pub short : length before < 21 → (r ≡ Err Buffer) × (after ≡ before)
  pub enough : 21 ≤ length before → (x : Reply) × Right x × Sent x before after r

-- the frame of a right reply
abbrev pub Answered : (Reply → Type 0) → List ℕ → Type 0
Answered Right bs = (x : Reply) × Right x × Sendable x × (bs ≡ frame_of replies x)
