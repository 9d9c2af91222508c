-- Frames: a kind and a body whose fields have the widths of the kind, and the messages that they stand for.
use Rattle.std.specs.Prelude.{◌≡◌, ℕ, cond, List, [], ◌∷◌, ◌++◌, length, drop, Some, None, Ok, Err, Option, Result, ◌==◌, nat_lt}
use Rattle.std.specs.Int.Digits.{AllBelowBase}
use Rattle.layout.specs.Layout.{laid, parsed, total, Fit}
use Rattle.frames.specs.declared.fault.FrameFault.{FrameFault}
use Rattle.frames.specs.declared.fault.FrameFault.TheVariants.{Kind, Length, Buffer}

-- the widths of the body of each kind
abbrev pub Family : Type 0
Family = ℕ → Option (List ℕ)

-- a kind and the values of its fields
abbrev pub Fields : Type 0
Fields = ℕ × List ℕ

-- the kind is tested first, then the length
abbrev pub body_fields : ℕ → List ℕ → Option (List ℕ) → Result Fields FrameFault
body_fields k b None = Err Kind
body_fields k b (Some ws) = cond (length b == total ws) (Ok (k, parsed ws b)) (Err Length)

abbrev pub fields_in : Family → List ℕ → Result Fields FrameFault
fields_in f [] = Err Kind
fields_in f (k ∷ b) = body_fields k b (f k)

abbrev pub laid_by : Option (List ℕ) → List ℕ → List ℕ
laid_by None vs = []
laid_by (Some ws) vs = laid ws vs

abbrev pub frame_with : Family → Fields → List ℕ
frame_with f x = x.0 ∷ laid_by (f x.0) x.1

abbrev pub FitBy : Option (List ℕ) → List ℕ → Type 0
FitBy None vs = ⊥
FitBy (Some ws) vs = Fit ws vs

-- messages of a sort: their family, the fields of each, the message with given fields, and why one is not written
pub record Form (X : Type 0) : Type 0 where
  pub widths : Family
  pub fields : X → Fields
  pub message : Fields → Result X FrameFault
  pub fault : X → Option FrameFault

abbrev pub message_by : {X : Type 0} → (Fields → Result X FrameFault) → Result Fields FrameFault → Result X FrameFault
message_by make (Ok x) = make x
message_by make (Err e) = Err e

-- the message that a frame is read as
abbrev pub read_as : {X : Type 0} → Form X → List ℕ → Result X FrameFault
read_as m bs = message_by m.message (fields_in m.widths bs)

-- the frame of a message
abbrev pub frame_of : {X : Type 0} → Form X → X → List ℕ
frame_of m x = frame_with m.widths (m.fields x)

abbrev pub Fits : {X : Type 0} → Form X → X → Type 0
Fits m x = FitBy (m.widths (m.fields x).0) (m.fields x).1

-- what was written reads back as written
abbrev pub Again : {X : Type 0} → Form X → Type 0
Again {X} m = (x : X) → Fits m x → m.fault x ≡ None → read_as m (frame_of m x) ≡ Ok x

-- and no other bytes pass for it
abbrev pub Only : {X : Type 0} → Form X → Type 0
Only {X} m = (bs : List ℕ) (x : X) → AllBelowBase 256 bs → read_as m bs ≡ Ok x → bs ≡ frame_of m x

abbrev pub length_unless : Option FrameFault → List ℕ → Result ℕ FrameFault
length_unless None bs = Ok (length bs)
length_unless (Some e) bs = Err e

abbrev pub front_unless : Option FrameFault → List ℕ → List ℕ → List ℕ
front_unless None bs out = bs ++ drop (length bs) out
front_unless (Some e) bs out = out

-- what writing a frame answers: a short buffer is refused first, then the message's own fault, else it is the frame's length
abbrev pub write_answer : Option FrameFault → List ℕ → List ℕ → Result ℕ FrameFault
write_answer fault bs out = cond (nat_lt (length out) (length bs)) (Err Buffer) (length_unless fault bs)

-- what the buffer then holds: the frame and what stood after it, or what it held
abbrev pub written : Option FrameFault → List ℕ → List ℕ → List ℕ
written fault bs out = cond (nat_lt (length out) (length bs)) out (front_unless fault bs out)
