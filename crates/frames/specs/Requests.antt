-- Requests: put is 1, commit 2, last 3, pick 4.
use Rattle.std.specs.Prelude.{◌≡◌, ℕ, cond, List, [], ◌∷◌, length, drop, Some, None, Ok, Err, Option, Result, ◌==◌, slice_index}
use Rattle.layout.specs.Layout.{parsed}
use Rattle.layout.specs.Bodies.{put_widths, commit_widths}
use Rattle.frames.specs.declared.fault.FrameFault.{FrameFault}
use Rattle.frames.specs.declared.fault.FrameFault.TheVariants.{Length}
use Rattle.frames.specs.declared.request.Request.{Request}
use Rattle.frames.specs.declared.request.Request.TheVariants.{Put, Commit, Last, Pick}
use Rattle.frames.specs.Family.{Family, Fields, Form, read_as, frame_of}

-- a request with its stamps as numbers
pub data Asked : Type 0 where
  put : ℕ → ℕ → ℕ → ℕ → Asked
  commit : ℕ → ℕ → Asked
  last : ℕ → Asked
  pick : ℕ → List ℕ → Asked

abbrev pub stamp_widths : List ℕ
stamp_widths = 4 ∷ 4 ∷ 4 ∷ 4 ∷ 4 ∷ 4 ∷ 4 ∷ 4 ∷ []

-- the stamps in 32 bytes
abbrev pub stamps_in : List ℕ → Option (List ℕ)
stamps_in bs = cond (length bs == 32) (Some (parsed stamp_widths bs)) None

abbrev pub request_widths : Family
request_widths k =
    cond (k == 1) (Some put_widths)
    (cond (k == 2) (Some commit_widths) (cond (k == 3) (Some (1 ∷ [])) (cond (k == 4) (Some (1 ∷ stamp_widths)) None)))

abbrev pub request_fields : Asked → Fields
request_fields (put i s c m) = (1, i ∷ s ∷ c ∷ m ∷ [])
request_fields (commit i s) = (2, i ∷ s ∷ [])
request_fields (last i) = (3, i ∷ [])
request_fields (pick i ss) = (4, i ∷ ss)

abbrev pub request_with : Fields → Asked
request_with x =
    cond (x.0 == 1) (put (slice_index x.1 0) (slice_index x.1 1) (slice_index x.1 2) (slice_index x.1 3))
    (cond (x.0 == 2) (commit (slice_index x.1 0) (slice_index x.1 1))
    (cond (x.0 == 3) (last (slice_index x.1 0)) (pick (slice_index x.1 0) (drop 1 x.1))))

abbrev pub requests : Form Asked
requests = record { widths = request_widths; fields = request_fields; message = λ x. Ok (request_with x); fault = λ _. None }

-- what a request asks, its stamps read from the bytes that it borrows
abbrev pub asked : Request → Asked
asked (Put i s c m) = put i s c m
asked (Commit i s) = commit i s
asked (Last i) = last i
asked (Pick i p) = pick i (parsed stamp_widths p.now)

abbrev pub asked_in : Result Request FrameFault → Result Asked FrameFault
asked_in (Ok q) = Ok (asked q)
asked_in (Err e) = Err e

-- the frame of a request
abbrev pub request_frame : Request → List ℕ
request_frame q = frame_of requests (asked q)

-- the stamps of a pick are the 32 bytes after the kind and the item of its frame
abbrev pub Borrows : List ℕ → Request → Type 0
Borrows frame (Put i s c m) = Unit {0}
Borrows frame (Commit i s) = Unit {0}
Borrows frame (Last i) = Unit {0}
Borrows frame (Pick i p) = (p.now ≡ drop 2 frame) × (length p.now ≡ 32)

-- a pick that borrows other than 32 bytes is not written
abbrev pub pick_fault : List ℕ → Option FrameFault
pick_fault bs = cond (length bs == 32) None (Some Length)

abbrev pub request_fault : Request → Option FrameFault
request_fault (Put i s c m) = None
request_fault (Commit i s) = None
request_fault (Last i) = None
request_fault (Pick i p) = pick_fault p.now

-- a commit of item 5 and stamp 17, and a frame that is too long
pub record Figures : Type 0 where
  pub commit_bytes : frame_of requests (commit 5 17) ≡ 2 ∷ 5 ∷ 0 ∷ 0 ∷ 0 ∷ 17 ∷ []
  pub too_long : read_as requests (3 ∷ 5 ∷ 5 ∷ []) ≡ Err Length
