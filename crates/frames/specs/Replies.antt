-- Replies: 17 is yes or no, 18 a version, 19 a refusal from 1 to 7.
use Rattle.std.specs.Prelude.{ℕ, Bool, true, false, cond, ◌&&◌, [], ◌∷◌, Some, None, Ok, Err, Option, Result, ◌==◌, nat_le, slice_index}
use Rattle.layout.specs.Bodies.{version_widths, triple}
use Rattle.store.specs.Meaning.{Version as Versions}
use Rattle.store.specs.Outcomes.{one_if}
use Rattle.frames.specs.declared.fault.FrameFault.{FrameFault}
use Rattle.frames.specs.declared.fault.FrameFault.TheVariants.{Unlisted}
use Rattle.frames.specs.declared.reply.Reply.{Reply}
use Rattle.frames.specs.declared.reply.Reply.TheVariants.{Done, Version, Refused}
use Rattle.frames.specs.Family.{Family, Fields, Form}

abbrev pub reply_widths : Family
reply_widths k = cond (k == 17) (Some (1 ∷ [])) (cond (k == 18) (Some version_widths) (cond (k == 19) (Some (1 ∷ [])) None))

abbrev pub reply_fields : Reply → Fields
reply_fields (Done b) = (17, one_if b ∷ [])
reply_fields (Version x) = (18, x.0 ∷ x.1 ∷ x.2 ∷ [])
reply_fields (Refused n) = (19, n ∷ [])

-- the numbers that a reply refuses with
abbrev pub listed : ℕ → Bool
listed n = nat_le 1 n && nat_le n 7

abbrev pub done_with : ℕ → Result Reply FrameFault
done_with n = cond (n == 0) (Ok (Done false)) (cond (n == 1) (Ok (Done true)) (Err Unlisted))

abbrev pub refused_with : ℕ → Result Reply FrameFault
refused_with n = cond (listed n) (Ok (Refused n)) (Err Unlisted)

abbrev pub reply_with : Fields → Result Reply FrameFault
reply_with x =
    cond (x.0 == 17) (done_with (slice_index x.1 0))
    (cond (x.0 == 18) (Ok (Version (triple x.1))) (refused_with (slice_index x.1 0)))

-- the yes or no that a reply says, and the version
abbrev pub done_in : Reply → Option Bool
done_in (Done b) = Some b
done_in (Version x) = None
done_in (Refused n) = None

abbrev pub version_in : Reply → Option Versions
version_in (Done b) = None
version_in (Version x) = Some x
version_in (Refused n) = None

abbrev pub reply_fault : Reply → Option FrameFault
reply_fault (Done b) = None
reply_fault (Version x) = None
reply_fault (Refused n) = cond (listed n) None (Some Unlisted)

abbrev pub replies : Form Reply
replies = record { widths = reply_widths; fields = reply_fields; message = reply_with; fault = reply_fault }
