-- What comes back through frames is what the store below answered.
use Rattle.std.proofs.Common.{◌≡◌, ℕ, List, Ok, Result, refl, ap, ◌∙◌, subst}
use Rattle.frames.specs.declared.fault.FrameFault.{FrameFault}
use Rattle.frames.specs.declared.reply.Reply.{Reply}
use Rattle.frames.specs.Family.{Fits, read_as, frame_of}
use Rattle.frames.specs.Requests.{Asked, requests}
use Rattle.frames.specs.Replies.{replies}
use Rattle.frames.specs.Serving.{Answered}
use Rattle.frames.proofs.Trips.{requests_again, replies_again}

-- the request that was framed is served, and the reply that was sent is read
pub through : (Right : Result Asked FrameFault → Reply → Type 0) (a : Asked) (sent came : List ℕ) (x : Reply) → sent ≡ frame_of requests a → Fits requests a → Answered (Right (read_as requests sent)) came → Ok x ≡ read_as replies came → Right (Ok a) x
through Right a sent came x e fit answered read =
    let y = answered.0 in
    let ok = answered.2 in
    let same : y ≡ x = let h = read ∙ ap (read_as replies) answered.3 ∙ replies_again y ok.1 ok.0 in cc in
    subst (λ (q : Result Asked FrameFault). Right q x) (ap (read_as requests) e ∙ requests_again a fit refl)
    (subst (Right (read_as requests sent)) same answered.1)
