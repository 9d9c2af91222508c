use Rattle.std.specs.Result.{IfOk}
use Rattle.std.proofs.Common.{◌≡◌, take, sym, subst, ap, ◌∙◌}
use Rattle.frames.specs.Family.{read_as}
use Rattle.frames.specs.Requests.{asked, request_frame}
use Rattle.frames.specs.Replies.{replies}
use Rattle.frames.specs.Serving.{Replied, question}
use Rattle.link.proofs.Through.{through}
use Rattle.link.proofs.Link.question.Goals as goal

pub returns : goal.returns
returns g c =
    through (λ q. Replied g.S.Store.view c.args.self.now.store c.args.self.now.store (question q)) (asked c.args.request) c.frame.result.now (take c.question_reply_frame-reply.result.length c.question_reply_frame-reply.result.bytes) c.unwrap.result
    (c.frame.ensures ∙ subst (λ r. IfOk r (λ f. take f.length f.bytes ≡ request_frame c.args.request)) c.unwrap-frame.ensures c.framed.ensures.frame) c.requires.fits c.question_reply_frame-reply.ensures
    (sym c.unwrap.ensures ∙ c.read_reply.ensures ∙ ap (read_as replies) c.frame-2.ensures)
