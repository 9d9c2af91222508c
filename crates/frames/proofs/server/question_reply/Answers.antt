use Rattle.std.proofs.Common.{Ok, refl, sym, subst}
use Rattle.frames.specs.declared.request.Request.{Request}
use Rattle.frames.specs.Requests.{asked}
use Rattle.frames.specs.Serving.{Replied, question}
use Rattle.frames.proofs.server.question_reply.Goals as goal

pub returns-in-Pick-clause-value : goal.returns-in-Pick-clause-value
returns-in-Pick-clause-value g c =
    subst (λ (q : Request). Replied g.S.Store.view c.args.store.now c.args.store.now (question (Ok (asked q))) c.pick_reply.result)
    (sym c.in-Pick.is) (refl, c.pick_reply.ensures.value)
