use Rattle.std.proofs.Common.{◌≡◌, length, vec_items, arith, rules}
use Rattle.protocol.specs.Law.{start}
use Rattle.protocol.proofs.Whole.{reads_stay_whole}
use Rattle.service.specs.Meaning.{meaning}
use Rattle.runs.proofs.Happened.{trace_more, trace_all}
use Rattle.runs.proofs.driver.run.Goals as goal

pub loop-call-init : goal.loop-call-init
loop-call-init g c = (start, search rules, search rules)

pub loop-call-preserved : goal.loop-call-preserved
loop-call-preserved g c =
    let ν = g.N.Naming.rule in
    let view = g.S.Store.view in
    let k = c.loop-call.call-index in
    let old = c.loop-call.answers in
    let len : length (vec_items old) ≡ k = search rules in (
      trace_more ν (meaning view c.args.service.now) (meaning view c.loop-call.service)
          (meaning view c.make-answer.new.service) c.args.calls.now (vec_items old)
          (vec_items c.push_reserved.new.self) k c.call-item.result c.make-answer.result len (omega arith)
          c.call-item.is c.push_reserved.ensures.items c.loop-call.invariant.0 c.make-answer.ensures,
      search rules,
      search rules,
    )

pub returns : goal.returns
returns g c =
    let ν = g.N.Naming.rule in
    let view = g.S.Store.view in
    let t =
    trace_all ν (meaning view c.args.service.now) (meaning view c.loop-call.service) c.args.calls.now
    (vec_items c.loop-call.answers) c.loop-call.call-index (omega arith) c.loop-call.invariant.0
    in
    record { trace = t; whole = λ u. reads_stay_whole g.N.Naming.rule g.met.N.Naming.lawful _ _ _ (g.met.S.Store.last_held c.args.service.now.store) u t }
