use Rattle.std.proofs.Common.{◌≡◌, ◌<◌, None, vec_items, sym, ◌∙◌, arith, rules}
use Rattle.store.proofs.Passing.{real, new_none}
use Rattle.journal.specs.Records.{records}
use Rattle.journal.specs.Held.{lookup}
use Rattle.journal.specs.Means.{journal_view}
use Rattle.journal.proofs.Outcomes.{put_room}
use Rattle.journal.proofs.Steps.{kept_of, PutOf, put_at}
use Rattle.journal.proofs.calls.JournalStore.put.Goals as goal
use Rattle.journal.proofs.calls.JournalStore.put.Goals.{After-size}

pub returns-then-space-eq0 : goal.returns-then-space-eq0
returns-then-space-eq0 c =
    let full : (journal_view c.args.self.now).space c.args.item ≡ 0 = omega (arith, c.space.ensures.value c.args.item) in
    search rules

pub append-requires : goal.append-requires
append-requires c =
    let j = c.args.self.now in
    omega (arith, put_room (vec_items j.bytes) j.end j.count (kept_of j) (omega (arith, c.space.ensures.value 0)))

step : (c : goal.After-size) →
    PutOf c.args.self.now c.append.new.bytes c.size.result c.args.item c.args.stamp c.args.code c.args.mark
step c =
    let j = c.args.self.now in
    let numbers = real c.args.item c.args.stamp c.in_ok-check_version.ensures in
    let none : lookup (records (vec_items j.bytes)) c.args.item c.args.stamp ≡ None =
    sym c.find.ensures
    ∙ new_none c.find.result c.args.code c.args.mark c.in_ok-fresh.fresh c.in_ok-fresh.ensures c.if-not-fresh.false in
    let room : 0 < (journal_view j).space c.args.item = omega (arith, c.space.ensures.value 0) in
    put_at j _ c.append.new.bytes (omega arith) c.deref_mut.ensures.value c.size.result _ _ _ _ c.size.ensures
    (omega arith, (omega arith, (omega arith, (omega arith, tt)))) (omega arith) (omega arith) none room c.append.ensures

pub invariant_of-self : goal.invariant_of-self
invariant_of-self c = let k = (step c).kept in search rules

pub returns : goal.returns
returns c = (step (goal.at.returns c).After-size).done
