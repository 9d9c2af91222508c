use Rattle.std.proofs.Common.{◌≡◌, ℕ, true, List, is_some, vec_items, sym, ap, ◌∙◌, arith, rules}
use Rattle.blend.specs.Stamps.{later}
use Rattle.store.proofs.Passing.{real}
use Rattle.journal.specs.Records.{records}
use Rattle.journal.specs.Held.{lookup, last_of}
use Rattle.journal.proofs.Outcomes.{commit_room}
use Rattle.journal.proofs.Steps.{kept_of, CommitOf, commit_at}
use Rattle.journal.proofs.calls.JournalStore.commit.Goals as goal
use Rattle.journal.proofs.calls.JournalStore.commit.Goals.{After-deref_mut, After-size}

-- the version is held
held : (c : goal.After-deref_mut) → is_some (lookup (records (vec_items c.args.self.now.bytes)) c.args.item c.args.stamp) ≡ true
held c =
    sym (ap is_some c.find.ensures)
    ∙ search rules

-- and its stamp is later than the last
up : (c : goal.After-deref_mut) → later c.args.stamp (last_of (records (vec_items c.args.self.now.bytes)) c.args.item) ≡ true
up c =
    sym (c.raises_last.ensures ∙ ap (λ (l : List ℕ). later c.args.stamp (last_of (records l) c.args.item)) c.deref.ensures.value)
    ∙ c.if-not-raises_last.false

pub append-requires : goal.append-requires
append-requires c =
    let j = c.args.self.now in
    omega (arith, commit_room (vec_items j.bytes) j.end j.count _ _ (kept_of j) (held c) (up c))

step : (c : goal.After-size) → CommitOf c.args.self.now c.append.new.bytes c.size.result c.args.item c.args.stamp
step c =
    let numbers = real c.args.item c.args.stamp c.in_ok-check_version.ensures in
    commit_at c.args.self.now _ c.append.new.bytes (omega arith) c.deref_mut.ensures.value c.size.result _ _ c.size.ensures
    (omega arith, (omega arith, tt)) (omega arith) (omega arith)
    (held (goal.at.invariant_of-self c).After-deref_mut) (up (goal.at.invariant_of-self c).After-deref_mut) c.append.ensures

pub invariant_of-self : goal.invariant_of-self
invariant_of-self c = let k = (step c).kept in search rules

pub returns : goal.returns
returns c = (step (goal.at.returns c).After-size).done
