-- One more call in a history.
use Rattle.std.proofs.Common.{◌≡◌, ℕ, zero, suc, ◌+◌, ◌<◌, ◌≤◌, List, [], ◌∷◌, ◌++◌, length, get_or, take, sym, ap, subst, add-one, arith}
use Rattle.std.proofs.lemmas.List.{take_all}
use Rattle.protocol.specs.Naming.{Naming}
use Rattle.protocol.specs.State.{State}
use Rattle.protocol.specs.History.{called, History}
use Rattle.protocol.specs.Law.{Trace, next}
use Rattle.protocol.specs.Step.{Step}
use Rattle.runs.specs.declared.calls.Call.{Call}
use Rattle.runs.specs.declared.calls.Answer.{Answer}
use Rattle.runs.specs.Runs.{call_of, answer_of, happened}

happened_suc : (cs : List Call) (rs : List Answer) (k : ℕ) (c : Call) (a : Answer) (h : History) → length rs ≡ k → k < length cs → c ≡ get_or cs k c →
    happened (take (suc k) cs) (rs ++ a ∷ []) h ≡ called (call_of c) (answer_of a) ∷ happened (take k cs) rs h
happened_suc [] rs k c a h e l i = absurd (omega arith)
happened_suc (d ∷ cs) [] zero c a h e l i = ap (λ (z : Call). called (call_of z) (answer_of a) ∷ h) (sym i)
happened_suc (d ∷ cs) [] (suc k) c a h e l i = absurd (omega arith)
happened_suc (d ∷ cs) (b ∷ rs) zero c a h e l i = absurd (omega arith)
happened_suc (d ∷ cs) (b ∷ rs) (suc k) c a h e l i =
    happened_suc cs rs k c a (called (call_of d) (answer_of b) ∷ h) (omega arith) (omega arith) i

-- the call at k is made
pub trace_more : (ν : Naming) (s₀ s s' : State) (cs : List Call) (rs bs : List Answer) (k : ℕ) (c : Call) (a : Answer) → length rs ≡ k → k < length cs →
    c ≡ get_or cs k c → bs ≡ rs ++ a ∷ [] → Trace ν s₀ (happened (take k cs) rs []) s → Step ν s (call_of c) (answer_of a) s' →
    Trace ν s₀ (happened (take (k + 1) cs) bs []) s'
trace_more ν s₀ s s' cs rs bs k c a e l i p t z =
    let more : happened (take (k + 1) cs) bs [] ≡ called (call_of c) (answer_of a) ∷ happened (take k cs) rs [] =
    rw (add-one, p) (happened_suc cs rs k c a [] e l i)
    in
    let after : Trace ν s₀ (called (call_of c) (answer_of a) ∷ happened (take k cs) rs []) s' = next t z in
    subst (λ (h : History). Trace ν s₀ h s') (sym more) after

-- all calls are made
pub trace_all : (ν : Naming) (s₀ s : State) (cs : List Call) (rs : List Answer) (k : ℕ) → length cs ≤ k →
    Trace ν s₀ (happened (take k cs) rs []) s → Trace ν s₀ (happened cs rs []) s
trace_all ν s₀ s cs rs k l t = subst (λ (ds : List Call). Trace ν s₀ (happened ds rs []) s) (take_all k cs l) t
