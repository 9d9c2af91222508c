-- The law over whole runs: reads stay whole.
use Rattle.std.specs.Prelude.{◌≡◌, ℕ, ◌*◌, ◌<◌, ◌≤◌, true, ◌⊎◌, [], ◌∷◌, ◌++◌, length, Some, slice_index}
use Rattle.blend.specs.Stamps.{later}
use Rattle.store.specs.Meaning.{LastHeld}
use Rattle.protocol.specs.Naming.{Naming, Lawful}
use Rattle.protocol.specs.Calls.{Call, by_reader, first_ask, second_ask, take, release, Answer, refused, accepted}
use Rattle.protocol.specs.State.{Order, State, Untouched}
use Rattle.protocol.specs.Asks.{DueFirst, DueSecond, Finished}
use Rattle.protocol.specs.Step.{Step}
use Rattle.protocol.specs.History.{called, History, Ordered, Prepared, Withdrawn, Lists, ListsWith, Read, current_read, progress_in}

-- a run from s₀: its history and the state that it leads to
pub data Trace (ν : Naming) (s₀ : State) : History → State → Type 0 where
  start : Trace ν s₀ [] s₀
  next : {h : History} {s s' : State} {c : Call} {a : Answer} → Trace ν s₀ h s → Step ν s c a s' → Trace ν s₀ (called c a ∷ h) s'

-- ── the next call ──

-- the call, made next from s, may get the answer
abbrev pub Next : Naming → State → Call → Answer → Type 0
Next ν s c a = (s' : State) × Step ν s c a s'

abbrev pub Accepted : (ℕ → ℕ → Type 0) → Answer → Type 0
Accepted P (refused n) = ⊥
Accepted P (accepted a b) = P a b

-- the call, made next from s, is accepted, and always with such an answer
pub record Accepts (ν : Naming) (s : State) (c : Call) (P : ℕ → ℕ → Type 0) : Type 0 where
  pub possible : (a : Answer) × Next ν s c a
  pub always : (a : Answer) → Next ν s c a → Accepted P a

-- an ask that is due in the read x of the reader r
abbrev pub Due : Naming → History → ℕ → Read → Call → Type 0
Due ν h r x c =
    ((p : ℕ) × DueFirst (progress_in ν h x) p × (c ≡ by_reader r (first_ask p))) ⊎
    ((p : ℕ) × DueSecond ν (progress_in ν h x) p × (c ≡ by_reader r (second_ask p)))

-- ── the law ──

-- the stamp t is the stamp u, or later
abbrev pub AsLate : ℕ → ℕ → Type 0
AsLate t u = (t ≡ u) ⊎ (later t u ≡ true)

-- The item's version with the stamp t and the code c is of the order o: filed, and prepared at all its places, in the calls so far;
-- withdrawn nowhere in the whole list; with the code that was filed for the item.
pub record Genuine (past all : History) (i t c : ℕ) (o : Order) : Type 0 where
  pub is_order : Ordered past o
  pub stamp : o.stamp ≡ t
  pub lists : ListsWith o i c
  pub prepared : (k : ℕ) → k < length o.items → Prepared past o k
  pub stands : ¬ Withdrawn all o

-- Past is the history so far, which led to the state s, and all is that of the whole list. A place shows what a take of it would answer
-- as the next call.
pub record Whole (ν : Naming) (past all : History) (s : State) : Type 0 where
  -- where a place of a finished read shows the version of an order of the list, every place of the read that this order lists shows the
  -- order's stamp or a later one
  pub together :
      (r : ℕ) (x : Read) → current_read past r ≡ Some x → Finished ν (progress_in ν past x) →
      (o : Order) → Ordered all o → (p q : ℕ) → p < length x.items → q < length x.items →
      Lists o (slice_index x.items p) → Lists o (slice_index x.items q) →
      (c : ℕ) → Next ν s (by_reader r (take p)) (accepted o.stamp c) →
      Accepts ν s (by_reader r (take q)) (λ t d. AsLate t o.stamp)
  -- a place shows the blank or a genuine version
  pub genuine :
      (r p t c : ℕ) → Next ν s (by_reader r (take p)) (accepted t c) →
      ((t ≡ 0) × (c ≡ 0)) ⊎
      ((x : Read) × (current_read past r ≡ Some x) × (p < length x.items) ×
      ((o : Order) × Genuine past all (slice_index x.items p) t c o))
  -- a finished read shows each of its places; one that is not finished has an ask due; an ask that is due is not refused
  pub shown :
      (r : ℕ) (x : Read) → current_read past r ≡ Some x → Finished ν (progress_in ν past x) → (p : ℕ) → p < length x.items →
      Accepts ν s (by_reader r (take p)) (λ t c. Unit {0})
  pub onward :
      (r : ℕ) (x : Read) → current_read past r ≡ Some x → ¬ Finished ν (progress_in ν past x) → (c : Call) × Due ν past r x c
  pub granted :
      (r : ℕ) (x : Read) → current_read past r ≡ Some x → (c : Call) → Due ν past r x c → Accepts ν s c (λ a b. Unit {0})
  -- a release answers how many asks were accepted, at most two for each item
  pub counted : (r : ℕ) (x : Read) → current_read past r ≡ Some x → Accepts ν s (by_reader r release) (λ a b. a ≡ x.asks)
  pub few : (r : ℕ) (x : Read) → current_read past r ≡ Some x → x.asks ≤ 2 * length x.items

-- the run from s₀ to sₙ, cut after its beginning past: some state stands there, and in every such state reads are whole
pub record WholeAfter (ν : Naming) (s₀ : State) (rest past : History) (sₙ : State) : Type 0 where
  pub reached : (s : State) × Trace ν s₀ past s × Trace ν s rest sₙ
  pub whole : (s : State) → Trace ν s₀ past s → Trace ν s rest sₙ → Whole ν past (rest ++ past) s

-- the law after every beginning of the run with the history h
abbrev pub AlwaysWhole : Naming → State → History → State → Type 0
AlwaysWhole ν s₀ h sₙ = (rest past : History) → rest ++ past ≡ h → WholeAfter ν s₀ rest past sₙ

-- for every lawful naming rule, every store that keeps the law of its interface, and every run from an untouched state
abbrev pub ReadsStayWhole : Type 0
ReadsStayWhole =
    (ν : Naming) → Lawful ν → (s₀ sₙ : State) (h : History) → LastHeld s₀.store → Untouched s₀ → Trace ν s₀ h sₙ →
    AlwaysWhole ν s₀ h sₙ
