-- The law, from the invariant.
use Rattle.std.proofs.Common.{◌≡◌, ℕ, zero, suc, ◌<◌, true, false, ◌⊎◌, List, [], ◌∷◌, ◌++◌, length, get_or, is_some, Some, None, Option, sym, refl, ap, ◌∙◌, subst, inl, inr, append-nil, arith}
use mathlib.Core.Path.{fun_ext}
use Rattle.std.specs.Option.{option_map}
use Rattle.std.proofs.lemmas.Bool.{cases_eq, cases_Bool, and_from, not_from_false, ne_eqb}
use Rattle.blend.specs.Refusals.{first_of}
use Rattle.blend.specs.Stamps.{later}
use Rattle.blend.proofs.Order.{one_of_two, not_later_on}
use Rattle.store.specs.Meaning.{Version, later_version}
use Rattle.store.specs.Tests.{question_tests}
use Rattle.protocol.specs.Naming.{Naming, Lawful, mark_for}
use Rattle.protocol.specs.Calls.{Call, by_reader, first_ask, second_ask, take, release, Answer, refused, accepted}
use Rattle.protocol.specs.State.{Order, OpenRead, State, the_read, read_of}
use Rattle.protocol.specs.Asks.{Progress, wanted, AsksAgain, DueFirst, DueSecond, Finished, stamp_in, mark_in, progress, asks_made}
use Rattle.protocol.specs.Refusals.{read_item}
use Rattle.protocol.specs.Step.{Step, set_reader, first_asked, second_asked, first_version, second_version}
use Rattle.protocol.specs.History.{History, Ordered, Lists, mark_of, Read, current_read, progress_in, or_zero}
use Rattle.protocol.specs.Law.{Trace, start, next, Next, Accepted, Accepts, Due, AsLate, Whole, ReadsStayWhole}
use Rattle.protocol.proofs.Basics.{never, true_false, inside, some_of, count_most}
use Rattle.protocol.proofs.Facts as facts
use Rattle.protocol.proofs.Intro.{first_in, second_in, take_in, release_in}
use Rattle.protocol.proofs.Tests.{true_all, asks_from, finished_from}
use Rattle.protocol.proofs.Inv.{Settled, seen, Fine, Inv}
use Rattle.protocol.proofs.Reading.{some_stamp, same_stamp, wants_stamp}
use Rattle.protocol.proofs.Steps.{inv_start, inv_run, settled_run}

-- ── what is accepted ──

accepts : (ν : Naming) (s : State) (c : Call) (P : ℕ → ℕ → Type 0) (a b : ℕ) (s' : State) → Step ν s c (accepted a b) s' →
    ((a b : ℕ) (s' : State) → Step ν s c (accepted a b) s' → P a b) → Accepts ν s c P
accepts ν s c P a b s' z f = record { possible = (accepted a b, (s', z)); always = go }
  where
    go : (x : Answer) → Next ν s c x → Accepted P x
    go (refused n) y = never (sym z.0 ∙ y.1.0)
    go (accepted a' b') y = f a' b' y.0 y.1

as_late_from : (t u : ℕ) → later u t ≡ false → AsLate t u
as_late_from t u e = elim (cases_eq t u) [
  | inl s ↦ inl s
  | inr d ↦ elim (one_of_two t u d) [ inl l ↦ inr l | inr l ↦ true_false (sym e ∙ l) ]
]

-- ── the history's progress of a read is the service's ──

from_mapped : {A B : Type 0} (g : A → B) (b : B) (o : Option A) → Some b ≡ option_map g o → (a : A) × (o ≡ Some a) × (b ≡ g a)
from_mapped g b None e = never (sym e)
from_mapped g b (Some a) e = (a, refl, inside e)

made_same : (o : Option Version) → is_some (option_map (λ (v : Version). v.0) o) ≡ is_some o
made_same None = refl
made_same (Some v) = refl

stamp_same : (o : Option Version) → or_zero (option_map (λ (v : Version). v.0) o) ≡ stamp_in o
stamp_same None = refl
stamp_same (Some v) = refl

-- ── deciding ──

-- each number below n passes, or one fails
all_or_one : (P Q : ℕ → Type 0) → ((k : ℕ) → P k ⊎ Q k) → (n : ℕ) → ((k : ℕ) → k < n → P k) ⊎ ((k : ℕ) × (k < n) × Q k)
all_or_one P Q d zero = inl (λ k l. absurd (omega arith))
all_or_one P Q d (suc n) = go (d n) (all_or_one P Q d n)
  where
    go : P n ⊎ Q n → ((k : ℕ) → k < n → P k) ⊎ ((k : ℕ) × (k < n) × Q k) → ((k : ℕ) → k < suc n → P k) ⊎ ((k : ℕ) × (k < suc n) × Q k)
    go (inr q) r = inr (n, omega arith, q)
    go (inl p) (inr z) = let l = z.1 in inr (z.0, omega arith, z.2)
    go (inl p) (inl f) = inl (λ k l. elim (cases_eq k n) [ inl e ↦ subst P (sym e) p | inr e ↦ f k (omega (arith, e)) ])

module _ (ν : Naming) (x : Progress) where
  again? : (p : ℕ) → AsksAgain ν x p ⊎ (¬ AsksAgain ν x p)
  again? p = elim (cases_Bool ν.twice) [
    | inl t ↦ inl (inl t)
    | inr t ↦
        elim (all_or_one (λ q. wanted ν x p q ≡ 0) (λ q. ¬ (wanted ν x p q ≡ 0)) (λ q. cases_eq (wanted ν x p q) 0) (length x.items)) [
          | inl all ↦ inr (elim [ inl u ↦ true_false (sym t ∙ u) | inr u ↦ u.2 (all u.0 u.1) ])
          | inr one ↦ inl (inr one)
        ]
  ]

  abbrev Done : ℕ → Type 0
  Done p = AsksAgain ν x p → x.again p ≡ true

  abbrev Left : ℕ → Type 0
  Left p = AsksAgain ν x p × (x.again p ≡ false)

  second? : (p : ℕ) → Done p ⊎ Left p
  second? p = elim (cases_Bool (x.again p)) [
    | inl t ↦ inl (λ u. t)
    | inr t ↦ elim (again? p) [ inl u ↦ inr (u, t) | inr u ↦ inl (λ w. absurd (u w)) ]
  ]

  -- a read is finished, or an ask is due
  finished_or_due : Finished ν x ⊎ (((p : ℕ) × DueFirst x p) ⊎ ((p : ℕ) × DueSecond ν x p))
  finished_or_due = elim (all_or_one (λ p. x.made p ≡ true) (λ p. x.made p ≡ false) (λ p. cases_Bool (x.made p)) (length x.items)) [
    | inl all ↦ elim (all_or_one Done Left second? (length x.items)) [
      | inl done ↦ inl (record { firsts = all; seconds = done })
      | inr z ↦ inr (inr (z.0, record { within = z.1; firsts = all; asks = z.2.0; not_made = z.2.1 }))
    ]
    | inr z ↦ inr (inl (z.0, record { within = z.1; not_made = z.2 }))
  ]

-- ── the law after a beginning ──

-- past is the beginning, which led to s; all are the calls of the whole list, in which what was settled still is
module _ (ν : Naming) (law : Lawful ν) (past all : History) (s : State) (k : Inv ν past s)
    (up : (o : Order) → Settled past o → Settled all o)
    (unique : (o o' : Order) → Ordered all o → Ordered all o' → o.stamp ≡ o'.stamp → o ≡ o')
    (real : (o : Order) → Ordered all o → ¬ (o.stamp ≡ 0)) where
  -- the read of the service behind the history's
  behind : (r : ℕ) (x : Read) → current_read past r ≡ Some x → (y : OpenRead) × (s.readers r ≡ Some y) × (x ≡ seen y)
  behind r x e = from_mapped seen x (s.readers r) (sym e ∙ k.reads.agree r)

  mark_same : (y : OpenRead) → Fine ν past y →
      (p : ℕ) → mark_of ν past (or_zero (option_map (λ (v : Version). v.0) (y.first p))) ≡ mark_in (y.first p)
  mark_same y f p = go (y.first p) refl
    where
      go : (o : Option Version) → y.first p ≡ o → mark_of ν past (or_zero (option_map (λ (v : Version). v.0) o)) ≡ mark_in o
      go None e = k.orders.no_mark
      go (Some v) e = elim (f.firsts p v e).1 [
        | inl z ↦ ap (λ (u : Version). mark_of ν past u.0) z ∙ k.orders.no_mark ∙ ap (λ (u : Version). u.2) (sym z)
        | inr z ↦ ap (mark_of ν past) (sym z.2) ∙ k.orders.of_mark z.0 z.1.is_order ∙ sym z.3
      ]

  same_progress : (r : ℕ) (x : Read) (y : OpenRead) → s.readers r ≡ Some y → x ≡ seen y → progress_in ν past x ≡ progress y
  same_progress r x y e g =
      let f = k.reads.fine r y e in
      ap (progress_in ν past) g ∙ (λ i. record {
        items = y.items;
        made = fun_ext (λ p. made_same (y.first p)) i;
        stamp = fun_ext (λ p. stamp_same (y.first p)) i;
        mark = fun_ext (λ p. mark_same y f p) i;
        again = y.again;
      })

  -- the version that a take shows
  taken : (r p a b : ℕ) (s' : State) (y : OpenRead) → s.readers r ≡ Some y → Step ν s (by_reader r (take p)) (accepted a b) s' →
      (a ≡ (y.kept p).0) × (b ≡ (y.kept p).1)
  taken r p a b s' y e z = (
    z.1.0 ∙ ap (λ (o : Option OpenRead). ((the_read o).kept p).0) e,
    z.2 ∙ ap (λ (o : Option OpenRead). ((the_read o).kept p).1) e,
  )

  takes : (P : ℕ → ℕ → Type 0) (r p : ℕ) (y : OpenRead) → s.readers r ≡ Some y → p < length y.items → Finished ν (progress y) →
      P (y.kept p).0 (y.kept p).1 → Accepts ν s (by_reader r (take p)) P
  takes P r p y e l f good =
      accepts ν s (by_reader r (take p)) P (y.kept p).0 (y.kept p).1 s
      (take_in ν s s r (k.reads.bound r y e) y e p l (y.kept p).0 (y.kept p).1 (finished_from ν (progress y) f) refl refl refl)
      (λ a b s' z. let t = taken r p a b s' y e z in subst (λ n. P n b) (sym t.0) (subst (P (y.kept p).0) (sym t.1) good))

  -- where the place p shows an order's stamp, the order's stamp is not later than what the place q shows
  not_later : (y : OpenRead) → Fine ν past y → Finished ν (progress y) → (o : Order) → Ordered all o →
      (p q : ℕ) → p < length y.items → q < length y.items → Lists o (get_or y.items q 0) → o.stamp ≡ (y.kept p).0 →
      later o.stamp (y.kept q).0 ≡ false
  not_later y f done o i p q lp lq lists stamp =
      let v = some_of (y.first p) (done.firsts p lp) in
      let w = some_of (y.first q) (done.firsts q lq) in
      let z = f.kept_from p v.0 v.1 in
      let p' = z.0 in
      let u = z.1 in
      let at : o.stamp ≡ u.0 = stamp ∙ sym z.3 in
      let late : later u.0 (y.kept q).0 ≡ false = elim (f.firsts p' u z.2).1 [
        | inl b ↦ absurd (real o i (at ∙ ap (λ (x : Version). x.0) b))
        | inr b ↦
            let same : b.0 ≡ o = unique b.0 o (up b.0 b.1).is_order i (b.2 ∙ sym at) in
            let here : Ordered past o = subst (Ordered past) same b.1.is_order in
            elim (cases_Bool (later u.0 w.0.0)) [
              | inl t ↦
                  let wants : wanted ν (progress y) q p' ≡ u.0 =
                  wants_stamp ν law past s k.orders y f q p' w.0 u w.1 z.2 o here
                  (b.3 ∙ ap (λ (x : Order). mark_for ν x.items) same) lists t in
                  let asked : y.again q ≡ true =
                  done.seconds q lq (inr (p', (f.firsts p' u z.2).0, λ e. real o i (at ∙ sym wants ∙ e))) in
                  elim (f.reach q asked p' u z.2) [
                    | inl c ↦ absurd (real o i (at ∙ ap (λ (x : Version). x.0) c))
                    | inr c ↦ c.3 (subst (λ (x : Order). Lists x (get_or y.items q 0))
                        (same_stamp ν law past s k.orders o c.0 here c.1.is_order u.0 at c.2) lists)
                  ]
              | inr t ↦ not_later_on (y.kept q).0 w.0.0 u.0 (f.not_before q w.0 w.1) t
            ]
      ] in
      ap (λ n. later n (y.kept q).0) at ∙ late

  passes : (y : OpenRead) → Fine ν past y → (p : ℕ) → p < length y.items → first_of (question_tests (read_item y p)) ≡ None
  passes y f p l = rw (ne_eqb (read_item y p) 0 (f.listed.real p l))

  grants : (r : ℕ) (x : Read) → current_read past r ≡ Some x → (c : Call) → Due ν past r x c → Accepts ν s c (λ a b. Unit {0})
  grants r x e c =
      let z = behind r x e in
      let y = z.0 in
      let f = k.reads.fine r y z.1 in
      let low = k.reads.bound r y z.1 in
      let same = same_progress r x y z.1 z.2 in
      elim [
        | inl d ↦
            let p = d.0 in
            let due : DueFirst (progress y) p = subst (λ (v : Progress). DueFirst v p) same d.1 in
            let v = first_version s.store y p in
            let s' = set_reader s r (Some (first_asked y p v)) in
            subst (λ (c : Call). Accepts ν s c (λ a b. Unit {0})) (sym d.2)
            (accepts ν s (by_reader r (first_ask p)) (λ a b. Unit {0}) v.0 0 s'
            (first_in ν s s' r low y z.1 p due.within v.0 due.not_made (passes y f p due.within) v refl refl refl)
            (λ a b s' t. tt))
        | inr d ↦
            let p = d.0 in
            let due : DueSecond ν (progress y) p = subst (λ (v : Progress). DueSecond ν v p) same d.1 in
            let v = second_version ν s.store y p in
            let s' = set_reader s r (Some (second_asked y p v)) in
            subst (λ (c : Call). Accepts ν s c (λ a b. Unit {0})) (sym d.2)
            (accepts ν s (by_reader r (second_ask p)) (λ a b. Unit {0}) (later_version (y.kept p) v).0 0 s'
            (second_in ν s s' r low y z.1 p due.within (later_version (y.kept p) v).0
            (true_all (length y.items) (λ q. is_some (y.first q)) due.firsts)
            (and_from _ _ (asks_from ν (progress y) p due.asks) (not_from_false (y.again p) due.not_made))
            (passes y f p due.within) v refl refl refl)
            (λ a b s' t. tt))
      ]

  whole : Whole ν past all s
  whole = record {
    together = λ r x e done o i p q lp lq jp jq c n.
        let z = behind r x e in
        let y = z.0 in
        let f = k.reads.fine r y z.1 in
        let done' : Finished ν (progress y) = subst (Finished ν) (same_progress r x y z.1 z.2) done in
        let items : x.items ≡ y.items = ap (λ (u : Read). u.items) z.2 in
        let lp' : p < length y.items = subst (λ (l : List ℕ). p < length l) items lp in
        let lq' : q < length y.items = subst (λ (l : List ℕ). q < length l) items lq in
        let jq' : Lists o (get_or y.items q 0) = subst (λ (l : List ℕ). Lists o (get_or l q 0)) items jq in
        let t = taken r p o.stamp c n.0 y z.1 n.1 in
        takes (λ t d. AsLate t o.stamp) r q y z.1 lq' done'
        (as_late_from (y.kept q).0 o.stamp (not_later y f done' o i p q lp' lq' jq' t.0));
    genuine = λ r p t c n.
        let z = n.1 in
        let y = read_of s r in
        let w = facts.takes ν s n.0 r t c p z in
        let f = k.reads.fine r y w.0.is_open in
        let v = some_of (y.first p) (w.2.firsts p w.1) in
        elim (f.kept p v.0 v.1) [
          | inl b ↦ inl (z.1.0 ∙ ap (λ (u : Version). u.0) b, z.2 ∙ ap (λ (u : Version). u.1) b)
          | inr b ↦ inr (
            seen y,
            k.reads.agree r ∙ ap (option_map seen) w.0.is_open,
            w.1,
            (
              b.0,
              record {
                is_order = b.1.is_order;
                stamp = b.2 ∙ sym z.1.0;
                lists = (b.4.0, b.4.1, b.4.2, b.4.3 ∙ sym z.2);
                prepared = b.1.prepared;
                stands = (up b.0 b.1).stands;
              },
            ),
          )
        ];
    shown = λ r x e done p l.
        let z = behind r x e in
        let y = z.0 in
        let items : x.items ≡ y.items = ap (λ (u : Read). u.items) z.2 in
        takes (λ t c. Unit {0}) r p y z.1 (subst (λ (l : List ℕ). p < length l) items l)
        (subst (Finished ν) (same_progress r x y z.1 z.2) done) tt;
    onward = λ r x e n. elim (finished_or_due ν (progress_in ν past x)) [
      | inl d ↦ absurd (n d)
      | inr d ↦ elim d [
        | inl a ↦ (by_reader r (first_ask a.0), inl (a.0, a.1, refl))
        | inr a ↦ (by_reader r (second_ask a.0), inr (a.0, a.1, refl))
      ]
    ];
    granted = grants;
    counted = λ r x e.
        let z = behind r x e in
        let y = z.0 in
        let asks : x.asks ≡ asks_made (progress y) = ap (λ (u : Read). u.asks) z.2 in
        let s' = set_reader s r None in
        accepts ν s (by_reader r release) (λ a b. a ≡ x.asks) (asks_made (progress y)) 0 s'
        (release_in ν s s' r (k.reads.bound r y z.1) y z.1 (asks_made (progress y)) refl refl)
        (λ a b s' t. t.1.0 ∙ ap (λ (o : Option OpenRead). asks_made (progress (the_read o))) z.1 ∙ sym asks);
    few = λ r x e.
        let z = behind r x e in
        let y = z.0 in
        let asks : x.asks ≡ asks_made (progress y) = ap (λ (u : Read). u.asks) z.2 in
        let items : length x.items ≡ length y.items = ap (λ (u : Read). length u.items) z.2 in
        let a = count_most (λ p. is_some (y.first p)) (length y.items) in
        let b = count_most y.again (length y.items) in
        omega arith;
  }

-- ── the law over a whole run ──

-- the state where a run is cut
cut : (ν : Naming) (s₀ sₙ : State) (rest past : History) → Trace ν s₀ (rest ++ past) sₙ →
    (s : State) × Trace ν s₀ past s × Trace ν s rest sₙ
cut ν s₀ sₙ [] past run = (sₙ, run, start)
cut ν s₀ sₙ (e ∷ rest) past (next {s = s} run z) =
    let c = cut ν s₀ s rest past run in
    (c.0, c.1, next c.2 z)

pub reads_stay_whole : ReadsStayWhole
reads_stay_whole ν law s₀ sₙ h held u run rest past e = record {
  reached = cut ν s₀ sₙ rest past (subst (λ (g : History). Trace ν s₀ g sₙ) (sym e) run);
  whole = λ s before after.
      let first : Inv ν past s = subst (λ (g : History). Inv ν g s) (append-nil past) (inv_run ν law [] s₀ (inv_start ν s₀ held u) before) in
      let last = inv_run ν law past s first after in
      whole ν law past (rest ++ past) s first (settled_run ν law past s first after) last.orders.unique
      (some_stamp ν law (rest ++ past) sₙ last.orders);
}
