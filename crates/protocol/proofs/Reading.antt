-- Each call keeps what holds of the reads.
use Rattle.std.proofs.Common.{◌≡◌, ℕ, suc, ◌<◌, true, false, ◌⊎◌, List, length, get_or, is_some, Some, None, sym, ap, ◌∙◌, subst, inl, inr, arith}
use Rattle.std.proofs.lemmas.Bool.{cases_eq, cases_Bool, cond-true, cond-false}
use Rattle.blend.specs.Stamps.{later}
use Rattle.blend.proofs.Order.{never_itself, later_real, not_both, not_later_on}
use Rattle.store.specs.Meaning.{Version, later_version}
use Rattle.protocol.specs.Naming.{Naming, Lawful, mark_for}
use Rattle.protocol.specs.State.{upd, Order, OpenRead, State}
use Rattle.protocol.specs.Asks.{wanted, stamp_in, mark_in, DueFirst, DueSecond, progress, asks_made}
use Rattle.protocol.specs.Step.{fresh_read, first_asked, second_asked}
use Rattle.protocol.specs.History.{History, Ordered, Lists}
use Rattle.protocol.proofs.Basics.{upd_at, upd_off, at_upd, upd_ext, never, true_false, inside, none_of, some_of, count_same, count_more}
use Rattle.protocol.proofs.Tests.{Listed}
use Rattle.protocol.proofs.Wanting.{names_listed, wanted_from, wanted_is, Picks}
use Rattle.protocol.proofs.Inv.{Settled, OrdersIn, Shown, Reached, Fine}

-- ── a longer history, in which what was settled still is ──

module _ (ν : Naming) (h h' : History) (up : (o : Order) → Settled h o → Settled h' o) where
  pub shown_up : (i : ℕ) (v : Version) → Shown ν h i v → Shown ν h' i v
  shown_up i v = elim [ inl z ↦ inl z | inr z ↦ inr (z.0, up z.0 z.1, z.2, z.3, z.4) ]

  pub reached_up : (i : ℕ) (v u : Version) → Reached h i v u → Reached h' i v u
  reached_up i v u = elim [ inl z ↦ inl z | inr z ↦ inr (z.0, up z.0 z.1, z.2, z.3) ]

  pub fine_up : (x : OpenRead) → Fine ν h x → Fine ν h' x
  fine_up x f = record {
    listed = f.listed;
    firsts = λ p v e. ((f.firsts p v e).0, shown_up (get_or x.items p 0) v (f.firsts p v e).1);
    kept_first = f.kept_first;
    made = f.made;
    reach = λ p e q u g. reached_up (get_or x.items p 0) (x.kept p) u (f.reach p e q u g);
    kept = λ p v e. shown_up (get_or x.items p 0) (x.kept p) (f.kept p v e);
    not_before = f.not_before;
    kept_from = f.kept_from;
  }

pub fine_fresh : (ν : Naming) (h : History) (items : List ℕ) → Listed items → Fine ν h (fresh_read items)
fine_fresh ν h items l = record {
  listed = l;
  firsts = λ p v e. never e;
  kept_first = λ p v e g. never g;
  made = λ p e. true_false e;
  reach = λ p e. true_false e;
  kept = λ p v e. never e;
  not_before = λ p v e. never e;
  kept_from = λ p v e. never e;
}

-- ── the first ask ──

module _ (ν : Naming) (h : History) (x : OpenRead) (f : Fine ν h x) (p : ℕ) (due : DueFirst (progress x) p) (v : Version)
    (shown : Shown ν h (get_or x.items p 0) v) where
  absent : x.first p ≡ None
  absent = none_of (x.first p) due.not_made

  not_again : (q : ℕ) → x.again q ≡ true → ⊥
  not_again q e = true_false (sym due.not_made ∙ f.made q e p due.within)

  pub fine_first : Fine ν h (first_asked x p v)
  fine_first = record {
    listed = f.listed;
    firsts = λ q u e. elim (at_upd x.first p (Some v) q (Some u) e) [
      | inl m ↦ (
        subst (λ n. n < length x.items) (sym m.0) due.within,
        subst (λ n. Shown ν h (get_or x.items n 0) u) (sym m.0) (subst (Shown ν h (get_or x.items p 0)) (inside m.1) shown),
      )
      | inr m ↦ f.firsts q u m.1
    ];
    kept_first = λ q u a e. elim (at_upd x.first p (Some v) q (Some u) e) [
      | inl m ↦ upd_at x.kept p v q m.0 ∙ inside m.1
      | inr m ↦ upd_off x.kept p v q m.0 ∙ f.kept_first q u a m.1
    ];
    made = λ q e. absurd (not_again q e);
    reach = λ q e. absurd (not_again q e);
    kept = λ q u e. elim (at_upd x.first p (Some v) q (Some u) e) [
      | inl m ↦ subst (Shown ν h (get_or x.items q 0)) (sym (upd_at x.kept p v q m.0))
          (subst (λ n. Shown ν h (get_or x.items n 0) v) (sym m.0) shown)
      | inr m ↦ subst (Shown ν h (get_or x.items q 0)) (sym (upd_off x.kept p v q m.0)) (f.kept q u m.1)
    ];
    not_before = λ q u e. elim (at_upd x.first p (Some v) q (Some u) e) [
      | inl m ↦ subst (λ (z : Version). later u.0 z.0 ≡ false) (sym (upd_at x.kept p v q m.0 ∙ inside m.1)) (never_itself u.0)
      | inr m ↦ subst (λ (z : Version). later u.0 z.0 ≡ false) (sym (upd_off x.kept p v q m.0)) (f.not_before q u m.1)
    ];
    kept_from = λ q u e. elim (at_upd x.first p (Some v) q (Some u) e) [
      | inl m ↦ (q, u, e, ap (λ (z : Version). z.0) (sym (upd_at x.kept p v q m.0 ∙ inside m.1)))
      | inr m ↦
          let z = f.kept_from q u m.1 in (
            z.0,
            z.1,
            upd_off x.first p (Some v) z.0 (λ g. never (sym absent ∙ ap x.first (sym g) ∙ z.2)) ∙ z.2,
            z.3 ∙ ap (λ (y : Version). y.0) (sym (upd_off x.kept p v q m.0)),
          )
    ];
  }

  -- one ask more
  pub counts_first : asks_made (progress (first_asked x p v)) ≡ suc (asks_made (progress x))
  counts_first =
      let a = count_same (λ q. is_some (upd x.first p (Some v) q)) (upd (λ q. is_some (x.first q)) p true) (length x.items)
      (λ q l. upd_ext is_some x.first p (Some v) q) in
      let b = count_more (λ q. is_some (x.first q)) (length x.items) p due.within due.not_made in
      omega arith

-- ── the second ask ──

module _ (ν : Naming) (law : Lawful ν) (h : History) (s : State) (k : OrdersIn ν h s) where
  -- an order's stamp is not 0
  pub some_stamp : (o : Order) → Ordered h o → ¬ (o.stamp ≡ 0)
  some_stamp o i e = let t = k.stamped o i in omega (arith, t.stamp, t.positive, e)

  -- where a settled order lists an item, its version of that item is held
  held_listed : (o : Order) → Settled h o → (i : ℕ) → Lists o i → is_some (s.store.held i o.stamp) ≡ true
  held_listed o d i l =
      ap is_some (ap (λ n. s.store.held n o.stamp) (sym l.2) ∙ k.held_of o l.0 (d.prepared l.0 l.1))

  -- the order with a stamp
  pub same_stamp : (o o' : Order) → Ordered h o → Ordered h o' → (t : ℕ) → o.stamp ≡ t → o'.stamp ≡ t → o ≡ o'
  same_stamp o o' i j t e f = k.unique o o' i j (e ∙ sym f)

  -- a held version with the stamp of a settled order is that order's
  pub shown_held : (i : ℕ) (v : Version) → s.store.held i v.0 ≡ Some (v.1, v.2) →
      (o : Order) → Settled h o → o.stamp ≡ v.0 → Shown ν h i v
  shown_held i v e o d f =
      let source = k.held_from i v.0 v.1 v.2 e in
      let same : o ≡ source.0 = same_stamp o source.0 d.is_order source.1 v.0 f source.2 in
      inr (source.0, subst (Settled h) same d, source.2, source.3, source.4)

  -- a place wants a later first stamp whose order lists its item
  pub wants_stamp : (x : OpenRead) → Fine ν h x → (p q : ℕ) (v u : Version) → x.first p ≡ Some v → x.first q ≡ Some u →
      (o : Order) → Ordered h o → u.2 ≡ mark_for ν o.items → Lists o (get_or x.items p 0) → later u.0 v.0 ≡ true →
      wanted ν (progress x) p q ≡ u.0
  wants_stamp x f p q v u d e o i mark l t =
      let own : stamp_in (x.first p) ≡ v.0 = ap stamp_in d in
      let other : stamp_in (x.first q) ≡ u.0 = ap stamp_in e in
      let apart : ¬ (p ≡ q) = λ same.
      let one : u.0 ≡ v.0 = sym other ∙ ap (λ n. stamp_in (x.first n)) (sym same) ∙ own in
      true_false (sym (never_itself u.0) ∙ ap (later u.0) one ∙ t) in
      let names : ν.names (mark_in (x.first q)) (get_or x.items p 0) ≡ true =
      ap (λ n. ν.names n (get_or x.items p 0)) (ap mark_in e ∙ mark) ∙ ap (ν.names (mark_for ν o.items)) (sym l.2)
      ∙ names_listed ν law o.items (k.stamped o i).listed l.0 l.1 in
      let after : later (stamp_in (x.first q)) (stamp_in (x.first p)) ≡ true =
      ap (later (stamp_in (x.first q))) own ∙ ap (λ n. later n v.0) other ∙ t in
      wanted_is ν (progress x) p q (f.firsts q u e).0 apart after names ∙ other

  module _ (x : OpenRead) (f : Fine ν h x) (p : ℕ) (due : DueSecond ν (progress x) p) (g : Version)
      (picks : Picks (s.store.held (get_or x.items p 0)) (wanted ν (progress x) p) g) where
    own_first : (v : Version) × (x.first p ≡ Some v)
    own_first = some_of (x.first p) (due.firsts p due.within)

    kept_own : x.kept p ≡ own_first.0
    kept_own = f.kept_first p own_first.0 due.not_made own_first.1

    -- a picked version that is later than the one kept is that of a settled order, with the first stamp of a place
    picked : later g.0 (x.kept p).0 ≡ true →
        Shown ν h (get_or x.items p 0) g × ((q : ℕ) × (u : Version) × (x.first q ≡ Some u) × (u.0 ≡ g.0))
    picked t =
        let real : ¬ (g.0 ≡ 0) = let l = later_real g.0 (x.kept p).0 t in λ e. omega (arith, e) in
        elim picks [
          | inl m ↦ absurd (real (ap (λ (z : Version). z.0) m.1))
          | inr m ↦
              let q = m.0.0 in
              let at : g.0 ≡ wanted ν (progress x) p q = m.0.2 in
              let w = wanted_from ν (progress x) p q (λ e. real (at ∙ e)) in
              let u = some_of (x.first q) (due.firsts q w.0) in
              let stamp : u.0.0 ≡ g.0 = ap stamp_in (sym u.1) ∙ w.1 ∙ sym at in
              elim (f.firsts q u.0 u.1).1 [
                | inl z ↦ absurd (real (sym stamp ∙ ap (λ (y : Version). y.0) z))
                | inr z ↦ (shown_held (get_or x.items p 0) g m.1 z.0 z.1 (z.2 ∙ stamp), (q, u.0, u.1, stamp))
              ]
        ]

    -- the version kept after the ask: one of the two
    keeps_cases : ((later g.0 (x.kept p).0 ≡ true) × (later_version (x.kept p) g ≡ g)) ⊎
        ((later g.0 (x.kept p).0 ≡ false) × (later_version (x.kept p) g ≡ x.kept p))
    keeps_cases = elim (cases_Bool (later g.0 (x.kept p).0)) [
      | inl e ↦ inl (e, cond-true (later g.0 (x.kept p).0) g (x.kept p) e)
      | inr e ↦ inr (e, cond-false (later g.0 (x.kept p).0) g (x.kept p) e)
    ]

    -- it is as late as both
    late_kept : later (x.kept p).0 (later_version (x.kept p) g).0 ≡ false
    late_kept = elim keeps_cases [
      | inl m ↦ subst (λ (z : Version). later (x.kept p).0 z.0 ≡ false) (sym m.1) (not_both g.0 (x.kept p).0 m.0)
      | inr m ↦ subst (λ (z : Version). later (x.kept p).0 z.0 ≡ false) (sym m.1) (never_itself (x.kept p).0)
    ]

    late_picked : later g.0 (later_version (x.kept p) g).0 ≡ false
    late_picked = elim keeps_cases [
      | inl m ↦ subst (λ (z : Version). later g.0 z.0 ≡ false) (sym m.1) (never_itself g.0)
      | inr m ↦ subst (λ (z : Version). later g.0 z.0 ≡ false) (sym m.1) m.0
    ]

    -- it is as late as any first stamp whose order lists the item
    reaches : (q : ℕ) (u : Version) → x.first q ≡ Some u → Reached h (get_or x.items p 0) (later_version (x.kept p) g) u
    reaches q u e = elim (f.firsts q u e).1 [
      | inl z ↦ inl z
      | inr z ↦ inr (
        z.0,
        z.1,
        z.2,
        λ l.
            elim (cases_Bool (later u.0 (x.kept p).0)) [
              | inl t ↦
                  let own : (x.kept p).0 ≡ own_first.0.0 = ap (λ (y : Version). y.0) kept_own in
                  let wants = wants_stamp x f p q own_first.0 u own_first.1 e z.0 z.1.is_order z.3 l
                  (ap (later u.0) (sym own) ∙ t) in
                  let there : is_some (s.store.held (get_or x.items p 0) (wanted ν (progress x) p q)) ≡ true =
                  ap (λ n. is_some (s.store.held (get_or x.items p 0) n)) (wants ∙ sym z.2)
                  ∙ held_listed z.0 z.1 (get_or x.items p 0) l in
                  let eight : q < 8 = let a = (f.firsts q u e).0 in let b = f.listed.eight in omega arith in
                  let late : later u.0 g.0 ≡ false = elim picks [
                    | inl m ↦ true_false (ap is_some (sym (m.0 q eight)) ∙ there)
                    | inr m ↦ ap (λ n. later n g.0) (sym wants) ∙ m.2 q eight there
                  ] in
                  not_later_on (later_version (x.kept p) g).0 g.0 u.0 late_picked late
              | inr t ↦ not_later_on (later_version (x.kept p) g).0 (x.kept p).0 u.0 late_kept t
            ],
      )
    ]

    pub fine_second : Fine ν h (second_asked x p g)
    fine_second = record {
      listed = f.listed;
      firsts = f.firsts;
      kept_first = λ q u a e. elim (at_upd x.again p true q false a) [
        | inl m ↦ true_false (sym m.1)
        | inr m ↦ upd_off x.kept p (later_version (x.kept p) g) q m.0 ∙ f.kept_first q u m.1 e
      ];
      made = λ q e. due.firsts;
      reach = λ q a r u e. elim (at_upd x.again p true q true a) [
        | inl m ↦ subst (λ (z : Version). Reached h (get_or x.items q 0) z u) (sym (upd_at x.kept p (later_version (x.kept p) g) q m.0))
            (subst (λ n. Reached h (get_or x.items n 0) (later_version (x.kept p) g) u) (sym m.0) (reaches r u e))
        | inr m ↦ subst (λ (z : Version). Reached h (get_or x.items q 0) z u) (sym (upd_off x.kept p (later_version (x.kept p) g) q m.0))
            (f.reach q m.1 r u e)
      ];
      kept = λ q u e. elim (cases_eq q p) [
        | inl s ↦ subst (Shown ν h (get_or x.items q 0)) (sym (upd_at x.kept p (later_version (x.kept p) g) q s))
            (subst (λ n. Shown ν h (get_or x.items n 0) (later_version (x.kept p) g)) (sym s)
            (elim keeps_cases [
              | inl m ↦ subst (Shown ν h (get_or x.items p 0)) (sym m.1) (picked m.0).0
              | inr m ↦ subst (Shown ν h (get_or x.items p 0)) (sym m.1) (f.kept p own_first.0 own_first.1)
            ]))
        | inr d ↦ subst (Shown ν h (get_or x.items q 0)) (sym (upd_off x.kept p (later_version (x.kept p) g) q d)) (f.kept q u e)
      ];
      not_before = λ q u e. elim (cases_eq q p) [
        | inl s ↦ subst (λ (z : Version). later u.0 z.0 ≡ false) (sym (upd_at x.kept p (later_version (x.kept p) g) q s))
            (not_later_on (later_version (x.kept p) g).0 (x.kept p).0 u.0 late_kept
            (f.not_before p u (ap x.first (sym s) ∙ e)))
        | inr d ↦ subst (λ (z : Version). later u.0 z.0 ≡ false) (sym (upd_off x.kept p (later_version (x.kept p) g) q d)) (f.not_before q u e)
      ];
      kept_from = λ q u e. elim (cases_eq q p) [
        | inl s ↦
            let at = upd_at x.kept p (later_version (x.kept p) g) q s in
            elim keeps_cases [
              | inl m ↦ let z = (picked m.0).1 in (z.0, z.1, z.2, z.3 ∙ ap (λ (y : Version). y.0) (sym (at ∙ m.1)))
              | inr m ↦ let z = f.kept_from p own_first.0 own_first.1 in (z.0, z.1, z.2, z.3 ∙ ap (λ (y : Version). y.0) (sym (at ∙ m.1)))
            ]
        | inr d ↦
            let z = f.kept_from q u e in
            (z.0, z.1, z.2, z.3 ∙ ap (λ (y : Version). y.0) (sym (upd_off x.kept p (later_version (x.kept p) g) q d)))
      ];
    }

    pub counts_second : asks_made (progress (second_asked x p g)) ≡ suc (asks_made (progress x))
    counts_second =
        let b = count_more x.again (length x.items) p due.within due.not_made in
        omega arith
