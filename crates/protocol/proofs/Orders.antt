-- Each call of a writer keeps what holds of the orders and the store.
use Rattle.std.proofs.Common.{◌≡◌, ℕ, ◌+◌, ◌*◌, ◌<◌, ◌≤◌, Bool, true, false, ◌&&◌, eqb, ◌⊎◌, List, ◌∷◌, length, get_or, Some, None, Option, sym, refl, ap, ◌∙◌, subst, inl, inr, arith}
use mathlib.Core.Path.{subst₃}
use Rattle.std.specs.Option.{option_map}
use Rattle.std.proofs.lemmas.Bool.{cases_eq, cases_Bool, cond-true, cond-false, and_parts, eqb-true, not-false}
use Rattle.blend.specs.Stamps.{later, later_of}
use Rattle.store.specs.Meaning.{View, Content}
use Rattle.store.specs.Tests.{clashes, put_tests}
use Rattle.store.specs.Outcomes.{PutDone}
use Rattle.protocol.specs.Naming.{Naming, mark_for}
use Rattle.protocol.specs.Calls.{file, prepare, commit, close, withdraw, by_writer, accepted}
use Rattle.protocol.specs.State.{upd, Order, OpenOrder, OrderRow}
use Rattle.protocol.specs.Step.{filed_row, with_order, prepared_at, committed_at}
use Rattle.protocol.specs.History.{called, History, filed, Ordered, current_order, Prepared, mark_of}
use Rattle.protocol.proofs.Basics.{upd_at, upd_off, never, true_false, inside}
use Rattle.protocol.proofs.Tests.{clear, Listed}
use Rattle.protocol.proofs.Facts.{AllPrepared}
use Rattle.protocol.proofs.Inv.{Held, Settled, filing, Own, Stamped, From, Orders}

pub moved : (ν : Naming) (h : History) {held held' : Held} {last last' : ℕ → ℕ} {ws ws' : ℕ → OrderRow} →
    held' ≡ held → last' ≡ last → ws' ≡ ws → Orders ν h held last ws → Orders ν h held' last' ws'
moved ν h a b c k = subst₃ (λ x y z. Orders ν h x y z) (sym a) (sym b) (sym c) k

-- an open order after one writer's entry has changed
at_writer : (ws : ℕ → OrderRow) (w : ℕ) (x : OrderRow) (v : ℕ) (y : OpenOrder) → (upd ws w x v).current ≡ Some y →
    ((v ≡ w) × (x.current ≡ Some y)) ⊎ ((¬ (v ≡ w)) × ((ws v).current ≡ Some y))
at_writer ws w x v y h =
    elim (cases_eq v w) [
      | inl e ↦ inl (e, sym (ap (λ (z : OrderRow). z.current) (upd_at ws w x v e)) ∙ h)
      | inr d ↦ inr (d, sym (ap (λ (z : OrderRow). z.current) (upd_off ws w x v d)) ∙ h)
    ]

-- the same sequences
same_sequence : (ws : ℕ → OrderRow) (w : ℕ) (o : Option OpenOrder) (v : ℕ) → (upd ws w (with_order (ws w) o) v).sequence ≡ (ws v).sequence
same_sequence ws w o v =
    let new : OrderRow = with_order (ws w) o in
    elim (cases_eq v w) [
      | inl e ↦ ap (λ (z : OrderRow). z.sequence) (upd_at ws w new v e) ∙ ap (λ n. (ws n).sequence) (sym e)
      | inr d ↦ ap (λ (z : OrderRow). z.sequence) (upd_off ws w new v d)
    ]

-- what is open after one writer's entry has changed
runs_after : (u : ℕ → Option Order) (ws : ℕ → OrderRow) (w : ℕ) (x : OrderRow) (o : Option Order) →
    ((v : ℕ) → u v ≡ option_map filing (ws v).current) → o ≡ option_map filing x.current →
    (v : ℕ) → upd u w o v ≡ option_map filing (upd ws w x v).current
runs_after u ws w x o runs e v =
    elim (cases_eq v w) [
      | inl f ↦ upd_at u w o v f ∙ e ∙ ap (λ (z : OrderRow). option_map filing z.current) (sym (upd_at ws w x v f))
      | inr d ↦ upd_off u w o v d ∙ runs v ∙ ap (λ (z : OrderRow). option_map filing z.current) (sym (upd_off ws w x v d))
    ]

runs_kept : (u : ℕ → Option Order) (ws : ℕ → OrderRow) (w : ℕ) (x : OrderRow) →
    ((v : ℕ) → u v ≡ option_map filing (ws v).current) → u w ≡ option_map filing x.current →
    (v : ℕ) → u v ≡ option_map filing (upd ws w x v).current
runs_kept u ws w x runs e v =
    elim (cases_eq v w) [
      | inl f ↦ ap u f ∙ e ∙ ap (λ (z : OrderRow). option_map filing z.current) (sym (upd_at ws w x v f))
      | inr d ↦ runs v ∙ ap (λ (z : OrderRow). option_map filing z.current) (sym (upd_off ws w x v d))
    ]

-- a put: its version is held after it, what was held stays, and nothing else is new
abbrev pub Put : Held → ℕ → ℕ → Content → Held → Type 0
Put held i t x held' = record {
  here : held' i t ≡ Some x;
  keeps : (j u : ℕ) (y : Content) → held j u ≡ Some y → held' j u ≡ Some y;
  from : (j u : ℕ) (y : Content) → held' j u ≡ Some y → ((j ≡ i) × (u ≡ t) × (y ≡ x)) ⊎ (held j u ≡ Some y);
}

both : (i t j u : ℕ) → ((j ≡ i) × (u ≡ t)) ⊎ (j ≡ i → u ≡ t → ⊥)
both i t j u = elim (cases_eq j i) [
  | inl e ↦ elim (cases_eq u t) [ inl f ↦ inl (e, f) | inr f ↦ inr (λ _ g. f g) ]
  | inr e ↦ inr (λ g _. e g)
]

-- what is held and does not clash is the same
no_clash : (o : Option Content) (c m : ℕ) (x : Content) → clashes o c m ≡ false → o ≡ Some x → (c, m) ≡ x
no_clash None c m x e f = never f
no_clash (Some y) c m x e f =
    let z = and_parts (eqb y.0 c) (eqb y.1 m) (not-false (eqb y.0 c && eqb y.1 m) e) in
    let a = eqb-true y.0 c z.0 in
    let b = eqb-true y.1 m z.1 in
    (λ i. (sym a i, sym b i)) ∙ inside f

pub put_of : (v w : View) (i t c m : ℕ) (fresh : Bool) → PutDone v w i t c m fresh → Put v.held i t (c, m) w.held
put_of v w i t c m fresh d = record {
  here = d.held;
  keeps = λ j u x e. elim (both i t j u) [
    | inl s ↦
        let here : v.held i t ≡ Some x = ap (λ n. v.held n t) (sym s.0) ∙ ap (v.held j) (sym s.1) ∙ e in
        let free = (clear (put_tests v i t c m) d.passes).1.1.0 in
        ap (λ n. w.held n u) s.0 ∙ ap (w.held i) s.1 ∙ d.held ∙ ap Some (no_clash (v.held i t) c m x free here)
    | inr n ↦ d.others j u n ∙ e
  ];
  from = λ j u x e. elim (both i t j u) [
    | inl s ↦ inl (s.0, s.1, inside (sym e ∙ ap (λ n. w.held n u) s.0 ∙ ap (w.held i) s.1 ∙ d.held))
    | inr n ↦ inr (sym (d.others j u n) ∙ e)
  ];
}

-- filing and preparing leave what is settled
module _ (h : History) (w a b : ℕ) (o : Order) (d : Settled h o) where
  pub filed_settled : (q : ℕ) (items codes : List ℕ) → Settled (called (by_writer w (file q items codes)) (accepted a b) ∷ h) o
  filed_settled q items codes = record { is_order = inr d.is_order; prepared = d.prepared; stands = d.stands }

  pub prepared_settled : (j : ℕ) → Settled (called (by_writer w (prepare j)) (accepted a b) ∷ h) o
  prepared_settled j = record { is_order = d.is_order; prepared = λ i l. inr (d.prepared i l); stands = d.stands }

module _ (ν : Naming) (h : History) (held : Held) (last : ℕ → ℕ) (ws : ℕ → OrderRow) (k : Orders ν h held last ws) where
  -- a writer's open order is the one that the history has open
  under : (w : ℕ) (x : OpenOrder) → (ws w).current ≡ Some x → current_order h w ≡ Some x.order
  under w x e = k.runs w ∙ ap (option_map filing) e

  same_order : (w : ℕ) (x : OpenOrder) (o : Order) → (ws w).current ≡ Some x → current_order h w ≡ Some o → o ≡ x.order
  same_order w x o e u = inside (sym u ∙ under w x e)

  -- the stamped numbers hold as the sequences stay
  still_stamped : (w : ℕ) (r : Option OpenOrder) (o : Order) → Ordered h o →
      Stamped (λ v. (upd ws w (with_order (ws w) r) v).sequence) o
  still_stamped w r o i =
      let s = k.stamped o i in
      record {
        number = s.number;
        stamp = s.stamp;
        writer = s.writer;
        positive = s.positive;
        used = subst (λ n. s.number ≤ n) (sym (same_sequence ws w r o.writer)) s.used;
        listed = s.listed;
      }

  -- ── close ──
  pub closed : (w a b : ℕ) → Orders ν (called (by_writer w close) (accepted a b) ∷ h) held last (upd ws w (with_order (ws w) None))
  closed w a b = record {
    runs = runs_after (current_order h) ws w (with_order (ws w) None) None k.runs refl;
    own = λ v x e. elim (at_writer ws w (with_order (ws w) None) v x e) [
      | inl m ↦ never m.1
      | inr m ↦ k.own v x m.1
    ];
    stamped = still_stamped w None;
    unique = k.unique;
    of_prepared = k.of_prepared;
    of_withdrawn = k.of_withdrawn;
    held_from = k.held_from;
    held_of = k.held_of;
    last_from = k.last_from;
    of_mark = k.of_mark;
    no_mark = k.no_mark;
  }

  module _ (w a b : ℕ) (was : OpenOrder) (e : (ws w).current ≡ Some was) where
    -- another writer's order is not this writer's
    not_other : (v : ℕ) (x : OpenOrder) → ¬ (v ≡ w) → (ws v).current ≡ Some x → ¬ (current_order h w ≡ Some x.order)
    not_other v x d f u =
        let same = same_order w was x.order e u in
        d (sym (k.own v x f).writer ∙ ap (λ (o : Order). o.writer) same ∙ (k.own w was e).writer)

    -- ── withdraw ──
    module _ (j : ℕ) (within : j < length was.order.items) (gathering : was.prepared j ≡ false) where
      pub withdrawn_settled : (o : Order) → Settled h o → Settled (called (by_writer w withdraw) (accepted a b) ∷ h) o
      withdrawn_settled o s = record {
        is_order = s.is_order;
        prepared = s.prepared;
        stands = elim [
          | inl u ↦
              let same = same_order w was o e u in
              let in-o : j < length o.items = subst (λ (z : Order). j < length z.items) (sym same) within in
              let ready : Prepared h was.order j = subst (λ (z : Order). Prepared h z j) same (s.prepared j in-o) in
              true_false (sym gathering ∙ (k.own w was e).back j ready)
          | inr u ↦ s.stands u
        ];
      }

      pub withdrawn : Orders ν (called (by_writer w withdraw) (accepted a b) ∷ h) held last (upd ws w (with_order (ws w) None))
      withdrawn = record {
        runs = runs_after (current_order h) ws w (with_order (ws w) None) None k.runs refl;
        own = λ v x f. elim (at_writer ws w (with_order (ws w) None) v x f) [
          | inl m ↦ never m.1
          | inr m ↦
              let z = k.own v x m.1 in
              record {
                is_order = z.is_order;
                writer = z.writer;
                marked = z.marked;
                back = z.back;
                stands = elim [ inl u ↦ not_other v x m.0 m.1 u | inr u ↦ z.stands u ];
              }
        ];
        stamped = still_stamped w None;
        unique = k.unique;
        of_prepared = k.of_prepared;
        of_withdrawn = λ o. elim [
          | inl u ↦ subst (Ordered h) (sym (same_order w was o e u)) (k.own w was e).is_order
          | inr u ↦ k.of_withdrawn o u
        ];
        held_from = k.held_from;
        held_of = k.held_of;
        last_from = λ i. elim (k.last_from i) [
          | inl z ↦ inl z
          | inr z ↦ inr (z.0, withdrawn_settled z.0 z.1, z.2, z.3)
        ];
        of_mark = k.of_mark;
        no_mark = k.no_mark;
      }

    -- ── commit ──
    module _ (j : ℕ) (within : j < length was.order.items) (gathered : AllPrepared was) where
      all_settled : Settled h was.order
      all_settled = record {
        is_order = (k.own w was e).is_order;
        prepared = λ i l. (k.own w was e).marked i (gathered i l);
        stands = (k.own w was e).stands;
      }

      pub committed :
          Orders ν (called (by_writer w (commit j)) (accepted a b) ∷ h) held
          (upd last (get_or was.order.items j 0) (later_of (last (get_or was.order.items j 0)) was.order.stamp))
          (upd ws w (with_order (ws w) (Some (committed_at was j))))
      committed =
          let new = committed_at was j in
          let i₀ = get_or was.order.items j 0 in
          let t₀ = was.order.stamp in
          record {
            runs = runs_kept (current_order h) ws w (with_order (ws w) (Some new)) k.runs (under w was e);
            own = λ v x f. elim (at_writer ws w (with_order (ws w) (Some new)) v x f) [
              | inl m ↦ subst (λ (y : OpenOrder). Own h v y.order y.prepared) (inside m.1)
                  (subst (λ n. Own h n was.order was.prepared) (sym m.0) (k.own w was e))
              | inr m ↦ k.own v x m.1
            ];
            stamped = still_stamped w (Some new);
            unique = k.unique;
            of_prepared = k.of_prepared;
            of_withdrawn = k.of_withdrawn;
            held_from = k.held_from;
            held_of = k.held_of;
            last_from = λ i. elim (cases_eq i i₀) [
              | inl f ↦ elim (cases_Bool (later t₀ (last i₀))) [
                | inl g ↦
                    let is = upd_at last i₀ (later_of (last i₀) t₀) i f ∙ cond-true (later t₀ (last i₀)) t₀ (last i₀) g in
                    inr (was.order, all_settled, sym is, (j, within, sym f))
                | inr g ↦
                    let is = upd_at last i₀ (later_of (last i₀) t₀) i f ∙ cond-false (later t₀ (last i₀)) t₀ (last i₀) g in
                    subst (From h i) (sym is)
                    (subst (λ n. From h n (last i₀)) (sym f) (k.last_from i₀))
              ]
              | inr d ↦ subst (From h i) (sym (upd_off last i₀ (later_of (last i₀) t₀) i d)) (k.last_from i)
            ];
            of_mark = k.of_mark;
            no_mark = k.no_mark;
          }

    -- ── prepare ──
    module _ (j : ℕ) (held' : Held)
        (put :
        Put held (get_or was.order.items j 0) was.order.stamp (get_or was.order.codes j 0, mark_for ν was.order.items) held')
        (within : j < length was.order.items) where
      pub prepared :
          Orders ν (called (by_writer w (prepare j)) (accepted a b) ∷ h) held' last
          (upd ws w (with_order (ws w) (Some (prepared_at was j))))
      prepared =
          let new = prepared_at was j in
          let mine = k.own w was e in
          let h' = called (by_writer w (prepare j)) (accepted a b) ∷ h in
          let fresh : Own h' w was.order (upd was.prepared j true) = record {
            is_order = mine.is_order;
            writer = mine.writer;
            marked = λ i f. elim (cases_eq i j) [
              | inl g ↦ inl (under w was e, g)
              | inr d ↦ inr (mine.marked i (sym (upd_off was.prepared j true i d) ∙ f))
            ];
            back = λ i. elim [
              | inl m ↦ upd_at was.prepared j true i m.1
              | inr m ↦ elim (cases_eq i j) [
                | inl g ↦ upd_at was.prepared j true i g
                | inr d ↦ upd_off was.prepared j true i d ∙ mine.back i m
              ]
            ];
            stands = mine.stands;
          } in
          record {
            runs = runs_kept (current_order h) ws w (with_order (ws w) (Some new)) k.runs (under w was e);
            own = λ v x f. elim (at_writer ws w (with_order (ws w) (Some new)) v x f) [
              | inl m ↦ subst (λ (y : OpenOrder). Own h' v y.order y.prepared) (inside m.1)
                  (subst (λ n. Own h' n was.order (upd was.prepared j true)) (sym m.0) fresh)
              | inr m ↦
                  let z = k.own v x m.1 in
                  record {
                    is_order = z.is_order;
                    writer = z.writer;
                    marked = λ i g. inr (z.marked i g);
                    back = λ i. elim [ inl n ↦ absurd (not_other v x m.0 m.1 n.0) | inr n ↦ z.back i n ];
                    stands = z.stands;
                  }
            ];
            stamped = still_stamped w (Some new);
            unique = k.unique;
            of_prepared = λ o i. elim [
              | inl m ↦ subst (Ordered h) (sym (same_order w was o e m.0)) mine.is_order
              | inr m ↦ k.of_prepared o i m
            ];
            of_withdrawn = k.of_withdrawn;
            held_from = λ i t c m f. elim (put.from i t (c, m) f) [
              | inl n ↦ (
                was.order,
                mine.is_order,
                sym n.1,
                ap (λ (y : Content). y.1) n.2,
                (j, within, sym n.0, sym (ap (λ (y : Content). y.0) n.2)),
              )
              | inr n ↦ k.held_from i t c m n
            ];
            held_of = λ o i. elim [
              | inl m ↦
                  subst (λ (y : Order). held' (get_or y.items i 0) y.stamp ≡ Some (get_or y.codes i 0, mark_for ν y.items))
                  (sym (same_order w was o e m.0))
                  (subst
                  (λ n. held' (get_or was.order.items n 0) was.order.stamp ≡ Some (get_or was.order.codes n 0, mark_for ν was.order.items))
                  (sym m.1) put.here)
              | inr m ↦ put.keeps (get_or o.items i 0) o.stamp (get_or o.codes i 0, mark_for ν o.items) (k.held_of o i m)
            ];
            last_from = λ i. elim (k.last_from i) [
              | inl z ↦ inl z
              | inr z ↦ inr (z.0, prepared_settled h w a b z.0 z.1 j, z.2, z.3)
            ];
            of_mark = k.of_mark;
            no_mark = k.no_mark;
          }

  -- ── file ──
  module _ (w q a b : ℕ) (items codes : List ℕ) (writer : w < 16) (idle : (ws w).current ≡ None)
      (positive : 1 ≤ q) (rises : (ws w).sequence < q) (listed : Listed items) (answer : a ≡ q * 16 + w) where
    -- no order has that stamp yet
    unused : (o : Order) → Ordered h o → ¬ (o.stamp ≡ a)
    unused o i f =
        let s = k.stamped o i in
        let g : s.number * 16 + o.writer ≡ q * 16 + w = sym s.stamp ∙ f ∙ answer in
        let n : s.number ≡ q = omega (arith, g, s.writer, writer) in
        let v : o.writer ≡ w = omega (arith, g, n) in
        let u : s.number ≤ (ws w).sequence = subst (λ m. s.number ≤ (ws m).sequence) v s.used in
        omega (arith, u, n, rises)

    pub filed-kept :
        Orders ν (called (by_writer w (file q items codes)) (accepted a b) ∷ h) held last
        (upd ws w (filed_row w q items codes a))
    filed-kept =
        let new = filed_row w q items codes a in
        let h' = called (by_writer w (file q items codes)) (accepted a b) ∷ h in
        let here : Own h' w (filed w items codes a) (λ n. false) = record {
          is_order = inl refl;
          writer = refl;
          marked = λ i f. true_false f;
          back = λ i f. absurd (unused (filed w items codes a) (k.of_prepared (filed w items codes a) i f) refl);
          stands = λ f. unused (filed w items codes a) (k.of_withdrawn (filed w items codes a) f) refl;
        } in
        record {
          runs = runs_after (current_order h) ws w new (Some (filed w items codes a)) k.runs refl;
          own = λ v x f. elim (at_writer ws w new v x f) [
            | inl m ↦ subst (λ (y : OpenOrder). Own h' v y.order y.prepared) (inside m.1)
                (subst (λ n. Own h' n (filed w items codes a) (λ i. false)) (sym m.0) here)
            | inr m ↦
                let z = k.own v x m.1 in
                record { is_order = inr z.is_order; writer = z.writer; marked = z.marked; back = z.back; stands = z.stands }
          ];
          stamped = λ o. elim [
            | inl f ↦ subst (λ (y : Order). Stamped (λ v. (upd ws w new v).sequence) y) (sym f) (record {
              number = q;
              stamp = answer;
              writer = writer;
              positive = positive;
              used = subst (λ n. q ≤ n) (sym (ap (λ (y : OrderRow). y.sequence) (upd_at ws w new w refl))) (omega arith);
              listed = listed;
            })
            | inr i ↦
                let s = k.stamped o i in
                record {
                  number = s.number;
                  stamp = s.stamp;
                  writer = s.writer;
                  positive = s.positive;
                  used = elim (cases_eq o.writer w) [
                    | inl f ↦
                        let n : (upd ws w new o.writer).sequence ≡ q = ap (λ (y : OrderRow). y.sequence) (upd_at ws w new o.writer f) in
                        let u : s.number ≤ (ws w).sequence = subst (λ m. s.number ≤ (ws m).sequence) f s.used in
                        omega (arith, n, u, rises)
                    | inr d ↦ subst (λ n. s.number ≤ n) (sym (ap (λ (y : OrderRow). y.sequence) (upd_off ws w new o.writer d))) s.used
                  ];
                  listed = s.listed;
                }
          ];
          unique = λ o o'. elim [
            | inl f ↦ elim [
              | inl g ↦ λ z. f ∙ sym g
              | inr g ↦ λ z. absurd (unused o' g (sym z ∙ ap (λ (y : Order). y.stamp) f))
            ]
            | inr f ↦ elim [
              | inl g ↦ λ z. absurd (unused o f (z ∙ ap (λ (y : Order). y.stamp) g))
              | inr g ↦ λ z. k.unique o o' f g z
            ]
          ];
          of_prepared = λ o i f. inr (k.of_prepared o i f);
          of_withdrawn = λ o f. inr (k.of_withdrawn o f);
          held_from = λ i t c m f. let z = k.held_from i t c m f in (z.0, inr z.1, z.2, z.3, z.4);
          held_of = k.held_of;
          last_from = λ i. elim (k.last_from i) [
            | inl z ↦ inl z
            | inr z ↦ inr (z.0, filed_settled h w a b z.0 z.1 q items codes, z.2, z.3)
          ];
          of_mark = λ o. elim [
            | inl f ↦
                upd_at (mark_of ν h) a (mark_for ν items) o.stamp (ap (λ (y : Order). y.stamp) f)
                ∙ ap (λ (y : Order). mark_for ν y.items) (sym f)
            | inr i ↦ upd_off (mark_of ν h) a (mark_for ν items) o.stamp (unused o i) ∙ k.of_mark o i
          ];
          no_mark = upd_off (mark_of ν h) a (mark_for ν items) 0 (λ e. omega (arith, e, answer, positive)) ∙ k.no_mark;
        }
