-- Every step keeps the invariant, and so it holds after every run from an untouched state. What is settled stays settled.
use Rattle.std.proofs.Common.{◌≡◌, ℕ, suc, ◌≤◌, false, eqb, List, [], ◌∷◌, ◌++◌, length, get_or, is_some, Some, None, Option, sym, refl, ap, ◌∙◌, subst, inl, inr, arith}
use mathlib.Core.Path.{fun_ext}
use Rattle.std.specs.Option.{option_map}
use Rattle.std.proofs.lemmas.Bool.{cases_eq, cond-true, cond-false, eq-eqb, ne_eqb}
use Rattle.blend.specs.Stamps.{later_of}
use Rattle.store.specs.Meaning.{LastHeld, Version, blank, version_with, last_version}
use Rattle.protocol.specs.Naming.{Naming, Lawful, mark_for}
use Rattle.protocol.specs.Calls.{WriterCall, file, prepare, commit, close, withdraw, ReaderCall, open_read, first_ask, second_ask, take, release, Call, by_writer, by_reader, Answer, refused, accepted}
use Rattle.protocol.specs.State.{upd, Order, OpenRead, State, Untouched, order_of, read_of}
use Rattle.protocol.specs.Asks.{wanted, progress, asks_made}
use Rattle.protocol.specs.Refusals.{item_at, code_at, read_item}
use Rattle.protocol.specs.Step.{Step, fresh_read, first_asked, second_asked, first_version, second_version, set_reader}
use Rattle.protocol.specs.History.{called, History, Read, opened, with_first, with_second, current_read}
use Rattle.protocol.specs.Law.{Trace, start, next}
use Rattle.protocol.proofs.Basics.{upd_from, at_upd, upd_ext, never, true_false, inside, agree_after, count_none}
use Rattle.protocol.proofs.Facts.{files, prepares, commits, withdraws, opens, first_asks, second_asks, releases}
use Rattle.protocol.proofs.Wanting.{picks_eight}
use Rattle.protocol.proofs.Inv.{Settled, filing, seen, Shown, Fine, Reads, Inv}
use Rattle.protocol.proofs.Orders.{moved, put_of, closed, withdrawn, withdrawn_settled, committed, prepared, prepared_settled, filed-kept, filed_settled}
use Rattle.protocol.proofs.Reading.{fine_up, fine_fresh, fine_first, fine_second, counts_first, counts_second, shown_held, some_stamp}

-- ── readers ──

-- one reader's read has changed
reads_after : (ν : Naming) (h : History) (readers : ℕ → Option OpenRead) (r : ℕ) (y : Option Read) (o : Option OpenRead) →
    Reads ν h readers → y ≡ option_map seen o → ((x : OpenRead) → o ≡ Some x → Fine ν h x) → r ≤ 15 →
    record {
      agree : (v : ℕ) → upd (current_read h) r y v ≡ option_map seen (upd readers r o v);
      fine : (v : ℕ) (x : OpenRead) → upd readers r o v ≡ Some x → Fine ν h x;
      bound : (v : ℕ) (x : OpenRead) → upd readers r o v ≡ Some x → v ≤ 15;
    }
reads_after ν h readers r y o k e f low = record {
  agree = agree_after seen (current_read h) readers r y o k.agree e;
  fine = λ v x g. elim (at_upd readers r o v (Some x) g) [ inl m ↦ f x m.1 | inr m ↦ k.fine v x m.1 ];
  bound = λ v x g. elim (at_upd readers r o v (Some x) g) [
    | inl m ↦ subst (λ n. n ≤ 15) (sym m.0) low
    | inr m ↦ k.bound v x m.1
  ];
}

seen_fresh : (items : List ℕ) → opened items ≡ seen (fresh_read items)
seen_fresh items =
    let none = count_none (length items) in
    let e : 0 ≡ asks_made (progress (fresh_read items)) = omega arith in
    λ i. record { items = items; first = λ p. None; again = λ p. false; asks = e i }

seen_first : (x : OpenRead) (p a : ℕ) (v : Version) → a ≡ v.0 → asks_made (progress (first_asked x p v)) ≡ suc (asks_made (progress x)) →
    with_first p a (seen x) ≡ seen (first_asked x p v)
seen_first x p a v e more =
    let stamp : Version → ℕ = λ z. z.0 in
    let f : upd (λ q. option_map stamp (x.first q)) p (Some a) ≡ (λ q. option_map stamp (upd x.first p (Some v) q)) =
    ap (λ n. upd (λ q. option_map stamp (x.first q)) p (Some n)) e ∙ fun_ext (λ q. sym (upd_ext (option_map stamp) x.first p (Some v) q)) in
    λ i. record { items = x.items; first = f i; again = x.again; asks = sym more i }

seen_second : (x : OpenRead) (p : ℕ) (v : Version) → asks_made (progress (second_asked x p v)) ≡ suc (asks_made (progress x)) →
    with_second p (seen x) ≡ seen (second_asked x p v)
seen_second x p v more = λ i. record {
  items = x.items;
  first = (seen x).first;
  again = (with_second p (seen x)).again;
  asks = sym more i;
}

module _ (ν : Naming) (law : Lawful ν) (h : History) (s : State) (k : Inv ν h s) where
  -- what the first ask answers is of a settled order
  last_shown : (i : ℕ) → Shown ν h i (last_version s.store i)
  last_shown i = elim (k.orders.last_from i) [
    | inl z ↦ inl (cond-true (eqb (s.store.last i) 0) blank _ (eq-eqb (s.store.last i) 0 z))
    | inr z ↦
        let held = s.store.held in
        let last = s.store.last in
        let o = z.0 in
        let l = z.3 in
        let x : ℕ × ℕ = (get_or o.codes l.0 0, mark_for ν o.items) in
        let there : held i o.stamp ≡ Some x =
        ap (λ n. held n o.stamp) (sym l.2) ∙ k.orders.held_of o l.0 (z.1.prepared l.0 l.1) in
        let real : ¬ (last i ≡ 0) = λ e. some_stamp ν law h s k.orders o z.1.is_order (z.2 ∙ e) in
        let v : Version = (o.stamp, x.0, x.1) in
        let is : last_version s.store i ≡ v =
        cond-false (eqb (last i) 0) blank (version_with (last i) (held i (last i))) (ne_eqb (last i) 0 real)
        ∙ ap (λ n. version_with n (held i n)) (sym z.2) ∙ ap (version_with o.stamp) there in
        subst (Shown ν h i) (sym is) (shown_held ν law h s k.orders i v there o z.1 refl)
  ]

  reader_step : (s' : State) (r a b : ℕ) (q : ReaderCall) (o : Option OpenRead) → s' ≡ set_reader s r o →
      Reads ν (called (by_reader r q) (accepted a b) ∷ h) (upd s.readers r o) → Inv ν (called (by_reader r q) (accepted a b) ∷ h) s'
  reader_step s' r a b q o after reads =
      subst (Inv ν (called (by_reader r q) (accepted a b) ∷ h)) (sym after) (record { orders = k.orders; reads = reads })

  -- the read that the history has open
  open_in : (r : ℕ) (x : OpenRead) → s.readers r ≡ Some x → current_read h r ≡ Some (seen x)
  open_in r x e = k.reads.agree r ∙ ap (option_map seen) e

-- ── what is settled stays so ──

pub settled_step : (ν : Naming) (h : History) (s : State) (c : Call) (a : Answer) (s' : State) → Inv ν h s → Step ν s c a s' →
    (o : Order) → Settled h o → Settled (called c a ∷ h) o
settled_step ν h s c (refused n) s' k z o d = d
settled_step ν h s (by_reader r q) (accepted a b) s' k z o d = d
settled_step ν h s (by_writer w (file q items codes)) (accepted a b) s' k z o d = filed_settled h w a b o d q items codes
settled_step ν h s (by_writer w (prepare j)) (accepted a b) s' k z o d = prepared_settled h w a b o d j
settled_step ν h s (by_writer w (commit j)) (accepted a b) s' k z o d = d
settled_step ν h s (by_writer w close) (accepted a b) s' k z o d = d
settled_step ν h s (by_writer w withdraw) (accepted a b) s' k z o d =
    let f = withdraws ν s s' w a b z in
    withdrawn_settled ν h s.store.held s.store.last s.writers k.orders w a b
    (order_of s w) f.1.open_order f.0 f.1.within f.2 o d

-- ── each step keeps the invariant ──

-- a writer's call leaves the reads
writer_reads : (ν : Naming) (h : History) (s : State) (w a b : ℕ) (q : WriterCall) (s' : State) → Inv ν h s →
    Step ν s (by_writer w q) (accepted a b) s' → s'.readers ≡ s.readers →
    Reads ν (called (by_writer w q) (accepted a b) ∷ h) s'.readers
writer_reads ν h s w a b q s' k z same = subst (Reads ν (called (by_writer w q) (accepted a b) ∷ h)) (sym same) (record {
  agree = k.reads.agree;
  fine = λ r x e.
      fine_up ν h (called (by_writer w q) (accepted a b) ∷ h) (settled_step ν h s (by_writer w q) (accepted a b) s' k z) x
      (k.reads.fine r x e);
  bound = k.reads.bound;
})

pub inv_step : (ν : Naming) → Lawful ν → (h : History) (s : State) (c : Call) (a : Answer) (s' : State) → Inv ν h s → Step ν s c a s' →
    Inv ν (called c a ∷ h) s'
inv_step ν law h s c (refused n) s' k z = subst (Inv ν h) (sym z.1) k
inv_step ν law h s (by_writer w (file q items codes)) (accepted a b) s' k z =
    let f = files ν s s' w a b q items codes z in
    let after = f.after in
    record {
      orders = moved ν (called (by_writer w (file q items codes)) (accepted a b) ∷ h)
          (ap (λ (x : State). x.store.held) after) (ap (λ (x : State). x.store.last) after) (ap (λ (x : State). x.writers) after)
          (filed-kept ν h s.store.held s.store.last s.writers k.orders w q a b items codes
          f.writer f.idle f.positive f.rises f.listed f.answer);
      reads = writer_reads ν h s w a b (file q items codes) s' k z (ap (λ (x : State). x.readers) after);
    }
inv_step ν law h s (by_writer w (prepare j)) (accepted a b) s' k z =
    let f = prepares ν s s' w a b j z in
    let d = z.1 in
    let x = order_of s w in
    let put =
    put_of s.store s'.store (item_at x j) x.order.stamp (code_at x j) (mark_for ν x.order.items) d.fresh d.puts in
    record {
      orders = moved ν (called (by_writer w (prepare j)) (accepted a b) ∷ h) refl (fun_ext d.puts.lasts) d.writers
          (prepared ν h s.store.held s.store.last s.writers k.orders w a b
          x f.open_order j s'.store.held put f.within);
      reads = writer_reads ν h s w a b (prepare j) s' k z d.readers;
    }
inv_step ν law h s (by_writer w (commit j)) (accepted a b) s' k z =
    let f = commits ν s s' w a b j z in
    let d = z.1 in
    let x = order_of s w in
    let i = item_at x j in
    record {
      orders = moved ν (called (by_writer w (commit j)) (accepted a b) ∷ h) (fun_ext (λ n. fun_ext (d.commits.held n)))
          (upd_from s.store.last s'.store.last i (later_of (s.store.last i) x.order.stamp) d.commits.last d.commits.lasts)
          d.writers
          (committed ν h s.store.held s.store.last s.writers k.orders w a b x f.0.open_order j f.0.within f.1);
      reads = writer_reads ν h s w a b (commit j) s' k z d.readers;
    }
inv_step ν law h s (by_writer w close) (accepted a b) s' k z =
    let after = z.1.1 in
    record {
      orders = moved ν (called (by_writer w close) (accepted a b) ∷ h)
          (ap (λ (x : State). x.store.held) after) (ap (λ (x : State). x.store.last) after) (ap (λ (x : State). x.writers) after)
          (closed ν h s.store.held s.store.last s.writers k.orders w a b);
      reads = writer_reads ν h s w a b close s' k z (ap (λ (x : State). x.readers) after);
    }
inv_step ν law h s (by_writer w withdraw) (accepted a b) s' k z =
    let after = z.1.1 in
    let f = withdraws ν s s' w a b z in
    record {
      orders = moved ν (called (by_writer w withdraw) (accepted a b) ∷ h)
          (ap (λ (x : State). x.store.held) after) (ap (λ (x : State). x.store.last) after) (ap (λ (x : State). x.writers) after)
          (withdrawn ν h s.store.held s.store.last s.writers k.orders w a b
          (order_of s w) f.1.open_order f.0 f.1.within f.2);
      reads = writer_reads ν h s w a b withdraw s' k z (ap (λ (x : State). x.readers) after);
    }
inv_step ν law h s (by_reader r (open_read items)) (accepted a b) s' k z =
    let f = opens ν s s' r a b items z in
    reader_step ν law h s k s' r a b (open_read items) (Some (fresh_read items)) z.1.2
    (reads_after ν h s.readers r (Some (opened items)) (Some (fresh_read items)) k.reads (ap Some (seen_fresh items))
    (λ x e. subst (Fine ν h) (inside e) (fine_fresh ν h items f.1)) f.0)
inv_step ν law h s (by_reader r (first_ask p)) (accepted a b) s' k z =
    let f = first_asks ν s s' r a b p z in
    let x = read_of s r in
    let v = first_version s.store x p in
    let fine = k.reads.fine r x f.0.is_open in
    let shown = last_shown ν law h s k (read_item x p) in
    reader_step ν law h s k s' r a b (first_ask p) (Some (first_asked x p v)) z.1.1
    (reads_after ν h s.readers r (option_map (with_first p a) (current_read h r)) (Some (first_asked x p v)) k.reads
    (ap (option_map (with_first p a)) (open_in ν law h s k r x f.0.is_open)
    ∙ ap Some (seen_first x p a v z.1.0 (counts_first ν h x fine p f.1 v shown)))
    (λ y e. subst (Fine ν h) (inside e) (fine_first ν h x fine p f.1 v shown)) f.0.low)
inv_step ν law h s (by_reader r (second_ask p)) (accepted a b) s' k z =
    let f = second_asks ν s s' r a b p z in
    let x = read_of s r in
    let v = second_version ν s.store x p in
    let fine = k.reads.fine r x f.0.is_open in
    let picks = picks_eight (s.store.held (read_item x p)) (wanted ν (progress x) p) in
    reader_step ν law h s k s' r a b (second_ask p) (Some (second_asked x p v)) z.1.1
    (reads_after ν h s.readers r (option_map (with_second p) (current_read h r)) (Some (second_asked x p v)) k.reads
    (ap (option_map (with_second p)) (open_in ν law h s k r x f.0.is_open)
    ∙ ap Some (seen_second x p v (counts_second ν law h s k.orders x fine p f.1 v picks)))
    (λ y e. subst (Fine ν h) (inside e) (fine_second ν law h s k.orders x fine p f.1 v picks)) f.0.low)
inv_step ν law h s (by_reader r (take p)) (accepted a b) s' k z = subst (Inv ν h) (sym z.1.1) k
inv_step ν law h s (by_reader r release) (accepted a b) s' k z =
    reader_step ν law h s k s' r a b release None z.1.1
    (reads_after ν h s.readers r None None k.reads refl (λ x e. never e) (releases ν s s' r a b z).low)

-- ── whole runs ──

-- nothing is held, so no item has a last stamp
no_last : (s : State) → LastHeld s.store → Untouched s → (i : ℕ) → s.store.last i ≡ 0
no_last s law u i = elim (cases_eq (s.store.last i) 0) [
  | inl e ↦ e
  | inr d ↦ true_false (ap is_some (sym (u.nothing_held i (s.store.last i))) ∙ law i (omega (arith, d)))
]

pub inv_start : (ν : Naming) (s : State) → LastHeld s.store → Untouched s → Inv ν [] s
inv_start ν s law u = record {
  orders = record {
    runs = λ w. ap (option_map filing) (sym (u.no_order w));
    own = λ w x e. never (sym (u.no_order w) ∙ e);
    stamped = λ o i. absurd i;
    unique = λ o o' i. absurd i;
    of_prepared = λ o k i. absurd i;
    of_withdrawn = λ o i. absurd i;
    held_from = λ i t c m e. never (sym (u.nothing_held i t) ∙ e);
    held_of = λ o k i. absurd i;
    last_from = λ i. inl (no_last s law u i);
    of_mark = λ o i. absurd i;
    no_mark = refl;
  };
  reads = record {
    agree = λ r. ap (option_map seen) (sym (u.no_read r));
    fine = λ r x e. never (sym (u.no_read r) ∙ e);
    bound = λ r x e. never (sym (u.no_read r) ∙ e);
  };
}

-- the calls of h after those of past
module _ (ν : Naming) (law : Lawful ν) (past : History) (s₀ : State) (k : Inv ν past s₀) where
  pub inv_run : {h : History} {s : State} → Trace ν s₀ h s → Inv ν (h ++ past) s
  inv_run start = k
  inv_run (next {h} {s} {s'} {c} {a} run z) = inv_step ν law (h ++ past) s c a s' (inv_run run) z

  pub settled_run : {h : History} {s : State} → Trace ν s₀ h s → (o : Order) → Settled past o → Settled (h ++ past) o
  settled_run start o d = d
  settled_run (next {h} {s} {s'} {c} {a} run z) o d = settled_step ν (h ++ past) s c a s' (inv_run run) z o (settled_run run o d)
