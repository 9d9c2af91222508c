-- From facts to steps: what a service shows of each call.
use Rattle.std.proofs.Common.{◌≡◌, ℕ, ◌+◌, ◌*◌, ◌<◌, ◌≤◌, true, false, List, length, is_some, Some, None, Option, sym, refl, ap, ◌∙◌}
use mathlib.Core.Path.{fun_ext}
use Rattle.std.proofs.lemmas.Bool.{le-ltb, lt-leb, le-leb, ne_eqb, eq-eqb}
use Rattle.blend.specs.Refusals.{first_of}
use Rattle.store.specs.Meaning.{View, Version, later_version}
use Rattle.store.specs.Tests.{put_tests, commit_tests, question_tests}
use Rattle.store.specs.Outcomes.{Same}
use Rattle.protocol.specs.Naming.{Naming, Bytes, mark_for}
use Rattle.protocol.specs.Calls.{file, prepare, commit, close, withdraw, by_writer, open_read, first_ask, second_ask, take, release, by_reader, refused, accepted}
use Rattle.protocol.specs.State.{OpenOrder, OpenRead, State, the_read}
use Rattle.protocol.specs.Asks.{progress, finished, all_made, due_second, asks_made}
use Rattle.protocol.specs.Refusals.{bad_size, bad_items, unfit, item_at, code_at, all_prepared, complete, read_item}
use Rattle.protocol.specs.Step.{Step, Prepares, Commits, filed_row, with_order, set_writer, set_reader, fresh_read, first_asked, second_asked, first_version, second_version}

-- a store of which nothing has changed
pub same_store : (v w : View) → Same v w → w ≡ v
same_store v w h = λ i. record {
  held = fun_ext (λ j. fun_ext (h.held j)) i;
  last = fun_ext h.lasts i;
  space = fun_ext h.spaces i;
}

-- ── writers ──

module _ (ν : Naming) (s s' : State) (w : ℕ) (low : w ≤ 15) where
  pub file_in : (q : ℕ) (items codes : List ℕ) (a : ℕ) → (s.writers w).current ≡ None →
      ¬ (q ≡ 0) → q ≤ 268435455 → (s.writers w).sequence < q → bad_size items ≡ false → length codes ≡ length items →
      bad_items items ≡ false → unfit items codes ≡ false → Bytes items → a ≡ q * 16 + w →
      s' ≡ set_writer s w (filed_row w q items codes a) → Step ν s (by_writer w (file q items codes)) (accepted a 0) s'
  file_in q items codes a e pos most rises size same good fit bytes n after = (
    rw (
      le-ltb 15 w low,
      e,
      ne_eqb q 0 pos,
      le-ltb 268435455 q most,
      lt-leb q (s.writers w).sequence rises,
      size,
      eq-eqb (length codes) (length items) same,
      good,
      fit,
    ) refl,
    (bytes, n, after),
    refl,
  )

  module _ (x : OpenOrder) (e : (s.writers w).current ≡ Some x) where
    pub close_in : (a : ℕ) → complete x ≡ true → a ≡ x.order.stamp → s' ≡ set_writer s w (with_order (s.writers w) None) →
        Step ν s (by_writer w close) (accepted a 0) s'
    close_in a all n after = (rw (le-ltb 15 w low, e, all) refl, (rw e n, after), refl)

    pub withdraw_in : (a : ℕ) → all_prepared x ≡ false → a ≡ x.order.stamp → s' ≡ set_writer s w (with_order (s.writers w) None) →
        Step ν s (by_writer w withdraw) (accepted a 0) s'
    withdraw_in a all n after = (rw (le-ltb 15 w low, e, all) refl, (rw e n, after), refl)

    module _ (k : ℕ) (within : k < length x.order.items) where
      pub prepare_in : (a : ℕ) → Prepares ν s x w k a s' → Step ν s (by_writer w (prepare k)) (accepted a 0) s'
      prepare_in a d = (rw (le-ltb 15 w low, e, lt-leb (length x.order.items) k within) d.puts.passes, rw e d, refl)

      pub prepare_no : (n : ℕ) →
          first_of (put_tests s.store (item_at x k) x.order.stamp (code_at x k) (mark_for ν x.order.items)) ≡ Some n →
          s' ≡ s → Step ν s (by_writer w (prepare k)) (refused n) s'
      prepare_no n why same = (rw (le-ltb 15 w low, e, lt-leb (length x.order.items) k within) why, same)

      pub commit_in : (a : ℕ) → all_prepared x ≡ true → Commits s x w k a s' → Step ν s (by_writer w (commit k)) (accepted a 0) s'
      commit_in a all d = (rw (le-ltb 15 w low, e, lt-leb (length x.order.items) k within, all) d.commits.passes, rw e d, refl)

      pub commit_no : (n : ℕ) → all_prepared x ≡ true → first_of (commit_tests s.store (item_at x k) x.order.stamp) ≡ Some n →
          s' ≡ s → Step ν s (by_writer w (commit k)) (refused n) s'
      commit_no n all why same = (rw (le-ltb 15 w low, e, lt-leb (length x.order.items) k within, all) why, same)

      -- the order is gathering
      pub commit_early : all_prepared x ≡ false → s' ≡ s → Step ν s (by_writer w (commit k)) (refused 18) s'
      commit_early all same = (rw (le-ltb 15 w low, e, lt-leb (length x.order.items) k within, all) refl, same)

    module _ (k : ℕ) (out : length x.order.items ≤ k) (same : s' ≡ s) where
      pub prepare_out : Step ν s (by_writer w (prepare k)) (refused 17) s'
      prepare_out = (rw (le-ltb 15 w low, e, le-leb (length x.order.items) k out) refl, same)

      pub commit_out : Step ν s (by_writer w (commit k)) (refused 17) s'
      commit_out = (rw (le-ltb 15 w low, e, le-leb (length x.order.items) k out) refl, same)

-- ── readers ──

module _ (ν : Naming) (s s' : State) (r : ℕ) (low : r ≤ 15) where
  pub open_in : (items : List ℕ) (a : ℕ) → s.readers r ≡ None → bad_size items ≡ false → bad_items items ≡ false → Bytes items →
      a ≡ length items → s' ≡ set_reader s r (Some (fresh_read items)) → Step ν s (by_reader r (open_read items)) (accepted a 0) s'
  open_in items a e size good bytes n after = (rw (le-ltb 15 r low, e, size, good) refl, (bytes, n, after), refl)

  module _ (x : OpenRead) (e : s.readers r ≡ Some x) where
    pub release_in : (a : ℕ) → a ≡ asks_made (progress x) → s' ≡ set_reader s r None → Step ν s (by_reader r release) (accepted a 0) s'
    release_in a n after = (rw (le-ltb 15 r low, e) refl, (rw e n, after), refl)

    module _ (p : ℕ) (within : p < length x.items) where
      pub first_in : (a : ℕ) → is_some (x.first p) ≡ false → first_of (question_tests (read_item x p)) ≡ None →
          (v : Version) → v ≡ first_version s.store x p → a ≡ v.0 → s' ≡ set_reader s r (Some (first_asked x p v)) →
          Step ν s (by_reader r (first_ask p)) (accepted a 0) s'
      first_in a unasked passes v is n after = (
        rw (le-ltb 15 r low, e, lt-leb (length x.items) p within, unasked) passes,
        (rw e (n ∙ ap (λ (u : Version). u.0) is), rw e (after ∙ ap (λ (u : Version). set_reader s r (Some (first_asked x p u))) is)),
        refl,
      )

      pub first_no : (n : ℕ) → is_some (x.first p) ≡ false → first_of (question_tests (read_item x p)) ≡ Some n → s' ≡ s →
          Step ν s (by_reader r (first_ask p)) (refused n) s'
      first_no n unasked why same = (rw (le-ltb 15 r low, e, lt-leb (length x.items) p within, unasked) why, same)

      pub second_in : (a : ℕ) → all_made (progress x) ≡ true → due_second ν (progress x) p ≡ true →
          first_of (question_tests (read_item x p)) ≡ None → (v : Version) → v ≡ second_version ν s.store x p → a ≡ (later_version (x.kept p) v).0 →
          s' ≡ set_reader s r (Some (second_asked x p v)) → Step ν s (by_reader r (second_ask p)) (accepted a 0) s'
      second_in a made due passes v is n after = (
        rw (le-ltb 15 r low, e, lt-leb (length x.items) p within, made, due) passes,
        (
          rw e (n ∙ ap (λ (u : Version). (later_version (x.kept p) u).0) is),
          rw e (after ∙ ap (λ (u : Version). set_reader s r (Some (second_asked x p u))) is),
        ),
        refl,
      )

      pub second_no : (n : ℕ) → all_made (progress x) ≡ true → due_second ν (progress x) p ≡ true →
          first_of (question_tests (read_item x p)) ≡ Some n → s' ≡ s → Step ν s (by_reader r (second_ask p)) (refused n) s'
      second_no n made due why same = (rw (le-ltb 15 r low, e, lt-leb (length x.items) p within, made, due) why, same)

      pub second_missing : all_made (progress x) ≡ false → s' ≡ s → Step ν s (by_reader r (second_ask p)) (refused 25) s'
      second_missing made same = (rw (le-ltb 15 r low, e, lt-leb (length x.items) p within, made) refl, same)

      pub second_undue : all_made (progress x) ≡ true → due_second ν (progress x) p ≡ false → s' ≡ s →
          Step ν s (by_reader r (second_ask p)) (refused 26) s'
      second_undue made due same = (rw (le-ltb 15 r low, e, lt-leb (length x.items) p within, made, due) refl, same)

      pub take_in : (a b : ℕ) → finished ν (progress x) ≡ true → a ≡ (x.kept p).0 → b ≡ (x.kept p).1 → s' ≡ s →
          Step ν s (by_reader r (take p)) (accepted a b) s'
      take_in a b done n m after = (
        rw (le-ltb 15 r low, e, lt-leb (length x.items) p within, done) refl,
        (rw e n, after),
        m ∙ sym (ap (λ (o : Option OpenRead). ((the_read o).kept p).1) e),
      )

      pub take_early : finished ν (progress x) ≡ false → s' ≡ s → Step ν s (by_reader r (take p)) (refused 27) s'
      take_early done same = (rw (le-ltb 15 r low, e, lt-leb (length x.items) p within, done) refl, same)

    module _ (p : ℕ) (out : length x.items ≤ p) (same : s' ≡ s) where
      pub first_out : Step ν s (by_reader r (first_ask p)) (refused 17) s'
      first_out = (rw (le-ltb 15 r low, e, le-leb (length x.items) p out) refl, same)

      pub second_out : Step ν s (by_reader r (second_ask p)) (refused 17) s'
      second_out = (rw (le-ltb 15 r low, e, le-leb (length x.items) p out) refl, same)

      pub take_out : Step ν s (by_reader r (take p)) (refused 17) s'
      take_out = (rw (le-ltb 15 r low, e, le-leb (length x.items) p out) refl, same)
