-- What an empty journal means, and what a put and a commit that write come to.
use Rattle.std.proofs.Common.{◌≡◌, ℕ, ◌+◌, ◌-◌, ◌*◌, ◌/◌, ◌<◌, ◌≤◌, true, false, cond, ◌&&◌, eqb, List, [], ◌∷◌, ◌++◌, length, drop, replicate, is_some, Some, None, Option, sym, refl, ap, ◌∙◌, subst, ⊎_elim, arith}
use Rattle.std.proofs.lemmas.Bool.{eq-eqb, ne_eqb, cases_eq, cond-true, cond-false, and_from}
use Rattle.std.proofs.lemmas.Bool.Decides.{nat_tests}
use Rattle.blend.specs.Stamps.{later, later_of}
use Rattle.std.specs.Option.{option_or}
use Rattle.store.proofs.Firsts.{option_or_none}
use Rattle.store.specs.Meaning.{Content}
use Rattle.store.specs.Outcomes.{PutDone, CommitDone}
use Rattle.store.proofs.Passing.{put_passes, commit_passes}
use Rattle.journal.specs.declared.record.Record.{Record}
use Rattle.journal.specs.declared.record.Record.TheVariants.{Put, Commit}
use Rattle.journal.specs.Records.{records, used, appended}
use Rattle.journal.specs.Held.{lookup, last_of, versions, Waits, NoBlank, LastsHeld}
use Rattle.journal.specs.Means.{bytes_view}
use Rattle.journal.proofs.Counts.{lookup_append, lookup_commit, lookup_keeps, last_append, versions_push, used_is, waits_put, waits_commit, waits_one}
use Rattle.journal.proofs.Writes.{Fits, grown}

-- What a journal keeps of its bytes: its ghost fields, as one.
pub record Kept (bs : List ℕ) (end count : ℕ) : Type 0 where
  pub within : end ≤ length bs
  pub ends : end ≡ used (records bs)
  pub clear : drop end bs ≡ replicate (length bs - end) 0
  pub counted : count ≡ versions (records bs)
  pub room : count * 28 ≤ length bs
  pub waits : Waits (records bs)
  pub blank : NoBlank (records bs)
  pub committed : LastsHeld (records bs)

-- ── a put that writes ──

miss : (j t i s : ℕ) → (i ≡ j → s ≡ t → ⊥) → (eqb j i && eqb t s) ≡ false
miss j t i s apart = grind (arith, nat_tests)

-- a put is found where nothing was, and hides nothing else
found_new : (rs : List Record) (i s c m : ℕ) → lookup rs i s ≡ None → lookup (rs ++ Put i s c m ∷ []) i s ≡ Some (c, m)
found_new rs i s c m none =
    lookup_append rs (Put i s c m ∷ []) i s
    ∙ ap (λ (o : Option Content). option_or o (lookup (Put i s c m ∷ []) i s)) none
    ∙ cond-true (eqb i i && eqb s s) (Some (c, m)) None (and_from _ _ (eq-eqb i i refl) (eq-eqb s s refl))

found_others : (rs : List Record) (i s c m j t : ℕ) → (j ≡ i → t ≡ s → ⊥) → lookup (rs ++ Put i s c m ∷ []) j t ≡ lookup rs j t
found_others rs i s c m j t apart =
    lookup_append rs (Put i s c m ∷ []) j t
    ∙ ap (option_or (lookup rs j t)) (cond-false (eqb i j && eqb s t) (Some (c, m)) None (miss i s j t apart))
    ∙ option_or_none (lookup rs j t)

-- there is room for a put while there is space
pub put_room : (bs : List ℕ) (end count : ℕ) → Kept bs end count → count < length bs / 28 → end + 22 ≤ length bs
put_room bs end count k l = omega (arith, used_is (records bs))

pub record PutStep (bs cs : List ℕ) (end n count i s c m : ℕ) : Type 0 where
  pub kept : Kept cs (end + n) (count + 1)
  pub done : PutDone (bytes_view bs) (bytes_view cs) i s c m true

pub put_step : (bs cs : List ℕ) (end n count i s c m : ℕ) → Kept bs end count → n ≡ 22 → Fits (Put i s c m) → 0 < i → 0 < s →
    lookup (records bs) i s ≡ None → count < length bs / 28 → cs ≡ appended end (Put i s c m) bs → PutStep bs cs end n count i s c m
put_step bs cs end n count i s c m k n-is f io so none l e =
    let rs = records bs in
    let g = grown bs cs end (Put i s c m) k.ends k.clear f (put_room bs end count k l) e in
    let are = g.records_are in
    let v : versions (records cs) ≡ versions rs + 1 = ap versions are ∙ versions_push rs (Put i s c m) in
    let lasts : (j : ℕ) → last_of (records cs) j ≡ last_of rs j = λ j. ap (λ (x : List Record). last_of x j) are ∙ last_append 0 rs (Put i s c m ∷ []) j in
    record {
      kept = subst (λ (x : ℕ). Kept cs (end + x) (count + 1)) (sym n-is) record {
        within = omega (arith, put_room bs end count k l, g.long);
        ends = g.ends;
        clear = g.clear;
        counted = omega (arith, k.counted);
        room = omega (arith, g.long);
        waits = subst Waits (sym are) (waits_put rs i s c m k.waits);
        blank = λ j. ap (λ (x : List Record). is_some (lookup x j 0)) are ∙ ap is_some (found_others rs i s c m j 0 (λ p q. omega arith)) ∙ k.blank j;
        committed = λ j h.
            ap (λ (n : ℕ). is_some (lookup (records cs) j n)) (lasts j)
            ∙ ap (λ (x : List Record). is_some (lookup x j (last_of rs j))) are
            ∙ lookup_keeps rs (Put i s c m) j (last_of rs j) (k.committed j (omega (arith, lasts j)));
      };
      done = record {
        passes = put_passes (bytes_view bs) i s c m io so (omega (arith, k.counted)) none;
        new = simp none;
        held = ap (λ (x : List Record). lookup x i s) are ∙ found_new rs i s c m none;
        others = λ j t apart. ap (λ (x : List Record). lookup x j t) are ∙ found_others rs i s c m j t apart;
        lasts = lasts;
        space = omega (arith, k.counted, g.long);
        falls = λ j. omega (arith, k.counted, g.long);
        rises = λ j. omega (arith, k.counted, g.long);
      };
    }

-- ── a commit that raises ──

-- and always room for a rise
pub commit_room : (bs : List ℕ) (end count i s : ℕ) → Kept bs end count → is_some (lookup (records bs) i s) ≡ true →
    later s (last_of (records bs) i) ≡ true → end + 6 ≤ length bs
commit_room bs end count i s k held up = omega (arith, used_is (records bs), waits_one (records bs) i s held up)

pub record CommitStep (bs cs : List ℕ) (end n count i s : ℕ) : Type 0 where
  pub kept : Kept cs (end + n) count
  pub done : CommitDone (bytes_view bs) (bytes_view cs) i s true

pub commit_step : (bs cs : List ℕ) (end n count i s : ℕ) → Kept bs end count → n ≡ 6 → Fits (Commit i s) → 0 < i → 0 < s →
    is_some (lookup (records bs) i s) ≡ true → later s (last_of (records bs) i) ≡ true →
    cs ≡ appended end (Commit i s) bs → CommitStep bs cs end n count i s
commit_step bs cs end n count i s k n-is f io so held up e =
    let rs = records bs in
    let room = commit_room bs end count i s k held up in
    let g = grown bs cs end (Commit i s) k.ends k.clear f room e in
    let are = g.records_are in
    let v : versions (records cs) ≡ versions rs = ap versions are ∙ versions_push rs (Commit i s) ∙ omega arith in
    let holds : (j t : ℕ) → lookup (records cs) j t ≡ lookup rs j t = λ j t. ap (λ (x : List Record). lookup x j t) are ∙ lookup_commit rs i s j t in
    let lasts : (j : ℕ) → last_of (records cs) j ≡ cond (eqb i j) (later_of (last_of rs j) s) (last_of rs j) =
    λ j. ap (λ (x : List Record). last_of x j) are ∙ last_append 0 rs (Commit i s ∷ []) j in
    let here : last_of (records cs) i ≡ later_of (last_of rs i) s = lasts i ∙ cond-true (eqb i i) _ _ (eq-eqb i i refl) in
    let there : (j : ℕ) → (j ≡ i → ⊥) → last_of (records cs) j ≡ last_of rs j =
    λ j apart. lasts j ∙ cond-false (eqb i j) _ _ (ne_eqb i j (λ z. apart (sym z))) in
    let risen : last_of (records cs) i ≡ s = here ∙ cond-true (later s (last_of rs i)) s (last_of rs i) up in
    record {
      kept = subst (λ (x : ℕ). Kept cs (end + x) count) (sym n-is) record {
        within = omega (arith, room, g.long);
        ends = g.ends;
        clear = g.clear;
        counted = k.counted ∙ sym v;
        room = omega (arith, g.long, k.room);
        waits = subst Waits (sym are) (waits_commit rs i s k.waits held up);
        blank = λ j. ap is_some (holds j 0) ∙ k.blank j;
        committed = λ j h.
            ⊎_elim
            (λ z.
            ap (λ (a : ℕ). is_some (lookup (records cs) a (last_of (records cs) a))) z
            ∙ ap (λ (n : ℕ). is_some (lookup (records cs) i n)) risen
            ∙ ap is_some (holds i s)
            ∙ held)
            (λ ne.
            ap (λ (n : ℕ). is_some (lookup (records cs) j n)) (there j ne)
            ∙ ap is_some (holds j (last_of rs j))
            ∙ k.committed j (omega (arith, there j ne)))
            (cases_eq j i);
      };
      done = record {
        passes = commit_passes (bytes_view bs) i s io so held;
        rises = sym up;
        last = here;
        lasts = there;
        held = holds;
        spaces = λ j. omega (arith, g.long);
      };
    }
