-- Laws of reading records from bytes.
use Rattle.std.proofs.Common.{◌≡◌, ℕ, zero, suc, ◌+◌, ◌≤◌, List, [], ◌∷◌, ◌++◌, length, take, drop, Some, None, Option, sym, refl, ap, ◌∙◌, subst, ⊎_elim, arith}
use Rattle.std.specs.Int.Digits.{number_from_digits}
use Rattle.std.proofs.lemmas.List.{take-take, drop-take, drop-drop, length-take}
use Rattle.std.proofs.lemmas.Bool.{eq-eqb, ne_eqb, cases_eq, cases_lt, cond-true, cond-false, le-ltb, lt-ltb}
use Rattle.layout.specs.Layout.{parsed, total}
use Rattle.layout.specs.Bodies.{put_widths, commit_widths}
use Rattle.journal.specs.declared.record.Record.{Record}
use Rattle.journal.specs.declared.record.Record.TheVariants.{Put, Commit}
use Rattle.journal.specs.Records.{size, put_from, commit_from, body_in, first, follow, scan, records, used}

no_some : {X : Type 0} (r : Record) → None ≡ Some r → X
no_some r h = let z : ◌≡◌ {A = ℕ} 0 1 = cc in absurd (omega arith)

body_some : (ws : List ℕ) (make : List ℕ → Record) (b : List ℕ) (r : Record) → body_in ws make b ≡ Some r →
    (total ws ≤ length b) × (r ≡ make (parsed ws b))
body_some ws make b r h =
    ⊎_elim
    (λ l. no_some r (sym (cond-true _ _ _ (lt-ltb (length b) (total ws) l)) ∙ h))
    (λ l. let g : Some (make (parsed ws b)) ≡ Some r = sym (cond-false _ _ _ (le-ltb (length b) (total ws) l)) ∙ h in (l, cc))
    (cases_lt (length b) (total ws))

body_same : (ws : List ℕ) (make : List ℕ → Record) (b : List ℕ) → total ws ≤ length b → body_in ws make b ≡ Some (make (parsed ws b))
body_same ws make b l = cond-false _ _ _ (le-ltb (length b) (total ws) l)

-- what is read lies in the bytes that the widths take
parsed_take : (ws b : List ℕ) → parsed ws (take (total ws) b) ≡ parsed ws b
parsed_take [] b = refl
parsed_take (w ∷ ws) b =
    ap (λ (l : List ℕ). number_from_digits 256 l ∷ parsed ws (drop w (take (w + total ws) b))) (take-take w (w + total ws) b (omega arith))
    ∙ ap (λ (l : List ℕ). number_from_digits 256 (take w b) ∷ l) (ap (parsed ws) (drop-take w (total ws) b) ∙ parsed_take ws (drop w b))

-- what bytes that begin with a record are
record Seen (k : ℕ) (b : List ℕ) (r : Record) : Type 0 where
  pub ws : List ℕ
  pub make : List ℕ → Record
  pub long : total ws ≤ length b
  pub is : r ≡ make (parsed ws b)
  pub sized : (vs : List ℕ) → size (make vs) ≡ suc (total ws)
  pub same : (c : List ℕ) → total ws ≤ length c → first (k ∷ c) ≡ Some (make (parsed ws c))

seen : (k : ℕ) (b : List ℕ) (r : Record) → first (k ∷ b) ≡ Some r → Seen k b r
seen k b r h =
    ⊎_elim
    (λ e.
    let t = eq-eqb k 1 e in
    let p = body_some put_widths put_from b r (sym (cond-true _ _ _ t) ∙ h) in
    record {
      ws = put_widths;
      make = put_from;
      long = p.0;
      is = p.1;
      sized = λ vs. refl;
      same = λ c l. cond-true _ _ _ t ∙ body_same put_widths put_from c l;
    })
    (λ n1.
    let f = ne_eqb k 1 n1 in
    ⊎_elim
    (λ e.
    let t = eq-eqb k 2 e in
    let p = body_some commit_widths commit_from b r (sym (cond-true _ _ _ t) ∙ (sym (cond-false _ _ _ f) ∙ h)) in
    record {
      ws = commit_widths;
      make = commit_from;
      long = p.0;
      is = p.1;
      sized = λ vs. refl;
      same = λ c l. cond-false _ _ _ f ∙ (cond-true _ _ _ t ∙ body_same commit_widths commit_from c l);
    })
    (λ n2. no_some r (sym (cond-false _ _ _ (ne_eqb k 2 n2)) ∙ (sym (cond-false _ _ _ f) ∙ h)))
    (cases_eq k 2))
    (cases_eq k 1)

seen_size : (k : ℕ) (b : List ℕ) (r : Record) (p : Seen k b r) → size r ≡ suc (total p.ws)
seen_size k b r p = ap size p.is ∙ p.sized (parsed p.ws b)

-- and in no other byte
first_same : (bs cs : List ℕ) (r : Record) → first bs ≡ Some r → take (size r) cs ≡ take (size r) bs → first cs ≡ Some r
first_same [] cs r h e = no_some r h
first_same (k ∷ b) [] r h e =
    let p = seen k b r h in
    let s = seen_size k b r p in
    let n = ap length (subst (λ (n : ℕ). take n [] ≡ take n (k ∷ b)) s e) in
    absurd (omega arith)
first_same (k ∷ b) (x ∷ c) r h e =
    let p = seen k b r h in
    let t = total p.ws in
    let e' : x ∷ take t c ≡ k ∷ take t b = subst (λ (n : ℕ). take n (x ∷ c) ≡ take n (k ∷ b)) (seen_size k b r p) e in
    let x-is : x ≡ k = cc in
    let t-is : take t c ≡ take t b = cc in
    let lb = length-take t b in
    let lc = length-take t c in
    let l : t ≤ length c = omega (arith, ap length t-is, p.long) in
    ap (λ (y : ℕ). first (y ∷ c)) x-is
    ∙ p.same c l
    ∙ ap (λ (l : List ℕ). Some (p.make l)) (sym (parsed_take p.ws c) ∙ ap (parsed p.ws) t-is ∙ parsed_take p.ws b)
    ∙ ap Some (sym p.is)

scan_drop : (n : ℕ) (b : List ℕ) → scan n b ≡ scan 0 (drop n b)
scan_drop zero b = refl
scan_drop (suc n) [] = refl
scan_drop (suc n) (x ∷ b) = scan_drop n b

records_none : (bs : List ℕ) → first bs ≡ None → records bs ≡ []
records_none [] h = refl
records_none (k ∷ b) h = ap (λ (o : Option Record). follow o (scan (total put_widths) b) (scan (total commit_widths) b)) h

follow_some : (k : ℕ) (b : List ℕ) (r : Record) →
    follow (Some r) (scan (total put_widths) b) (scan (total commit_widths) b) ≡ r ∷ records (drop (size r) (k ∷ b))
follow_some k b (Put i s c m) = ap (λ (l : List Record). Put i s c m ∷ l) (scan_drop (total put_widths) b)
follow_some k b (Commit i s) = ap (λ (l : List Record). Commit i s ∷ l) (scan_drop (total commit_widths) b)

pub records_some : (bs : List ℕ) (r : Record) → first bs ≡ Some r → records bs ≡ r ∷ records (drop (size r) bs)
records_some [] r h = no_some r h
records_some (k ∷ b) r h =
    ap (λ (o : Option Record). follow o (scan (total put_widths) b) (scan (total commit_widths) b)) h ∙ follow_some k b r

-- the first of the records, and the others
split_by : (o : Option Record) (bs : List ℕ) (r : Record) (rs : List Record) → first bs ≡ o → records bs ≡ r ∷ rs →
    (first bs ≡ Some r) × (records (drop (size r) bs) ≡ rs)
split_by None bs r rs e h = let n = records_none bs e in let z : ◌≡◌ {A = ℕ} 0 1 = cc in absurd (omega arith)
split_by (Some q) bs r rs e h =
    let n = records_some bs q e in
    let q-is : q ≡ r = cc in
    let t : records (drop (size q) bs) ≡ rs = cc in
    (e ∙ ap Some q-is, ap (λ (x : Record). records (drop (size x) bs)) (sym q-is) ∙ t)

-- Bytes that agree on what the records take spell these records, and then their own.
pub agree : (rs : List Record) (xs cs : List ℕ) → records xs ≡ rs → take (used rs) cs ≡ take (used rs) xs →
    records cs ≡ rs ++ records (drop (used rs) cs)
agree [] xs cs h e = refl
agree (r ∷ rs) xs cs h e =
    let n = size r in
    let u = used rs in
    let p = split_by (first xs) xs r rs refl h in
    let near : take n cs ≡ take n xs = sym (take-take n (n + u) cs (omega arith)) ∙ ap (take n) e ∙ take-take n (n + u) xs (omega arith) in
    let far : take u (drop n cs) ≡ take u (drop n xs) = sym (drop-take n u cs) ∙ ap (drop n) e ∙ drop-take n u xs in
    records_some cs r (first_same xs cs r p.0 near)
    ∙ ap (λ (l : List Record). r ∷ l) (agree rs (drop n xs) (drop n cs) p.1 far ∙ ap (λ (l : List ℕ). rs ++ records l) (drop-drop u n cs))
