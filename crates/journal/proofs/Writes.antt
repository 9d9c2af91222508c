-- One record more in the bytes.
use Rattle.std.proofs.Common.{◌≡◌, ℕ, zero, suc, ◌+◌, ◌-◌, ◌≤◌, List, [], ◌∷◌, ◌++◌, length, get_or, take, drop, set, replicate, Some, sym, refl, ap, ◌∙◌, subst, arith}
use native.Mathlib.Nat.{sub-add-eq}
use Rattle.std.proofs.lemmas.List.{drop-drop, length-drop, length-take-le, length-append, append_assoc, take_at, drop_at, drop-replicate, set_at, take_more}
use Rattle.std.proofs.lemmas.Bool.{cond-false, le-ltb}
use Rattle.layout.specs.Layout.{laid, total, Fit}
use Rattle.layout.specs.Places.{over}
use Rattle.layout.proofs.Layouts as layouts
use Rattle.journal.specs.declared.record.Record.{Record}
use Rattle.journal.specs.declared.record.Record.TheVariants.{Put, Commit}
use Rattle.journal.specs.Records.{widths_of, values_of, body_of, kind_of, record_bytes, appended, size, put_from, commit_from, body_in, first, records, used}
use Rattle.journal.proofs.Scans.{records_some, agree}
use Rattle.journal.proofs.Counts.{used_push}

-- ── the two writes of a record ──

same_length : (r : Record) → length (values_of r) ≡ length (widths_of r)
same_length (Put i s c m) = refl
same_length (Commit i s) = refl

pub length_body : (r : Record) → length (body_of r) ≡ total (widths_of r)
length_body r = layouts.long (widths_of r) (values_of r) (same_length r)

-- the body laid behind the place of the kind byte
laid_is : (xs : List ℕ) (end : ℕ) (r : Record) → end + size r ≤ length xs →
    over (end + 1) (body_of r) xs ≡ take (end + 1) xs ++ (body_of r ++ drop (end + size r) xs)
laid_is xs end r h =
    let n = length_body r in
    let e : end + 1 + length (body_of r) ≡ end + size r = omega arith in
    layouts.over_is (end + 1) (body_of r) xs (omega arith) ∙ ap (λ (k : ℕ). take (end + 1) xs ++ (body_of r ++ drop k xs)) e

-- the record in one piece, its kind byte stored before the body that was laid
appended_is : (xs : List ℕ) (end : ℕ) (r : Record) → end + size r ≤ length xs →
    appended end r xs ≡ take end xs ++ (record_bytes r ++ drop (end + size r) xs)
appended_is xs end r h =
    let x = get_or xs end 0 in
    let k = kind_of r in
    let ys = body_of r ++ drop (end + size r) xs in
    ap (λ (l : List ℕ). set l end k) (laid_is xs end r h)
    ∙ ap (λ (l : List ℕ). set (l ++ ys) end k) (take_more xs end 0 (omega arith))
    ∙ ap (λ (l : List ℕ). set l end k) (append_assoc (take end xs) (x ∷ []) ys)
    ∙ set_at (take end xs) x ys k end (length-take-le end xs (omega arith))

pub length_appended : (xs : List ℕ) (end : ℕ) (r : Record) → end + size r ≤ length xs → length (appended end r xs) ≡ length xs
length_appended xs end r h =
    let n = length_body r in
    let t = take end xs in
    let tail = drop (end + size r) xs in
    ap length (appended_is xs end r h)
    ∙ length-append t (record_bytes r ++ tail)
    ∙ omega (arith, length-append (body_of r) tail, length-drop (end + size r) xs, length-take-le end xs (omega arith))

-- ── the records of what was written ──

abbrev pub Fits : Record → Type 0
Fits r = Fit (widths_of r) (values_of r)

body_again : (ws vs ys : List ℕ) (make : List ℕ → Record) → Fit ws vs → body_in ws make (laid ws vs ++ ys) ≡ Some (make vs)
body_again ws vs ys make f =
    let n = layouts.long ws vs (layouts.as_many ws vs f) in
    cond-false _ _ _ (le-ltb (length (laid ws vs ++ ys)) (total ws) (omega (arith, length-append (laid ws vs) ys)))
    ∙ ap (λ (l : List ℕ). Some (make l)) (layouts.again ws vs ys f)

first_again : (r : Record) (ys : List ℕ) → Fits r → first (record_bytes r ++ ys) ≡ Some r
first_again (Put i s c m) ys f = body_again (widths_of (Put i s c m)) (values_of (Put i s c m)) ys put_from f
first_again (Commit i s) ys f = body_again (widths_of (Commit i s)) (values_of (Commit i s)) ys commit_from f

pub zeros_none : (n : ℕ) → records (replicate n 0) ≡ []
zeros_none zero = refl
zeros_none (suc n) = refl

-- zeros go on behind a place among them
clear_after : (bs : List ℕ) (end n : ℕ) → drop end bs ≡ replicate (length bs - end) 0 →
    drop (end + n) bs ≡ replicate (length bs - (end + n)) 0
clear_after bs end n clear = rw (← drop-drop n end bs, clear, drop-replicate, sub-add-eq (length bs) end n)

-- a record laid over zeros behind the others is one record more
pub record Grown (bs cs : List ℕ) (end : ℕ) (r : Record) : Type 0 where
  pub records_are : records cs ≡ records bs ++ r ∷ []
  pub long : length cs ≡ length bs
  pub ends : end + size r ≡ used (records cs)
  pub clear : drop (end + size r) cs ≡ replicate (length cs - (end + size r)) 0

pub grown : (bs cs : List ℕ) (end : ℕ) (r : Record) → end ≡ used (records bs) → drop end bs ≡ replicate (length bs - end) 0 →
    Fits r → end + size r ≤ length bs → cs ≡ appended end r bs → Grown bs cs end r
grown bs cs end r ends clear f room e =
    let b : List ℕ = record_bytes r in
    let n : ℕ = size r in
    let ln : length b ≡ n = ap suc (length_body r) in
    let t : List ℕ = take end bs in
    let tl : length t ≡ end = length-take-le end bs (omega arith) in
    let zs : List ℕ = replicate (length bs - (end + n)) 0 in
    let tail = clear_after bs end n clear in
    let c : cs ≡ t ++ (b ++ zs) = e ∙ appended_is bs end r room ∙ ap (λ (l : List ℕ). t ++ (b ++ l)) tail in
    let head : take end cs ≡ t = ap (take end) c ∙ take_at t (b ++ zs) end tl in
    let rest : drop end cs ≡ b ++ zs = ap (drop end) c ∙ drop_at t (b ++ zs) end tl in
    let long : length cs ≡ length bs = ap length e ∙ length_appended bs end r room in
    let one : records (b ++ zs) ≡ r ∷ [] =
    records_some (b ++ zs) r (first_again r zs f)
    ∙ ap (λ (l : List ℕ). r ∷ records l) (drop_at b zs n ln)
    ∙ ap (λ (l : List Record). r ∷ l) (zeros_none (length bs - (end + n))) in
    let recs : records cs ≡ records bs ++ r ∷ [] =
    agree (records bs) bs cs refl (subst (λ (k : ℕ). take k cs ≡ take k bs) ends head)
    ∙ ap (λ (l : List ℕ). records bs ++ records l) (ap (λ (k : ℕ). drop k cs) (sym ends) ∙ rest)
    ∙ ap (λ (l : List Record). records bs ++ l) one in
    record {
      records_are = recs;
      long = long;
      ends = sym (ap used recs ∙ used_push (records bs) r ∙ ap (λ (k : ℕ). k + n) (sym ends));
      clear = sym (drop-drop n end cs) ∙ ap (drop n) rest ∙ drop_at b zs n ln ∙ ap (λ (x : ℕ). replicate {A = ℕ} (x - (end + n)) 0) (sym long);
    }
