-- What a conversion gives, and one turn of the loop over the entries of a call.
use Rattle.std.proofs.Common.{◌≡◌, ℕ, zero, suc, ◌+◌, ◌^◌, ◌<◌, ◌≤◌, false, eqb, List, [], ◌∷◌, ◌++◌, length, get_or, take, drop, Some, None, Ok, Err, Option, Result, sym, refl, subst, arith, length-drop}
use Rattle.std.proofs.lemmas.Bool.{le-leb, lt-leb}
use Rattle.std.proofs.lemmas.List.{at_drop_more}
use Rattle.std.specs.Result.{OkIff, IsErrAnd}
use Rattle.blend.specs.declared.item.Kind.{Kind}
use Rattle.blend.specs.declared.item.Kind.TheVariants as kind
use Rattle.text.specs.declared.token.Token.{Token}
use Rattle.text.specs.declared.token.Token.TheVariants.{Other}
use Rattle.text.specs.Tokens.{number_in}
use Rattle.sheet.specs.declared.entry.Entry.{Entry}
use Rattle.sheet.specs.Lines.{entry_in}
use Rattle.script.specs.declared.fault.ScriptFault.{ScriptFault}
use Rattle.blend.specs.Items.{kind_at}
use Rattle.script.specs.declared.fault.ScriptError.{ScriptError}
use Rattle.script.specs.declared.fault.ScriptError.TheVariants as error
use Rattle.script.specs.Errors.{Reads}
use Rattle.script.specs.Numbers.{at_most, Narrowed}
use Rattle.script.specs.Entries.{width_of, width_at, part_of, with_entry, entries_onto, with_byte, bytes_onto}

width_of_some : (k : Option Kind) → 0 < width_of k
width_of_some None = omega arith
width_of_some (Some kind.Quantity) = omega arith
width_of_some (Some kind.LineUp) = omega arith
width_of_some (Some kind.TankCard) = omega arith

width_some : (r : Result ℕ ScriptFault) → 0 < width_at r
width_some (Err f) = omega arith
width_some (Ok n) = width_of_some (kind_at n)

-- the first entry has a token, and no more than there are
pub part_some : (ts : List Token) → 0 < length ts → (0 < part_of ts) × (part_of ts ≤ length ts)
part_some ts h = let w = width_some (at_most 255 (number_in (get_or ts 0 Other))) in (omega arith, omega arith)

-- a count of entries that the tokens cannot exceed is as good as another
enough : (n m : ℕ) (s : Result (List ℕ × List ℕ) ScriptFault) (ts : List Token) → length ts ≤ n → length ts ≤ m →
    entries_onto n s ts ≡ entries_onto m s ts
enough n m (Err f) ts h k = refl
enough zero zero (Ok x) ts h k = refl
enough zero (suc m) (Ok x) [] h k = refl
enough zero (suc m) (Ok x) (t ∷ ts) h k = absurd (omega arith)
enough (suc n) zero (Ok x) [] h k = refl
enough (suc n) zero (Ok x) (t ∷ ts) h k = absurd (omega arith)
enough (suc n) (suc m) (Ok x) [] h k = refl
enough (suc n) (suc m) (Ok x) (t ∷ ts) h k =
    let p = part_some (t ∷ ts) (omega arith) in
    let e = length-drop (part_of (t ∷ ts)) (t ∷ ts) in
    enough n m (with_entry x (entry_in (take (part_of (t ∷ ts)) (t ∷ ts)))) (drop (part_of (t ∷ ts)) (t ∷ ts)) (omega arith) (omega arith)

-- the first entry is read
pub entries_more : (x : List ℕ × List ℕ) (ts : List Token) → 0 < length ts →
    entries_onto (length ts) (Ok x) ts ≡
    entries_onto (length (drop (part_of ts) ts)) (with_entry x (entry_in (take (part_of ts) ts))) (drop (part_of ts) ts)
entries_more x [] h = absurd (omega arith)
entries_more x (t ∷ ts) h =
    let p = part_some (t ∷ ts) h in
    let e = length-drop (part_of (t ∷ ts)) (t ∷ ts) in
    enough (length ts) (length (drop (part_of (t ∷ ts)) (t ∷ ts))) (with_entry x (entry_in (take (part_of (t ∷ ts)) (t ∷ ts))))
    (drop (part_of (t ∷ ts)) (t ∷ ts)) (omega arith) (omega arith)

-- the entry that was read is added to the lists, and the tokens after it are left
pub entries_next : (is cs is' cs' : List ℕ) (e : Entry) (w : ℕ) (ts first rest : List Token) → false ≡ eqb (length ts) 0 → w ≡ part_of ts →
    first ≡ take w ts → rest ≡ drop w ts → Ok e ≡ entry_in first → is' ≡ is ++ e.item ∷ [] → cs' ≡ cs ++ e.code ∷ [] →
    entries_onto (length rest) (Ok (is', cs')) rest ≡ entries_onto (length ts) (Ok (is, cs)) ts
entries_next is cs is' cs' e w [] first rest h p f d r a b = cc
entries_next is cs is' cs' e w (t ∷ us) first rest h p f d r a b =
    let m = entries_more (is, cs) (t ∷ us) (omega arith) in
    let q : with_entry (is, cs) (Ok e) ≡ Ok (is ++ e.item ∷ [], cs ++ e.code ∷ []) = refl in
    cc

-- a conversion that gives the numbers below a bound
narrowed : (most bound : ℕ) → bound ≡ most + 1 → (E : Type 0) (o : Option ℕ) (r : Result ℕ ScriptFault) →
    Narrowed {T = ℕ} {E = E} (λ x a. OkIff a (x < bound) x) o r → r ≡ at_most most o
narrowed most bound b E None r h = h
narrowed most bound b E (Some n) r (Ok x, g, e) = rw (le-leb n most (omega (arith, g.0))) (cc (e, g.1))
narrowed most bound b E (Some n) r (Err x, g, e) = rw (lt-leb n most (omega (arith, g))) e

-- a byte
pub narrowed_byte : (E : Type 0) (o : Option ℕ) (r : Result ℕ ScriptFault) →
    Narrowed {T = ℕ} {E = E} (λ x a. OkIff a (x < 2 ^ 8) x) o r → r ≡ at_most 255 o
narrowed_byte E o r h = narrowed 255 (2 ^ 8) refl E o r h

-- a sequence
pub narrowed_sequence : (E : Type 0) (o : Option ℕ) (r : Result ℕ ScriptFault) →
    Narrowed {T = ℕ} {E = E} (λ x a. OkIff a (x < 2 ^ 32) x) o r → r ≡ at_most 4294967295 o
narrowed_sequence E o r h = narrowed 4294967295 (2 ^ 32) refl E o r h

-- the item at i is read
pub bytes_more : (xs : List ℕ) (line : List Token) (i : ℕ) (d : Token) (o : Result ℕ ScriptFault) → i < length line →
    o ≡ at_most 255 (number_in (get_or line i d)) → bytes_onto (Ok xs) (drop i line) ≡ bytes_onto (with_byte xs o) (drop (i + 1) line)
bytes_more xs line i d o h e = rw (at_drop_more (bytes_onto (Ok xs)) line i d h, e)

-- an error of a part that is passed on is what the whole is read as, where the part's fault is the whole's
pub error_read : {X Y Z W : Type 0} (f : X → Y) (g : Z → W) (e : ScriptError) (x : Result Z ScriptError) (r : Result Y ScriptFault) (s : Result W ScriptFault) →
    Reads f (Err e) r → IsErrAnd x (λ (y : ScriptError). y ≡ e) → ((k : ScriptFault) → Err k ≡ r → Err k ≡ s) → Reads g x s
error_read f g e (Ok y) r s p q h = absurd q
error_read f g (error.Fault k) (Err y) r s p q h = subst (λ (y : ScriptError). Reads g (Err y) s) (sym q) (h k p)
error_read f g (error.Memory m) (Err y) r s p q h = subst (λ (y : ScriptError). Reads g (Err y) s) (sym q) tt
