-- What it says of a meaning that a call passes its tests, and when it does.
use Rattle.std.proofs.Common.{◌≡◌, ℕ, zero, suc, ◌<◌, Bool, true, false, not, ◌&&◌, if◌then◌else◌, eqb, [], ◌∷◌, get_or, is_some, Some, None, Option, Ok, Err, Result, refl, ap, ◌∙◌, arith}
use Rattle.std.proofs.lemmas.Bool.{ne_eqb, eqb-true, and_parts, not-false, false≢true}
use Rattle.blend.specs.Refusals.{Tests, first_of}
use Rattle.std.proofs.lemmas.Bool.Decides.{nat_tests}
use Rattle.store.specs.declared.StoreFault.{StoreFault}
use Rattle.store.specs.declared.StoreFault.TheVariants.{Clash}
use Rattle.store.specs.Meaning.{View, Content}
use Rattle.store.specs.Tests.{clashes, put_tests, commit_tests, version_tests}

-- where a call passes, none of its tests fires
pub passed : (ts : Tests) → first_of ts ≡ None → (k : ℕ) → (get_or ts k (0, false)).1 ≡ false
passed [] e k = refl
passed ((n, true) ∷ ts) e k = let z : ◌≡◌ {A = ℕ} 0 1 = cc in absurd (omega arith)
passed ((n, false) ∷ ts) e zero = refl
passed ((n, false) ∷ ts) e (suc k) = passed ts e k

-- what does not clash and is held is held alike
pub alike : (o : Option Content) (code mark : ℕ) → clashes o code mark ≡ false → is_some o ≡ true → o ≡ Some (code, mark)
alike None code mark e h = absurd (false≢true h)
alike (Some x) code mark e h =
    let p = and_parts (eqb x.0 code) (eqb x.1 mark) (not-false _ e) in
    ap (λ c. Some (c, x.1)) (eqb-true x.0 code p.0) ∙ ap (λ m. Some (code, m)) (eqb-true x.1 mark p.1)

-- what a put that was accepted found held, it found held alike
pub put_alike : (v : View) (item stamp code mark : ℕ) → first_of (put_tests v item stamp code mark) ≡ None →
    is_some (v.held item stamp) ≡ true → v.held item stamp ≡ Some (code, mark)
put_alike v item stamp code mark e there = alike (v.held item stamp) code mark (passed (put_tests v item stamp code mark) e 2) there

-- a new version of an item with space passes every test
pub put_passes : (v : View) (i s code mark : ℕ) → 0 < i → 0 < s → 0 < v.space i → v.held i s ≡ None → first_of (put_tests v i s code mark) ≡ None
put_passes v i s code mark io so room none =
    let a : eqb i 0 ≡ false = ne_eqb i 0 (λ e. omega arith) in
    let b : eqb s 0 ≡ false = ne_eqb s 0 (λ e. omega arith) in
    let c : eqb (v.space i) 0 ≡ false = ne_eqb (v.space i) 0 (λ e. omega arith) in
    simp (a, b, none, c)

-- a commit of what is held passes every test
pub commit_passes : (v : View) (i s : ℕ) → 0 < i → 0 < s → is_some (v.held i s) ≡ true → first_of (commit_tests v i s) ≡ None
commit_passes v i s io so there =
    let a : eqb i 0 ≡ false = ne_eqb i 0 (λ e. omega arith) in
    let b : eqb s 0 ≡ false = ne_eqb s 0 (λ e. omega arith) in
    simp (a, b, there)

-- what the first tests of put and commit leave
pub real : (item stamp : ℕ) → first_of (version_tests item stamp) ≡ None → (0 < item) × (0 < stamp)
real item stamp e =
    let a = passed (version_tests item stamp) e 0 in
    let b = passed (version_tests item stamp) e 1 in
    (grind (arith, nat_tests), grind (arith, nat_tests))

-- a version is new only where nothing is held
pub new_none : (o : Option Content) (code mark : ℕ) (fresh : Bool) →
    ◌≡◌ {A = Result Bool StoreFault} (Ok fresh) (if clashes o code mark then Err Clash else Ok (not (is_some o))) → fresh ≡ true → o ≡ None
new_none None code mark fresh e t = refl
new_none (Some x) code mark fresh e t =
    elim (not (eqb x.0 code && eqb x.1 mark)) as (λ b. ◌≡◌ {A = Result Bool StoreFault} (Ok fresh) (if b then Err Clash else Ok false) → Some x ≡ None) [
      | true ↦ λ g. cc
      | false ↦ λ g. cc
    ] e
