-- A mark names the items of its order; what a place wants, and what a pick of it answers.
use Rattle.std.proofs.Common.{◌≡◌, ℕ, zero, suc, ◌<◌, Bool, true, false, cond, ◌&&◌, eqb, ltb, ◌⊎◌, List, [], ◌∷◌, length, get_or, is_some, Some, None, Option, sym, refl, ap, ◌∙◌, subst, inl, inr, arith}
use Rattle.std.proofs.lemmas.Bool.{ltb-true, lt-ltb, eqb-true, ne_eqb, and_from}
use Rattle.blend.specs.Stamps.{later}
use Rattle.store.specs.Meaning.{Content, Version, blank, picked}
use Rattle.store.proofs.Choosing.{picks}
use Rattle.protocol.specs.Naming.{Naming, Lawful, Bytes, padded, mark_for}
use Rattle.protocol.specs.Asks.{Progress, wanted, eight}
use Rattle.protocol.proofs.Tests.{Listed}

-- ── marks ──

padded_length : (n : ℕ) (l : List ℕ) → length (padded n l) ≡ n
padded_length zero l = refl
padded_length (suc n) [] = ap suc (padded_length n [])
padded_length (suc n) (x ∷ l) = ap suc (padded_length n l)

padded_at : (n : ℕ) (l : List ℕ) (k : ℕ) → k < n → get_or (padded n l) k 0 ≡ get_or l k 0
padded_at zero l k h = absurd (omega arith)
padded_at (suc n) [] zero h = refl
padded_at (suc n) [] (suc k) h = padded_at n [] k (omega arith)
padded_at (suc n) (x ∷ l) zero h = refl
padded_at (suc n) (x ∷ l) (suc k) h = padded_at n l k (omega arith)

padded_bytes : (n : ℕ) (l : List ℕ) → Bytes l → Bytes (padded n l)
padded_bytes zero l b k = omega arith
padded_bytes (suc n) [] b zero = omega arith
padded_bytes (suc n) [] b (suc k) = padded_bytes n [] b k
padded_bytes (suc n) (x ∷ l) b zero = b 0
padded_bytes (suc n) (x ∷ l) b (suc k) = padded_bytes n l (λ j. b (suc j)) k

-- a mark names each item of the list that it is of
pub names_listed : (ν : Naming) → Lawful ν → (l : List ℕ) → Listed l →
    (k : ℕ) → k < length l → ν.names (mark_for ν l) (get_or l k 0) ≡ true
names_listed ν law l z k h =
    let m : k < 8 = omega (arith, z.eight) in
    let e = padded_at 8 l k m in
    let r = z.real k h in
    subst (λ n. ν.names (mark_for ν l) n ≡ true) e
    (law.complete (padded 8 l) (padded_length 8 l) (padded_bytes 8 l z.bytes) k (omega (arith, e, r)))

-- ── wanted stamps ──

from_ways : (a b c d : Bool) (x y : ℕ) → (b ≡ true → x ≡ y) → ¬ (cond a (cond b (cond c x 0) (cond d y 0)) 0 ≡ 0) →
    (a ≡ true) × (y ≡ cond a (cond b (cond c x 0) (cond d y 0)) 0)
from_ways false b c d x y f n = absurd (n refl)
from_ways true true true d x y f n = (refl, sym (f refl))
from_ways true true false d x y f n = absurd (n refl)
from_ways true false c true x y f n = (refl, refl)
from_ways true false c false x y f n = absurd (n refl)

is_way : (a b c d : Bool) (x y : ℕ) → a ≡ true → b ≡ false → d ≡ true → cond a (cond b (cond c x 0) (cond d y 0)) 0 ≡ y
is_way a b c d x y f g h = rw (f, g, h)

module _ (ν : Naming) (x : Progress) (p q : ℕ) where
  named : Bool
  named = later (x.stamp q) (x.stamp p) && ν.names (x.mark q) (get_or x.items p 0)

  -- a wanted stamp that is not 0 is the first stamp of the place that it is wanted from
  pub wanted_from : ¬ (wanted ν x p q ≡ 0) → (q < length x.items) × (x.stamp q ≡ wanted ν x p q)
  unfolding named
  wanted_from n =
      let z = from_ways (ltb q (length x.items)) (eqb p q) ν.twice named (x.stamp p) (x.stamp q)
      (λ e. ap x.stamp (eqb-true p q e)) n in
      (ltb-true q (length x.items) z.0, z.1)

  pub wanted_is : q < length x.items → ¬ (p ≡ q) → later (x.stamp q) (x.stamp p) ≡ true →
      ν.names (x.mark q) (get_or x.items p 0) ≡ true → wanted ν x p q ≡ x.stamp q
  unfolding named
  wanted_is l d f g =
      is_way (ltb q (length x.items)) (eqb p q) ν.twice named (x.stamp p) (x.stamp q)
      (lt-ltb q (length x.items) l) (ne_eqb p q d)
      (and_from (later (x.stamp q) (x.stamp p)) (ν.names (x.mark q) (get_or x.items p 0)) f g)

-- ── the latest held version among eight stamps ──

eight_at : (f : ℕ → ℕ) (k : ℕ) → k < 8 → get_or (eight f) k 0 ≡ f k
eight_at f zero h = refl
eight_at f (suc zero) h = refl
eight_at f (suc (suc zero)) h = refl
eight_at f (suc (suc (suc zero))) h = refl
eight_at f (suc (suc (suc (suc zero)))) h = refl
eight_at f (suc (suc (suc (suc (suc zero))))) h = refl
eight_at f (suc (suc (suc (suc (suc (suc zero)))))) h = refl
eight_at f (suc (suc (suc (suc (suc (suc (suc zero))))))) h = refl
eight_at f (suc (suc (suc (suc (suc (suc (suc (suc k)))))))) h = absurd (omega arith)

-- none is held, and the version is the blank; or it is held with one of the stamps, and no held one is later
abbrev pub Picks : (ℕ → Option Content) → (ℕ → ℕ) → Version → Type 0
Picks held stamps v =
    (((k : ℕ) → k < 8 → held (stamps k) ≡ None) × (v ≡ blank)) ⊎
    (((k : ℕ) × (k < 8) × (v.0 ≡ stamps k)) × (held v.0 ≡ Some (v.1, v.2)) ×
    ((k : ℕ) → k < 8 → is_some (held (stamps k)) ≡ true → later (stamps k) v.0 ≡ false))

pub picks_eight : (held : ℕ → Option Content) (stamps : ℕ → ℕ) → Picks held stamps (picked held (eight stamps))
picks_eight held stamps = elim (picks held (eight stamps)) [
  | inl z ↦ inr (
    (z.place, z.within, sym z.among ∙ eight_at stamps z.place z.within),
    z.held,
    λ k l e.
        let at = eight_at stamps k l in
        subst (λ n. later n (picked held (eight stamps)).0 ≡ false) at (z.latest k l (ap (λ n. is_some (held n)) at ∙ e)),
  )
  | inr z ↦ inl (λ k l. ap held (sym (eight_at stamps k l)) ∙ z.nothing k l, z.answer)
]
