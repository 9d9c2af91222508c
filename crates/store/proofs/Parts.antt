-- A store that hands each item to one of several stores: what a put into that part comes to in the whole.
-- v and w are the meanings of the part before and after, V and W those of the whole.
use Rattle.std.proofs.Common.{◌≡◌, ℕ, Bool, ◌⊎◌, Ok, Err, Result, sym, ap, ◌∙◌, inl, inr, arith}
use Rattle.blend.specs.Refusals.{first_of}
use Rattle.store.specs.declared.StoreFault.{StoreFault}
use Rattle.store.specs.Meaning.{View}
use Rattle.store.specs.Tests.{put_tests}
use Rattle.store.specs.Outcomes.{Same, PutOutcome}

-- of the item i, V means what v means
pub record Alike (V v : View) (i : ℕ) : Type 0 where
  pub held : V.held i ≡ v.held i
  pub last : V.last i ≡ v.last i
  pub space : V.space i ≡ v.space i

-- the item is the part's, and each item is the part's or stays as it was
pub record Handed (V W v w : View) (item : ℕ) : Type 0 where
  pub before : Alike V v item
  pub after : Alike W w item
  pub each : (i : ℕ) → (Alike V v i × Alike W w i) ⊎ ((i ≡ item → ⊥) × Alike W V i)

at : {X : Type 0} {f g : ℕ → X} (s : ℕ) → f ≡ g → f s ≡ g s
at s e = ap (λ h. h s) e

module _ {V W v w : View} {item : ℕ} (f : Handed V W v w item) where
  held_whole : (i s : ℕ) → w.held i s ≡ v.held i s → W.held i s ≡ V.held i s
  held_whole i s e =
      elim (f.each i) [
        | inl p ↦ at s p.1.held ∙ e ∙ sym (at s p.0.held)
        | inr p ↦ at s p.1.held
      ]

  lasts_whole : (i : ℕ) → w.last i ≡ v.last i → W.last i ≡ V.last i
  lasts_whole i e = elim (f.each i) [ inl p ↦ p.1.last ∙ e ∙ sym p.0.last | inr p ↦ p.1.last ]

  spaces_whole : (i : ℕ) → w.space i ≡ v.space i → W.space i ≡ V.space i
  spaces_whole i e = elim (f.each i) [ inl p ↦ p.1.space ∙ e ∙ sym p.0.space | inr p ↦ p.1.space ]

  whole_same : Same v w → Same V W
  whole_same s = record {
    held = λ i t. held_whole i t (s.held i t);
    lasts = λ i. lasts_whole i (s.lasts i);
    spaces = λ i. spaces_whole i (s.spaces i);
  }

  put_first : (stamp code mark : ℕ) → first_of (put_tests V item stamp code mark) ≡ first_of (put_tests v item stamp code mark)
  put_first stamp code mark = let a = at stamp f.before.held in let b = f.before.space in cc

  pub whole_put : (stamp code mark : ℕ) (r : Result Bool StoreFault) → PutOutcome v w item stamp code mark r →
      PutOutcome V W item stamp code mark r
  whole_put stamp code mark (Ok fresh) h = record {
    passes = put_first stamp code mark ∙ h.passes;
    new = let a = at stamp f.before.held in let b = h.new in cc;
    held = at stamp f.after.held ∙ h.held;
    others = λ i s apart. held_whole i s (h.others i s apart);
    lasts = λ i. lasts_whole i (h.lasts i);
    space = let a = f.before.space in let b = f.after.space in let e = h.space in omega arith;
    falls = λ i.
        elim (f.each i) [
          | inl p ↦ omega (arith, p.0.space, p.1.space, h.falls i)
          | inr p ↦ omega (arith, p.1.space)
        ];
    rises = λ i.
        elim (f.each i) [
          | inl p ↦ omega (arith, p.0.space, p.1.space, h.rises i)
          | inr p ↦ omega (arith, p.1.space)
        ];
  }
  whole_put stamp code mark (Err fault) h = record { why = put_first stamp code mark ∙ h.why; same = whole_same h.same }
