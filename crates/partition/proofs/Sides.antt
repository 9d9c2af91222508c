-- Each of the two stores is a part of the whole.
use Rattle.std.proofs.Common.{◌≡◌, ℕ, true, false, ltb, sym, ap, ◌∙◌, inl, inr, ⊎_elim}
use Rattle.std.proofs.lemmas.Bool.{cond-true, cond-false, cases_Bool, both_ways}
use Rattle.store.specs.Meaning.{View}
use Rattle.store.proofs.Parts.{Alike, Handed}
use Rattle.partition.specs.Sides.{parted}

below : (bound : ℕ) (v w : View) (i : ℕ) → ltb i bound ≡ true → Alike (parted bound v w) v i
below bound v w i t = record { held = cond-true _ _ _ t; last = cond-true _ _ _ t; space = cond-true _ _ _ t }

above : (bound : ℕ) (v w : View) (i : ℕ) → ltb i bound ≡ false → Alike (parted bound v w) w i
above bound v w i t = record { held = cond-false _ _ _ t; last = cond-false _ _ _ t; space = cond-false _ _ _ t }

-- items on two sides are two
apart : (i j bound : ℕ) → ltb i bound ≡ false → ltb j bound ≡ true → i ≡ j → ⊥
apart i j bound p q e = both_ways (ltb i bound) p (ap (λ k. ltb k bound) e ∙ q)

-- an item of the store that a call leaves alone
stays : (V W v : View) (i : ℕ) → Alike V v i → Alike W v i → Alike W V i
stays V W v i a b =
    record { held = b.held ∙ sym a.held; last = b.last ∙ sym a.last; space = b.space ∙ sym a.space }

pub to_first : (bound : ℕ) (v v' w : View) (item : ℕ) → ltb item bound ≡ true → Handed (parted bound v w) (parted bound v' w) v v' item
to_first bound v v' w item h = record {
  before = below bound v w item h;
  after = below bound v' w item h;
  each = λ i.
      ⊎_elim
      (λ l. inl (below bound v w i l, below bound v' w i l))
      (λ l. inr (apart i item bound l h, stays _ _ w i (above bound v w i l) (above bound v' w i l)))
      (cases_Bool (ltb i bound));
}

pub to_second : (bound : ℕ) (v w w' : View) (item : ℕ) → ltb item bound ≡ false → Handed (parted bound v w) (parted bound v w') w w' item
to_second bound v w w' item h = record {
  before = above bound v w item h;
  after = above bound v w' item h;
  each = λ i.
      ⊎_elim
      (λ l. inr ((λ e. apart item i bound h l (sym e)), stays _ _ v i (below bound v w i l) (below bound v w' i l)))
      (λ l. inl (above bound v w i l, above bound v w' i l))
      (cases_Bool (ltb i bound));
}
