-- Whether a code is of a body: for any coding that keeps its law, and then for the item's kind.
use Rattle.std.proofs.Common.{◌≡◌, ℕ, Bool, true, is_some, Some, None, Option, sym, refl, ap, subst, arith, rules}
use Rattle.blend.specs.declared.item.Kind.{Kind}
use Rattle.blend.specs.declared.item.Kind.TheVariants as kind
use Rattle.blend.specs.Items.{kind_at}
use Rattle.blend.specs.Codes.{quantity_code, quantity_at, line_up_code, line_up_at, card_code, card_at}
use Rattle.blend.specs.Fitting.{fits_kind, fits_by, fits, SomeBody, OfABody}

module _ {B : Type 0} (codes : B → Option ℕ) (decodes : ℕ → Option B) where
  found : (c : ℕ) (o : Option B) → decodes c ≡ o → ((b : B) → decodes c ≡ Some b → codes b ≡ Some c) →
      is_some o ≡ true → (b : B) × (codes b ≡ Some c)
  found c None e back h = cc
  found c (Some b) e back h = (b, back b e)

  -- a code that decodes is some body's
  pub decodes_only : ((c : ℕ) (b : B) → decodes c ≡ Some b → codes b ≡ Some c) →
      (c : ℕ) → is_some (decodes c) ≡ true → (b : B) × (codes b ≡ Some c)
  decodes_only back c h = found c (decodes c) refl (back c) h

  -- a body's code decodes
  pub decodes_always : ((c : ℕ) (b : B) → codes b ≡ Some c → decodes c ≡ Some b) →
      (c : ℕ) → ((b : B) × (codes b ≡ Some c)) → is_some (decodes c) ≡ true
  decodes_always forth c h = ap is_some (forth c h.0 h.1)

kind_only : (k : Kind) (c : ℕ) → fits_kind k c ≡ true → SomeBody (Some k) c
kind_only kind.Quantity c h = decodes_only quantity_code quantity_at (λ c b e. grind arith) c h
kind_only kind.LineUp c h = decodes_only line_up_code line_up_at (λ c b e. search rules) c h
kind_only kind.TankCard c h = decodes_only card_code card_at (λ c b e. grind arith) c h

kind_always : (k : Kind) (c : ℕ) → SomeBody (Some k) c → fits_kind k c ≡ true
kind_always kind.Quantity c h = decodes_always quantity_code quantity_at (λ c b e. grind arith) c h
kind_always kind.LineUp c h = decodes_always line_up_code line_up_at (λ c b e. search rules) c h
kind_always kind.TankCard c h = decodes_always card_code card_at (λ c b e. grind arith) c h

fits_only : (k : Option Kind) (c : ℕ) → fits_by k c ≡ true → SomeBody k c
fits_only None c h = cc
fits_only (Some k) c h = kind_only k c h

fits_always : (k : Option Kind) (c : ℕ) → SomeBody k c → fits_by k c ≡ true
fits_always None c h = elim h [ ]
fits_always (Some k) c h = kind_always k c h

-- what the test says of an item and a code
pub fits_means : (item c : ℕ) (r : Bool) → r ≡ fits item c → OfABody item c r
fits_means item c r e =
    subst (λ (x : Bool). OfABody item c x) (sym e)
    (record { only = fits_only (kind_at item) c; always = fits_always (kind_at item) c })
