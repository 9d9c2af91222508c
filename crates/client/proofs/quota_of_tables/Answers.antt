use Rattle.std.proofs.Common.{◌≡◌, ℕ, ltb, None, Option, ◌∙◌, arith}
use Rattle.std.proofs.lemmas.Bool.{cond_both}
use Rattle.store.specs.Meaning.{Content}
use Rattle.client.proofs.quota_of_tables.Goals as goal

pub returns : goal.returns
returns c =
    let first = c.in_ok-first.ensures in
    let second = c.in_ok-second.ensures in
    let parts = c.new-3.ensures in
    let whole = c.new-4.ensures in
    record {
      held = λ i s.
          whole.held i s
          ∙ parts.held i s
          ∙ cond_both (ltb i c.args.bound) _ _ (λ (h : ℕ → Option Content). h s ≡ None) (λ _. first.held i s) (λ _. second.held i s);
      lasts = λ i.
          whole.lasts i
          ∙ parts.lasts i
          ∙ cond_both (ltb i c.args.bound) _ _ (λ (n : ℕ). n ≡ 0) (λ _. first.lasts i) (λ _. second.lasts i);
      spaces = λ i.
          let each = cond_both (ltb i c.args.bound) _ _ (λ (n : ℕ). n ≡ c.args.rows) (λ _. first.spaces i) (λ _. second.spaces i) in
          omega (arith, whole.spaces i, parts.spaces i, each);
    }
