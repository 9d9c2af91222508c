use Rattle.std.proofs.Common.{length, is_some, ap, arith}
use Rattle.store.proofs.Zeros.{all_zero}
use Rattle.table.specs.Rows.{lookup}
use Rattle.table.proofs.Table.new.Goals as goal

pub invariant_of-result-clause-blank : goal.invariant_of-result-clause-blank
invariant_of-result-clause-blank c = λ i. ap (λ l. is_some (lookup l i 0)) c.in_ok-all.ensures.items

pub invariant_of-result-clause-committed : goal.invariant_of-result-clause-committed
invariant_of-result-clause-committed c = λ i h. absurd (omega (arith, all_zero 256 i))

pub returns : goal.returns
returns c =
    let e = c.in_ok-all.ensures.items in
    record {
      held = λ i s. ap (λ l. lookup l i s) e;
      lasts = all_zero 256;
      spaces = λ i. omega (arith, ap length e);
    }
