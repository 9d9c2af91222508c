use Rattle.std.proofs.Common.{sym, ◌∙◌}
use Rattle.store.proofs.Parts.{whole_put}
use Rattle.partition.proofs.Sides.{to_first, to_second}
use Rattle.partition.proofs.PartitionStore.put.Goals as goal

pub returns-then-is_first : goal.returns-then-is_first
returns-then-is_first g c =
    let side = sym c.is_first.ensures ∙ c.if-is_first.true in
    whole_put (to_first c.args.self.now.bound _ _ _ _ side) _ _ _ c.put.result c.put.ensures

pub returns-else-is_first : goal.returns-else-is_first
returns-else-is_first g c =
    let side = sym c.is_first.ensures ∙ c.if-is_first.false in
    whole_put (to_second c.args.self.now.bound _ _ _ _ side) _ _ _ c.put-else-is_first.result c.put-else-is_first.ensures
