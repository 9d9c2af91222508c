use Rattle.std.proofs.Common.{vec_items, ◌∙◌}
use Rattle.script.proofs.Steps.{entries_next}
use Rattle.script.proofs.entries.read_entries.Goals as goal

pub loop-rest-preserved : goal.loop-rest-preserved
loop-rest-preserved c =
    entries_next (vec_items c.loop-rest.lists.items) (vec_items c.loop-rest.lists.codes) (vec_items c.add.new.self.items)
    (vec_items c.add.new.self.codes) c.in_ok-entry.entry c.part.result c.loop-rest.rest.now c.split_at.result.0.now c.split_at.result.1.now
    c.loop-rest-test.ensures c.part.ensures c.split_at.ensures.front c.split_at.ensures.back c.in_ok-entry.ensures
    c.in_ok-add.ensures.items c.in_ok-add.ensures.codes ∙
    c.loop-rest.invariant
