use Rattle.std.proofs.Common.{get_or, ap, ◌∙◌, arith}
use Rattle.store.specs.Meaning.{later_version}
use Rattle.rows.specs.Rows.{no_read_place}
use Rattle.rows.proofs.Changed.{second_set}
use Rattle.rows.proofs.read.OpenRead.set_second.Goals as goal

pub returns-then-place-lt8 : goal.returns-then-place-lt8
returns-then-place-lt8 c = λ h. rw c.from-at.ensures (
    second_set c.args.self.now c.args.place (grind arith) c.args.version c.args.self.now.few c.later_version.result (c.later_version.ensures ∙ ap (λ m. later_version (get_or c.args.self.now.places m no_read_place).kept c.args.version) c.from-at.ensures))
