use Rattle.std.proofs.Common.{refl, arith}
use Rattle.blend.specs.Stamps.{later}
use Rattle.figures.proofs.Example.{read_overtakes}
use Rattle.figures.proofs.worked_figures.Goals as goal

pub returns-clause-stand : goal.returns-clause-stand
unfolding later
returns-clause-stand c = record {
  last_stamp = refl;
  quantity = refl;
  line_up = refl;
  too_much = λ r. refl;
  marks = record { filter = refl; one = refl; eight = refl; two = refl; not_three = refl; list_not_two = refl };
  commit_frame = refl;
  long_frame = refl;
  long_number = refl;
  pick = λ a b. refl;
  commits = λ u v w first second e f s. grind arith;
  spaces = λ i. (refl, refl, refl, refl);
  run = read_overtakes;
}
