use Rattle.std.proofs.Common.{false, not, ◌++◌}
use Rattle.mm_lines.specs.Lines.{is_over, lines, settled}
use Rattle.mm_lines.proofs.FrontLemmas.{settled_stay}
use Rattle.mm_lines.proofs.laws.settled_lines_stay.Goals as goal

pub returns : goal.returns
unfolding lines settled
returns c = record {
  going_on = settled_stay false c.args._text.now c.args._more.now;
  ended = settled_stay (not (is_over (c.args._text.now ++ c.args._more.now))) c.args._text.now c.args._more.now;
}
