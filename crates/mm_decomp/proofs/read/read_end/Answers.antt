use Rattle.mm_decomp.proofs.ReadLemmas.{end_over, end_is, end_short}
use Rattle.mm_decomp.proofs.read.read_end.Goals as goal

pub returns-then-over : goal.returns-then-over
returns-then-over c = end_over c.args.over c.args.state.now c.if-over.true

pub returns-in-End : goal.returns-in-End
returns-in-End c = (c.in-End.is, end_is c.args.over c.args.state.now c.if-over.false c.in-End.is)

pub returns-in_default : goal.returns-in_default
returns-in_default c = end_short c.args.over c.args.state.now c.if-over.false c.in_default.not-End
