use Rattle.std.proofs.Common.{◌≡◌, sym, subst}
use Rattle.mm_header.specs.declared.state.HeaderStep.{HeaderStep}
use Rattle.mm_job_text.proofs.ReadingLemmas.{IfRead}
use Rattle.mm_decomp.specs.GivenTrees.{HasFewElements, ReadsTreeAs, tree_from}
use Rattle.mm_decomp.proofs.TreeTextLemmas.{end_over, end_short, end_is, few_at_end}
use Rattle.mm_decomp.proofs.tree_text.read_end.Goals as goal

pub returns-then-over : goal.returns-then-over
returns-then-over c = end_over c.args.over c.args.step c.if-over.true

pub returns-in-More : goal.returns-in-More
returns-in-More c = end_short c.args.over c.args.step c.in-More.field-0 c.if-over.false c.in-More.is

pub compared-requires-clause-few : goal.compared-requires-clause-few
compared-requires-clause-few c = few_at_end c.args.step c.in-Parts.header c.in-Parts.tree c.in-Parts.is c.requires.few

pub returns : goal.returns
returns c =
    subst (λ r. ReadsTreeAs c.compared.result r) (sym (end_is c.args.over c.args.step c.in-Parts.header c.in-Parts.tree c.if-over.false c.in-Parts.is)) c.compared.ensures
