use Rattle.mm_header.specs.State.HeaderStates.{header_value}
use Rattle.mm_decomp.proofs.TreeTextLemmas.{agreed, disagreed}
use Rattle.mm_decomp.proofs.tree_text.compared.Goals as goal

pub returns-in-Ok : goal.returns-in-Ok
returns-in-Ok c = agreed c.args.header c.args.tree c.requires.kept.0 c.requires.kept.1 c.requires.few c.in-Ok.ensures

pub returns-in-Err : goal.returns-in-Err
returns-in-Err c = disagreed c.in-Err.stop (header_value c.args.header, c.args.tree.tree) c.in-Err.ensures
