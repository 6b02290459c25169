use Rattle.std.proofs.Common.{◌≡◌, Some, subst}
use Rattle.mm_nodes.specs.KeptTrees.{top}
use Rattle.mm_nodes.specs.KeptNodes.{tree_of}
use Rattle.mm_least.specs.NodeRowsValue.{NodeValue}
use Rattle.mm_least.proofs.AnswerLemmas.{empty_names, nothing_added}
use Rattle.mm_least.proofs.best.+add_names.Goals as goal

pub returns-then-is_nothing : goal.returns-then-is_nothing
returns-then-is_nothing t c =
    let nothing : (top (tree_of c.args.kept.now)).nothing ≡ Some c.args.place = subst (λ (n : NodeValue). n.nothing ≡ Some c.args.place) c.entry.ensures (c.is_nothing.ensures c.if-is_nothing.true) in
    nothing_added c.args.names.now _ (empty_names (tree_of c.args.kept.now) c.requires.linked c.args.place c.requires.within nothing)
