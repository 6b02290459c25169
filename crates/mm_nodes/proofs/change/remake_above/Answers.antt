use Rattle.std.proofs.Common.{◌≡◌, ◌<◌, ◌+◌, ap, arith}
use Rattle.mm_logic.specs.Occurrence.{nodes as parts, list_cells}
use Rattle.mm_tree.specs.Nodes.{named, field_of}
use Rattle.mm_tree.proofs.TreeLemmas.{few_nodes}
use Rattle.mm_nodes.specs.KeptTrees.{path_in}
use Rattle.mm_nodes.specs.KeptNodes.{tree_of}
use Rattle.mm_nodes.proofs.StepUpLemmas.{path_short}
use Rattle.mm_nodes.proofs.ChangeLemmas.{full_in_the_end}
use Rattle.mm_nodes.proofs.change.remake_above.Goals as goal

pub overflow_add-cells : goal.overflow_add-cells
overflow_add-cells g c =
    let bounded = c.in-Ok.ensures.remakes.bounded in
    let cells = c.in-Ok.ensures.remakes.cells in
    let limited = c.requires.can.limited in
    let short = path_short g.N.Keeps _ (path_in c.args.at (tree_of c.args.kept.now)) (named c.args.node.now) (tree_of c.args.kept.now) c.requires.parts.beside in
    let few = few_nodes (field_of c.args.node.now) (named c.args.node.now) c.requires.can.valid in
    let same = ap (λ F. list_cells (parts F) (g.A.Automaton.lists c.remake.new.automaton)) c.remake.ensures.shape in
    let is = c.cells.ensures in
    omega (arith, bounded, cells, limited, short, few, same, is)

pub returns-then-cells-all-clause-changes : goal.returns-then-cells-all-clause-changes
returns-then-cells-all-clause-changes g c =
    let F = g.A.Automaton.shape c.args.automaton.now in
    let lists = g.A.Automaton.lists c.remake.new.automaton in
    let same : list_cells (parts (g.A.Automaton.shape c.remake.new.automaton)) lists ≡ list_cells (parts F) lists = ap (λ G. list_cells (parts G) lists) c.remake.ensures.shape in
    let is = c.cells.ensures in
    let more = c.if-cells-all.true in
    let over : c.args.limit < list_cells (parts F) lists + c.remake.new.rows = omega (arith, same, is, more) in
    λ full. full_in_the_end g.N.Keeps F (g.A.Automaton.lists c.args.automaton.now) lists (field_of c.args.node.now) (named c.args.node.now) (tree_of c.args.kept.now) (tree_of c.args.part)
    (path_in c.args.at (tree_of c.args.kept.now)) c.remake.new.made.items c.args.limit c.args.rows c.remake.new.rows _ c.requires.can.exact c.in-Ok.ensures.remakes over
