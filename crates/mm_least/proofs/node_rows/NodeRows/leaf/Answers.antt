use Rattle.std.proofs.Common.{List, [], subst}
use Rattle.mm_least.specs.declared.row.Row.{Row}
use Rattle.mm_least.specs.declared.row.Origin.TheVariants.{Out}
use Rattle.mm_least.specs.EmptySets.{ComesAt}
use Rattle.mm_tree.specs.Nodes.{named_leaf}
use Rattle.mm_nodes.specs.Demands.{frame}
use Rattle.mm_least.specs.Candidates.{leaf_candidates}
use Rattle.mm_least.specs.Passes.{Passed, AreTooMany}
use Rattle.mm_least.specs.RowCalls.{IsLeafRows}
use Rattle.mm_least.proofs.NodeLemmas.{is_leaf, leaf_types, made_rows, too_many_rows}
use Rattle.mm_least.proofs.node_rows.NodeRows.leaf.Goals as goal

pub returns-in-Ok-clause-makes : goal.returns-in-Ok-clause-makes
returns-in-Ok-clause-makes g c =
    let F = g.A.Automaton.shape c.args.automaton.now in
    let olds = g.A.Automaton.lists c.args.automaton.now in
    let nows = g.A.Automaton.lists c.add_leaf.new.automaton in
    let leaf = c.args.leaf.now in
    let p : Passed F olds nows (leaf_candidates leaf.field F (named_leaf leaf)) [] c.add_leaf.new.rows.items c.args.room c.add_leaf.new.room =
    subst (λ rs. Passed F olds nows (leaf_candidates leaf.field F (named_leaf leaf)) rs c.add_leaf.new.rows.items c.args.room c.add_leaf.new.room) c.new-rows.ensures.items c.in-Ok.ensures.passes in
    made_rows F olds nows (leaf_candidates leaf.field F (named_leaf leaf)) _ (leaf_types leaf.field F leaf) c.args.room (IsLeafRows (frame leaf.field F nows) (named_leaf leaf)) _ c.add_leaf.new.room
    (record { leaf = is_leaf leaf; name = c.name_of.ensures; within = p.within; rows = p.best; nothing = subst (λ (rs : List Row). ComesAt rs Out c.place_from-nothing.result) c.deref.ensures.value c.place_from-nothing.ensures }) p

pub returns-in-Err-clause-makes : goal.returns-in-Err-clause-makes
returns-in-Err-clause-makes g c = λ full.
    let F = g.A.Automaton.shape c.args.automaton.now in
    let olds = g.A.Automaton.lists c.args.automaton.now in
    let leaf = c.args.leaf.now in
    too_many_rows F olds olds (leaf_candidates leaf.field F (named_leaf leaf)) _ (leaf_types leaf.field F leaf) c.args.room
    (subst (λ rs. AreTooMany F olds (leaf_candidates leaf.field F (named_leaf leaf)) rs c.args.room) c.new-rows.ensures.items (c.in-Err.ensures.passes full))
