use Rattle.std.proofs.Common.{rules, ◌≡◌, ◌+◌, true, length, subst}
use Rattle.mm_logic.specs.Occurrence.{distinct}
use Rattle.mm_nodes.specs.declared.keeps.KeepFault.TheVariants.{Full}
use Rattle.mm_nodes.specs.Calls.{Exceeds}
use Rattle.mm_nodes.specs.Walks.{pair_types}
use Rattle.mm_nodes.proofs.StepUpLemmas.{step_refused}
use Rattle.mm_nodes.proofs.remake.step_from_right.Goals as goal

pub returns-in-Err-clause-steps_up : goal.returns-in-Err-clause-steps_up
returns-in-Err-clause-steps_up g c =
    let F = g.A.Automaton.shape c.args.automaton.now in
    let lists = g.A.Automaton.lists c.args.automaton.now in
    let changed : c.args.changed ≡ true = search rules in
    step_refused g.N.Keeps F lists _ c.args.op.now c.args.sibling.now _ c.args.old.now _ _ c.args.limit c.args.rows.now _ c.args.changed c.in-Err.fault changed
    (subst (λ m. c.in-Err.fault ≡ Full → Exceeds F lists (pair_types g.N.Keeps F lists c.args.op.now c.args.sibling.now m)
    (c.args.rows.now + length (distinct (pair_types g.N.Keeps F lists c.args.op.now c.args.sibling.now m))) c.args.limit) c.last_made.ensures c.in-Err.ensures.adds)
