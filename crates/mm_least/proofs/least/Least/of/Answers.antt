use Rattle.std.proofs.Common.{◌≡◌, List, [], sym, subst}
use Rattle.mm_logic.specs.Formula.{Formula}
use Rattle.mm_logic.specs.Value.{Value}
use Rattle.mm_logic.specs.Growth.{root}
use Rattle.mm_logic.specs.StateSize.Query.{Least}
use Rattle.mm_nodes.specs.Changes.{IsFull}
use Rattle.mm_nodes.specs.KeptNodes.{tree_of}
use Rattle.mm_least.specs.LeastCalls.{KeepRows}
use Rattle.mm_least.specs.LeastValue.{IsKept}
use Rattle.mm_nodes.proofs.EmptyLemmas.{root_none, exact_empty, empty_cells}
use Rattle.mm_least.specs.RowLaws.{top_within}
use Rattle.mm_least.proofs.AnswerLemmas.{linked}
use Rattle.mm_least.proofs.least.Least.of.Goals as goal

pub of-requires-clause-exact : goal.of-requires-clause-exact
of-requires-clause-exact g c = exact_empty (g.A.Automaton.shape c.args.automaton) (g.A.Automaton.lists c.args.automaton) c.requires.empty

pub of-requires-clause-cells : goal.of-requires-clause-cells
of-requires-clause-cells g c = empty_cells (g.A.Automaton.shape c.args.automaton) (g.A.Automaton.lists c.args.automaton) c.args.limit c.requires.empty

pub invariant_of-result : goal.invariant_of-result
invariant_of-result g c =
    let lists = g.A.Automaton.lists c.of.new.automaton in
    subst (λ (F : Formula). IsKept F lists (g.A.Automaton.marked c.of.new.automaton) c.args.limit c.in-Ok.kept) (sym c.of.ensures.shape)
    (record { settled = c.in-Ok.ensures.ok.settled; within = top_within (record { f = c.args.tree.now.f; F = g.A.Automaton.shape c.args.automaton; lists = lists }) c.args.tree.now.tree (tree_of c.in-Ok.kept) c.in-Ok.ensures.ok.stands; links = linked c.args.tree.now.f (g.A.Automaton.shape c.args.automaton) lists c.args.tree.now.tree (tree_of c.in-Ok.kept) c.in-Ok.ensures.ok.stands })

no_types : (F : Formula) (lists empty : List (List Value)) → lists ≡ empty → root F empty ≡ [] → root F lists ≡ []
no_types F lists empty e n = subst (λ ls. root F ls ≡ []) (sym e) n

pub returns-in-Ok-clause-starts : goal.returns-in-Ok-clause-starts
returns-in-Ok-clause-starts g c =
    let F = g.A.Automaton.shape c.args.automaton in
    let h = c.in-Ok.ensures.ok in
    subst (λ vs. KeepRows F vs (g.A.Automaton.lists c.of.new.automaton) (g.A.Automaton.marked c.of.new.automaton) c.args.tree.now.f c.args.tree.now.tree c.args.limit (tree_of c.in-Ok.kept))
    (no_types F (g.A.Automaton.lists c.args.automaton) _ c.requires.empty (root_none F))
    (record { stands = h.stands; grown = h.grown; exact = h.settled.exact; mark = h.settled.mark; fits = h.fits })

pub returns-in-Err-clause-full : goal.returns-in-Err-clause-full
returns-in-Err-clause-full g c = λ full.
    let F = g.A.Automaton.shape c.args.automaton in
    subst (λ vs. IsFull F (Least F) vs c.args.tree.now.f c.args.tree.now.tree c.args.limit) (no_types F (g.A.Automaton.lists c.args.automaton) _ c.requires.empty (root_none F)) (c.in-Err.ensures.full full)
