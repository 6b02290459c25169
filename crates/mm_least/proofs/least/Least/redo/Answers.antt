use Rattle.std.proofs.Common.{◌≡◌, sym, subst}
use Rattle.std.specs.Prelude.{OnOk, IfErr}
use Rattle.mm_logic.specs.Formula.{Formula}
use Rattle.mm_logic.specs.Growth.{root}
use Rattle.mm_logic.specs.StateSize.Query.{Least}
use Rattle.mm_nodes.specs.Changes.{IsFull}
use Rattle.mm_nodes.specs.KeptNodes.{tree_of}
use Rattle.mm_nodes.specs.declared.keeps.KeepFault.TheVariants.{Full}
use Rattle.mm_least.specs.LeastCalls.{KeepRows}
use Rattle.mm_least.specs.LeastValue.{LeastValue}
use Rattle.mm_least.specs.LeastValue.{IsKept}
use Rattle.mm_nodes.proofs.EmptyLemmas.{by_result, on_ok}
use Rattle.mm_least.specs.RowLaws.{top_within}
use Rattle.mm_least.proofs.AnswerLemmas.{linked}
use Rattle.mm_least.proofs.least.Least.redo.Goals as goal

pub invariant_of-self : goal.invariant_of-self
invariant_of-self g c =
    let F = g.A.Automaton.shape c.self.inside.automaton in
    let lists = g.A.Automaton.lists c.redo.new.automaton in
    let marked = g.A.Automaton.marked c.redo.new.automaton in
    let kept = c.redo.new.kept in
    let limit = c.self.inside.limit in
    subst (λ (G : Formula). IsKept G lists marked limit kept) (sym c.redo.ensures.shape)
    (by_result {Q = IsKept F lists marked limit kept} c.redo.result c.redo.ensures.ok
    (λ h. record { settled = h.settled; within = top_within (record { f = c.args.after.now.f; F = F; lists = lists }) c.args.after.now.tree (tree_of kept) h.stands; links = linked c.args.after.now.f F lists c.args.after.now.tree (tree_of kept) h.stands })
    c.redo.ensures.kept c.redo.ensures.lists c.redo.ensures.marked
    (λ a b d. subst (λ k. IsKept F lists marked limit k) (sym a) (subst (λ ls. IsKept F ls marked limit c.self.inside.kept) (sym b)
    (subst (λ ms. IsKept F (g.A.Automaton.lists c.self.inside.automaton) ms limit c.self.inside.kept) (sym d) c.self.invariant))))

pub returns-clause-ok : goal.returns-clause-ok
returns-clause-ok g c =
    subst (λ (v : LeastValue g.row.A.Denot).
    OnOk c.redo.result (KeepRows (g.A.Automaton.shape v.automaton) (root (g.A.Automaton.shape v.automaton) (g.A.Automaton.lists v.automaton)) (g.A.Automaton.lists c.redo.new.automaton)
    (g.A.Automaton.marked c.redo.new.automaton) c.args.after.now.f c.args.after.now.tree v.limit (tree_of c.redo.new.kept))) c.self.view_is
    (on_ok c.redo.result c.redo.ensures.ok (λ h. record { stands = h.stands; grown = h.grown; exact = h.settled.exact; mark = h.settled.mark; fits = h.fits }))

pub returns-clause-full : goal.returns-clause-full
returns-clause-full g c =
    subst (λ (v : LeastValue g.row.A.Denot).
    IfErr c.redo.result (λ e. e ≡ Full → IsFull (g.A.Automaton.shape v.automaton) (Least (g.A.Automaton.shape v.automaton))
    (root (g.A.Automaton.shape v.automaton) (g.A.Automaton.lists v.automaton)) c.args.after.now.f c.args.after.now.tree v.limit)) c.self.view_is c.redo.ensures.full
