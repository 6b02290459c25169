use Rattle.std.proofs.Common.{◌<◌, [], sym, ap, ◌∙◌, subst}
use Rattle.mm_logic.specs.StateSize.Query.{Decide, Least}
use Rattle.mm_edit.specs.Edits.{query_of}
use Rattle.mm_edit.specs.KeptTypes.{size_beside}
use Rattle.mm_edit.proofs.StatesLemmas.{keep_runs, keep_rows}
use Rattle.mm_edit.proofs.states.States.of.Goals as goal

pub returns-in-Ok-clause-query : goal.returns-in-Ok-clause-query
returns-in-Ok-clause-query g c =
    let F = g.A.Automaton.shape c.args.automaton in
    ap (λ G. Decide G) c.in-Ok.ensures.same.0 ∙ sym (ap (λ q. query_of q F) c.in-Decide.is)

pub returns-in-Ok-clause-keep : goal.returns-in-Ok-clause-keep
returns-in-Ok-clause-keep g c =
    let K = g.A.Automaton in
    keep_runs K c.in-Ok.runs (K.shape c.args.automaton) [] c.args.tree.now.f c.args.tree.now.tree c.args.limit c.in-Ok.ensures.same.0 c.in-Ok.ensures.starts

pub returns-in-Err-clause-full : goal.returns-in-Err-clause-full
returns-in-Err-clause-full g c = λ full.
    let F = g.A.Automaton.shape c.args.automaton in
    subst (λ q. c.args.limit < size_beside [] (query_of q F) c.args.tree.now.f c.args.tree.now.tree) (sym c.in-Decide.is) (c.in-Err.ensures.full full)

pub returns-in-Ok-of-clause-query : goal.returns-in-Ok-of-clause-query
returns-in-Ok-of-clause-query g c =
    let F = g.A.Automaton.shape c.args.automaton in
    ap (λ G. Least G) c.in-Ok-of.ensures.same.0 ∙ sym (ap (λ q. query_of q F) c.in-Least.is)

pub returns-in-Ok-of-clause-keep : goal.returns-in-Ok-of-clause-keep
returns-in-Ok-of-clause-keep g c =
    let K = g.A.Automaton in
    keep_rows K c.in-Ok-of.rows (K.shape c.args.automaton) [] c.args.tree.now.f c.args.tree.now.tree c.args.limit c.in-Ok-of.ensures.same.0 c.in-Ok-of.ensures.starts

pub returns-in-Err-of-clause-full : goal.returns-in-Err-of-clause-full
returns-in-Err-of-clause-full g c = λ full.
    let F = g.A.Automaton.shape c.args.automaton in
    subst (λ q. c.args.limit < size_beside [] (query_of q F) c.args.tree.now.f c.args.tree.now.tree) (sym c.in-Least.is) (c.in-Err-of.ensures.full full)
