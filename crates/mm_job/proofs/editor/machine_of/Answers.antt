use Rattle.std.proofs.lemmas.Result.{IfOk-weaker}
use Rattle.mm_formula.specs.Syntax.{syntax_of}
use Rattle.mm_machine.specs.Machines.{shape_in}
use Rattle.mm_job.proofs.StartLemmas.{query_shaped, query_sorted}
use Rattle.mm_job.proofs.editor.machine_of.Goals as goal

pub returns-clause-shape : goal.returns-clause-shape
returns-clause-shape c =
    let q = c.args.query.now in
    IfOk-weaker c.of.result _ _ (λ m is. query_shaped q.free (syntax_of q.formula) (shape_in m.parts) is) c.of.ensures.shape

pub returns-clause-sorted : goal.returns-clause-sorted
returns-clause-sorted c =
    let q = c.args.query.now in
    IfOk-weaker c.of.result _ _ (λ m is. query_sorted q.free (syntax_of q.formula) c.formula.ensures.scoped) c.of.ensures.field
