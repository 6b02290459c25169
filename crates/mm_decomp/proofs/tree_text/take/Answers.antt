use Rattle.std.proofs.Common.{◌≡◌, ◌∷◌, sym, subst}
use Rattle.mm_header.specs.State.HeaderStates.{header_value}
use Rattle.mm_header.specs.declared.state.HeaderStep.{HeaderStep}
use Rattle.mm_job_text.specs.Readers.{Refused}
use Rattle.mm_decomp.specs.GivenTrees.{tree_from}
use Rattle.mm_decomp.proofs.tree_text.take.Goals as goal

pub returns-clause-goes : goal.returns-clause-goes
returns-clause-goes c = λ rs.
    subst (λ (s : HeaderStep). tree_from s (c.args.line.now ∷ rs) ≡ Refused c.line_after_end.result) (sym c.in-Parts.is)
    (c.line_after_end.ensures.tree (header_value c.in-Parts.field-0, c.in-Parts.field-1.tree) rs)
