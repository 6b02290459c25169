use Rattle.mm_decomp.proofs.build_state.BuildState.take.Goals as goal

pub returns-in-End-clause-goes : goal.returns-in-End-clause-goes
returns-in-End-clause-goes c = rw c.in-End.is (λ rs. c.line_after_end.ensures.build _ rs)
