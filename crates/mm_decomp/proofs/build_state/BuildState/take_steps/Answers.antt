use Rattle.mm_decomp.proofs.build_state.BuildState.take_steps.Goals as goal

pub returns-in-Ok-clause-kept : goal.returns-in-Ok-clause-kept
returns-in-Ok-clause-kept c =
    let g = c.requires.given in
    (record { different = g.different; field = g.field; cols = g.cols }, c.in-Ok.ensures.one)
