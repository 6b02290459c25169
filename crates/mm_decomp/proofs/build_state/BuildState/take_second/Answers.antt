use Rattle.mm_decomp.proofs.BuildStateLemmas.{no_names_kept}
use Rattle.mm_decomp.proofs.build_state.BuildState.take_second.Goals as goal

pub returns-in-Ok-clause-kept : goal.returns-in-Ok-clause-kept
returns-in-Ok-clause-kept c = no_names_kept c.start_names.new.self c.start_names.ensures.stage c.start_names.ensures.names
