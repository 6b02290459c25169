use Rattle.mm_job.specs.State.Sessions.{session_of}
use Rattle.mm_job.proofs.block.Block.open.Goals as goal

pub returns-else-begins-clause-begun : goal.returns-else-begins-clause-begun
returns-else-begins-clause-begun c = c.open_check.ensures.begun (session_of c.args.editor.now)
