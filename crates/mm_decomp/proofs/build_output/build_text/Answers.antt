use Rattle.mm_decomp.proofs.BuildOutputLemmas.{output_read, output_stopped}
use Rattle.mm_decomp.proofs.build_output.build_text.Goals as goal

pub returns-in-Ok : goal.returns-in-Ok
returns-in-Ok c = output_read c.args.bytes.now c.in-Ok.text c.write_built.result c.in-Ok.ensures.0 c.write_built.ensures

pub returns-in-Err : goal.returns-in-Err
returns-in-Err c = output_stopped c.args.bytes.now c.in-Err.fault c.in-Err.ensures
