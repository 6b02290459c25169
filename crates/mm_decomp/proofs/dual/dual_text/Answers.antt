use Rattle.mm_decomp.proofs.DualTextLemmas.{dual_read, dual_stopped}
use Rattle.mm_decomp.proofs.dual.dual_text.Goals as goal

pub returns-in_ok-write_dual-in-Ok : goal.returns-in_ok-write_dual-in-Ok
returns-in_ok-write_dual-in-Ok c =
    dual_read c.args.bytes.now c.in-Ok.text _ c.in-Ok.ensures.0 c.in_ok-write_dual-in-Ok.ensures

pub returns-in-Err : goal.returns-in-Err
returns-in-Err c = dual_stopped c.args.bytes.now c.in-Err.fault c.in-Err.ensures
