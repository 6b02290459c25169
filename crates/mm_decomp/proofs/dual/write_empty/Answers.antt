use Rattle.mm_decomp.proofs.DualTextLemmas.{empty_is}
use Rattle.mm_decomp.proofs.dual.write_empty.Goals as goal

pub returns : goal.returns
returns c = empty_is c.args.f c.new-text.result c.append_field.new.text c.append.new.self c.new-text.ensures c.in_ok-append_field.ensures c.in_ok-append.ensures.ok
