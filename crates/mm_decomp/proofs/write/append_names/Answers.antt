use Rattle.mm_decomp.proofs.HeaderTextLemmas.{names_line_more}
use Rattle.mm_decomp.proofs.write.append_names.Goals as goal

pub loop-k-preserved : goal.loop-k-preserved
loop-k-preserved c = names_line_more c.args.names.now c.loop-k.k c.args.text.now c.loop-k.text _ c.loop-k.invariant c.in_ok-append_names_line.ensures
