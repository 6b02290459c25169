use Rattle.std.proofs.Common.{arith}
use Rattle.mm_decomp.proofs.HeaderTextLemmas.{generator_more}
use Rattle.mm_decomp.proofs.write.append_generator.Goals as goal

pub loop-k-preserved : goal.loop-k-preserved
loop-k-preserved c =
    generator_more c.args.vectors.now c.loop-k.k c.row-in-loop-k.result c.args.text.now c.loop-k.text _ _ (omega arith)
    (omega (arith, c.rows-k-end.ensures, c.loop-k-test.true)) c.row-in-loop-k.ensures c.loop-k.invariant c.in_ok-append.ensures.ok
    c.in_ok-append_vector-2.ensures
