use Rattle.std.proofs.Common.{arith}
use Rattle.mm_decomp.proofs.HeaderTextLemmas.{row_more}
use Rattle.mm_decomp.proofs.write.append_rows.Goals as goal

pub loop-i-preserved : goal.loop-i-preserved
loop-i-preserved c =
    row_more c.args.rows.now.rows c.loop-i.i c.row.result.now c.args.text.now c.loop-i.text _ (omega (arith, c.rows-i-end.ensures.count, c.loop-i-test.true))
    c.row.ensures.value c.loop-i.invariant c.in_ok-append_row.ensures
