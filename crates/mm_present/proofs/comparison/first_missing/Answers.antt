use Rattle.std.proofs.Common.{arith}
use Rattle.mm_present.proofs.CompareLemmas.{missing_found, missing_next, missing_none}
use Rattle.mm_present.proofs.comparison.first_missing.Goals as goal

pub returns-then-not-contains : goal.returns-then-not-contains
returns-then-not-contains c =
    missing_found c.args.names.now c.args.others.now.keys c.loop-k.k c.at-name.result c.contains.result (omega (arith, c.len-k-end.ensures))
    c.at-name.ensures c.contains.ensures c.if-not-contains.true c.loop-k.invariant

pub loop-k-preserved : goal.loop-k-preserved
loop-k-preserved c =
    missing_next c.args.names.now c.args.others.now.keys c.loop-k.k c.at-name.result c.contains.result (omega (arith, c.len-k-end.ensures))
    c.at-name.ensures c.contains.ensures c.if-not-contains.false c.loop-k.invariant

pub returns : goal.returns
returns c = missing_none c.args.names.now c.args.others.now.keys c.loop-k.k (omega (arith, c.len-k-end.ensures)) c.loop-k.invariant
