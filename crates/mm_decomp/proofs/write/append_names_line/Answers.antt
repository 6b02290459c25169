use Rattle.std.proofs.Common.{◌++◌, ◌*◌, ap₂, ◌∙◌, arith}
use Rattle.std.proofs.lemmas.Result.{on_ok_weaker}
use Rattle.mm_decomp.proofs.HeaderTextLemmas.{line_starts, name_more, names_end}
use Rattle.mm_decomp.proofs.write.append_names_line.Goals as goal

pub loop-i-preserved : goal.loop-i-preserved
loop-i-preserved c =
    let names = c.args.names.now in
    let k = c.args.k in
    let n = c.len-n.ensures in
    let starts = line_starts names k c.requires in
    let least = c.min-i-end.ensures in
    let more = c.loop-i-test.true in
    c.in_ok-append-3.ensures.ok ∙ ap₂ (λ a b. a ++ b) c.in_ok-append-2.ensures.ok c.bytes.ensures.text
    ∙ name_more names (64 * k) c.loop-i.i c.at.result c.args.text.now c.loop-i.text (omega (arith, n, starts, least, more)) c.at.ensures c.loop-i.invariant

pub returns : goal.returns
returns c =
    let least = c.min-i-end.ensures in
    let n = c.len-n.ensures in
    on_ok_weaker c.append-2.result
    (λ e. e ∙ names_end c.args.names.now c.args.k c.loop-i.i c.args.text.now c.loop-i.text (omega (arith, least, n, c.loop-i-test.false)) c.loop-i.invariant)
    c.append-2.ensures.ok
