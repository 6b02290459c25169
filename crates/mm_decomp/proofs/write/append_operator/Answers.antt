use Rattle.std.proofs.lemmas.Result.{on_ok_weaker}
use Rattle.mm_decomp.proofs.HeaderTextLemmas.{operator_line}
use Rattle.mm_decomp.proofs.write.append_operator.Goals as goal

pub returns : goal.returns
returns c =
    on_ok_weaker c.append-5.result
    (λ e. operator_line c.args.name.now c.args.op.now.op c.args.text.now _ _ _ _ _ _ _ _ _ _ _ _ _ _ _ _ _ _ c.bytes.ensures.text
    c.t1.ensures c.t2.ensures c.t3.ensures c.c.ensures c.g1.ensures c.g2.ensures c.in_ok-append.ensures.ok c.in_ok-append-2.ensures.ok
    c.in_ok-append_number.ensures c.in_ok-append_number-2.ensures c.in_ok-append_number-3.ensures c.in_ok-append_number-4.ensures
    c.in_ok-append-3.ensures.ok c.in_ok-append_generator.ensures c.in_ok-append-4.ensures.ok c.in_ok-append_generator-2.ensures e)
    c.append-5.ensures.ok
