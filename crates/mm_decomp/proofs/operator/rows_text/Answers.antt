use Rattle.std.proofs.Common.{◌++◌, ◌∷◌, [], ap, ◌∙◌, arith}
use Rattle.mm_space.specs.VectorText.{vector_text}
use Rattle.mm_decomp.proofs.OperatorLemmas.{rows_text_step, rows_text_done}
use Rattle.mm_decomp.proofs.operator.rows_text.Goals as goal

pub overflow_add-from : goal.overflow_add-from
overflow_add-from c = omega (arith, c.rows.ensures.count, c.rows.type_inv)

pub loop-i-preserved : goal.loop-i-preserved
loop-i-preserved c =
    let rows = c.args.m.now.rows in
    let from = c.args.from in
    let i = c.loop-i.i in
    let w = c.row-in-loop-i.result.now in
    let bound = c.requires.rows in
    c.in_ok-append_digits-2.ensures
    ∙ ap (λ t. t ++ vector_text w) (c.in_ok-push.ensures.items ∙ ap (λ t. t ++ 47 ∷ []) c.loop-i.invariant)
    ∙ rows_text_step rows from i w (omega arith) (omega arith) c.row-in-loop-i.ensures.value

pub returns : goal.returns
returns c = rows_text_done c.args.m.now.rows c.args.from c.args.count c.loop-i.i c.loop-i.text.items c.requires.some c.requires.rows (omega arith) c.loop-i.invariant
