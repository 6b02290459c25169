use Rattle.std.proofs.Common.{sym, ◌∙◌, arith}
use Rattle.std.proofs.lemmas.List.{get_or-replicate, length-replicate}
use Rattle.mm_field.specs.Vectors.{zeros}
use Rattle.mm_matrix.proofs.BitLemmas.{bits_are}
use Rattle.mm_matrix.proofs.bit_rows.first_one.Goals as goal

pub returns-clause-none : goal.returns-clause-none
returns-clause-none c =
    let n = c.args.cols in
    bits_are n c.args.words.now (zeros n) (length-replicate n 0)
    (λ k l. c.loop-k.invariant k (omega arith) ∙ sym (get_or-replicate n k 0 0 l))
