use Rattle.std.proofs.Common.{ℕ, sym, ◌∙◌, arith}
use Rattle.mm_matrix.specs.BitRows.{bits}
use Rattle.mm_matrix.proofs.BitLemmas.{bits-sum, cleared_where_one, cleared_where_zero}
use Rattle.mm_matrix.proofs.bit_rows.clear.Goals as goal

pub returns-then-digit-ne0-clause-cleared : goal.returns-then-digit-ne0-clause-cleared
returns-then-digit-ne0-clause-cleared c =
    let n = c.args.cols in
    let wide = c.requires.same in
    cleared_where_one n c.args.k c.args.w.now c.args.v.now (bits n c.add.new.y) c.requires.place (λ e. c.if-digit-ne0.true (c.digit.ensures ∙ e))
    (bits-sum n c.args.w.now c.args.v.now c.add.new.y (λ k l. c.add.ensures.sum _ (omega arith)))

pub returns-else-digit-ne0-clause-cleared : goal.returns-else-digit-ne0-clause-cleared
returns-else-digit-ne0-clause-cleared c =
    cleared_where_zero c.args.cols c.args.k c.args.w.now c.args.v.now c.requires.place (sym c.digit.ensures ∙ c.if-digit-ne0.false)
