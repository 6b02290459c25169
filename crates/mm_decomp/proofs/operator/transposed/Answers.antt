use Rattle.std.proofs.Common.{◌<◌, sym, ap, subst, ◌∙◌}
use Rattle.std.specs.List.{All, range_with_len}
use Rattle.mm_matrix.proofs.FreeLemmas.{range_inside}
use Rattle.mm_decomp.proofs.operator.transposed.Goals as goal

pub columns-requires : goal.columns-requires
columns-requires c =
    subst (λ xs. All (λ j. j < c.args.m.now.cols) xs)
    (sym (c.deref.ensures.value ∙ c.in_ok-places.ensures ∙ ap (range_with_len 0) c.cols.ensures)) (range_inside c.args.m.now.cols)
