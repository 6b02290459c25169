use Rattle.std.proofs.Common.{◌-◌, length, take, drop, get_or, sym, ap, ◌∙◌, subst, rules}
use Rattle.mm_field.specs.Vectors.{AreVectors, AreDigits}
use Rattle.mm_field.proofs.CombinationLemmas.{first_row, other_rows, IsVector-combination}
use Rattle.mm_reference_meaning.specs.Rows.{rows_of}
use Rattle.mm_reference_meaning.proofs.SpanLemmas.{rows_split}
use Rattle.mm_reference_meaning.proofs.ColumnLemmas.{digits_split, other_digits}
use Rattle.mm_reference_meaning.proofs.tree.+combination.Goals as goal

pub combination-requires : goal.combination-requires
combination-requires t c =
    let rows = c.args.rows.now in
    let ds = c.args.coefficients.now in
    let split = rows_split rows c.row-item.result c.in-len1-up.len_at_least c.row-item.is in
    let h = subst (λ xs. AreVectors c.args.f c.args.r xs) split c.requires.rows in
    let digits = subst (λ xs. AreDigits c.args.f xs) (digits_split ds c.in-len1-up-coefficients.len_at_least) c.requires.digits in
    (search rules, (other_rows c.args.f c.args.r c.row-item.result.items (rows_of (take (length rows - 1) (drop 1 rows))) h, other_digits c.args.f (get_or ds 0 0) (take (length ds - 1) (drop 1 ds)) digits))

pub with_multiple-requires-clause-same_length : goal.with_multiple-requires-clause-same_length
with_multiple-requires-clause-same_length t c =
    let rows = c.args.rows.now in
    let ds = c.args.coefficients.now in
    let others = rows_of (take (length rows - 1) (drop 1 rows)) in
    let split = rows_split rows c.row-item.result c.in-len1-up.len_at_least c.row-item.is in
    let h = subst (λ xs. AreVectors c.args.f c.args.r xs) split c.requires.rows in
    let hv = first_row c.args.f c.args.r c.row-item.result.items others h in
    let hs = other_rows c.args.f c.args.r c.row-item.result.items others h in
    ap length c.deref.ensures.value ∙ hv.len
    ∙ sym (ap length c.in_ok-sum-in-len1-up-coefficients.ensures ∙ (IsVector-combination c.args.f c.args.r (take (length ds - 1) (drop 1 ds)) others hs).len)

pub with_multiple-requires-clause-digits_sum : goal.with_multiple-requires-clause-digits_sum
with_multiple-requires-clause-digits_sum t c =
    let rows = c.args.rows.now in
    let ds = c.args.coefficients.now in
    let others = rows_of (take (length rows - 1) (drop 1 rows)) in
    let split = rows_split rows c.row-item.result c.in-len1-up.len_at_least c.row-item.is in
    let h = subst (λ xs. AreVectors c.args.f c.args.r xs) split c.requires.rows in
    let hs = other_rows c.args.f c.args.r c.row-item.result.items others h in
    subst (λ xs. AreDigits c.args.f xs) (sym c.in_ok-sum-in-len1-up-coefficients.ensures)
    (IsVector-combination c.args.f c.args.r (take (length ds - 1) (drop 1 ds)) others hs).digits
