use Rattle.std.proofs.Common.{◌+◌, ◌≡◌, take, drop, subst, sym, ap, ◌∙◌}
use Rattle.mm_field.specs.Vectors.{zeros}
use Rattle.mm_present.specs.Joining.{side_row, with_digits}
use Rattle.mm_present.proofs.JoinRowLemmas.{both_put, side_vector, zeros_after}
use Rattle.mm_present.proofs.join_rows.put_sides.Goals as goal

pub put_side-requires-2-clause-zero : goal.put_side-requires-2-clause-zero
put_side-requires-2-clause-zero c =
    let left = c.args.left.now in
    let right = c.args.right.now in
    let row : c.put_side.new.row ≡ with_digits c.args.before (side_row c.args.k left) (zeros (c.args.before + left.rows.cols + right.rows.cols + c.args.after)) =
    c.put_side.ensures ∙ ap (λ z. with_digits c.args.before (side_row c.args.k left) z) c.requires.zero in
    subst (λ n. take right.rows.cols (drop (c.args.before + n) c.put_side.new.row) ≡ zeros right.rows.cols) (sym c.cols.ensures)
    (ap (λ z. take right.rows.cols (drop (c.args.before + left.rows.cols) z)) row
    ∙ zeros_after c.args.before left.rows.cols right.rows.cols c.args.after (side_row c.args.k left) (side_vector left.rows.f left.digits.now.cols c.args.k left c.requires.left).len)

pub returns : goal.returns
returns c =
    let left = c.args.left.now in
    let right = c.args.right.now in
    let first = side_row c.args.k left in
    let second = side_row c.args.k right in
    c.put_side-2.ensures
    ∙ ap (λ n. with_digits (c.args.before + n) second c.put_side.new.row) c.cols.ensures
    ∙ ap (λ z. with_digits (c.args.before + left.rows.cols) second z) (c.put_side.ensures ∙ ap (λ z. with_digits c.args.before first z) c.requires.zero)
    ∙ both_put c.args.before left.rows.cols right.rows.cols c.args.after first second
    (side_vector left.rows.f left.digits.now.cols c.args.k left c.requires.left).len
    (side_vector right.rows.f right.digits.now.cols c.args.k right c.requires.right).len
