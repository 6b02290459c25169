use Rattle.std.proofs.Common.{◌≡◌, [], false, nat_eq, length, sym, ap₂, ◌∙◌, arith}
use Rattle.std.specs.Prelude.{slice_index_or}
use Rattle.std.specs.Cmp.Lexicographic.{pointwise}
use Rattle.mm_cert_lines.proofs.SameLists.{one_other, all_same}
use Rattle.mm_cert_lines.proofs.spaces.are_same_rows.Goals as goal

pub returns-then-not-is_same_row : goal.returns-then-not-is_same_row
returns-then-not-is_same_row c =
    let a = c.args.a.now in
    let b = c.args.b.now in
    let lengths : length a ≡ length b = omega (arith, c.if-rows.false, c.rows.ensures, c.rows-2.ensures) in
    let other : pointwise nat_eq (slice_index_or a c.loop-k.k []) (slice_index_or b c.loop-k.k []) ≡ false =
    ap₂ (pointwise nat_eq) (sym c.row.ensures) (sym c.row-in-loop-k.ensures) ∙ sym c.is_same_row.ensures ∙ c.if-not-is_same_row.true in
    one_other (pointwise nat_eq) [] a b c.loop-k.k lengths (omega (arith, c.loop-k-test.true, c.rows-k-end.ensures, c.loop-k.auto.k-end)) other

pub returns : goal.returns
returns c =
    let a = c.args.a.now in
    let b = c.args.b.now in
    let lengths : length a ≡ length b = omega (arith, c.if-rows.false, c.rows.ensures, c.rows-2.ensures) in
    all_same (pointwise nat_eq) [] a b lengths (λ i l. c.loop-k.invariant i (omega (arith, l, c.loop-k-test.false, c.rows-k-end.ensures, c.loop-k.auto.k-end)))
