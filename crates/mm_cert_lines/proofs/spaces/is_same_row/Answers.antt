use Rattle.std.proofs.Common.{◌≡◌, nat_eq, length, arith}
use Rattle.mm_cert_lines.proofs.SameLists.{all_same}
use Rattle.mm_cert_lines.proofs.spaces.is_same_row.Goals as goal

pub returns : goal.returns
returns c =
    let a = c.args.a.now in
    let b = c.args.b.now in
    let lengths : length a ≡ length b = omega (arith, c.if-len.false, c.len.ensures, c.len-2.ensures) in
    all_same nat_eq 0 a b lengths (λ i l. c.loop-k.invariant i (omega (arith, l, c.loop-k-test.false, c.len-k-end.ensures, c.loop-k.auto.k-end)))
