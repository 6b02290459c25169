use Rattle.std.proofs.Common.{arith, ◌≤◌}
use Rattle.mm_space.proofs.KeptLemmas.{kept_of, zero_held, span_of_zero}
use Rattle.mm_space.proofs.space.Space.zero.Goals as goal

pub invariant_of-result : goal.invariant_of-result
invariant_of-result c =
    let l : c.args.r ≤ 24 = (let a = c.requires in omega arith) in
    kept_of c.args.f c.args.r _ c.requires (zero_held c.args.f 24 c.args.r l)

pub returns : goal.returns
returns c =
    let l : c.args.r ≤ 24 = (let a = c.requires in omega arith) in
    span_of_zero c.args.f 24 c.args.r l
