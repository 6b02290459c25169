use Rattle.std.proofs.Common.{ℕ, eqb, not, take, arith, w8}
use Rattle.std.proofs.lemmas.List.{length-take-le}
use Rattle.std.proofs.lemmas.Simd.{bitmask_splat}
use Rattle.mm_space.proofs.MarkLemmas.{mask_is_support}
use Rattle.mm_space.proofs.join_rows.front_support.Goals as goal

pub returns : goal.returns
returns c =
    let v = take 16 c.args.v.now in
    let long = c.told-v in
    mask_is_support v _ (bitmask_splat w8 (λ (a b : ℕ). not (eqb a b)) v 16 0 (length-take-le 16 c.args.v.now (omega arith)) (omega arith))
