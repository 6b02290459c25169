use Rattle.std.proofs.Common.{◌≡◌, arith, length, ap₂}
use Rattle.std.proofs.lemmas.List.{length-take-le}
use Rattle.mm_space.proofs.TextLemmas.{stored_back}
use Rattle.mm_space.proofs.vector.Vector.of.Goals as goal

pub invariant_of-result : goal.invariant_of-result
invariant_of-result c = record {
  short = c.requires.short;
  size = c.requires.size;
  back = ap₂ (λ n d. record { len = n; digits = d })
      (let e : length c.args.digits ≡ 24 = c.requires.size in length-take-le c.args.len c.args.digits (omega arith))
      (stored_back c.args.len c.args.digits (omega arith) c.requires.size c.requires.zeros);
}
