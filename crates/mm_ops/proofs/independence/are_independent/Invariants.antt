use Rattle.std.proofs.Common.{◌≡◌, true, drop}
use Rattle.mm_linear.specs.Decide.{is_independent}
use Rattle.mm_space.specs.SpaceValue.{IsSpanOf}
use Rattle.mm_ops.proofs.independence.are_independent.Given as goal

abbrev pub invariant-loop-k : goal.invariant-loop-k
invariant-loop-k l = record {
  span : IsSpanOf l.fn.f l.r (drop l.k l.g) l.span;
  independent : is_independent l.fn.f l.r (drop l.k l.g) ≡ true;
}
