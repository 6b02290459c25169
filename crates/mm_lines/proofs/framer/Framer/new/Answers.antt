use Rattle.std.proofs.Common.{length, refl, ap, arith}
use Rattle.mm_lines.specs.Lines.{lines_of}
use Rattle.mm_lines.proofs.framer.Framer.new.Goals as goal

pub invariant_of-result : goal.invariant_of-result
unfolding lines_of
invariant_of-result c = record {
  size = omega (arith, ap length c.new.ensures.items);
  place = record {
    order = omega arith;
    within = omega arith;
    clean = λ k low high. absurd (omega (arith, high));
    number = omega arith;
  };
  count = omega arith;
  reads = λ end more may. refl;
}
