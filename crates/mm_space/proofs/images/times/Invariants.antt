use Rattle.std.proofs.Common.{◌≡◌, ◌≤◌, [], drop, map, get_or}
use Rattle.mm_field.specs.Vectors.{combination}
use Rattle.mm_linear.specs.Padded.{padded}
use Rattle.mm_space.proofs.images.times.Given as goal

abbrev pub invariant-loop-j : goal.invariant-loop-j
invariant-loop-j l = record {
  low : l.j ≤ l.key.t;
  out_is : l.out ≡ combination l.f 24 (drop l.j (get_or l.key.rows l.i [])) (drop l.j (map (padded 24) l.g));
}
