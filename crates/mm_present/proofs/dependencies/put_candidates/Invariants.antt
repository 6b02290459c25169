use Rattle.std.proofs.Common.{◌≡◌, ◌++◌, map, take}
use Rattle.mm_present.specs.Dependencies.{candidate}
use Rattle.mm_present.proofs.dependencies.put_candidates.Given as goal

abbrev pub invariant-loop-i : goal.invariant-loop-i
invariant-loop-i l = l.candidates ≡ record l.fn.candidates {
  rows = l.fn.candidates.rows ++ map (candidate l.digits.f l.digits.cols l.t l.t3 l.digits.rows) (take l.i l.pairs.rows);
}
