use Rattle.std.proofs.Common.{ℕ, ◌≡◌, take}
use Rattle.std.specs.List.{list_all}
use Rattle.mm_checker.specs.KeptBoundaries.{allows, kept_at}
use Rattle.mm_checker.proofs.boundaries.Sizes.of_all.Given as goal

abbrev pub invariant-loop-n : goal.invariant-loop-n
invariant-loop-n l = (t : ℕ) → allows l.all t ≡ list_all (λ n. allows (kept_at l.self.kept.items n) t) (take l.n-index l.numbers)
