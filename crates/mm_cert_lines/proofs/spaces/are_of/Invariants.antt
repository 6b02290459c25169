use Rattle.std.proofs.Common.{◌≡◌, ◌==◌, true, take, length}
use Rattle.std.specs.List.{list_all}
use Rattle.mm_cert_lines.proofs.spaces.are_of.Given as goal

abbrev pub invariant-loop-k : goal.invariant-loop-k
invariant-loop-k l = list_all (λ v. length v == l.t) (take l.k l.rows) ≡ true
