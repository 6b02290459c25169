use Rattle.std.proofs.Common.{◌≡◌, ◌==◌, true, length, take}
use Rattle.std.specs.List.{list_all}
use Rattle.mm_cli.proofs.words.have_length.Given as goal

abbrev pub invariant-loop-k : goal.invariant-loop-k
invariant-loop-k l = list_all (λ v. length v == l.columns) (take l.k l.rows) ≡ true
