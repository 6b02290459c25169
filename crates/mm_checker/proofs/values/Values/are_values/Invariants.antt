use Rattle.std.proofs.Common.{◌≡◌, true, take}
use Rattle.std.specs.List.{list_all}
use Rattle.mm_checker.specs.Contents.{is_value}
use Rattle.mm_checker.proofs.values.Values.are_values.Given as goal

abbrev pub invariant-loop-n : goal.invariant-loop-n
invariant-loop-n l = list_all (is_value l.self.ended.keys l.place) (take l.n-index l.numbers) ≡ true
