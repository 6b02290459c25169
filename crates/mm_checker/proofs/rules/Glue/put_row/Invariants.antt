use Rattle.std.proofs.Common.{true, take, map}
use Rattle.mm_checker.specs.Claims.{glued}
use Rattle.mm_checker.specs.KeptPlaces.{IsPut}
use Rattle.mm_checker.proofs.rules.Glue.put_row.Given as goal

abbrev pub invariant-loop-i : goal.invariant-loop-i
invariant-loop-i l = IsPut l.initial.numbers.items (map (glued l.self.claims.now.glues.entries l.self.place l.self.op l.left) (take l.i l.rights)) true l.numbers.items
