use Rattle.std.proofs.Common.{true, take}
use Rattle.mm_checker.specs.Claims.{glued_pairs}
use Rattle.mm_checker.specs.KeptPlaces.{IsPut}
use Rattle.mm_checker.proofs.rules.Glue.put_all.Given as goal

abbrev pub invariant-loop-i : goal.invariant-loop-i
invariant-loop-i l = IsPut l.initial.numbers.items (glued_pairs l.self.claims.now.glues.entries l.self.place l.self.op (take l.i l.lefts) l.rights) true l.numbers.items
