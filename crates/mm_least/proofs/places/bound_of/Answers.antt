use Rattle.std.proofs.Common.{arith}
use Rattle.mm_least.proofs.KnownLemmas.{bound_next}
use Rattle.mm_least.proofs.places.bound_of.Goals as goal
use Rattle.mm_least.proofs.places.bound_of.Goals.{then-bound-id, else-bound-id}

pub loop-k-preserved : goal.loop-k-preserved
loop-k-preserved c =
    elim c.if-bound-id.branch [
      | then-bound-id w ↦
          let is = w.bound-is in
          let test = w.if-bound-id.true in
          bound_next c.args.ids.now c.loop-k.k c.loop-k.bound c.if-bound-id.bound c.loop-k-test.true (omega (arith, is, test)) (omega (arith, is, test)) c.loop-k.invariant
      | else-bound-id w ↦
          let is = w.bound-is in
          let test = w.if-bound-id.false in
          bound_next c.args.ids.now c.loop-k.k c.loop-k.bound c.if-bound-id.bound c.loop-k-test.true (omega (arith, is, test)) (omega (arith, is, test)) c.loop-k.invariant
    ]
