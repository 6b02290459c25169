use Rattle.mm_formula.proofs.RepeatLemmas.{distinct_with}
use Rattle.mm_formula.proofs.var.VarList.push.Goals as goal

pub invariant_of-self-2 : goal.invariant_of-self-2
invariant_of-self-2 c =
    rw c.in_ok-push.ensures.items (distinct_with c.self.inside.vars.items c.args.v c.self.invariant (rw c.self.view_is c.requires))
