use Rattle.std.proofs.Common.{rules, ◌≡◌, Some, sym, subst}
use Rattle.mm_least.specs.Transitions.{TransitionValue, IsKnown}
use Rattle.mm_least.proofs.node_rows.NodeRowsKeeps.sketch.Goals as goal

pub returns-in-Ok : goal.returns-in-Ok
returns-in-Ok c fr op h =
    let there : c.args.self.now.known ≡ Some c.in-Some.transition.value = search rules in
    let same : c.in-Ok.transition.value ≡ c.in-Some.transition.value = search rules in
    subst (λ (t : TransitionValue). IsKnown fr op (Some t)) (sym same) (subst (IsKnown fr op) there h)
