use Rattle.std.proofs.Common.{ap, ap₂, sym, ◌∙◌, ◌/◌, ◌∷◌, ◌++◌, [], ℕ}
use Rattle.mm_formula.specs.Repeats.{has}
use Rattle.mm_minor.specs.MinorFormula.{contracted}
use Rattle.mm_minor.proofs.BuildLemmas.{element_is_new, variable_in, variable_not_in, digits_more}
use Rattle.mm_minor.proofs.conditions.variables.Goals as goal
use Rattle.mm_minor.proofs.conditions.variables.Goals.{then-rest-eq1+in_ok-push-2, else-rest-eq1}

pub push-requires-then-rest-eq1 : goal.push-requires-then-rest-eq1
push-requires-then-rest-eq1 c =
    ap₂ (λ v vs. has v vs) c.element.ensures c.loop-i.invariant.chosen ∙ element_is_new c.loop-i.i c.args.s

pub loop-i-preserved : goal.loop-i-preserved
loop-i-preserved c =
    let i = c.loop-i.i in
    let s = c.args.s in
    record {
      chosen = elim c.if-rest-eq1.branch [
        | then-rest-eq1+in_ok-push-2 w ↦
            w.vars-is ∙ w.in_ok-push-2.ensures.ok ∙ ap₂ (λ vs v. vs ++ (v ∷ [])) c.loop-i.invariant.chosen w.element.ensures
            ∙ ap (λ vs. contracted ∷ vs) (sym (variable_in i s c.loop-i.rest c.loop-i.invariant.left w.if-rest-eq1.true))
        | else-rest-eq1 w ↦
            w.vars-is ∙ c.loop-i.invariant.chosen
            ∙ ap (λ vs. contracted ∷ vs) (sym (variable_not_in i s c.loop-i.rest c.loop-i.invariant.left w.if-rest-eq1.false))
      ];
      left = ap (λ (m : ℕ). m / 2) c.loop-i.invariant.left ∙ sym (digits_more i s);
    }
