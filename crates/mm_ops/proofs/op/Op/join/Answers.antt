use Rattle.std.proofs.Common.{ℕ, sym, subst, ap, ◌∙◌}
use Rattle.mm_ops.specs.OpValue.{form_of}
use Rattle.mm_space.specs.JoinForms.{FormValue, Joins}
use Rattle.mm_ops.proofs.op.Op.join.Goals as goal

pub returns : goal.returns
returns c =
    let form = c.self.inside.form in
    subst (λ (v : FormValue). Joins v c.args.left.now c.args.right.now c.join.result)
    (ap (λ (r : ℕ). record { f = form.f; r = r; g1 = form.g1; g2 = form.g2; g3 = form.g3 }) (sym c.self.invariant.length) ∙ ap form_of c.self.view_is)
    c.join.ensures
