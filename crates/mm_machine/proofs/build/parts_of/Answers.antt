use Rattle.std.proofs.Common.{reverse, subst, arith}
use Rattle.std.proofs.lemmas.List.{length-reverse}
use Rattle.mm_formula.specs.Scope.{outermost, slotted}
use Rattle.mm_formula.specs.Syntax.{syntax_of}
use Rattle.mm_machine.specs.Builds.{Built}
use Rattle.mm_machine.proofs.BuildLemmas.{built_size, short_front}
use Rattle.mm_machine.proofs.build.parts_of.Goals as goal

pub returns-clause-size : goal.returns-clause-size
returns-clause-size c =
    let bs = outermost c.args.scoped.now.free in
    let F = syntax_of c.args.scoped.now.formula in
    let ps = c.push_scoped.new.list in
    let b = subst (λ z. Built c.args.f (slotted bs F) (reverse z) (reverse ps.items)) c.new-list.ensures.items c.in_ok-push_scoped.ensures.built in
    short_front ps.len _ (omega (arith, ps.ok, length-reverse ps.items, built_size c.args.f bs F (reverse ps.items) c.in_ok-push_scoped.ensures.size b))
