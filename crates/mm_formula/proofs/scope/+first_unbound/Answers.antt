use Rattle.std.proofs.Common.{sym}
use Rattle.mm_formula.specs.Syntax.{syntax_of}
use Rattle.mm_formula.specs.Scope.{unbound}
use Rattle.mm_formula.specs.Binders.{names}
use Rattle.mm_formula.proofs.ScopeLemmas.{first_of_front, first_after}
use Rattle.mm_formula.proofs.scope.+first_unbound.Goals as goal

pub returns-in-Some : goal.returns-in-Some
returns-in-Some t c =
    let bs = names c.args.binders.now in let h = c.in-Some.ensures in
    rw c.in-Bin.is (sym (first_of_front (unbound bs (syntax_of c.in-Bin.first.value)) (unbound bs (syntax_of c.in-Bin.second.value))
    c.in-Some.v (sym (rw c.deref-in-Bin.ensures at h))))

pub returns-in-None : goal.returns-in-None
returns-in-None t c =
    let bs = names c.args.binders.now in let h = c.in-None.ensures in let r = c.first_unbound-in-None.ensures in
    rw (r, c.in-Bin.is, c.deref-in-None.ensures) (sym (first_after (unbound bs (syntax_of c.in-Bin.first.value))
    (unbound bs (syntax_of c.in-Bin.second.value)) (sym (rw c.deref-in-Bin.ensures at h))))
