use Rattle.std.proofs.Common.{◌≡◌, Option, Some, subst, sym, IfSome, IfOk}
use Rattle.mm_checker.specs.KeptValues.{IsOver, IsEnded}
use Rattle.mm_checker.specs.declared.certificate.Valued.{Valued}
use Rattle.mm_checker.proofs.values.Values.end.Goals as goal

pub returns-in-Some-clause-value : goal.returns-in-Some-clause-value
returns-in-Some-clause-value c = λ f hs h.
    let a = c.take.ensures.value in
    let b = c.in-Some.is in
    let e : c.args.self.now.unended ≡ Some c.in-Some.valued = cc in
    subst (λ (o : Option Valued). IfOk c.put.result (λ good. IsEnded c.args.self.now.ended.keys o good c.put.new.self.ended.keys)) (sym e)
    (c.put.ensures.value f hs (subst (λ (o : Option Valued). IfSome o (λ v. IsOver f v.content)) e h))
