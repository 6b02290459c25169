use Rattle.std.proofs.Common.{rules, ◌≡◌, false, [], ◌∷◌, ◌++◌, sym, ap, ◌∙◌, subst}
use Rattle.std.specs.List.{IsDistinct}
use Rattle.std.specs.Str.{bytes_eq}
use Rattle.mm_base.specs.contracts.name.NamePartialEq.TheImpl.{eq-value}
use Rattle.mm_present.proofs.CompareLemmas.{three_different}
use Rattle.mm_tree_tests.proofs.present.compared.Goals as goal

pub compare-requires-clause-different : goal.compare-requires-clause-different
compare-requires-clause-different c =
    let a = c.in_ok-a.a in
    let b = c.in_ok-b.b in
    let d = c.in_ok-c.c in
    let p : (eq-value).it a b ≡ false = search rules in
    let q : (eq-value).it a d ≡ false = search rules in
    let r : (eq-value).it b d ≡ false = search rules in
    subst (λ names. IsDistinct bytes_eq names)
    (sym (c.in_ok-push-3.ensures.ok
    ∙ ap (λ names. names ++ d ∷ [])
    (c.in_ok-push-2.ensures.ok ∙ ap (λ names. names ++ b ∷ []) (c.in_ok-push.ensures.ok ∙ ap (λ names. names ++ a ∷ []) c.new-names.ensures))))
    (three_different a b d p q r)
