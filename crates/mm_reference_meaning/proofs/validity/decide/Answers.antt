use Rattle.std.proofs.Common.{rules, map, sym, ap, ◌∙◌}
use Rattle.mm_logic.specs.Marks as marks_spec
use Rattle.mm_logic.specs.Meaning.{holds}
use Rattle.mm_logic.specs.Tree.{size}
use Rattle.mm_logic_laws.proofs.MeaningLemmas.{meaning_decided}
use Rattle.mm_reference_meaning.specs.Asked.{IsAsked}
use Rattle.mm_reference_meaning.specs.Trees.{tree_of}
use Rattle.mm_reference_meaning.specs.Formulas.{formula_of, marks_of}
use Rattle.mm_reference_meaning.proofs.validity.decide.Goals as goal

pub returns-in_ok-holds-in-Some-clause-some : goal.returns-in_ok-holds-in-Some-clause-some
returns-in_ok-holds-in-Some-clause-some c =
    let f = c.args.f in
    let F = formula_of c.args.formula.now in
    let T = tree_of c.args.tree.now in
    let asked : IsAsked f c.args.formula.now T (map marks_of c.in-Some.marks.items) = search rules in
    let says = meaning_decided f T asked.can.valid F (marks_spec.unmarked (size T)) in
    let is = c.in_ok-holds-in-Some.ensures ∙ ap (holds f F T) (ap (map marks_of) c.deref.ensures.value ∙ asked.marks) in
    ((λ e. says.0 (sym is ∙ e)), (λ h. is ∙ says.1 h))
