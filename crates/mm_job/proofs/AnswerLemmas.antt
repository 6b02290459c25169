-- The answer of a session is the line of the answer for its tree.
use Rattle.std.proofs.Common.{◌≡◌, ◌↔◌, ℕ, Bool, true, false, ℤ, List, ◌++◌, length, Option, Some, None, sym, ap, ap₂, subst, ◌∙◌}
use Rattle.std.specs.Prelude.{codes, flat_map}
use Rattle.std.proofs.lemmas.List.{length-replicate}
use Rattle.std.specs.Fmt.{signed_decimal}
use Rattle.std.specs.List.{items_where_true}
use Rattle.mm_edit.specs.Answers.{IsAnswer}
use Rattle.mm_edit.specs.declared.answer.Answer.{Answer}
use Rattle.mm_edit.specs.declared.answer.Answer.TheVariants as answer
use Rattle.mm_field.specs.declared.Field.{Field}
use Rattle.mm_job.specs.Meaning.{answer_line, least_line, truth_line}
use Rattle.mm_job.specs.Output.{answered}
use Rattle.mm_job.specs.State.Replies.{answer_text}
use Rattle.mm_job.specs.State.Sessions.{IsEditor, session_of}
use Rattle.mm_job.specs.declared.editor.Editor.{Editor}
use Rattle.mm_job.specs.declared.output_line.OutputLine.TheVariants.{Says}
use Rattle.mm_logic.specs.Acceptance.{accepts}
use Rattle.mm_logic.specs.Formula.{Formula}
use Rattle.mm_logic.specs.JoinRule.{joined, lettered}
use Rattle.mm_logic.specs.Least.{IsFirst, Satisfies, least, weight}
use Rattle.mm_logic.specs.Marks.{assign, no_marks, unmarked}
use Rattle.mm_logic.specs.Meaning.{WellSorted, holds}
use Rattle.mm_logic.specs.StateSize.{Query, asked}
use Rattle.mm_logic.specs.StateSize.Query.{Decide, Least}
use Rattle.mm_logic.specs.Tree as shapes
use Rattle.mm_logic.specs.Tree.{IsValid, size}
use Rattle.mm_logic.specs.Types.{type_of}
use Rattle.mm_logic_laws.proofs.AcceptLemmas.{acceptance-is_meaning}
use Rattle.mm_logic_laws.proofs.LeastLemmas.{Singles-unmarked, first-same, least-set_meant}
use Rattle.mm_logic_laws.proofs.SplitLemmas.{length-assign}
use Rattle.mm_logic_laws.proofs.TypeLemmas.{joined-is_type}
use Rattle.mm_tree.specs.NamedTree.{Tree, element_names, shape, weights}

-- ---- the type that is joined at the root tells what the formula means

type_of_nothing : (f : Field) (F : Formula) (T : shapes.Tree) → WellSorted (λ k. false) F → IsValid f T →
    joined f F (lettered T (unmarked (size T))) ≡ type_of f F T (unmarked (size T))
type_of_nothing f F T w ok =
    sym (joined-is_type f T ok F (λ k. false) (unmarked (size T)) w (Singles-unmarked (λ k. false) (size T)) (length-replicate (size T) no_marks))

type_of_a_set : (f : Field) (F : Formula) (T : shapes.Tree) (A : List Bool) → WellSorted (λ k. false) F → IsValid f T →
    joined f F (lettered T (assign 0 A (unmarked (size T)))) ≡ type_of f F T (assign 0 A (unmarked (size T)))
type_of_a_set f F T A w ok =
    sym (joined-is_type f T ok F (λ k. false) (assign 0 A (unmarked (size T))) w (λ k is. let e : false ≡ true = is in absurd (cc))
    (length-assign 0 A (unmarked (size T)) ∙ length-replicate (size T) no_marks))

truth_is : (f : Field) (F : Formula) (T : shapes.Tree) → WellSorted (λ k. false) F → IsValid f T →
    accepts F (joined f F (lettered T (unmarked (size T)))) ≡ holds f F T (unmarked (size T))
truth_is f F T w ok = ap (accepts F) (type_of_nothing f F T w ok) ∙ (acceptance-is_meaning f F T (unmarked (size T))).0

-- a set has an accepted type exactly where it satisfies the formula
accepted_satisfies : (f : Field) (F : Formula) (T : shapes.Tree) (A : List Bool) → WellSorted (λ k. false) F → IsValid f T →
    (accepts F (joined f F (lettered T (assign 0 A (unmarked (size T))))) ≡ true) ↔ Satisfies f F T A
accepted_satisfies f F T A w ok =
    let same = ap (accepts F) (type_of_a_set f F T A w ok) in
    let means = (acceptance-is_meaning f F T (assign 0 A (unmarked (size T)))).1 ok in
    ((λ h. means.0 (sym same ∙ h)), (λ h. same ∙ means.1 h))

-- ---- the line of an answer

least_is : (f : Field) (F : Formula) (T : Tree) (A : List Bool) → WellSorted (λ k. false) F → IsValid f (shape T) →
    IsFirst (weights T) (size (shape T)) (λ X. accepts F (joined f F (lettered (shape T) (assign 0 X (unmarked (size (shape T)))))) ≡ true) A →
    least f F (shape T) (weights T) ≡ Some A
least_is f F T A w ok first =
    ((least-set_meant f (shape T) ok F (weights T)).0 A).1
    (first-same (weights T) (size (shape T)) (λ X. accepts F (joined f F (lettered (shape T) (assign 0 X (unmarked (size (shape T)))))) ≡ true)
    (Satisfies f F (shape T)) (λ X. accepted_satisfies f F (shape T) X w ok) A first)

none_is : (f : Field) (F : Formula) (T : Tree) → WellSorted (λ k. false) F → IsValid f (shape T) →
    ((A : List Bool) → length A ≡ size (shape T) → accepts F (joined f F (lettered (shape T) (assign 0 A (unmarked (size (shape T)))))) ≡ false) →
    least f F (shape T) (weights T) ≡ None
none_is f F T w ok never =
    (least-set_meant f (shape T) ok F (weights T)).1.1 (λ A l h.
    let e : false ≡ true = sym (never A l) ∙ (accepted_satisfies f F (shape T) A w ok).1 h in absurd (cc))

least_text : (T : Tree) (o : Option (List Bool)) (A : List Bool) (w : ℤ) (names : List (List ℕ)) → o ≡ Some A → w ≡ weight (weights T) A →
    names ≡ items_where_true A (element_names T) → codes "least " ++ signed_decimal w ++ flat_map (λ name. codes " " ++ name) names ≡ least_line T o
least_text T o A w names some weighs named =
    ap₂ (λ (v : ℤ) (ns : List (List ℕ)). codes "least " ++ signed_decimal v ++ flat_map (λ name. codes " " ++ name) ns) weighs named
    ∙ ap (least_line T) (sym some)

pub answer_is : (f : Field) (Q : Query) (T : Tree) (a : Answer) → WellSorted (λ k. false) (asked Q) → IsValid f (shape T) → IsAnswer Q f T a →
    answer_text a ≡ answer_line f Q T
unfolding answer_line
answer_is f (Decide F) T answer.Yes w ok h = ap truth_line (sym h ∙ truth_is f F (shape T) w ok)
answer_is f (Decide F) T answer.No w ok h = ap truth_line (sym h ∙ truth_is f F (shape T) w ok)
answer_is f (Decide F) T (answer.Least b) w ok h = absurd h
answer_is f (Decide F) T answer.Nothing w ok h = absurd h
answer_is f (Least F) T answer.Yes w ok h = absurd h
answer_is f (Least F) T answer.No w ok h = absurd h
answer_is f (Least F) T (answer.Least b) w ok h =
    least_text T (least f F (shape T) (weights T)) h.set b.weight b.names (least_is f F T h.set w ok h.first) h.weighs h.named
answer_is f (Least F) T answer.Nothing w ok h = ap (least_line T) (sym (none_is f F T w ok h))

pub answered_is : (e : Editor) (a : Answer) → IsEditor e → IsAnswer e.session.query e.session.tree.f e.session.tree.tree a → Says (answer_text a) ≡ answered (session_of e)
answered_is e a editor h =
    let at : IsAnswer e.session.query e.field e.session.tree.tree a =
    subst (λ (f : Field). IsAnswer e.session.query f e.session.tree.tree a) editor.field h in
    ap Says (answer_is e.field e.session.query e.session.tree.tree a editor.sorted editor.tree.valid_shape at)
