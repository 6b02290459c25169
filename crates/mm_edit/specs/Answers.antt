-- What a session answers.
use Rattle.std.specs.Prelude.{◌≡◌, true, false, Some, None}
use Rattle.mm_field.specs.declared.Field.{Field}
use Rattle.mm_logic.specs.Formula.{Formula}
use Rattle.mm_logic.specs.Value.{Value}
use Rattle.mm_logic.specs.Marks.{unmarked}
use Rattle.mm_logic.specs.Tree.{size}
use Rattle.mm_logic.specs.JoinRule.{joined, lettered}
use Rattle.mm_logic.specs.Acceptance.{accepts}
use Rattle.mm_logic.specs.StateSize.{Query}
use Rattle.mm_logic.specs.StateSize.Query.{Decide, Least}
use Rattle.mm_tree.specs.NamedTree.{Tree, shape}
use Rattle.mm_least.specs.LeastSets.{IsBest}
use Rattle.mm_edit.specs.declared.answer.Answer.{Answer}
use Rattle.mm_edit.specs.declared.answer.Answer.TheVariants.{Yes, No, Least as LeastSet, Nothing}

-- the type of a formula at a tree without marks, joined from the leaves upwards
abbrev pub decided_type : Field → Formula → Tree → Value
decided_type f F T = joined f F (lettered (shape T) (unmarked (size (shape T))))

-- The answer for a tree: whether the type of the tree is accepted; or the least of the sets whose type is accepted, or that there is none.
abbrev pub IsAnswer : Query → Field → Tree → Answer → Type 0
IsAnswer (Decide F) f T Yes = accepts F (decided_type f F T) ≡ true
IsAnswer (Decide F) f T No = accepts F (decided_type f F T) ≡ false
IsAnswer (Least F) f T (LeastSet best) = IsBest f F T (Some best)
IsAnswer (Least F) f T Nothing = IsBest f F T None
IsAnswer _ _ _ _ = ⊥
