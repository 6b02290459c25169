-- What queries and answers mean to a job, in the words of the crates below it.
use Rattle.std.specs.Prelude.{ℕ, Bool, List, ◌++◌, codes, flat_map, Option, Some, None, if◌then◌else◌}
use Rattle.std.specs.List.{items_where_true}
use Rattle.std.specs.Fmt.{signed_decimal}
use Rattle.mm_field.specs.declared.Field.{Field}
use Rattle.mm_logic.specs.Least.{least, weight}
use Rattle.mm_logic.specs.Marks.{unmarked}
use Rattle.mm_logic.specs.Meaning.{holds}
use Rattle.mm_logic.specs.StateSize.{Query}
use Rattle.mm_logic.specs.StateSize.Query.{Decide, Least}
use Rattle.mm_logic.specs.Tree.{size}
use Rattle.mm_tree.specs.NamedTree.{Tree, shape, element_names, weights}

-- A least set: its weight, and the names of its members in leaf order.
abbrev pub least_line : Tree → Option (List Bool) → List ℕ
least_line tree None = codes "none"
least_line tree (Some A) =
    codes "least " ++ signed_decimal (weight (weights tree) A) ++ flat_map (λ name. codes " " ++ name) (items_where_true A (element_names tree))

abbrev pub truth_line : Bool → List ℕ
truth_line b = if b then codes "true" else codes "false"

-- The line of the answer for a tree: whether the formula holds on its matrix, or the least set that satisfies it.
unfoldable pub answer_line : Field → Query → Tree → List ℕ
answer_line f (Decide F) tree = truth_line (holds f F (shape tree) (unmarked (size (shape tree))))
answer_line f (Least F) tree = least_line tree (least f F (shape tree) (weights tree))
