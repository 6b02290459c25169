-- The parse tree that is built for given columns and a decomposition.
use Rattle.std.specs.Prelude.{ℕ, ◌+◌, ◌-◌, ◌==◌, List, [], ◌∷◌, ◌++◌, map, length, codes, if◌then◌else◌}
use Rattle.std.specs.Fmt.{decimal}
use Rattle.std.specs.List.{range_with_len}
use Rattle.mm_field.specs.declared.Field.{Field}
use Rattle.mm_linear.specs.Coordinates.{unit, coordinates}
use Rattle.mm_logic.specs.Operator.{Op}
use Rattle.mm_tree.specs.NamedTree.{Tree}
use Rattle.mm_tree.specs.NamedTree as named
use Rattle.mm_decomp.specs.Meets.{extended}
use Rattle.mm_decomp.specs.Shapes.{Shape, names, joins}
use Rattle.mm_decomp.specs.Shapes.Shape.{Leaf, Join}
use Rattle.mm_decomp.specs.Spaces.{Given, column_of, space}

-- The first digit other than 0, alone; no digit where all are 0.
abbrev pub first_digit : List ℕ → List ℕ
first_digit [] = []
first_digit (d ∷ ds) = if d == 0 then first_digit ds else d ∷ []

-- The operator of a join, from the bases of its space and of those of its children: both children's basis vectors by their
-- coordinates in a list that begins with the basis of the join.
abbrev pub operator_in : Field → ℕ → (list basis first second : List (List ℕ)) → Op
operator_in f n list basis first second = record {
  t1 = length first;
  t2 = length second;
  t3 = length basis;
  c = length list - length basis;
  g1 = map (coordinates f n list) first;
  g2 = map (coordinates f n list) second;
  g3 = map (unit (length basis + (length list - length basis))) (range_with_len 0 (length basis));
}

-- The list has the basis of the join, and then each vector of the children's bases that is not in the span of those before it.
abbrev pub built_operator : Field → ℕ → (basis first second : List (List ℕ)) → Op
built_operator f n basis first second = operator_in f n (extended f n basis (first ++ second)) basis first second

-- `j1`, `j2`, .. for the joins in the order of the steps.
abbrev pub join_name : ℕ → List ℕ
join_name i = codes "j" ++ decimal i

-- The tree of a shape before whose steps there are k joins.
unfoldable pub built : Given → ℕ → List (List ℕ) → Shape → Tree
built given k outside (Leaf name weight) = named.Tree.Elem name (first_digit (column_of given name)) weight
built given k outside (Join left right) =
    named.Tree.Join (join_name (k + joins left + joins right + 1))
    (built_operator given.f (length given.rows) (space given outside (Join left right)) (space given (outside ++ names right) left)
    (space given (outside ++ names left) right))
    (built given k (outside ++ names right) left)
    (built given (k + joins left) (outside ++ names left) right)
