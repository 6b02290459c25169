-- The laws of values: which values the rules give, and that they give the types at every node.
use Rattle.std.specs.Prelude.{◌≡◌, ℕ, true, false, List, [], ◌∷◌, length, map, flat_map, sum_by}
use Rattle.mm_field.specs.declared.Field.{Field}
use Rattle.mm_logic.specs.Formula.{Formula}
use Rattle.mm_logic.specs.Value.{Value}
use Rattle.mm_logic.specs.Marks.{Marks, mark, no_marks}
use Rattle.mm_logic.specs.Operator.{Op}
use Rattle.mm_logic.specs.Tree.{Tree, boundary, IsValid, subtrees}
use Rattle.mm_logic.specs.Tree.Tree.{Elem, Void, Join}
use Rattle.mm_logic.specs.Meaning.{WellSorted}
use Rattle.mm_logic.specs.Types.{type_of}
use Rattle.mm_logic.specs.LeafRule.{elem_type, void_type}
use Rattle.mm_logic.specs.JoinRule.{join_type, all_pairs}
use Rattle.mm_logic.specs.PossibleValues.{IsValueOf}
use Rattle.mm_logic.specs.StateSize.{Query, asked, types_at, types, rows}
use Rattle.mm_logic.specs.Occurrence.{distinct}
use Rattle.mm_logic.specs.StateSize.Query.{Decide, Least}

-- The leaf rule gives values whose spaces are of the leaf's boundary, and the join rule makes of such values of the children one
-- whose spaces are of the boundary of the join.
abbrev pub RulesKeepValues : Type 0
RulesKeepValues =
    (f : Field) (F : Formula)
    → ((vec : List ℕ) (m : Marks) → IsValueOf f (length vec) F (elem_type f F vec m))
    × ((t : ℕ) → IsValueOf f t F (void_type f F t))
    × ((op : Op) (v w : Value) → IsValueOf f op.t1 F v → IsValueOf f op.t2 F w → IsValueOf f op.t3 F (join_type f F op v w))

-- The type of a formula at a tree is a value whose spaces are of the tree's boundary.
abbrev pub TypesAreValues : Type 0
TypesAreValues = (f : Field) (F : Formula) (T : Tree) (ms : List Marks) → IsValueOf f (boundary T) F (type_of f F T ms)

-- The marks of an element in the assignments that a query asks for: none where the formula is decided; outside the sought set and in
-- it where a least set is sought.
abbrev pub asked_marks : Query → List Marks
asked_marks (Decide F) = no_marks ∷ []
asked_marks (Least F) = mark 0 false no_marks ∷ mark 0 true no_marks ∷ []

-- The types that the rules give at a node: at a leaf by the leaf rule for each asked mark, and at a join by the join rule for each type
-- of the left child with each type of the right child.
abbrev pub types_by_rules : Field → Query → Tree → List Value
types_by_rules f Q (Elem vec) = map (elem_type f (asked Q) vec) (asked_marks Q)
types_by_rules f Q (Void t) = void_type f (asked Q) t ∷ []
types_by_rules f Q (Join op l r) = all_pairs (join_type f (asked Q) op) (types_by_rules f Q l) (types_by_rules f Q r)

-- At every node of a valid tree the types that a query asks for are those that the rules give; so are the rows.
abbrev pub TypesAreGivenByRules : Type 0
TypesAreGivenByRules =
    (f : Field) (Q : Query) → WellSorted (λ k. false) (asked Q) → (T : Tree) → IsValid f T
    → (types_at f Q T ≡ types_by_rules f Q T)
    × (types f Q T ≡ flat_map (types_by_rules f Q) (subtrees T))
    × (rows f Q T ≡ sum_by (λ N. length (distinct (types_by_rules f Q N))) (subtrees T))
