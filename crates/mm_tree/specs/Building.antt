-- What a builder of trees holds, and what it refuses.
use Rattle.std.specs.Prelude.{ℕ, ◌≡◌, ◌==◌, max, not, nat_le, List, [], ◌∷◌, ◌++◌, length, Option, Some, None, Ok, Err, if◌then◌else◌}
use Rattle.std.proofs.Common.{refl}
use Rattle.std.specs.Coded.{Coded, code_by, coded×, coded_list}
use Rattle.std.specs.declared.result.Result.{Result}
use Rattle.mm_field.specs.declared.Field.{Field}
use Rattle.mm_ops.specs.OpValue.{OpValue}
use Rattle.mm_ops.specs.Tables.{OperatorList}
use Rattle.mm_tree.specs.NamedTree.{Tree, boundary, leaf_names, depth, is_one_of}
use Rattle.mm_tree.specs.NamedTree.Tree.{Join}
use Rattle.mm_tree.specs.TreeCode.{tree_code}
use Rattle.mm_tree.specs.TreeValue.{field_code}
use Rattle.mm_tree.specs.ValidTree.{most_leaves, most_depth}
use Rattle.mm_tree.specs.declared.builder.BuildFault.{BuildFault}
use Rattle.mm_tree.specs.declared.builder.BuildFault.TheVariants.{UnknownOp, TooFew, Boundary, NameTaken, TooManyLeaves, TooDeep, NoMemory}

-- The field of a builder, and the trees that are not joined yet, the last one first.
pub record BuilderValue : Type 0 where
  pub f : Field
  pub trees : List Tree

abbrev pub builder_code : Coded BuilderValue
builder_code =
    code_by (Field × List Tree) (coded× field_code (coded_list tree_code)) (λ v. (v.f, v.trees)) (λ p. record { f = p.0; trees = p.1 }) (λ _. refl)

-- the names of all leaves
abbrev pub names_in : List Tree → List (List ℕ)
names_in [] = []
names_in (tree ∷ trees) = names_in trees ++ leaf_names tree

-- The operators are over the field.
abbrev pub AreOver : Field → OperatorList → Type 0
AreOver f [] = Unit {0}
AreOver f (entry ∷ entries) = (entry.1.f ≡ f) × AreOver f entries

-- Why a leaf is not taken: its name is there, or 8192 leaves are.
abbrev pub leaf_fault : List ℕ → List Tree → Option BuildFault
leaf_fault name trees =
    if is_one_of name (names_in trees) then Some (NameTaken name) else (if nat_le most_leaves (length (names_in trees)) then Some TooManyLeaves else None)

-- Why an operator does not join two trees, the left one first.
abbrev pub pair_fault : OpValue → (left right : Tree) → Option BuildFault
pair_fault op left right =
    if not (boundary left == op.op.t1) then Some (Boundary op.op.t1 (boundary left)) else (
    if not (boundary right == op.op.t2) then Some (Boundary op.op.t2 (boundary right)) else (
    if nat_le most_depth (max (depth left) (depth right)) then Some TooDeep else None))

-- Why the last two trees are not joined by an operator.
abbrev pub join_fault : OpValue → List Tree → Option BuildFault
join_fault op [] = Some TooFew
join_fault op (tree ∷ []) = Some TooFew
join_fault op (right ∷ left ∷ trees) = pair_fault op left right

-- Why the last two trees are not joined by the operator of a name.
abbrev pub named_fault : List ℕ → Option OpValue → List Tree → Option BuildFault
named_fault name None trees = Some (UnknownOp name)
named_fault name (Some op) trees = join_fault op trees

-- The last two trees joined: the last one is the right child.
abbrev pub joined : List ℕ → OpValue → List Tree → List Tree
joined name op [] = []
joined name op (tree ∷ []) = tree ∷ []
joined name op (right ∷ left ∷ trees) = Join name op.op left right ∷ trees

abbrev pub joined_by : List ℕ → Option OpValue → List Tree → List Tree
joined_by name None trees = trees
joined_by name (Some op) trees = joined name op trees

-- What a call of a builder answers, by its fault; memory may be missing at any time.
abbrev pub Answers : Result (Unit {0}) BuildFault → Option BuildFault → Type 0
Answers (Ok u) fault = fault ≡ None
Answers (Err NoMemory) fault = Unit {0}
Answers (Err e) fault = fault ≡ Some e
