-- How the checker keeps the lines of a tree, its leaves, and its operators by their names.
use Rattle.std.specs.Prelude.{◌≡◌, ℕ, List, [], ◌∷◌, ◌++◌, Option, Some, None, if◌then◌else◌}
use Rattle.std.specs.Str.{bytes_eq}
use Rattle.mm_field.specs.declared.Field.{Field}
use Rattle.mm_logic.specs.Operator.{Op}
use Rattle.mm_ops.specs.OpValue.{OpValue}
use Rattle.mm_ops.specs.Tables.{OperatorList, op_named}
use Rattle.mm_tree.specs.NamedTree.{Tree}
use Rattle.mm_tree.specs.Nodes.{named_leaf}
use Rattle.mm_tree.specs.declared.node.Leaf.{Leaf}
use Rattle.mm_checker.specs.NodeLines.{TreeLine}
use Rattle.mm_checker.specs.NodeLines.TreeLine.{OfLeaf, OfJoin}
use Rattle.mm_checker.specs.KeptPlaces.{IsLeaf}
use Rattle.mm_checker.specs.declared.tree_lines.TreeLine.{TreeLine as KeptLine}
use Rattle.mm_checker.specs.declared.tree_lines.TreeLine.TheVariants as line

-- what is kept of a line: the number of its leaf, or the name of its operator
abbrev pub IsLine : TreeLine → KeptLine → Type 0
IsLine (OfLeaf k leaf) (line.Leaf n) = n ≡ k
IsLine (OfJoin name op) (line.Join n) = n ≡ name
IsLine l k = ⊥

abbrev pub AreLines : List TreeLine → List KeptLine → Type 0
AreLines [] [] = Unit {0}
AreLines (l ∷ ls) (k ∷ ks) = IsLine l k × AreLines ls ks
AreLines ls ks = ⊥

-- Lines are put behind others.
abbrev pub PutsLines : List KeptLine → List TreeLine → List KeptLine → Type 0
PutsLines old ls new = (ks : List KeptLine) × (new ≡ old ++ ks) × AreLines ls ks

-- what is kept of leaves over f
abbrev pub AreLeaves : Field → List Tree → List Leaf → Type 0
AreLeaves f [] [] = Unit {0}
AreLeaves f (T ∷ Ts) (l ∷ ls) = (named_leaf l ≡ T) × (l.field ≡ f) × IsLeaf l × AreLeaves f Ts ls
AreLeaves f Ts ls = ⊥

-- Leaves are put behind others.
abbrev pub PutsLeaves : Field → List Leaf → List Tree → List Leaf → Type 0
PutsLeaves f old Ts new = (ls : List Leaf) × (new ≡ old ++ ls) × AreLeaves f Ts ls

-- an operator over f that is found, where one is
abbrev pub IsFound : Field → Option OpValue → Option Op → Type 0
IsFound f None None = Unit {0}
IsFound f (Some v) (Some op) = (v.f ≡ f) × (v.op ≡ op)
IsFound f v op = ⊥

-- The operators over f are kept under their names.
abbrev pub AreOps : Field → OperatorList → (List ℕ → Option Op) → Type 0
AreOps f ops g = (name : List ℕ) → IsFound f (op_named name ops) (g name)

-- the operator of one name
abbrev pub only_op : List ℕ → Op → List ℕ → Option Op
only_op name op n = if bytes_eq n name then Some op else None
