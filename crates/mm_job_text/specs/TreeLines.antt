-- The lines of a tree. The trees that are not joined yet stand with the last one first.
use Rattle.std.specs.Prelude.{ℕ, nat_abs, Bool, ◌||◌, nat_lt, List, [], ◌∷◌, length, codes, Option, Some, None, Ok, if◌then◌else◌}
use Rattle.std.specs.declared.result.Result.{Result}
use Rattle.mm_base.specs.Names.{is_name}
use Rattle.mm_field.specs.declared.Field.{Field}
use Rattle.mm_lines.specs.Numbers.{u32_of, i64_of}
use Rattle.mm_lines.specs.declared.line.Line.{Line}
use Rattle.mm_ops.specs.Tables.{OperatorList, op_named}
use Rattle.mm_tree.specs.Building.{names_in, leaf_fault, named_fault, joined_by}
use Rattle.mm_tree.specs.NamedTree.{Tree}
use Rattle.mm_tree.specs.NamedTree.Tree.{Elem, Void}
use Rattle.mm_tree.specs.ValidTree.{most_weight}
use Rattle.mm_tree.specs.declared.builder.BuildFault.{BuildFault}
use Rattle.mm_tree.specs.declared.builder.BuildFault.TheVariants as fault
use Rattle.mm_job_text.specs.Arguments.{args, begins, is_word, one_of, two_of, three_of}
use Rattle.mm_job_text.specs.Checks.{◌>>=◌, ◌>>◌, require, found, unless, within}
use Rattle.mm_space.specs.DigitTexts.{vector_of}
use Rattle.mm_job_text.specs.Readers.{Reader, each, line}
use Rattle.mm_job_text.specs.Readers.{◌>>=◌ as ◌>>>=◌}
use Rattle.mm_job_text.specs.declared.tree_lines.ElementLine.{ElementLine}
use Rattle.mm_job_text.specs.declared.tree_lines.VoidLine.{VoidLine}
use Rattle.mm_job_text.specs.declared.refusal.Limit.TheVariants as limit
use Rattle.mm_job_text.specs.declared.refusal.Refusal.{Refusal}
use Rattle.mm_job_text.specs.declared.refusal.Refusal.TheVariants as refusal

-- The refusal of the line with number n, by what is at fault with the leaf or the join that it adds.
abbrev pub tree_refusal : ℕ → Option BuildFault → Option Refusal
tree_refusal n None = None
tree_refusal n (Some (fault.UnknownOp name)) = Some (refusal.Unknown name)
tree_refusal n (Some fault.TooFew) = Some (refusal.Trees n)
tree_refusal n (Some (fault.Boundary want have)) = Some (refusal.Boundary want have)
tree_refusal n (Some (fault.NameTaken name)) = Some (refusal.Taken name)
tree_refusal n (Some fault.TooManyLeaves) = Some (refusal.Over limit.Leaves n)
tree_refusal n (Some fault.TooDeep) = Some (refusal.Over limit.Depth n)
tree_refusal n (Some fault.NoMemory) = None

-- A leaf more, in the line with number n of a text that has at most so many leaves.
abbrev pub with_leaf : (most n : ℕ) → List Tree → List ℕ → Tree → Result (List Tree) Refusal
with_leaf most n trees name leaf = do
  unless (tree_refusal n (leaf_fault name trees))
  require (nat_lt (length (names_in trees)) most) (refusal.Over limit.Leaves n)
  Ok (leaf ∷ trees)

-- The most digits of a leaf's boundary.
abbrev pub most_boundary : ℕ
most_boundary = 6

-- `elem NAME VECTOR WEIGHT`
unfoldable pub elem_fields : Field → Line → Result ElementLine Refusal
elem_fields f r = do
  t ← found (three_of (args r)) (refusal.Syntax r.number)
  require (is_name t.0) (refusal.Syntax r.number)
  vec ← found (vector_of f t.1) (refusal.Syntax r.number)
  weight ← found (i64_of t.2) (refusal.Syntax r.number)
  within (length vec) most_boundary limit.Boundary r.number
  within (nat_abs weight) most_weight limit.Weight r.number
  Ok (record { name = t.0; vec = vec; weight = weight })

unfoldable pub elem_line : ℕ → Field → List Tree → Line → Result (List Tree) Refusal
elem_line most f trees r = do
  w ← elem_fields f r
  with_leaf most r.number trees w.name (Elem w.name w.vec w.weight)

-- `void NAME T`
unfoldable pub void_fields : Line → Result VoidLine Refusal
void_fields r = do
  t ← found (two_of (args r)) (refusal.Syntax r.number)
  require (is_name t.0) (refusal.Syntax r.number)
  b ← found (u32_of t.1) (refusal.Syntax r.number)
  within b most_boundary limit.Boundary r.number
  Ok (record { name = t.0; t = b })

unfoldable pub void_line : ℕ → List Tree → Line → Result (List Tree) Refusal
void_line most trees r = do
  w ← void_fields r
  with_leaf most r.number trees w.name (Void w.name w.t)

-- `join NAME`
unfoldable pub join_fields : Line → Result (List ℕ) Refusal
join_fields r = do
  name ← found (one_of (args r)) (refusal.Syntax r.number)
  require (is_name name) (refusal.Syntax r.number)
  Ok name

-- The last tree becomes the right child, and the one before it the left child.
unfoldable pub join_line : OperatorList → List Tree → Line → Result (List Tree) Refusal
join_line ops trees r = do
  name ← join_fields r
  unless (tree_refusal r.number (named_fault name (op_named name ops) trees))
  Ok (joined_by name (op_named name ops) trees)

-- Whether a line is one of a tree, its `end` apart.
abbrev pub is_tree_part : Line → Bool
is_tree_part r = begins (codes "elem") r || begins (codes "void") r || begins (codes "join") r

-- The trees after one line more of a tree with at most so many leaves.
abbrev pub tree_part : ℕ → Field → OperatorList → List Tree → Line → Result (List Tree) Refusal
tree_part most f ops trees r =
    if begins (codes "elem") r then elem_line most f trees r
    else if begins (codes "void") r then void_line most trees r
    else join_line ops trees r

abbrev pub the_one : List Tree → Option Tree
the_one (t ∷ []) = Some t
the_one trees = None

-- `end` of a tree: the one tree that was given, and the number of this line
unfoldable pub end_line : List Tree → Line → Result (Tree × ℕ) Refusal
end_line trees r = do
  require (is_word (codes "end") r) (refusal.Syntax r.number)
  tree ← found (the_one trees) (refusal.Trees r.number)
  Ok (tree, r.number)

-- The lines of a tree with at most so many leaves up to its `end`, after these trees.
unfoldable pub tree_lines : ℕ → Field → OperatorList → List Tree → Reader (Tree × ℕ)
tree_lines most f ops trees = each is_tree_part (tree_part most f ops) trees >>>= λ all. line (end_line all)
