-- The operators of a tree that was read are those under their names.
use Rattle.std.proofs.Common.{◌≡◌, ℕ, Bool, true, false, List, [], ◌∷◌, Option, Some, None, refl, sym, ap, ◌∙◌, subst}
use Rattle.std.specs.Prelude.{nat_lt, codes, length, IfOk, Ok, Err, if◌then◌else◌}
use Rattle.std.proofs.lemmas.Option.{same_Some, none-some}
use Rattle.std.specs.declared.result.Result.{Result}
use Rattle.std.specs.List.{AllByRecursion}
use Rattle.mm_field.specs.declared.Field.{Field}
use Rattle.mm_lines.specs.declared.line.Line.{Line}
use Rattle.mm_ops.specs.OpValue.{OpValue}
use Rattle.mm_ops.specs.Tables.{OperatorList, op_named}
use Rattle.mm_tree.specs.Building.{AreOver, names_in, leaf_fault, named_fault, joined_by}
use Rattle.mm_tree.proofs.BuilderLemmas.{over_named}
use Rattle.mm_tree.specs.NamedTree.{Tree}
use Rattle.mm_tree.specs.NamedTree.Tree.{Elem, Void}
use Rattle.mm_job_text.specs.Arguments.{begins, is_word}
use Rattle.mm_job_text.specs.Checks.{◌>>=◌}
use Rattle.mm_job_text.specs.Readers.{Reading, Read, line, each}
use Rattle.mm_job_text.specs.TreeLines.{tree_refusal, with_leaf, elem_fields, elem_line, void_fields, void_line, join_fields, join_line, is_tree_part, tree_part, the_one, end_line, tree_lines}
use Rattle.mm_job_text.specs.WrittenTrees.{HoldsJoins}
use Rattle.mm_job_text.specs.declared.refusal.Limit.TheVariants as limit
use Rattle.mm_job_text.specs.declared.refusal.Refusal.{Refusal}
use Rattle.mm_job_text.specs.declared.refusal.Refusal.TheVariants as refusal
use Rattle.mm_job_text.proofs.ReadingLemmas.{IfRead, if_require, if_found, if_unless, each_has, line_has, then_has}

-- ---- each line leaves trees whose operators are those under their names

abbrev AreHeld : Field → OperatorList → List Tree → Type 0
AreHeld f ops trees = AllByRecursion (HoldsJoins f ops) trees

if_next : {A B : Type 0} (P : B → Type 0) (r : Result A Refusal) (k : A → Result B Refusal) → ((x : A) → IfOk (k x) P) → IfOk (r >>= k) P
if_next P (Ok x) k h = h x
if_next P (Err e) k h = tt

leaf_held : (most : ℕ) (f : Field) (ops : OperatorList) (n : ℕ) (trees : List Tree) (name : List ℕ) (leaf : Tree) → AreHeld f ops trees → HoldsJoins f ops leaf
    → IfOk (with_leaf most n trees name leaf) (AreHeld f ops)
leaf_held most f ops n trees name leaf held h =
    if_unless (AreHeld f ops) (tree_refusal n (leaf_fault name trees)) _ (λ fits.
    if_require (AreHeld f ops) (nat_lt (length (names_in trees)) most) (refusal.Over limit.Leaves n) _ (λ room. (h, held)))

elem_held : (most : ℕ) (f : Field) (ops : OperatorList) (trees : List Tree) (r : Line) → AreHeld f ops trees → IfOk (elem_line most f trees r) (AreHeld f ops)
unfolding elem_line HoldsJoins
elem_held most f ops trees r held =
    if_next (AreHeld f ops) (elem_fields f r) _ (λ w. leaf_held most f ops r.number trees w.name (Elem w.name w.vec w.weight) held tt)

void_held : (most : ℕ) (f : Field) (ops : OperatorList) (trees : List Tree) (r : Line) → AreHeld f ops trees → IfOk (void_line most trees r) (AreHeld f ops)
unfolding void_line HoldsJoins
void_held most f ops trees r held = if_next (AreHeld f ops) (void_fields r) _ (λ w. leaf_held most f ops r.number trees w.name (Void w.name w.t) held tt)

op_held : (f : Field) (name : List ℕ) (ops : OperatorList) (op : OpValue) → AreOver f ops → op_named name ops ≡ Some op → op_named name ops ≡ Some (record { f = f; op = op.op })
op_held f name ops op over h = h ∙ ap (λ (g : Field). Some (let o : OpValue = record { f = g; op = op.op } in o)) (over_named f name ops op over h)

-- a join that is not refused has its operator and two trees
joined_held : (f : Field) (ops : OperatorList) (n : ℕ) (name : List ℕ) (o : Option OpValue) (trees : List Tree) → op_named name ops ≡ o → AreOver f ops → AreHeld f ops trees
    → tree_refusal n (named_fault name o trees) ≡ None → AreHeld f ops (joined_by name o trees)
unfolding HoldsJoins
joined_held f ops n name None trees is over held none = absurd (none-some (refusal.Unknown name) (sym none))
joined_held f ops n name (Some op) [] is over held none = absurd (none-some (refusal.Trees n) (sym none))
joined_held f ops n name (Some op) (tree ∷ []) is over held none = absurd (none-some (refusal.Trees n) (sym none))
joined_held f ops n name (Some op) (right ∷ left ∷ trees) is over held none = ((op_held f name ops op over is, held.1.0, held.0), held.1.1)

join_held : (f : Field) (ops : OperatorList) (trees : List Tree) (r : Line) → AreOver f ops → AreHeld f ops trees → IfOk (join_line ops trees r) (AreHeld f ops)
unfolding join_line
join_held f ops trees r over held =
    if_next (AreHeld f ops) (join_fields r) _ (λ name.
    if_unless (AreHeld f ops) (tree_refusal r.number (named_fault name (op_named name ops) trees)) _ (λ none.
    joined_held f ops r.number name (op_named name ops) trees refl over held none))

part_held : (most : ℕ) (f : Field) (ops : OperatorList) (trees : List Tree) (r : Line) → AreOver f ops → AreHeld f ops trees → IfOk (tree_part most f ops trees r) (AreHeld f ops)
part_held most f ops trees r over held = go (begins (codes "elem") r) (begins (codes "void") r)
  where
    go : (elem void : Bool) → IfOk (if elem then elem_line most f trees r else if void then void_line most trees r else join_line ops trees r) (AreHeld f ops)
    go true void = elem_held most f ops trees r held
    go false true = void_held most f ops trees r held
    go false false = join_held f ops trees r over held

-- ---- all lines

one_held : (f : Field) (ops : OperatorList) (all : List Tree) (tree : Tree) → AreHeld f ops all → the_one all ≡ Some tree → HoldsJoins f ops tree
one_held f ops [] tree held h = cc
one_held f ops (t ∷ []) tree held h = subst (λ (u : Tree). HoldsJoins f ops u) (same_Some t tree h) held.0
one_held f ops (t ∷ u ∷ ts) tree held h = cc

end_held : (f : Field) (ops : OperatorList) (all : List Tree) (r : Line) → AreHeld f ops all → IfOk (end_line all r) (λ (read : Tree × ℕ). HoldsJoins f ops read.0)
unfolding end_line
end_held f ops all r held =
    if_require (λ (read : Tree × ℕ). HoldsJoins f ops read.0) (is_word (codes "end") r) (refusal.Syntax r.number) _ (λ word.
    if_found (λ (read : Tree × ℕ). HoldsJoins f ops read.0) (the_one all) (refusal.Trees r.number) _ (λ tree one. one_held f ops all tree held one))

tree_held : (most : ℕ) (f : Field) (ops : OperatorList) (rs : List Line) → AreOver f ops → IfRead (λ (read : Tree × ℕ). HoldsJoins f ops read.0) (tree_lines most f ops [] rs)
unfolding tree_lines
tree_held most f ops rs over =
    then_has (AreHeld f ops) (λ (read : Tree × ℕ). HoldsJoins f ops read.0) (each is_tree_part (tree_part most f ops) [] rs) (λ all. line (end_line all))
    (each_has (AreHeld f ops) is_tree_part (tree_part most f ops) (λ trees r held. part_held most f ops trees r over held) [] rs tt)
    (λ all rest held. line_has (λ (read : Tree × ℕ). HoldsJoins f ops read.0) (end_line all) (λ r. end_held f ops all r held) rest)

pub read_is_held : (most : ℕ) (f : Field) (ops : OperatorList) (rs rest : List Line) (tree : Tree) (n : ℕ) → AreOver f ops → tree_lines most f ops [] rs ≡ Read (tree, n) rest
    → HoldsJoins f ops tree
read_is_held most f ops rs rest tree n over h = subst (λ (reading : Reading (Tree × ℕ)). IfRead (λ (read : Tree × ℕ). HoldsJoins f ops read.0) reading) h (tree_held most f ops rs over)
