-- The trees that are read are valid.
use Rattle.std.proofs.Common.{ℕ, ◌<◌, ◌≤◌, ◌≡◌, max, Bool, true, false, not, ◌==◌, nat_abs, Option, Some, None, List, [], ◌∷◌, ◌++◌, length, refl, sym, ap, subst, ◌∙◌, arith, length-append, append_assoc}
use Rattle.std.specs.Prelude.{codes, nat_le, nat_lt, IfOk, if◌then◌else◌}
use Rattle.std.specs.List.{AllByRecursion, IsDistinct}
use Rattle.std.specs.Str.{bytes_eq}
use Rattle.std.proofs.lemmas.Bool.{leb-true, leb-false, eqb-true}
use Rattle.std.proofs.lemmas.List.Elements.{All-nil, All-cons, All-append}
use Rattle.std.proofs.lemmas.Option.{same_Some, none-some}
use Rattle.mm_base.specs.Names.{is_name}
use Rattle.mm_field.specs.declared.Field.{Field}
use Rattle.mm_field.specs.Vectors.{AreDigits}
use Rattle.mm_lines.specs.Numbers.{u32_of, i64_of}
use Rattle.mm_lines.specs.declared.line.Line.{Line}
use Rattle.mm_logic.specs.Operator.{Op, IsValidOp}
use Rattle.mm_ops.specs.OpValue.{OpValue}
use Rattle.mm_ops.specs.Tables.{OperatorList, op_named}
use Rattle.mm_tree.proofs.NameLemmas.{distinct_right}
use Rattle.mm_tree.proofs.TreeLemmas.{shape_boundary, join_names}
use Rattle.mm_tree.proofs.BuilderLemmas.{alone, distinct_push, one_name}
use Rattle.mm_tree.specs.Building.{names_in, leaf_fault, named_fault, joined_by}
use Rattle.mm_tree.specs.NamedTree.{Tree, shape, boundary, depth, leaf_names, node_names, weights, is_one_of}
use Rattle.mm_tree.specs.NamedTree.Tree.{Elem, Void, Join}
use Rattle.mm_tree.specs.ValidTree.{IsValidTree, most_leaves, most_depth, most_weight}
use Rattle.mm_tree.specs.declared.builder.BuildFault.TheVariants as fault
use Rattle.mm_job_text.specs.Arguments.{args, begins, is_word, one_of, two_of, three_of}
use Rattle.mm_space.specs.DigitTexts.{vector_of}
use Rattle.mm_job_text.specs.Readers.{each, line}
use Rattle.mm_job_text.specs.TreeLines.{tree_refusal, with_leaf, most_boundary, elem_fields, elem_line, void_fields, void_line, join_fields, join_line, is_tree_part, tree_part, the_one, end_line, tree_lines}
use Rattle.mm_job_text.specs.declared.refusal.Limit.TheVariants as limit
use Rattle.mm_job_text.specs.declared.refusal.Refusal.TheVariants as refusal
use Rattle.mm_job_text.specs.declared.tree_lines.ElementLine.{ElementLine}
use Rattle.mm_job_text.specs.declared.tree_lines.VoidLine.{VoidLine}
use Rattle.mm_job_laws.specs.HeaderLaws.{AreValidOps}
use Rattle.mm_job_laws.proofs.OperatorLemmas.{named_is_valid}
use Rattle.mm_job_text.proofs.ReadingLemmas.{IfRead, if_require, if_found, if_unless, if_ok, each_has, line_has, then_has}
use Rattle.mm_space.proofs.DigitTextLemmas.{text_of_vector}

-- ---- the trees that are not joined yet

-- Each is valid, the names of all their leaves are different, and there are at most as many as a tree may have.
record AreGrown (f : Field) (trees : List Tree) : Type 0 where
  pub valid : AllByRecursion (λ tree. IsValidTree f tree) trees
  pub different : IsDistinct bytes_eq (names_in trees)
  pub few : length (names_in trees) ≤ most_leaves

none_grown : (f : Field) → AreGrown f []
unfolding IsDistinct
none_grown f = record { valid = tt; different = tt; few = omega arith }

-- a leaf that is not refused has a new name, and there is room
free_leaf : (n : ℕ) (name : List ℕ) (taken full : Bool)
    → tree_refusal n (if taken then Some (fault.NameTaken name) else (if full then Some fault.TooManyLeaves else None)) ≡ None → (taken ≡ false) × (full ≡ false)
free_leaf n name true full h = absurd (none-some (refusal.Taken name) (sym h))
free_leaf n name false true h = absurd (none-some (refusal.Over limit.Leaves n) (sym h))
free_leaf n name false false h = (refl, refl)

leaf_grown : (most : ℕ) (f : Field) (n : ℕ) (trees : List Tree) (name : List ℕ) (leaf : Tree) → leaf_names leaf ≡ name ∷ [] → IsValidTree f leaf → AreGrown f trees →
    IfOk (with_leaf most n trees name leaf) (λ more. AreGrown f more)
leaf_grown most f n trees name leaf e v h =
    if_unless (λ more. AreGrown f more) (tree_refusal n (leaf_fault name trees)) _ (λ none.
    if_require (λ more. AreGrown f more) (nat_lt (length (names_in trees)) most) (refusal.Over limit.Leaves n) _ (λ room.
    let free = free_leaf n name (is_one_of name (names_in trees)) (nat_le most_leaves (length (names_in trees))) none in
    let all : names_in trees ++ name ∷ [] ≡ names_in (leaf ∷ trees) = ap (λ ns. names_in trees ++ ns) (sym e) in
    let l : length (names_in trees) < most_leaves = leb-false _ _ free.1 in
    let one : length (names_in trees ++ name ∷ []) ≤ most_leaves = omega (arith, length-append (names_in trees) (name ∷ [])) in
    record {
      valid = (v, h.valid);
      different = subst (λ ns. IsDistinct bytes_eq ns) all (distinct_push (names_in trees) name h.different free.0);
      few = subst (λ ns. length ns ≤ most_leaves) all one;
    }))

-- ---- leaves

record IsElement (f : Field) (w : ElementLine) : Type 0 where
  pub formed : is_name w.name ≡ true
  pub digits : AreDigits f w.vec
  pub short : length w.vec ≤ 6
  pub light : nat_abs w.weight ≤ most_weight

element_words : (f : Field) (r : Line) → IfOk (elem_fields f r) (λ w. IsElement f w)
unfolding elem_fields
element_words f r =
    let P : ElementLine → Type 0 = λ w. IsElement f w in
    if_found P (three_of (args r)) (refusal.Syntax r.number) _ (λ t three.
    if_require P (is_name t.0) (refusal.Syntax r.number) _ (λ formed.
    if_found P (vector_of f t.1) (refusal.Syntax r.number) _ (λ vec digits.
    if_found P (i64_of t.2) (refusal.Syntax r.number) _ (λ weight number.
    if_require P (nat_le (length vec) most_boundary) (refusal.Over limit.Boundary r.number) _ (λ short.
    if_require P (nat_le (nat_abs weight) most_weight) (refusal.Over limit.Weight r.number) _ (λ light.
    record { formed = formed; digits = (text_of_vector f t.1 vec digits).digits; short = leb-true _ _ short; light = leb-true _ _ light }))))))

valid_element : (f : Field) (w : ElementLine) → IsElement f w → IsValidTree f (Elem w.name w.vec w.weight)
unfolding shape node_names leaf_names depth weights
valid_element f w h = record {
  valid_shape = (h.digits, h.short);
  formed = one_name w.name h.formed;
  different = alone w.name;
  few = omega arith;
  shallow = omega arith;
  light = All-cons (λ w. nat_abs w ≤ most_weight) w.weight [] h.light (All-nil (λ w. nat_abs w ≤ most_weight));
}

element_grown : (most : ℕ) (f : Field) (trees : List Tree) (r : Line) → AreGrown f trees → IfOk (elem_line most f trees r) (λ more. AreGrown f more)
unfolding elem_line leaf_names
element_grown most f trees r h =
    if_ok (λ w. IsElement f w) (λ more. AreGrown f more) (elem_fields f r) _ (element_words f r) (λ w e.
    leaf_grown most f r.number trees w.name (Elem w.name w.vec w.weight) refl (valid_element f w e) h)

record IsVoid (w : VoidLine) : Type 0 where
  pub formed : is_name w.name ≡ true
  pub short : w.t ≤ 6

words_of_void : (r : Line) → IfOk (void_fields r) (λ w. IsVoid w)
unfolding void_fields
words_of_void r =
    let P : VoidLine → Type 0 = λ w. IsVoid w in
    if_found P (two_of (args r)) (refusal.Syntax r.number) _ (λ t two.
    if_require P (is_name t.0) (refusal.Syntax r.number) _ (λ formed.
    if_found P (u32_of t.1) (refusal.Syntax r.number) _ (λ b number.
    if_require P (nat_le b most_boundary) (refusal.Over limit.Boundary r.number) _ (λ short.
    record { formed = formed; short = leb-true _ _ short }))))

valid_void : (f : Field) (w : VoidLine) → IsVoid w → IsValidTree f (Void w.name w.t)
unfolding shape node_names leaf_names depth weights
valid_void f w h = record {
  valid_shape = h.short;
  formed = one_name w.name h.formed;
  different = alone w.name;
  few = omega arith;
  shallow = omega arith;
  light = All-nil (λ w. nat_abs w ≤ most_weight);
}

void_grown : (most : ℕ) (f : Field) (trees : List Tree) (r : Line) → AreGrown f trees → IfOk (void_line most trees r) (λ more. AreGrown f more)
unfolding void_line leaf_names
void_grown most f trees r h =
    if_ok (λ w. IsVoid w) (λ more. AreGrown f more) (void_fields r) _ (words_of_void r) (λ w e.
    leaf_grown most f r.number trees w.name (Void w.name w.t) refl (valid_void f w e) h)

-- ---- joins

record IsJoin (f : Field) (name : List ℕ) (op : Op) (left right : Tree) : Type 0 where
  pub formed : is_name name ≡ true
  pub valid : IsValidOp f op
  pub first : op.t1 ≡ boundary left
  pub second : op.t2 ≡ boundary right
  pub shallow : depth (Join name op left right) ≤ most_depth

valid_join : (f : Field) (name : List ℕ) (op : Op) (left right : Tree) (names : List (List ℕ)) → IsJoin f name op left right → IsValidTree f left →
    IsValidTree f right → IsDistinct bytes_eq (names ++ (leaf_names left ++ leaf_names right)) →
    length (names ++ (leaf_names left ++ leaf_names right)) ≤ most_leaves → IsValidTree f (Join name op left right)
unfolding shape leaf_names weights
valid_join f name op left right names j l r d few = record {
  valid_shape = (
    j.valid,
    shape_boundary left ∙ sym j.first,
    shape_boundary right ∙ sym j.second,
    l.valid_shape,
    r.valid_shape,
  );
  formed = join_names name op left right j.formed l.formed r.formed;
  different = distinct_right names (leaf_names left ++ leaf_names right) d;
  few = (let e = length-append names (leaf_names left ++ leaf_names right) in omega arith);
  shallow = j.shallow;
  light = All-append (λ w. nat_abs w ≤ most_weight) (weights left) (weights right) l.light r.light;
}

trees_joined : (f : Field) (name : List ℕ) (op : Op) (left right : Tree) (trees : List Tree) → IsJoin f name op left right →
    AreGrown f (right ∷ left ∷ trees) → AreGrown f (Join name op left right ∷ trees)
unfolding leaf_names
trees_joined f name op left right trees j h =
    let same = append_assoc (names_in trees) (leaf_names left) (leaf_names right) in
    let d = subst (λ ns. IsDistinct bytes_eq ns) same h.different in
    let few = subst (λ ns. length ns ≤ most_leaves) same h.few in
    record {
      valid = (valid_join f name op left right (names_in trees) j h.valid.1.0 h.valid.0 d few, h.valid.1.1);
      different = d;
      few = few;
    }

-- a join that is not refused fits its children
fits_pair : (n a b c d : ℕ) (first second deep : Bool)
    → tree_refusal n (if not first then Some (fault.Boundary a b) else (if not second then Some (fault.Boundary c d) else (if deep then Some fault.TooDeep else None))) ≡ None
    → (first ≡ true) × (second ≡ true) × (deep ≡ false)
fits_pair n a b c d false second deep h = absurd (none-some (refusal.Boundary a b) (sym h))
fits_pair n a b c d true false deep h = absurd (none-some (refusal.Boundary c d) (sym h))
fits_pair n a b c d true true true h = absurd (none-some (refusal.Over limit.Depth n) (sym h))
fits_pair n a b c d true true false h = (refl, refl, refl)

shallow_join : (name : List ℕ) (op : Op) (left right : Tree) → nat_le most_depth (max (depth left) (depth right)) ≡ false → depth (Join name op left right) ≤ most_depth
unfolding depth
shallow_join name op left right h = omega (arith, leb-false most_depth (max (depth left) (depth right)) h)

joined_grown : (f : Field) (n : ℕ) (name : List ℕ) (o : Option OpValue) (trees : List Tree) → is_name name ≡ true → ((op : OpValue) → o ≡ Some op → IsValidOp f op.op)
    → tree_refusal n (named_fault name o trees) ≡ None → AreGrown f trees → AreGrown f (joined_by name o trees)
joined_grown f n name None trees formed valid none h = absurd (none-some (refusal.Unknown name) (sym none))
joined_grown f n name (Some op) [] formed valid none h = absurd (none-some (refusal.Trees n) (sym none))
joined_grown f n name (Some op) (tree ∷ []) formed valid none h = absurd (none-some (refusal.Trees n) (sym none))
joined_grown f n name (Some op) (right ∷ left ∷ trees) formed valid none h =
    let fits = fits_pair n op.op.t1 (boundary left) op.op.t2 (boundary right) (boundary left == op.op.t1) (boundary right == op.op.t2)
    (nat_le most_depth (max (depth left) (depth right))) none in
    trees_joined f name op.op left right trees
    (record {
      formed = formed;
      valid = valid op refl;
      first = sym (eqb-true _ _ fits.0);
      second = sym (eqb-true _ _ fits.1);
      shallow = shallow_join name op.op left right fits.2;
    }) h

name_of_join : (r : Line) → IfOk (join_fields r) (λ name. is_name name ≡ true)
unfolding join_fields
name_of_join r =
    if_found (λ name. is_name name ≡ true) (one_of (args r)) (refusal.Syntax r.number) _ (λ name one.
    if_require (λ name. is_name name ≡ true) (is_name name) (refusal.Syntax r.number) _ (λ formed. formed))

join_grown : (f : Field) (ops : OperatorList) (trees : List Tree) (r : Line) → AreValidOps f ops → AreGrown f trees →
    IfOk (join_line ops trees r) (λ more. AreGrown f more)
unfolding join_line
join_grown f ops trees r valid h =
    let P : List Tree → Type 0 = λ more. AreGrown f more in
    if_ok (λ name. is_name name ≡ true) P (join_fields r) _ (name_of_join r) (λ name formed.
    if_unless P (tree_refusal r.number (named_fault name (op_named name ops) trees)) _ (λ none.
    joined_grown f r.number name (op_named name ops) trees formed (λ op some. named_is_valid f name ops op valid some) none h))

-- ---- all lines of a tree

part_grown : (most : ℕ) (f : Field) (ops : OperatorList) (trees : List Tree) (r : Line) → AreValidOps f ops → AreGrown f trees →
    IfOk (tree_part most f ops trees r) (λ more. AreGrown f more)
part_grown most f ops trees r valid h = go (begins (codes "elem") r) (begins (codes "void") r)
  where
    go : (elem void : Bool) → IfOk (if elem then elem_line most f trees r else if void then void_line most trees r else join_line ops trees r) (λ more. AreGrown f more)
    go true void = element_grown most f trees r h
    go false true = void_grown most f trees r h
    go false false = join_grown f ops trees r valid h

one_valid : (f : Field) (all : List Tree) (tree : Tree) → AreGrown f all → the_one all ≡ Some tree → IsValidTree f tree
one_valid f [] tree h e = cc
one_valid f (t ∷ []) tree h e = subst (λ (u : Tree). IsValidTree f u) (same_Some t tree e) h.valid.0
one_valid f (t ∷ u ∷ ts) tree h e = cc

end_valid : (f : Field) (all : List Tree) (r : Line) → AreGrown f all → IfOk (end_line all r) (λ (read : Tree × ℕ). IsValidTree f read.0)
unfolding end_line
end_valid f all r h =
    if_require (λ (read : Tree × ℕ). IsValidTree f read.0) (is_word (codes "end") r) (refusal.Syntax r.number) _ (λ word.
    if_found (λ (read : Tree × ℕ). IsValidTree f read.0) (the_one all) (refusal.Trees r.number) _ (λ tree one. one_valid f all tree h one))

pub tree_is_valid : (most : ℕ) (f : Field) (ops : OperatorList) (rs : List Line) → AreValidOps f ops →
    IfRead (λ (read : Tree × ℕ). IsValidTree f read.0) (tree_lines most f ops [] rs)
unfolding tree_lines
tree_is_valid most f ops rs valid =
    then_has (λ more. AreGrown f more) (λ (read : Tree × ℕ). IsValidTree f read.0) (each is_tree_part (tree_part most f ops) [] rs) (λ all. line (end_line all))
    (each_has (λ more. AreGrown f more) is_tree_part (tree_part most f ops) (λ trees r h. part_grown most f ops trees r valid h) [] rs (none_grown f))
    (λ all rest h. line_has (λ (read : Tree × ℕ). IsValidTree f read.0) (end_line all) (λ r. end_valid f all r h) rest)
