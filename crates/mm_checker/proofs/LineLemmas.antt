-- The lines, the leaves and the operators of a tree, put behind others.
use Rattle.std.proofs.Common.{◌≡◌, ◌≤◌, ℕ, ◌+◌, Bool, true, false, List, [], ◌∷◌, ◌++◌, length, refl, sym, ap, ap₂, ◌∙◌, subst, Option, Some, None, if◌then◌else◌, append_assoc, length-append}
use Rattle.std.specs.Prelude.{Result, Ok, Err, OnOk}
use Rattle.std.specs.Str.{bytes_eq}
use Rattle.std.specs.Option.{is_some}
use Rattle.mm_base.proofs.NameLemmas.{same_bytes}
use Rattle.mm_field.specs.Vectors.{AreDigits}
use Rattle.mm_field.specs.declared.Field.{Field}
use Rattle.mm_logic.specs.Operator.{Op}
use Rattle.mm_logic.specs.Tree as shapes
use Rattle.mm_ops.specs.OpValue.{OpValue}
use Rattle.mm_ops.specs.Tables.{OperatorList, op_named as kept_op}
use Rattle.mm_tree.specs.NamedTree.{Tree, shape, boundary, leaf_names}
use Rattle.mm_tree.specs.NamedTree.Tree.{Elem, Void, Join}
use Rattle.mm_tree.specs.Nodes.{named_leaf}
use Rattle.mm_tree.specs.declared.node.Item.{Item}
use Rattle.mm_tree.specs.declared.node.Leaf as nodes
use Rattle.mm_checker.specs.Certificates.{op_named, first_op}
use Rattle.mm_checker.specs.NodeLines.{TreeLine, lines_from, leaves}
use Rattle.mm_checker.specs.NodeLines.TreeLine.{OfLeaf}
use Rattle.mm_checker.specs.KeptPlaces.{IsLeaf}
use Rattle.mm_checker.specs.KeptLines.{IsLine, AreLines, PutsLines, AreLeaves, PutsLeaves, IsFound, AreOps, only_op}
use Rattle.mm_checker.specs.declared.tree_lines.TreeLine.{TreeLine as KeptLine}

-- ---- lines

lines_append : (ls ms : List TreeLine) (ks js : List KeptLine) → AreLines ls ks → AreLines ms js → AreLines (ls ++ ms) (ks ++ js)
lines_append [] ms [] js h g = g
lines_append [] ms (k ∷ ks) js h g = absurd h
lines_append (l ∷ ls) ms [] js h g = absurd h
lines_append (l ∷ ls) ms (k ∷ ks) js h g = (h.0, lines_append ls ms ks js h.1 g)

pub put_line : (old : List KeptLine) (k : KeptLine) (l : TreeLine) → IsLine l k → PutsLines old (l ∷ []) (old ++ k ∷ [])
put_line old k l h = (k ∷ [], refl, (h, tt))

pub put_lines : (old mid new : List KeptLine) (ls ms : List TreeLine) → PutsLines old ls mid → PutsLines mid ms new → PutsLines old (ls ++ ms) new
put_lines old mid new ls ms h g = (
  h.0 ++ g.0,
  g.1 ∙ ap (λ xs. xs ++ g.0) h.1 ∙ append_assoc old h.0 g.0,
  lines_append ls ms h.0 g.0 h.2 g.2,
)

pub put_three :
    (old one two new : List KeptLine) (ls ms : List TreeLine) (k : KeptLine) (l : TreeLine) → PutsLines old ls one → PutsLines one ms two
    → IsLine l k → new ≡ two ++ k ∷ [] → PutsLines old (ls ++ (ms ++ l ∷ [])) new
put_three old one two new ls ms k l a b c e =
    put_lines old one new ls (ms ++ l ∷ []) a (put_lines one two new ms (l ∷ []) b (subst (PutsLines two (l ∷ [])) (sym e) (put_line two k l c)))

pub line_of_leaf : (k : ℕ) (l : nodes.Leaf) → lines_from k (named_leaf l) ≡ OfLeaf k (named_leaf l) ∷ []
line_of_leaf k l = go l.item
  where
    go : (item : Option Item) → lines_from k (named_leaf (record l { item = item })) ≡ OfLeaf k (named_leaf (record l { item = item })) ∷ []
    go None = refl
    go (Some item) = refl

pub leaf_of_leaf : (l : nodes.Leaf) → leaves (named_leaf l) ≡ named_leaf l ∷ []
leaf_of_leaf l = go l.item
  where
    go : (item : Option Item) → leaves (named_leaf (record l { item = item })) ≡ named_leaf (record l { item = item }) ∷ []
    go None = refl
    go (Some item) = refl

pub count_leaves : (T : Tree) → length (leaves T) ≡ length (leaf_names T)
unfolding leaf_names
count_leaves (Elem name vec weight) = refl
count_leaves (Void name t) = refl
count_leaves (Join name op l r) =
    length-append (leaves l) (leaves r) ∙ ap₂ (λ n m. n + m) (count_leaves l) (count_leaves r) ∙ sym (length-append (leaf_names l) (leaf_names r))

-- ---- leaves

leaves_append : (f : Field) (Ts Us : List Tree) (ks js : List nodes.Leaf) → AreLeaves f Ts ks → AreLeaves f Us js → AreLeaves f (Ts ++ Us) (ks ++ js)
leaves_append f [] Us [] js h g = g
leaves_append f [] Us (k ∷ ks) js h g = absurd h
leaves_append f (T ∷ Ts) Us [] js h g = absurd h
leaves_append f (T ∷ Ts) Us (k ∷ ks) js h g = (h.0, h.1, h.2, leaves_append f Ts Us ks js h.3 g)

pub put_leaves : (f : Field) (old mid new : List nodes.Leaf) (Ts Us : List Tree) → PutsLeaves f old Ts mid → PutsLeaves f mid Us new → PutsLeaves f old (Ts ++ Us) new
put_leaves f old mid new Ts Us h g = (
  h.0 ++ g.0,
  g.1 ∙ ap (λ xs. xs ++ g.0) h.1 ∙ append_assoc old h.0 g.0,
  leaves_append f Ts Us h.0 g.0 h.2 g.2,
)

pub leaf_is_valid : (f : Field) (l : nodes.Leaf) → l.field ≡ f → l.t ≡ boundary (named_leaf l) → shapes.IsValid f (shape (named_leaf l)) → IsLeaf l
unfolding boundary shape
leaf_is_valid f l e t h = go l.item t h
  where
    go : (item : Option Item) → l.t ≡ boundary (named_leaf (record l { item = item })) → shapes.IsValid f (shape (named_leaf (record l { item = item })))
        → IsLeaf (record l { item = item })
    go None t h = record { short = h; vector = tt }
    go (Some item) t h = record { short = subst (λ n. n ≤ 6) (sym t) h.1; vector = (h.1, subst (λ g. AreDigits g item.vec) (sym e) h.0) }

pub put_leaf : (f : Field) (old : List nodes.Leaf) (l : nodes.Leaf) → l.field ≡ f → l.t ≡ boundary (named_leaf l) → shapes.IsValid f (shape (named_leaf l))
    → PutsLeaves f old (leaves (named_leaf l)) (old ++ l ∷ [])
put_leaf f old l e t h = subst (λ Ts. PutsLeaves f old Ts (old ++ l ∷ [])) (sym (leaf_of_leaf l)) (l ∷ [], refl, (refl, e, leaf_is_valid f l e t h, tt))

pub leaf_ok : {E : Type 0} (r : Result (Unit {0}) E) (f : Field) (old new : List nodes.Leaf) (l : nodes.Leaf) → OnOk r (new ≡ old ++ l ∷ [])
    → l.field ≡ f → l.t ≡ boundary (named_leaf l) → shapes.IsValid f (shape (named_leaf l)) → OnOk r (PutsLeaves f old (leaves (named_leaf l)) new)
leaf_ok (Ok x) f old new l n e t h = subst (PutsLeaves f old (leaves (named_leaf l))) (sym n) (put_leaf f old l e t h)
leaf_ok (Err x) f old new l n e t h = tt

pub leaves_ok : {E : Type 0} (r : Result (Unit {0}) E) (f : Field) (old mid new : List nodes.Leaf) (Ts Us : List Tree) → PutsLeaves f old Ts mid
    → OnOk r (PutsLeaves f mid Us new) → OnOk r (PutsLeaves f old (Ts ++ Us) new)
leaves_ok (Ok x) f old mid new Ts Us a b = put_leaves f old mid new Ts Us a b
leaves_ok (Err x) f old mid new Ts Us a b = tt

-- ---- operators

pub found_same : (f : Field) (v : Option OpValue) (a b : Option Op) → a ≡ b → IsFound f v a → IsFound f v b
found_same f v a b e h = subst (IsFound f v) e h

first_three : (a c d : Option Op) (t : Bool) (op : Op) →
    first_op (first_op (first_op a (if t then Some op else None)) c) d ≡ first_op a (if t then Some op else first_op c d)
first_three (Some x) c d t op = refl
first_three None (Some x) d true op = refl
first_three None None d true op = refl
first_three None (Some x) d false op = refl
first_three None None d false op = refl

pub ops_of_join : (f : Field) (ops : OperatorList) (g : List ℕ → Option Op) (name : List ℕ) (op : Op) (l r : Tree) →
    AreOps f ops (λ n. first_op (first_op (first_op (g n) (only_op name op n)) (op_named n l)) (op_named n r)) →
    AreOps f ops (λ n. first_op (g n) (op_named n (Join name op l r)))
ops_of_join f ops g name op l r h = λ n. found_same f (kept_op n ops) _ _ (first_three (g n) (op_named n l) (op_named n r) (bytes_eq n name) op) (h n)

pub join_ok : {E : Type 0} (r : Result (Unit {0}) E) (f : Field) (ops : OperatorList) (g : List ℕ → Option Op) (name : List ℕ) (op : Op) (l t : Tree) →
    OnOk r (AreOps f ops (λ n. first_op (first_op (first_op (g n) (only_op name op n)) (op_named n l)) (op_named n t))) →
    OnOk r (AreOps f ops (λ n. first_op (g n) (op_named n (Join name op l t))))
join_ok (Ok x) f ops g name op l t h = ops_of_join f ops g name op l t h
join_ok (Err e) f ops g name op l t h = tt

pub no_op : (n : List ℕ) (l : nodes.Leaf) → op_named n (named_leaf l) ≡ None
no_op n l = go l.item
  where
    go : (item : Option Item) → op_named n (named_leaf (record l { item = item })) ≡ None
    go None = refl
    go (Some item) = refl

first_none : (a b : Option Op) → b ≡ None → first_op a b ≡ a
first_none (Some x) b e = refl
first_none None b e = e

pub ops_of_leaf : (f : Field) (ops : OperatorList) (g : List ℕ → Option Op) (l : nodes.Leaf) → AreOps f ops g → AreOps f ops (λ n. first_op (g n) (op_named n (named_leaf l)))
ops_of_leaf f ops g l h = λ n. found_same f (kept_op n ops) _ _ (sym (first_none (g n) (op_named n (named_leaf l)) (no_op n l))) (h n)

kept_push : (n name : List ℕ) (ops : OperatorList) (v : OpValue) →
    kept_op n (ops ++ (name, v) ∷ []) ≡ (if is_some (kept_op n ops) then kept_op n ops else (if bytes_eq n name then Some v else None))
kept_push n name [] v = refl
kept_push n name (entry ∷ ops) v = go (bytes_eq n entry.0) (kept_push n name ops v)
  where
    go : (t : Bool) → kept_op n (ops ++ (name, v) ∷ []) ≡ (if is_some (kept_op n ops) then kept_op n ops else (if bytes_eq n name then Some v else None)) →
        (if t then Some entry.1 else kept_op n (ops ++ (name, v) ∷ []))
        ≡ (if is_some (if t then Some entry.1 else kept_op n ops) then (if t then Some entry.1 else kept_op n ops) else (if bytes_eq n name then Some v else None))
    go true e = refl
    go false e = e

found_more : (f : Field) (v : OpValue) → v.f ≡ f → (k : Option OpValue) (a : Option Op) (t : Bool) → IsFound f k a →
    IsFound f (if is_some k then k else (if t then Some v else None)) (first_op a (if t then Some v.op else None))
found_more f v e None None true h = (e, refl)
found_more f v e None None false h = tt
found_more f v e (Some w) (Some b) t h = h
found_more f v e None (Some b) t h = absurd h
found_more f v e (Some w) None t h = absurd h

pub ops_push : (f : Field) (ops : OperatorList) (g : List ℕ → Option Op) (name : List ℕ) (v : OpValue) → v.f ≡ f → AreOps f ops g →
    AreOps f (ops ++ (name, v) ∷ []) (λ n. first_op (g n) (only_op name v.op n))
ops_push f ops g name v e h = λ n.
    subst (λ k. IsFound f k (first_op (g n) (only_op name v.op n))) (sym (kept_push n name ops v)) (found_more f v e (kept_op n ops) (g n) (bytes_eq n name) (h n))

found_there : (f : Field) (k : Option OpValue) (a b : Option Op) → is_some k ≡ true → IsFound f k a → first_op a b ≡ a
found_there f (Some v) (Some x) b e h = refl
found_there f (Some v) None b e h = absurd h
found_there f None a b e h = let no : false ≡ true = e in cc

pub ops_keep : (f : Field) (ops : OperatorList) (g : List ℕ → Option Op) (name : List ℕ) (op : Op) → is_some (kept_op name ops) ≡ true → AreOps f ops g →
    AreOps f ops (λ n. first_op (g n) (only_op name op n))
ops_keep f ops g name op e h = λ n.
    by n (bytes_eq n name) refl
  where
    by : (n : List ℕ) (t : Bool) → bytes_eq n name ≡ t → IsFound f (kept_op n ops) (first_op (g n) (if t then Some op else None))
    by n false q = found_same f (kept_op n ops) (g n) _ (sym (first_none (g n) None refl)) (h n)
    by n true q = found_same f (kept_op n ops) (g n) _
        (sym (found_there f (kept_op n ops) (g n) (Some op) (ap (λ m. is_some (kept_op m ops)) (same_bytes n name q) ∙ e) (h n))) (h n)

pub absent : (k : Option OpValue) → is_some k ≡ false → k ≡ None
absent None e = refl
absent (Some v) e = let no : true ≡ false = e in cc
