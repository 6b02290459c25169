-- A leaf that takes the place of a node, one of whose leaves has its name.
use Rattle.std.proofs.Common.{ℕ, ◌≡◌, ◌≤◌, ◌<◌, ◌+◌, ◌||◌, not, nat_le, Bool, true, false, List, [], ◌∷◌, length, refl, sym, ap, ap₂, ◌∙◌, Option, Some, None, Err, inl, inr, if◌then◌else◌, arith, length-append}
use Rattle.std.specs.List.{IsDistinct}
use Rattle.std.specs.Str.{bytes_eq}
use Rattle.std.proofs.lemmas.Bool.{cases_lt, or_left, or_right, le-leb, lt-leb}
use Rattle.mm_tree.specs.NamedTree.{Tree, boundary, leaf_names, is_one_of}
use Rattle.mm_tree.specs.NamedTree.Tree.{Elem, Void, Join}
use Rattle.mm_tree.specs.Nodes.{named_leaf}
use Rattle.mm_tree.specs.Paths.{Path, names_outside, with_node, node_at}
use Rattle.mm_tree.specs.Places.{IsPath}
use Rattle.mm_tree.specs.Replacing.{Answers, first_taken, name_fault, leaves_fault, replace_fault, is_leaf_of}
use Rattle.mm_tree.specs.ValidTree.{most_leaves}
use Rattle.mm_tree.specs.declared.node.Item.{Item}
use Rattle.mm_tree.specs.declared.node.Leaf as leaves
use Rattle.mm_tree.specs.declared.replace.ReplaceFault.{ReplaceFault}
use Rattle.mm_tree.specs.declared.replace.ReplaceFault.TheVariants.{Boundary, NameTaken, TooManyLeaves, TooDeep, NoMemory}
use Rattle.mm_tree.proofs.NameLemmas.{one_of_append, distinct_left, distinct_right, distinct_apart}
use Rattle.mm_tree.proofs.PathLemmas.{some_nodes}
use Rattle.mm_tree.proofs.ReplaceLemmas.{leaves_after, fault_name, fault_leaves}
use Rattle.mm_tree.proofs.TreeLemmas.{apart_back, nodes_of_leaves}

pub leaf_below : (l : leaves.Leaf) (old : Tree) → is_leaf_of (named_leaf l) old ≡ is_one_of l.name (leaf_names old)
leaf_below l old = go l.item
  where
    go : (item : Option Item) → is_leaf_of (named_leaf (record l { item = item })) old ≡ is_one_of l.name (leaf_names old)
    go None = refl
    go (Some item) = refl

-- its name
leaf_named : (new old : Tree) → is_leaf_of new old ≡ true → (name : List ℕ) × (leaf_names new ≡ name ∷ []) × (is_one_of name (leaf_names old) ≡ true)
unfolding leaf_names
leaf_named (Elem name vec weight) old e = (name, refl, e)
leaf_named (Void name t) old e = (name, refl, e)
leaf_named (Join name op left right) old e = cc

-- ---- the leaves below a node and those outside it

part_inside : (x : List ℕ) (tree : Tree) (path : Path) → is_one_of x (leaf_names (node_at tree path)) ≡ true → is_one_of x (leaf_names tree) ≡ true
unfolding node_at leaf_names
part_inside x (Elem n vec weight) [] e = e
part_inside x (Void n t) [] e = e
part_inside x (Join n op left right) [] e = e
part_inside x (Elem n vec weight) (step ∷ path) e = e
part_inside x (Void n t) (step ∷ path) e = e
part_inside x (Join n op left right) (true ∷ path) e =
    one_of_append x (leaf_names left) (leaf_names right) ∙ or_left (is_one_of x (leaf_names left)) (is_one_of x (leaf_names right)) (part_inside x left path e)
part_inside x (Join n op left right) (false ∷ path) e =
    one_of_append x (leaf_names left) (leaf_names right) ∙ or_right (is_one_of x (leaf_names left)) (is_one_of x (leaf_names right)) (part_inside x right path e)

part_apart : (x : List ℕ) (tree : Tree) (path : Path) → IsDistinct bytes_eq (leaf_names tree) → IsPath tree path →
    is_one_of x (leaf_names (node_at tree path)) ≡ true → is_one_of x (names_outside tree path) ≡ false
unfolding node_at leaf_names names_outside IsPath
part_apart x (Elem n vec weight) [] d w e = refl
part_apart x (Void n t) [] d w e = refl
part_apart x (Join n op left right) [] d w e = refl
part_apart x (Elem n vec weight) (step ∷ path) d w e = absurd w
part_apart x (Void n t) (step ∷ path) d w e = absurd w
part_apart x (Join n op left right) (true ∷ path) d w e =
    one_of_append x (names_outside left path) (leaf_names right)
    ∙ ap₂ (λ (a b : Bool). a || b) (part_apart x left path (distinct_left (leaf_names left) (leaf_names right) d) w e)
    (distinct_apart (leaf_names left) (leaf_names right) d x (part_inside x left path e))
part_apart x (Join n op left right) (false ∷ path) d w e =
    one_of_append x (leaf_names left) (names_outside right path)
    ∙ ap₂ (λ (a b : Bool). a || b)
    (apart_back (leaf_names left) (leaf_names right) (distinct_apart (leaf_names left) (leaf_names right) d) x (part_inside x right path e))
    (part_apart x right path (distinct_right (leaf_names left) (leaf_names right) d) w e)

split_leaves : (tree : Tree) (path : Path) → IsPath tree path →
    length (leaf_names tree) ≡ length (names_outside tree path) + length (leaf_names (node_at tree path))
unfolding IsPath node_at names_outside leaf_names
split_leaves (Elem n vec weight) [] w = omega arith
split_leaves (Void n t) [] w = omega arith
split_leaves (Join n op left right) [] w = omega arith
split_leaves (Elem n vec weight) (step ∷ path) w = absurd w
split_leaves (Void n t) (step ∷ path) w = absurd w
split_leaves (Join n op left right) (true ∷ path) w =
    let a = split_leaves left path w in
    let b = length-append (leaf_names left) (leaf_names right) in
    let c = length-append (names_outside left path) (leaf_names right) in
    omega arith
split_leaves (Join n op left right) (false ∷ path) w =
    let a = split_leaves right path w in
    let b = length-append (leaf_names left) (leaf_names right) in
    let c = length-append (leaf_names left) (names_outside right path) in
    omega arith

-- ---- the faults of leaves

-- the leaves of a tree may take the place of those below a node
pub record AreFree (tree new : Tree) (path : Path) : Type 0 where
  pub free : first_taken (names_outside tree path) (leaf_names new) ≡ None
  pub few : length (leaf_names (with_node tree path new)) ≤ most_leaves

pub renewed_leaf : (tree new : Tree) (path : Path) → IsDistinct bytes_eq (leaf_names tree) → length (leaf_names tree) ≤ most_leaves → IsPath tree path →
    is_leaf_of new (node_at tree path) ≡ true → AreFree tree new path
renewed_leaf tree new path d few w e =
    let leaf = leaf_named new (node_at tree path) e in
    let one = ap length leaf.1 in
    let after = leaves_after tree new path w in
    let before = split_leaves tree path w in
    let some = nodes_of_leaves (node_at tree path) in
    let any = some_nodes (node_at tree path) in
    record {
      free = ap (first_taken (names_outside tree path)) leaf.1
          ∙ ap (λ (b : Bool). if b then Some leaf.0 else None) (part_apart leaf.0 tree path d w leaf.2);
      few = omega arith;
    }

pub leaf_taken : (tree new : Tree) (path : Path) (name : List ℕ) → first_taken (names_outside tree path) (leaf_names new) ≡ Some name →
    leaves_fault tree path new ≡ Some (NameTaken name)
leaf_taken tree new path name e =
    ap (λ (t : Option (List ℕ)). name_fault t (if not (nat_le (length (leaf_names (with_node tree path new))) most_leaves) then Some TooManyLeaves else None)) e

pub leaves_many : (tree new : Tree) (path : Path) → first_taken (names_outside tree path) (leaf_names new) ≡ None →
    most_leaves < length (leaf_names (with_node tree path new)) → leaves_fault tree path new ≡ Some TooManyLeaves
leaves_many tree new path e l =
    ap (λ (t : Option (List ℕ)). name_fault t (if not (nat_le (length (leaf_names (with_node tree path new))) most_leaves) then Some TooManyLeaves else None)) e
    ∙ ap (λ (b : Bool). if not b then Some TooManyLeaves else None) (lt-leb (length (leaf_names (with_node tree path new))) most_leaves l)

pub leaves_free : (tree new : Tree) (path : Path) → AreFree tree new path → leaves_fault tree path new ≡ None
leaves_free tree new path f =
    ap (λ (t : Option (List ℕ)). name_fault t (if not (nat_le (length (leaf_names (with_node tree path new))) most_leaves) then Some TooManyLeaves else None)) f.free
    ∙ ap (λ (b : Bool). if not b then Some TooManyLeaves else None) (le-leb (length (leaf_names (with_node tree path new))) most_leaves f.few)

none_some : {P : Type 0} {e : ReplaceFault} → None ≡ Some e → P
none_some e = cc

-- what is known of the leaves where they have no fault
pub free_leaves : (tree new : Tree) (path : Path) → leaves_fault tree path new ≡ None → AreFree tree new path
free_leaves tree new path h = go (first_taken (names_outside tree path) (leaf_names new)) refl
  where
    go : (taken : Option (List ℕ)) → first_taken (names_outside tree path) (leaf_names new) ≡ taken → AreFree tree new path
    go (Some name) p = none_some (sym h ∙ leaf_taken tree new path name p)
    go None p = elim (cases_lt most_leaves (length (leaf_names (with_node tree path new)))) [
      | inl l ↦ none_some (sym h ∙ leaves_many tree new path p l)
      | inr l ↦ record { free = p; few = l }
    ]

fault_on : (tree new : Tree) (path : Path) (e : ReplaceFault) → boundary (node_at tree path) ≡ boundary new → leaves_fault tree path new ≡ Some e →
    replace_fault tree path new ≡ Some e
fault_on tree new path e same h = go (first_taken (names_outside tree path) (leaf_names new)) refl
  where
    go : (taken : Option (List ℕ)) → first_taken (names_outside tree path) (leaf_names new) ≡ taken → replace_fault tree path new ≡ Some e
    go (Some name) p = fault_name tree new path name same p ∙ sym (leaf_taken tree new path name p) ∙ h
    go None p = elim (cases_lt most_leaves (length (leaf_names (with_node tree path new)))) [
      | inl l ↦ fault_leaves tree new path same p l ∙ sym (leaves_many tree new path p l) ∙ h
      | inr l ↦ none_some (sym (leaves_free tree new path (record { free = p; few = l })) ∙ h)
    ]

-- the fault of the leaves is that of the tree
pub answers_on : (tree new : Tree) (path : Path) (e : ReplaceFault) → boundary (node_at tree path) ≡ boundary new → Answers (Err e) (leaves_fault tree path new) →
    Answers (Err e) (replace_fault tree path new)
answers_on tree new path (Boundary a b) same h = fault_on tree new path (Boundary a b) same h
answers_on tree new path (NameTaken name) same h = fault_on tree new path (NameTaken name) same h
answers_on tree new path TooManyLeaves same h = fault_on tree new path TooManyLeaves same h
answers_on tree new path TooDeep same h = fault_on tree new path TooDeep same h
answers_on tree new path NoMemory same h = tt
