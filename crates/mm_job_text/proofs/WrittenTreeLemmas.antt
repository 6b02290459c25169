-- The lines of a written tree are read as the tree.
use Rattle.std.proofs.Common.{◌≡◌, ℕ, ◌+◌, ◌≤◌, Bool, true, false, max, List, [], ◌∷◌, ◌++◌, length, Some, ℤ, nat_abs, refl, sym, ap, ◌∙◌, append_assoc, arith}
use Rattle.std.specs.Prelude.{◌==◌, nat_le, codes, Ok, if◌then◌else◌}
use Rattle.std.specs.declared.result.Result.{Result}
use Rattle.std.specs.Fmt.{decimal, signed_decimal}
use Rattle.std.specs.List.{IsDistinct}
use Rattle.std.specs.Str.{bytes_eq}
use Rattle.std.proofs.lemmas.Bool.{le-leb, lt-leb, lt-ltb, eq-eqb, or_from, or_left, or_right}
use Rattle.std.proofs.lemmas.List.{length-append}
use Rattle.std.proofs.lemmas.List.Elements.{All-head}
use Rattle.mm_base.specs.Names.{is_name}
use Rattle.mm_base.proofs.NameLemmas.{bytes_same}
use Rattle.mm_field.specs.Vectors.{AreDigits}
use Rattle.mm_field.specs.declared.Field.{Field}
use Rattle.mm_lines.specs.Lines.{lines}
use Rattle.mm_lines.specs.declared.line.Line.{Line}
use Rattle.mm_logic.specs.Operator.{Op}
use Rattle.mm_ops.specs.Tables.{OperatorList, op_named}
use Rattle.mm_space.specs.VectorText.{vector_text}
use Rattle.mm_tree.specs.Building.{names_in}
use Rattle.mm_tree.specs.NamedTree.{Tree, shape, boundary, depth, nodes, weights, node_names, leaf_names, is_one_of}
use Rattle.mm_tree.specs.NamedTree.Tree.{Elem, Void, Join}
use Rattle.mm_tree.specs.TreeText.{elem_text, void_text, join_text, node_lines, tree_text}
use Rattle.mm_tree.specs.ValidTree.{IsValidTree, most_leaves, most_depth, most_weight}
use Rattle.mm_tree.proofs.NameLemmas.{AreApart, one_of_append, distinct_apart}
use Rattle.mm_tree.proofs.TreeLemmas.{few_nodes, valid_left, valid_right, shape_boundary, names_join}
use Rattle.mm_job_text.specs.Readers.{Reading, Read, and_then, now, line, goes_on, each}
use Rattle.mm_job_text.specs.TreeLines.{is_tree_part, tree_part, end_line, tree_lines}
use Rattle.mm_job_text.specs.WrittenTrees.{HoldsJoins}
use Rattle.mm_job_text.specs.declared.refusal.Refusal.{Refusal}
use Rattle.mm_space.proofs.DigitTextLemmas.{vector_of_text}
use Rattle.mm_job_text.proofs.NumeralLemmas.{u32_back, i64_back}
use Rattle.mm_job_text.proofs.SpacedLemmas.{tokens_spaced}
use Rattle.mm_job_text.proofs.TextLineLemmas.{ArePlain, line_at, lines_at, lines_at_both, lines_of_text}
use Rattle.mm_job_text.proofs.WrittenLineLemmas.{IsNew, elem_are_words, void_are_words, join_are_words, end_is_word, elem_plain, void_plain, join_plain, end_plain, elem_is_part, void_is_part, join_is_part, end_is_no_part, elem_read, void_read, join_read, end_read}

-- ---- what validity says of each kind of node

abbrev IsName : List ℕ → Type 0
IsName name = is_name name ≡ true

pub record IsGoodElem (f : Field) (name vec : List ℕ) (weight : ℤ) : Type 0 where
  pub named : is_name name ≡ true
  pub digits : AreDigits f vec
  pub short : length vec ≤ 6
  pub light : nat_abs weight ≤ most_weight

elem_good : (f : Field) (name vec : List ℕ) (weight : ℤ) → IsValidTree f (Elem name vec weight) → IsGoodElem f name vec weight
unfolding shape weights node_names
elem_good f name vec weight v = record {
  named = All-head IsName name [] v.formed;
  digits = v.valid_shape.0;
  short = v.valid_shape.1;
  light = All-head (λ w. nat_abs w ≤ most_weight) weight [] v.light;
}

void_good : (f : Field) (name : List ℕ) (t : ℕ) → IsValidTree f (Void name t) → (is_name name ≡ true) × (t ≤ 6)
unfolding shape node_names
void_good f name t v = (All-head IsName name [] v.formed, v.valid_shape)

pub record IsGoodJoin (name : List ℕ) (op : Op) (left right : Tree) : Type 0 where
  pub named : is_name name ≡ true
  pub first : (boundary left == op.t1) ≡ true
  pub second : (boundary right == op.t2) ≡ true
  pub shallow : nat_le most_depth (max (depth left) (depth right)) ≡ false

join_good : (f : Field) (name : List ℕ) (op : Op) (left right : Tree) → IsValidTree f (Join name op left right) → IsGoodJoin name op left right
unfolding shape depth
join_good f name op left right v = record {
  named = (names_join name op left right v.formed).0;
  first = eq-eqb (boundary left) op.t1 (sym (sym v.valid_shape.1 ∙ shape_boundary left));
  second = eq-eqb (boundary right) op.t2 (sym (sym v.valid_shape.2 ∙ shape_boundary right));
  shallow = lt-leb most_depth (max (depth left) (depth right)) (omega (arith, v.shallow));
}

join_held : (f : Field) (ops : OperatorList) (name : List ℕ) (op : Op) (left right : Tree) → HoldsJoins f ops (Join name op left right)
    → (op_named name ops ≡ Some (record { f = f; op = op })) × HoldsJoins f ops left × HoldsJoins f ops right
unfolding HoldsJoins
join_held f ops name op left right h = h

-- ---- the lines are plain, and not many

plain_both : (xs ys : List (List ℕ)) → ArePlain xs → ArePlain ys → ArePlain (xs ++ ys)
plain_both [] ys p q = q
plain_both (x ∷ xs) ys p q = (p.0, plain_both xs ys p.1 q)

pub plain_nodes : (f : Field) (tree : Tree) → IsValidTree f tree → ArePlain (node_lines tree)
unfolding node_lines
plain_nodes f (Elem name vec weight) v =
    let good = elem_good f name vec weight v in
    (elem_plain name vec weight good.named good.short good.light, tt)
plain_nodes f (Void name t) v =
    let good = void_good f name t v in
    (void_plain name t good.0 good.1, tt)
plain_nodes f (Join name op left right) v =
    let good = join_good f name op left right v in
    plain_both (node_lines left) (node_lines right ++ join_text name ∷ []) (plain_nodes f left (valid_left f name op left right v))
    (plain_both (node_lines right) (join_text name ∷ []) (plain_nodes f right (valid_right f name op left right v)) (join_plain name good.named, tt))

pub node_count : (tree : Tree) → length (node_lines tree) ≡ nodes tree
unfolding node_lines nodes
node_count (Elem name vec weight) = refl
node_count (Void name t) = refl
node_count (Join name op left right) =
    let a = node_count left in
    let b = node_count right in
    let c = length-append (node_lines left) (node_lines right ++ join_text name ∷ []) in
    let d = length-append (node_lines right) (join_text name ∷ []) in
    omega arith

-- ---- names that differ

-- no leaf of the tree has a name of the trees before it, and they are not too many together
pub record IsApart (most : ℕ) (tree : Tree) (trees : List Tree) : Type 0 where
  pub apart : AreApart (leaf_names tree) (names_in trees)
  pub few : length (leaf_names tree) + length (names_in trees) ≤ most_leaves
  pub room : length (leaf_names tree) + length (names_in trees) ≤ most

left_apart : (most : ℕ) (name : List ℕ) (op : Op) (left right : Tree) (trees : List Tree) → IsApart most (Join name op left right) trees → IsApart most left trees
unfolding leaf_names
left_apart most name op left right trees h = record {
  apart = λ x e. h.apart x (one_of_append x (leaf_names left) (leaf_names right) ∙ or_left (is_one_of x (leaf_names left)) (is_one_of x (leaf_names right)) e);
  few = omega (arith, h.few, length-append (leaf_names left) (leaf_names right));
  room = omega (arith, h.room, length-append (leaf_names left) (leaf_names right));
}

not_in_left : (xs ys : List (List ℕ)) (x : List ℕ) (b : Bool) → AreApart xs ys → is_one_of x ys ≡ true → is_one_of x xs ≡ b → b ≡ false
not_in_left xs ys x true h e i = sym e ∙ h x i
not_in_left xs ys x false h e i = refl

right_apart : (most : ℕ) (name : List ℕ) (op : Op) (left right : Tree) (trees : List Tree) → IsDistinct bytes_eq (leaf_names (Join name op left right))
    → IsApart most (Join name op left right) trees → IsApart most right (left ∷ trees)
unfolding leaf_names
right_apart most name op left right trees d h =
    let ls = leaf_names left in
    let rs = leaf_names right in
    record {
      apart = λ x e. one_of_append x (names_in trees) ls
          ∙ or_from (is_one_of x (names_in trees)) (is_one_of x ls)
          (h.apart x (one_of_append x ls rs ∙ or_right (is_one_of x ls) (is_one_of x rs) e))
          (not_in_left ls rs x (is_one_of x ls) (distinct_apart ls rs d) e refl);
      few = omega (arith, h.few, length-append ls rs, length-append (names_in trees) ls);
      room = omega (arith, h.room, length-append ls rs, length-append (names_in trees) ls);
    }

elem_new : (most : ℕ) (name vec : List ℕ) (weight : ℤ) (trees : List Tree) → IsApart most (Elem name vec weight) trees → IsNew most name trees
unfolding leaf_names
elem_new most name vec weight trees h = record {
  free = h.apart name (or_left (bytes_eq name name) false (bytes_same name));
  few = lt-leb most_leaves (length (names_in trees)) (omega (arith, h.few));
  room = lt-ltb (length (names_in trees)) most (omega (arith, h.room));
}

void_new : (most : ℕ) (name : List ℕ) (t : ℕ) (trees : List Tree) → IsApart most (Void name t) trees → IsNew most name trees
unfolding leaf_names
void_new most name t trees h = record {
  free = h.apart name (or_left (bytes_eq name name) false (bytes_same name));
  few = lt-leb most_leaves (length (names_in trees)) (omega (arith, h.few));
  room = lt-ltb (length (names_in trees)) most (omega (arith, h.room));
}

-- ---- reading

pub each_passes : {A : Type 0} (test : Line → Bool) (g : A → Line → Result A Refusal) (x y : A) (r : Line) (rs : List Line) → test r ≡ true → g x r ≡ Ok y
    → each test g x (r ∷ rs) ≡ each test g y rs
each_passes {A} test g x y r rs t e =
    ap (λ (b : Bool). if b then goes_on (g x r) (λ z. each test g z rs) else Read x (r ∷ rs)) t ∙ ap (λ (res : Result A Refusal). goes_on res (λ z. each test g z rs)) e

pub each_stops : {A : Type 0} (test : Line → Bool) (g : A → Line → Result A Refusal) (x : A) (r : Line) (rs : List Line) → test r ≡ false → each test g x (r ∷ rs) ≡ Read x (r ∷ rs)
each_stops test g x r rs t = ap (λ (b : Bool). if b then goes_on (g x r) (λ z. each test g z rs) else Read x (r ∷ rs)) t

reads_elem : (most : ℕ) (f : Field) (ops : OperatorList) (name vec : List ℕ) (weight : ℤ) (trees : List Tree) (number : ℕ) (rest : List Line)
    → IsGoodElem f name vec weight → IsNew most name trees
    → each is_tree_part (tree_part most f ops) trees (line_at number (elem_text name vec weight) ∷ rest) ≡ each is_tree_part (tree_part most f ops) (Elem name vec weight ∷ trees) rest
reads_elem most f ops name vec weight trees number rest good new =
    let r = line_at number (elem_text name vec weight) in
    let v = vector_text vec in
    let w = signed_decimal weight in
    let e = tokens_spaced (codes "elem") (name ∷ v ∷ w ∷ []) (elem_are_words name vec weight good.named good.light) in
    each_passes is_tree_part (tree_part most f ops) trees (Elem name vec weight ∷ trees) r rest (elem_is_part r (name ∷ v ∷ w ∷ []) e)
    (elem_read most f ops trees r name vec weight v w e good.named (vector_of_text f vec v (record { digits = good.digits; short = omega (arith, good.short); text = refl })) (i64_back weight good.light)
    (le-leb (length vec) 6 good.short) (le-leb (nat_abs weight) most_weight good.light) new)

reads_void : (most : ℕ) (f : Field) (ops : OperatorList) (name : List ℕ) (t : ℕ) (trees : List Tree) (number : ℕ) (rest : List Line)
    → (is_name name ≡ true) × (t ≤ 6) → IsNew most name trees
    → each is_tree_part (tree_part most f ops) trees (line_at number (void_text name t) ∷ rest) ≡ each is_tree_part (tree_part most f ops) (Void name t ∷ trees) rest
reads_void most f ops name t trees number rest good new =
    let r = line_at number (void_text name t) in
    let e = tokens_spaced (codes "void") (name ∷ decimal t ∷ []) (void_are_words name t good.0 good.1) in
    each_passes is_tree_part (tree_part most f ops) trees (Void name t ∷ trees) r rest (void_is_part r (name ∷ decimal t ∷ []) e)
    (void_read most f ops trees r name t (decimal t) e good.0 (u32_back t good.1) (le-leb t 6 good.1) new)

reads_join : (most : ℕ) (f : Field) (ops : OperatorList) (name : List ℕ) (op : Op) (left right : Tree) (trees : List Tree) (number : ℕ) (rest : List Line)
    → IsGoodJoin name op left right → op_named name ops ≡ Some (record { f = f; op = op })
    → each is_tree_part (tree_part most f ops) (right ∷ left ∷ trees) (line_at number (join_text name) ∷ rest) ≡ each is_tree_part (tree_part most f ops) (Join name op left right ∷ trees) rest
reads_join most f ops name op left right trees number rest good held =
    let r = line_at number (join_text name) in
    let e = tokens_spaced (codes "join") (name ∷ []) (join_are_words name good.named) in
    each_passes is_tree_part (tree_part most f ops) (right ∷ left ∷ trees) (Join name op left right ∷ trees) r rest (join_is_part r (name ∷ []) e)
    (join_read most f ops trees r name (record { f = f; op = op }) left right e good.named held good.first good.second good.shallow)

join_lines_at : (name : List ℕ) (xs ys : List (List ℕ)) (number : ℕ) (rest : List Line)
    → lines_at number (xs ++ (ys ++ join_text name ∷ [])) ++ rest
    ≡ lines_at number xs ++ (lines_at (number + length xs) ys ++ (line_at (number + length xs + length ys) (join_text name) ∷ rest))
join_lines_at name xs ys number rest =
    let last : List Line = line_at (number + length xs + length ys) (join_text name) ∷ [] in
    ap (λ (ls : List Line). ls ++ rest)
    (lines_at_both number xs (ys ++ join_text name ∷ []) ∙ ap (λ (ls : List Line). lines_at number xs ++ ls) (lines_at_both (number + length xs) ys (join_text name ∷ [])))
    ∙ append_assoc (lines_at number xs) (lines_at (number + length xs) ys ++ last) rest
    ∙ ap (λ (ls : List Line). lines_at number xs ++ ls) (append_assoc (lines_at (number + length xs) ys) last rest)

-- after the lines of a tree, the tree stands before those that stood there
pub reads_tree : (most : ℕ) (f : Field) (ops : OperatorList) (tree : Tree) (trees : List Tree) (number : ℕ) (rest : List Line)
    → IsValidTree f tree → HoldsJoins f ops tree → IsApart most tree trees
    → each is_tree_part (tree_part most f ops) trees (lines_at number (node_lines tree) ++ rest) ≡ each is_tree_part (tree_part most f ops) (tree ∷ trees) rest
unfolding node_lines
reads_tree most f ops (Elem name vec weight) trees number rest v j a =
    reads_elem most f ops name vec weight trees number rest (elem_good f name vec weight v) (elem_new most name vec weight trees a)
reads_tree most f ops (Void name t) trees number rest v j a = reads_void most f ops name t trees number rest (void_good f name t v) (void_new most name t trees a)
reads_tree most f ops (Join name op left right) trees number rest v j a =
    let held = join_held f ops name op left right j in
    let middle = number + length (node_lines left) in
    let last : List Line = line_at (middle + length (node_lines right)) (join_text name) ∷ rest in
    let part = tree_part most f ops in
    ap (each is_tree_part part trees) (join_lines_at name (node_lines left) (node_lines right) number rest)
    ∙ reads_tree most f ops left trees number (lines_at middle (node_lines right) ++ last) (valid_left f name op left right v) held.1 (left_apart most name op left right trees a)
    ∙ reads_tree most f ops right (left ∷ trees) middle last (valid_right f name op left right v) held.2 (right_apart most name op left right trees v.different a)
    ∙ reads_join most f ops name op left right trees (middle + length (node_lines right)) rest (join_good f name op left right v) held.0

-- ---- the whole text

pub alone : (most : ℕ) (f : Field) (tree : Tree) → IsValidTree f tree → length (leaf_names tree) ≤ most → IsApart most tree []
alone most f tree v few = record { apart = λ x e. refl; few = omega (arith, v.few); room = omega (arith, few) }

reads_end : (tree : Tree) (number : ℕ) → and_then (Read (tree ∷ []) (line_at number (codes "end") ∷ [])) (λ all. line (end_line all)) ≡ Read (tree, number) []
reads_end tree number =
    let r = line_at number (codes "end") in
    ap (λ (res : Result (Tree × ℕ) Refusal). now res []) (end_read tree r (tokens_spaced (codes "end") [] (end_is_word, tt)))

pub written_is_read : (most : ℕ) (f : Field) (ops : OperatorList) (tree : Tree) → IsValidTree f tree → length (leaf_names tree) ≤ most → HoldsJoins f ops tree
    → tree_lines most f ops [] (lines (tree_text tree)) ≡ Read (tree, nodes tree + 1) []
unfolding tree_text tree_lines
written_is_read most f ops tree v room j =
    let ls = node_lines tree in
    let end : List (List ℕ) = codes "end" ∷ [] in
    let last = line_at (1 + length ls) (codes "end") in
    let few : length (ls ++ end) ≤ 1000000 = omega (arith, length-append ls end, node_count tree, few_nodes f tree v) in
    let part = tree_part most f ops in
    let finish : List Tree → List Line → Reading (Tree × ℕ) = λ (all : List Tree). line (end_line all) in
    ap (λ (rs : List Line). and_then (each is_tree_part part [] rs) finish)
    (lines_of_text (ls ++ end) (plain_both ls end (plain_nodes f tree v) (end_plain, tt)) few ∙ lines_at_both 1 ls end)
    ∙ ap (λ (reading : Reading (List Tree)). and_then reading finish)
    (reads_tree most f ops tree [] 1 (last ∷ []) v j (alone most f tree v room)
    ∙ each_stops is_tree_part part (tree ∷ []) last [] (end_is_no_part last (tokens_spaced (codes "end") [] (end_is_word, tt))))
    ∙ reads_end tree (1 + length ls)
    ∙ ap (λ (k : ℕ). Read (tree, k) []) {x = 1 + length ls} {y = nodes tree + 1} (omega (arith, node_count tree))
