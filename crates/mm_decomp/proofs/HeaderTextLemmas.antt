-- The lines of a header from their parts.
use Rattle.std.proofs.Common.{ℕ, ◌+◌, ◌-◌, ◌*◌, ◌<◌, ◌≡◌, min, List, [], ◌∷◌, ◌++◌, length, map, take, drop, get_or, refl, sym, ap, ap₂, ◌∙◌, arith, append_assoc, append-nil, length-drop, Option, Some, None, Box, Global}
use Rattle.std.specs.Prelude.{codes}
use Rattle.std.specs.Fmt.{decimal}
use Rattle.std.specs.List.{All, range_with_len, slice_get}
use Rattle.std.proofs.lemmas.Grind.{div_ceil_times}
use Rattle.std.proofs.lemmas.List.{get_or-drop, map-append, take_all, take_min, take_more}
use Rattle.std.proofs.lemmas.List.FromFn.{map-range_with_len_more}
use Rattle.std.proofs.lemmas.Option.{get_or_from_slice_get}
use Rattle.mm_field.specs.Digits.{order}
use Rattle.mm_field.specs.declared.Field.{Field}
use Rattle.mm_field.specs.declared.Field.TheVariants.{Five}
use Rattle.mm_field.specs.Vectors.{AreDigits, AreVectors}
use Rattle.mm_field.proofs.Tables.{order-most}
use Rattle.mm_logic.specs.Operator.{Op}
use Rattle.mm_matrix.specs.MatrixValue.{MatrixValue}
use Rattle.mm_ops.specs.OpValue.{OpValue}
use Rattle.mm_space.specs.VectorText.{gen_text, joined_text, vector_text}
use Rattle.mm_tree.specs.NamedTree.{Tree}
use Rattle.mm_tree.specs.NamedTree.Tree.{Join}
use Rattle.mm_tree.specs.Nodes.{named, named_leaf}
use Rattle.mm_tree.specs.TreeText.{spaced, text_of_lines, tree_text}
use Rattle.mm_tree.specs.declared.node.Item.{Item}
use Rattle.mm_tree.specs.declared.node.Leaf as leaves
use Rattle.mm_tree.specs.declared.node.Node as nodes_of
use Rattle.mm_tree.specs.declared.node.Node.TheViews as views
use Rattle.mm_tree.proofs.TextLemmas.{text_of_both}
use Rattle.mm_tree.proofs.Walks.{named_join}
use Rattle.mm_decomp.proofs.OperatorLemmas.{rows_text_step, rows_text_done}
use Rattle.mm_decomp.specs.HeaderText.{elements_lines, elements_text, field_text, header_text, name_lines, operator_lines, operator_text, row_text}

-- ---- the field

pub first_lines : (f : Field) (old : List ℕ) →
    ((old ++ codes "mso 1\nfield") ++ 32 ∷ decimal (order f)) ++ 10 ∷ [] ≡ old ++ text_of_lines (codes "mso 1" ∷ field_text f ∷ [])
first_lines f old =
    let number : List ℕ = 32 ∷ decimal (order f) in
    ap (λ (t : List ℕ). t ++ 10 ∷ []) (append_assoc old (codes "mso 1\nfield") number) ∙ append_assoc old (codes "mso 1\nfield" ++ number) (10 ∷ [])

-- ---- names

pub word_more : (w x : List ℕ) (ws : List (List ℕ)) → spaced (w ∷ (ws ++ x ∷ [])) ≡ (spaced (w ∷ ws) ++ 32 ∷ []) ++ x
word_more w x [] = sym (append_assoc w (32 ∷ []) x)
word_more w x (v ∷ ws) =
    ap (λ (t : List ℕ). w ++ 32 ∷ t) (word_more v x ws)
    ∙ sym (append_assoc w (32 ∷ (spaced (v ∷ ws) ++ 32 ∷ [])) x)
    ∙ ap (λ (t : List ℕ). t ++ x) (sym (append_assoc w (32 ∷ spaced (v ∷ ws)) (32 ∷ [])))

pub line_starts : (names : List (List ℕ)) (k : ℕ) → k < name_lines names → 64 * k < length names
line_starts names k l =
    let b = div_ceil_times (length names) 64 (omega arith) in
    omega (arith, l, b.0, b.1)

pub name_more : (names : List (List ℕ)) (from i : ℕ) (w old t : List ℕ) → from + i < length names → slice_get names (from + i) ≡ Some w →
    t ≡ old ++ spaced (codes "elements" ∷ take i (drop from names)) →
    (t ++ 32 ∷ []) ++ w ≡ old ++ spaced (codes "elements" ∷ take (i + 1) (drop from names))
name_more names from i w old t l e h =
    let vs = drop from names in
    let ld = length-drop from names in
    let at : get_or vs i [] ≡ w = get_or-drop from names i [] ∙ get_or_from_slice_get names (from + i) w [] e in
    let all : spaced (codes "elements" ∷ take (i + 1) vs) ≡ (spaced (codes "elements" ∷ take i vs) ++ 32 ∷ []) ++ w =
    ap (λ (us : List (List ℕ)). spaced (codes "elements" ∷ us)) (take_more vs i [] (omega arith) ∙ ap (λ (u : List ℕ). take i vs ++ u ∷ []) at)
    ∙ word_more (codes "elements") w (take i vs) in
    ap (λ (u : List ℕ). (u ++ 32 ∷ []) ++ w) h
    ∙ ap (λ (u : List ℕ). u ++ w) (append_assoc old (spaced (codes "elements" ∷ take i vs)) (32 ∷ []))
    ∙ append_assoc old (spaced (codes "elements" ∷ take i vs) ++ 32 ∷ []) w
    ∙ ap (λ (u : List ℕ). old ++ u) (sym all)

pub names_end : (names : List (List ℕ)) (k i : ℕ) (old t : List ℕ) → i ≡ min 64 (length names - 64 * k) →
    t ≡ old ++ spaced (codes "elements" ∷ take i (drop (64 * k) names)) → t ++ 10 ∷ [] ≡ old ++ text_of_lines (elements_text names k ∷ [])
names_end names k i old t e h =
    let vs = drop (64 * k) names in
    let ld : length names - 64 * k ≡ length vs = sym (length-drop (64 * k) names) in
    let same : take i vs ≡ take 64 vs = ap (λ j. take j vs) (e ∙ ap (min 64) ld) ∙ take_min 64 vs in
    ap (λ (u : List ℕ). u ++ 10 ∷ []) (h ∙ ap (λ (us : List (List ℕ)). old ++ spaced (codes "elements" ∷ us)) same)
    ∙ append_assoc old (elements_text names k) (10 ∷ [])

-- a line more of those that are numbered
pub line_more : {X : Type 0} (line : X → List ℕ) (xs : List X) (x : X) (old t new : List ℕ) → t ≡ old ++ text_of_lines (map line xs) →
    new ≡ t ++ text_of_lines (line x ∷ []) → new ≡ old ++ text_of_lines (map line (xs ++ x ∷ []))
line_more line xs x old t new h e =
    e ∙ ap (λ (u : List ℕ). u ++ text_of_lines (line x ∷ [])) h
    ∙ append_assoc old (text_of_lines (map line xs)) (text_of_lines (line x ∷ []))
    ∙ ap (λ (u : List ℕ). old ++ u) (sym (text_of_both (map line xs) (line x ∷ [])))
    ∙ ap (λ (ls : List (List ℕ)). old ++ text_of_lines ls) (sym (map-append line xs (x ∷ [])))

pub names_line_more : (names : List (List ℕ)) (k : ℕ) (old t new : List ℕ) → t ≡ old ++ text_of_lines (map (elements_text names) (range_with_len 0 k)) →
    new ≡ t ++ text_of_lines (elements_text names k ∷ []) → new ≡ old ++ text_of_lines (map (elements_text names) (range_with_len 0 (k + 1)))
names_line_more names k old t new h e =
    e ∙ ap (λ (u : List ℕ). u ++ text_of_lines (elements_text names k ∷ [])) h
    ∙ append_assoc old (text_of_lines (map (elements_text names) (range_with_len 0 k))) (text_of_lines (elements_text names k ∷ []))
    ∙ ap (λ (u : List ℕ). old ++ u) (sym (text_of_both (map (elements_text names) (range_with_len 0 k)) (elements_text names k ∷ [])))
    ∙ ap (λ (ls : List (List ℕ)). old ++ text_of_lines ls) (sym (map-range_with_len_more (elements_text names) 0 k k (omega arith)))

-- ---- rows

pub row_more : (rows : List (List ℕ)) (i : ℕ) (row old t new : List ℕ) → i < length rows → row ≡ get_or rows i [] →
    t ≡ old ++ text_of_lines (map row_text (take i rows)) → new ≡ t ++ text_of_lines (row_text row ∷ []) →
    new ≡ old ++ text_of_lines (map row_text (take (i + 1) rows))
row_more rows i row old t new l r h e =
    line_more row_text (take i rows) row old t new h e
    ∙ ap (λ (rs : List (List ℕ)). old ++ text_of_lines (map row_text rs)) (ap (λ (x : List ℕ). take i rows ++ x ∷ []) r ∙ sym (take_more rows i [] l))

pub shown_digits : (f : Field) (n : ℕ) (vs : List (List ℕ)) → AreVectors f n vs → All (λ v. AreDigits Five v) vs
shown_digits f n vs h = λ i d l. (λ k e lk.
    let a = (h i d l).digits k e lk in
    let b = order-most f in
    omega (arith, a, b))

-- ---- operators

pub generator_more : (vs : List (List ℕ)) (k : ℕ) (v old t mid new : List ℕ) → 0 < k → k < length vs → v ≡ get_or vs k [] →
    t ≡ old ++ joined_text (get_or vs 0 []) (take (k - 1) (drop 1 vs)) → mid ≡ t ++ 47 ∷ [] → new ≡ mid ++ vector_text v →
    new ≡ old ++ joined_text (get_or vs 0 []) (take (k + 1 - 1) (drop 1 vs))
generator_more vs k v old t mid new p l e h em en =
    let joined = joined_text (get_or vs 0 []) (take (k - 1) (drop 1 vs)) in
    en ∙ ap (λ (u : List ℕ). u ++ vector_text v) (em ∙ ap (λ (u : List ℕ). u ++ 47 ∷ []) h ∙ append_assoc old joined (47 ∷ []))
    ∙ append_assoc old (joined ++ 47 ∷ []) (vector_text v)
    ∙ ap (λ (u : List ℕ). old ++ u) (rows_text_step vs 0 k v p (omega arith) (e ∙ ap (λ j. get_or vs j []) (let z : k ≡ 0 + k = omega arith in z)))

pub generator_done : (vs : List (List ℕ)) (k : ℕ) (old t : List ℕ) → 0 < length vs → k ≡ length vs →
    t ≡ old ++ joined_text (get_or vs 0 []) (take (k - 1) (drop 1 vs)) → t ≡ old ++ gen_text vs
generator_done vs k old t p e h =
    h ∙ ap (λ (u : List ℕ). old ++ u)
    (rows_text_done vs 0 (length vs) k (joined_text (get_or vs 0 []) (take (k - 1) (drop 1 vs))) p (omega arith) e refl
    ∙ ap gen_text (take_all (length vs) vs (omega arith)))

of_leaf : (l : leaves.Leaf) (i : Option Item) → l.item ≡ i → operator_lines (named_leaf l) ≡ []
unfolding operator_lines
of_leaf l None e = ap (λ i. operator_lines (named_leaf (record l { item = i }))) e
of_leaf l (Some x) e = ap (λ i. operator_lines (named_leaf (record l { item = i }))) e

pub no_operators : (n : nodes_of.Node) (l : leaves.Leaf) (text : List ℕ) → n ≡ nodes_of.Leaf l → text ≡ text ++ text_of_lines (operator_lines (named n))
unfolding named
no_operators n l text e =
    sym (append-nil text) ∙ ap (λ (ls : List (List ℕ)). text ++ text_of_lines ls) (sym (ap (λ x. operator_lines (named x)) e ∙ of_leaf l l.item refl))

join_operators : (name : List ℕ) (op : Op) (left right : Tree) →
    operator_lines left ++ (operator_lines right ++ operator_text name op ∷ []) ≡ operator_lines (Join name op left right)
unfolding operator_lines
join_operators name op left right = refl

-- a text with the operators of a join's left subtree, then with those of its right one, and then with its own
pub operators_of_join : (node : nodes_of.Node) (name : List ℕ) (op : OpValue) (l r : Box nodes_of.Node Global) (text : List ℕ) → node ≡ views.Join name op l r
    → ((text ++ text_of_lines (operator_lines (named l.value))) ++ text_of_lines (operator_lines (named r.value))) ++ text_of_lines (operator_text name op.op ∷ [])
    ≡ text ++ text_of_lines (operator_lines (named node))
operators_of_join node name op l r text e =
    let left = operator_lines (named l.value) in
    let right = operator_lines (named r.value) in
    let last : List (List ℕ) = operator_text name op.op ∷ [] in
    append_assoc (text ++ text_of_lines left) (text_of_lines right) (text_of_lines last)
    ∙ append_assoc text (text_of_lines left) (text_of_lines right ++ text_of_lines last)
    ∙ ap (λ (t : List ℕ). text ++ t) (ap (λ (t : List ℕ). text_of_lines left ++ t) (sym (text_of_both right last)) ∙ sym (text_of_both left (right ++ last)))
    ∙ ap (λ (ls : List (List ℕ)). text ++ text_of_lines ls) (join_operators name op.op (named l.value) (named r.value))
    ∙ ap (λ (t : Tree). text ++ text_of_lines (operator_lines t)) (sym (ap named e ∙ named_join name op l r))

-- ---- the line of an operator

-- a text that grows twice
twice : (old t new a b : List ℕ) → t ≡ old ++ a → new ≡ t ++ b → new ≡ old ++ (a ++ b)
twice old t new a b e f = f ∙ ap (λ (u : List ℕ). u ++ b) e ∙ append_assoc old a b

-- what comes after a word of a line
abbrev rest_of_line : List (List ℕ) → List ℕ
rest_of_line [] = 10 ∷ []
rest_of_line (w ∷ ws) = 32 ∷ (w ++ rest_of_line ws)

word_line : (w : List ℕ) (ws : List (List ℕ)) → spaced (w ∷ ws) ++ 10 ∷ [] ≡ w ++ rest_of_line ws
word_line w [] = refl
word_line w (v ∷ ws) = append_assoc w (32 ∷ spaced (v ∷ ws)) (10 ∷ []) ∙ ap (λ (u : List ℕ). w ++ 32 ∷ u) (word_line v ws)

-- the name, the numbers and the matrices that are written are those of the operator
pub operator_line : (name : List ℕ) (op : Op) (old t1 t2 t3 t4 t5 t6 t7 t8 t9 t10 new word : List ℕ) (n1 n2 n3 n4 : ℕ) (g1 g2 : List (List ℕ)) →
    word ≡ name → n1 ≡ op.t1 → n2 ≡ op.t2 → n3 ≡ op.t3 → n4 ≡ op.c → g1 ≡ op.g1 → g2 ≡ op.g2 →
    t1 ≡ old ++ codes "op " → t2 ≡ t1 ++ word → t3 ≡ t2 ++ 32 ∷ decimal n1 → t4 ≡ t3 ++ 32 ∷ decimal n2 → t5 ≡ t4 ++ 32 ∷ decimal n3 →
    t6 ≡ t5 ++ 32 ∷ decimal n4 → t7 ≡ t6 ++ 32 ∷ [] → t8 ≡ t7 ++ gen_text g1 → t9 ≡ t8 ++ 32 ∷ [] → t10 ≡ t9 ++ gen_text g2 → new ≡ t10 ++ 10 ∷ [] →
    new ≡ old ++ text_of_lines (operator_text name op ∷ [])
operator_line name op old t1 t2 t3 t4 t5 t6 t7 t8 t9 t10 new word n1 n2 n3 n4 g1 g2 ew a1 a2 a3 a4 b1 b2 e1 e2 e3 e4 e5 e6 e7 e8 e9 e10 e =
    let number : List ℕ → ℕ → List ℕ = λ t n. t ++ 32 ∷ decimal n in
    let s10 = twice t9 t10 new (gen_text op.g2) (10 ∷ []) (e10 ∙ ap (λ (g : List (List ℕ)). t9 ++ gen_text g) b2) e in
    let s9 = twice t8 t9 new (32 ∷ []) (gen_text op.g2 ++ 10 ∷ []) e9 s10 in
    let s8 = twice t7 t8 new (gen_text op.g1) (32 ∷ (gen_text op.g2 ++ 10 ∷ [])) (e8 ∙ ap (λ (g : List (List ℕ)). t7 ++ gen_text g) b1) s9 in
    let s7 = twice t6 t7 new (32 ∷ []) _ e7 s8 in
    let s6 = twice t5 t6 new (32 ∷ decimal op.c) _ (e6 ∙ ap (number t5) a4) s7 in
    let s5 = twice t4 t5 new (32 ∷ decimal op.t3) _ (e5 ∙ ap (number t4) a3) s6 in
    let s4 = twice t3 t4 new (32 ∷ decimal op.t2) _ (e4 ∙ ap (number t3) a2) s5 in
    let s3 = twice t2 t3 new (32 ∷ decimal op.t1) _ (e3 ∙ ap (number t2) a1) s4 in
    let s2 = twice t1 t2 new name _ (e2 ∙ ap (λ (t : List ℕ). t1 ++ t) ew) s3 in
    twice old t1 new (codes "op ") _ e1 s2
    ∙ ap (λ (u : List ℕ). old ++ u) (sym (word_line (codes "op")
    (name ∷ decimal op.t1 ∷ decimal op.t2 ∷ decimal op.t3 ∷ decimal op.c ∷ gen_text op.g1 ∷ gen_text op.g2 ∷ [])))

-- ---- the whole header

pub whole_header : (names : List (List ℕ)) (rows : MatrixValue) (tree : Tree) →
    (((((text_of_lines (codes "mso 1" ∷ field_text rows.f ∷ []) ++ text_of_lines (elements_lines names)) ++ text_of_lines (map row_text rows.rows))
    ++ text_of_lines (operator_lines tree)) ++ text_of_lines (codes "tree" ∷ [])) ++ tree_text tree) ≡ header_text names rows tree
unfolding header_text
whole_header names rows tree =
    let first : List (List ℕ) = codes "mso 1" ∷ field_text rows.f ∷ [] in
    let es = elements_lines names in
    let rs = map row_text rows.rows in
    let os = operator_lines tree in
    let last : List (List ℕ) = codes "tree" ∷ [] in
    let T = text_of_lines in
    ap (λ (t : List ℕ). t ++ tree_text tree)
    (append_assoc ((T first ++ T es) ++ T rs) (T os) (T last) ∙ ap (λ (t : List ℕ). ((T first ++ T es) ++ T rs) ++ t) (sym (text_of_both os last))
    ∙ append_assoc (T first ++ T es) (T rs) (T (os ++ last)) ∙ ap (λ (t : List ℕ). (T first ++ T es) ++ t) (sym (text_of_both rs (os ++ last)))
    ∙ append_assoc (T first) (T es) (T (rs ++ (os ++ last))) ∙ ap (λ (t : List ℕ). T first ++ t) (sym (text_of_both es (rs ++ (os ++ last))))
    ∙ sym (text_of_both first (es ++ (rs ++ (os ++ last)))))

pub header_made : (names : List (List ℕ)) (rows : MatrixValue) (tree node : Tree) (f : Field) (t0 t1 t2 t3 t4 t5 t6 last : List ℕ) → t0 ≡ [] → f ≡ rows.f →
    node ≡ tree → last ≡ tree_text tree → t1 ≡ t0 ++ text_of_lines (codes "mso 1" ∷ field_text f ∷ []) → t2 ≡ t1 ++ text_of_lines (elements_lines names) →
    t3 ≡ t2 ++ text_of_lines (map row_text rows.rows) → t4 ≡ t3 ++ text_of_lines (operator_lines node) → t5 ≡ t4 ++ text_of_lines (codes "tree" ∷ []) →
    t6 ≡ t5 ++ last → t6 ≡ header_text names rows tree
header_made names rows tree node f t0 t1 t2 t3 t4 t5 t6 last none ef en el e1 e2 e3 e4 e5 e6 =
    let tree_line : List ℕ = text_of_lines (codes "tree" ∷ []) in
    let row_lines : List ℕ = text_of_lines (map row_text rows.rows) in
    let first : t1 ≡ text_of_lines (codes "mso 1" ∷ field_text rows.f ∷ []) =
    e1 ∙ ap₂ (λ (t : List ℕ) (g : Field). t ++ text_of_lines (codes "mso 1" ∷ field_text g ∷ [])) none ef in
    e6 ∙ ap₂ (λ (t u : List ℕ). t ++ u) (e5 ∙ ap (λ (t : List ℕ). t ++ tree_line) (e4
    ∙ ap₂ (λ (t : List ℕ) (n : Tree). t ++ text_of_lines (operator_lines n)) (e3 ∙ ap (λ (t : List ℕ). t ++ row_lines) (e2
    ∙ ap (λ (t : List ℕ). t ++ text_of_lines (elements_lines names)) first)) en)) el
    ∙ whole_header names rows tree
