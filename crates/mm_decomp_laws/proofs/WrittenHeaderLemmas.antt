-- A header that is written is read as what was written.
use Rattle.std.proofs.Common.{◌≡◌, ℕ, zero, suc, ◌+◌, ◌*◌, ◌≤◌, List, [], ◌∷◌, ◌++◌, length, map, take, drop, Some, refl, sym, ap, ap₂, ◌∙◌, append_assoc, append-nil, subst, arith, true, false}
use Rattle.std.specs.Prelude.{codes, Ok}
use Rattle.std.specs.declared.result.Result.{Result}
use Rattle.std.specs.List.{range_with_len, AllByRecursion, IsDistinct}
use Rattle.std.specs.Str.{bytes_eq}
use Rattle.std.proofs.lemmas.Grind.{div_ceil_times}
use Rattle.std.proofs.lemmas.List.{length-append, length-map, length-take, map-append, take_all}
use Rattle.std.proofs.lemmas.List.Elements.{All-drop, All-head, All-tail, All-take}
use Rattle.std.proofs.lemmas.List.FromFn.{length-range_with_len}
use Rattle.mm_base.specs.Names.{is_name}
use Rattle.mm_field.specs.Vectors.{AreVectors, IsVector}
use Rattle.mm_field.specs.declared.Field.{Field}
use Rattle.mm_header.specs.Header.{HeaderValue, Parts, elements_part, field_part, ops_part, parts, rows_part, tree_part_of}
use Rattle.mm_header.specs.Rules.{job_rules}
use Rattle.mm_lines.specs.Lines.{lines, most_bytes}
use Rattle.mm_lines.specs.declared.line.Line.{Line}
use Rattle.mm_matrix.specs.MatrixValue.{MatrixValue}
use Rattle.mm_ops.specs.OpValue.{OpValue}
use Rattle.mm_ops.specs.Tables.{NamesDiffer, OperatorList, op_named}
use Rattle.mm_tree.specs.NamedTree.{Tree, leaf_names, nodes, shape}
use Rattle.mm_tree.specs.NamedTree.Tree.{Elem, Void, Join}
use Rattle.mm_tree.specs.TreeText.{node_lines, text_of_lines, tree_text}
use Rattle.mm_tree.specs.ValidTree.{AreNames, IsValidTree}
use Rattle.mm_tree.proofs.TextLemmas.{text_of_both}
use Rattle.mm_tree.proofs.TreeLemmas.{few_nodes, names_join, valid_left, valid_right}
use Rattle.mm_job_text.specs.Arguments.{first_is}
use Rattle.mm_job_text.specs.HeaderLines.{elements_line, row_line, tree_line}
use Rattle.mm_job_text.specs.OperatorLines.{op_line}
use Rattle.mm_job_text.specs.Readers.{Reader, Reading, Read, and_then, line, now}
use Rattle.mm_job_text.specs.TreeLines.{end_line, is_tree_part, tree_lines, tree_part}
use Rattle.mm_job_text.specs.WrittenTrees.{HoldsJoins}
use Rattle.mm_job_text.specs.declared.format.Format.{Format}
use Rattle.mm_job_text.specs.declared.format.Format.TheVariants as format
use Rattle.mm_job_text.specs.declared.refusal.Refusal.{Refusal}
use Rattle.mm_job_text.proofs.SpacedLemmas.{tokens_spaced}
use Rattle.mm_job_text.proofs.TextLineLemmas.{ArePlain, length_text, line_at, lines_at, lines_at_both}
use Rattle.mm_job_text.proofs.WrittenLineLemmas.{end_is_no_part, end_is_word, end_plain, end_read}
use Rattle.mm_job_text.proofs.WrittenTreeLemmas.{alone, each_stops, node_count, plain_nodes, reads_tree}
use Rattle.mm_decomp.specs.HeaderText.{elements_lines, elements_text, field_text, header_text, lines_before_tree, name_lines, names_of_line, operator_lines, operator_text, row_text}
use Rattle.mm_decomp_laws.specs.WrittenHeaders.{IsOfFormatOne, IsReadable, WrittenHeadersAreRead, header_length, header_parts, lines_after, most_after, operators_of}
use Rattle.mm_decomp_laws.proofs.HeaderReadLemmas.{IsGoodEntry, Stops, entry_text, field_read, format_read, found_under_name, group_ends, group_stops, reads_names, reads_operators, reads_rows, small_op, tree_read}
use Rattle.mm_decomp_laws.proofs.HeaderTextLineLemmas.{AreReadLines, length_lines, lines_both, lines_of_front, of_plain}
use Rattle.mm_decomp_laws.proofs.HeaderWordLemmas.{StartsWith, elements_is_read, elements_start, field_is_read, format_is_read, op_is_read, op_starts, row_is_read, row_starts, tree_is_read, tree_words}

-- ---- the operators of a tree

operator_lines_are : (f : Field) (tree : Tree) → operator_lines tree ≡ map entry_text (operators_of f tree)
unfolding operator_lines operators_of
operator_lines_are f (Elem name vec weight) = refl
operator_lines_are f (Void name t) = refl
operator_lines_are f (Join name op left right) =
    let own : OperatorList = (name, record { f = f; op = op }) ∷ [] in
    ap₂ (λ (a b : List (List ℕ)). a ++ b) (operator_lines_are f left)
    (ap (λ (ls : List (List ℕ)). ls ++ operator_text name op ∷ []) (operator_lines_are f right) ∙ sym (map-append entry_text (operators_of f right) own))
    ∙ sym (map-append entry_text (operators_of f left) (operators_of f right ++ own))

both_good : (f : Field) (xs ys : OperatorList) → AllByRecursion (IsGoodEntry f) xs → AllByRecursion (IsGoodEntry f) ys → AllByRecursion (IsGoodEntry f) (xs ++ ys)
both_good f [] ys p q = q
both_good f (x ∷ xs) ys p q = (p.0, both_good f xs ys p.1 q)

good_entries : (f : Field) (tree : Tree) → IsValidTree f tree → IsOfFormatOne tree → AllByRecursion (IsGoodEntry f) (operators_of f tree)
unfolding operators_of IsOfFormatOne shape
good_entries f (Elem name vec weight) v u = tt
good_entries f (Void name t) v u = tt
good_entries f (Join name op left right) v u =
    let own : OperatorList = (name, record { f = f; op = op }) ∷ [] in
    both_good f (operators_of f left) (operators_of f right ++ own) (good_entries f left (valid_left f name op left right v) u.1)
    (both_good f (operators_of f right) own (good_entries f right (valid_right f name op left right v) u.2)
    (record { field = refl; named = (names_join name op left right v.formed).0; valid = v.valid_shape.0; units = u.0 }, tt))

count_operators : (f : Field) (tree : Tree) → length (operators_of f tree) + 1 ≡ length (leaf_names tree)
unfolding operators_of leaf_names
count_operators f (Elem name vec weight) = refl
count_operators f (Void name t) = refl
count_operators f (Join name op left right) =
    let own : OperatorList = (name, record { f = f; op = op }) ∷ [] in
    let a = count_operators f left in
    let b = count_operators f right in
    let c = length-append (operators_of f left) (operators_of f right ++ own) in
    let d = length-append (operators_of f right) own in
    let e = length-append (leaf_names left) (leaf_names right) in
    omega arith

held : (f : Field) (tree : Tree) (before after : OperatorList) → NamesDiffer (before ++ (operators_of f tree ++ after))
    → HoldsJoins f (before ++ (operators_of f tree ++ after)) tree
unfolding operators_of HoldsJoins
held f (Elem name vec weight) before after d = tt
held f (Void name t) before after d = tt
held f (Join name op left right) before after d =
    let xs = operators_of f left in
    let ys = operators_of f right in
    let entry : List ℕ × OpValue = (name, record { f = f; op = op }) in
    let all : OperatorList = before ++ ((xs ++ (ys ++ entry ∷ [])) ++ after) in
    let first : all ≡ before ++ (xs ++ ((ys ++ entry ∷ []) ++ after)) = ap (λ (zs : OperatorList). before ++ zs) (append_assoc xs (ys ++ entry ∷ []) after) in
    let second : all ≡ (before ++ xs) ++ (ys ++ entry ∷ after) =
    first ∙ ap (λ (zs : OperatorList). before ++ (xs ++ zs)) (append_assoc ys (entry ∷ []) after) ∙ sym (append_assoc before xs (ys ++ entry ∷ after)) in
    let third : all ≡ ((before ++ xs) ++ ys) ++ entry ∷ after = second ∙ sym (append_assoc (before ++ xs) ys (entry ∷ after)) in (
      subst (λ (zs : OperatorList). op_named name zs ≡ Some entry.1) (sym third)
          (found_under_name ((before ++ xs) ++ ys) entry after (subst (λ (zs : OperatorList). NamesDiffer zs) third d)),
      subst (λ (zs : OperatorList). HoldsJoins f zs left) (sym first)
          (held f left before ((ys ++ entry ∷ []) ++ after) (subst (λ (zs : OperatorList). NamesDiffer zs) first d)),
      subst (λ (zs : OperatorList). HoldsJoins f zs right) (sym second)
          (held f right (before ++ xs) (entry ∷ after) (subst (λ (zs : OperatorList). NamesDiffer zs) second d)),
    )

-- ---- the groups of lines

named_part : (names : List (List ℕ)) (k : ℕ) → AreNames names → AreNames (names_of_line names k)
named_part names k h = All-take (λ m. is_name m ≡ true) 64 (drop (64 * k) names) (All-drop (λ m. is_name m ≡ true) (64 * k) names h)

names_are_read : (names : List (List ℕ)) (c k : ℕ) → AreNames names → AreReadLines (map (elements_text names) (range_with_len k c))
names_are_read names zero k h = tt
names_are_read names (suc c) k h =
    let ts = names_of_line names k in
    (elements_is_read ts (named_part names k h) (omega (arith, length-take 64 (drop (64 * k) names))), names_are_read names c (k + 1) h)

names_start : (names : List (List ℕ)) (c k : ℕ) → AreNames names → AllByRecursion (StartsWith (codes "elements")) (map (elements_text names) (range_with_len k c))
names_start names zero k h = tt
names_start names (suc c) k h = (elements_start (names_of_line names k) (named_part names k h), names_start names c (k + 1) h)

rows_are_read : (f : Field) (m : ℕ) (rows : List (List ℕ)) → m ≤ 4096 → AreVectors f m rows → AreReadLines (map row_text rows)
rows_are_read f m [] few h = tt
rows_are_read f m (row ∷ rows) few h =
    (row_is_read row (omega (arith, few, (All-head (λ x. IsVector f m x) row rows h).len)), rows_are_read f m rows few (All-tail (λ x. IsVector f m x) row rows h))

rows_start : (rows : List (List ℕ)) → AllByRecursion (StartsWith (codes "row")) (map row_text rows)
rows_start [] = tt
rows_start (row ∷ rows) = (row_starts row, rows_start rows)

entries_are_read : (f : Field) (entries : OperatorList) → AllByRecursion (IsGoodEntry f) entries → AreReadLines (map entry_text entries)
entries_are_read f [] h = tt
entries_are_read f (entry ∷ entries) h =
    (op_is_read entry.0 entry.1.op h.0.named (small_op f entry.1.op h.0.valid), entries_are_read f entries h.1)

entries_start : (f : Field) (entries : OperatorList) → AllByRecursion (IsGoodEntry f) entries → AllByRecursion (StartsWith (codes "op")) (map entry_text entries)
entries_start f [] h = tt
entries_start f (entry ∷ entries) h =
    (op_starts entry.0 entry.1.op h.0.named (small_op f entry.1.op h.0.valid), entries_start f entries h.1)

-- ---- reading, from the last part to the first

module _ (f : Field) where
  abbrev value : (names rows : List (List ℕ)) → OperatorList → HeaderValue
  value names rows ops = record { version = format.One; f = f; names = names; rows = rows; ops = ops }

  reads_lines_of_tree : (most : ℕ) (ops : OperatorList) (tree : Tree) (n m : ℕ) (after : List Line) → IsValidTree f tree → length (leaf_names tree) ≤ most
      → HoldsJoins f ops tree → tree_lines most f ops [] (lines_at n (node_lines tree) ++ (line_at m (codes "end") ∷ after)) ≡ Read (tree, m) after
  unfolding tree_lines
  reads_lines_of_tree most ops tree n m after v room j =
      let last = line_at m (codes "end") in
      let part = tree_part most f ops in
      let e = tokens_spaced (codes "end") [] (end_is_word, tt) in
      let finish : List Tree → List Line → Reading (Tree × ℕ) = (λ (all : List Tree). line (end_line all)) in
      ap (λ (reading : Reading (List Tree)). and_then reading finish)
      (reads_tree most f ops tree [] n (last ∷ after) v j (alone most f tree v room)
      ∙ each_stops is_tree_part part (tree ∷ []) last after (end_is_no_part last e))
      ∙ ap (λ (res : Result (Tree × ℕ) Refusal). now res after) (end_read tree last e)

  reads_tree_part : (h : HeaderValue) (tree : Tree) (n m : ℕ) (after : List Line) → h.f ≡ f → IsValidTree f tree → length (leaf_names tree) ≤ 8192
      → HoldsJoins f h.ops tree
      → tree_part_of job_rules h [] (lines_at n (node_lines tree) ++ (line_at m (codes "end") ∷ after)) ≡ Read (h, tree) after
  unfolding tree_part_of
  reads_tree_part h tree n m after e v room j =
      let rs : List Line = lines_at n (node_lines tree) ++ (line_at m (codes "end") ∷ after) in
      let next : Tree × ℕ → Reader Parts = (λ (t : Tree × ℕ). now (Ok (h, t.0))) in
      ap (λ (g : Field). and_then (tree_lines 8192 g h.ops [] rs) next) e
      ∙ ap (λ (reading : Reading (Tree × ℕ)). and_then reading next) (reads_lines_of_tree 8192 h.ops tree n m after v room j)

  tree_stops : (word : List ℕ) (n : ℕ) (rest : List Line) → bytes_eq word (codes "tree") ≡ false → Stops word (line_at n (codes "tree") ∷ rest)
  tree_stops word n rest d = record {
    first = line_at n (codes "tree");
    more = rest;
    is = refl;
    other = ap (first_is word) (tokens_spaced (codes "tree") [] tree_words) ∙ d;
  }

  reads_ops_part : (names rows : List (List ℕ)) (entries : OperatorList) (n m : ℕ) (rest : List Line) → AllByRecursion (IsGoodEntry f) entries → NamesDiffer entries
      → length entries ≤ 4096
      → ops_part job_rules (value names rows []) (lines_at n (map entry_text entries) ++ (line_at m (codes "tree") ∷ rest))
      ≡ tree_part_of job_rules (value names rows entries) [] rest
  unfolding ops_part
  reads_ops_part names rows entries n m rest good d few =
      let tail : List Line = line_at m (codes "tree") ∷ rest in
      let rest_of : OperatorList → Reader Parts = (λ (ops : OperatorList). tree_part_of job_rules (value names rows ops) []) in
      let next : OperatorList → Reader Parts = (λ (ops : OperatorList) (rs : List Line). and_then (line tree_line rs) (λ u. rest_of ops)) in
      ap (λ (reading : Reading OperatorList). and_then reading next)
      (reads_operators f [] entries n tail good d (omega (arith, few))
      ∙ group_ends (codes "op") (op_line format.One f) entries tail (tree_stops (codes "op") m rest refl))
      ∙ ap (λ (res : Result (Unit {0}) Refusal). and_then (now res rest) (λ u. rest_of entries)) (tree_read m)

  reads_rows_part : (names rows : List (List ℕ)) (n : ℕ) (rest : List Line) → AreVectors f (length names) rows → length rows ≤ 4096 → Stops (codes "row") rest
      → rows_part job_rules (value names [] []) (lines_at n (map row_text rows) ++ rest) ≡ ops_part job_rules (value names rows []) rest
  unfolding rows_part
  reads_rows_part names rows n rest h few s =
      let next : List (List ℕ) → Reader Parts = (λ (all : List (List ℕ)). ops_part job_rules (value names all [])) in
      ap (λ (reading : Reading (List (List ℕ))). and_then reading next)
      (reads_rows f (length names) [] rows n rest h (omega (arith, few)) ∙ group_ends (codes "row") (row_line f (length names)) rows rest s)

  reads_elements_part : (names : List (List ℕ)) (n : ℕ) (rest : List Line) → AreNames names → IsDistinct bytes_eq names → length names ≤ 4096
      → Stops (codes "elements") rest
      → elements_part job_rules (value [] [] []) (lines_at n (elements_lines names) ++ rest) ≡ rows_part job_rules (value names [] []) rest
  unfolding elements_part
  reads_elements_part names n rest h d few s =
      let g = elements_line 8192 in
      let count = name_lines names in
      let next : List (List ℕ) → Reader Parts = (λ (all : List (List ℕ)). rows_part job_rules (value all [] [])) in
      let b = div_ceil_times (length names) 64 (omega arith) in
      let all : take (64 * (0 + count)) names ≡ names = take_all (64 * (0 + count)) names (omega (arith, b.0)) in
      ap (λ (reading : Reading (List (List ℕ))). and_then reading next)
      (reads_names 8192 names count 0 n rest d h (omega (arith, few))
      ∙ group_ends (codes "elements") g (take (64 * (0 + count)) names) rest s
      ∙ ap (λ (ns : List (List ℕ)). Read ns rest) all)

  reads_field_part : (rest : List Line) → field_part job_rules format.One (line_at 2 (field_text f) ∷ rest) ≡ elements_part job_rules (value [] [] []) rest
  unfolding field_part
  reads_field_part rest =
      let next : Field → Reader Parts =
      (λ (g : Field). elements_part job_rules (record { version = format.One; f = g; names = []; rows = []; ops = [] })) in
      ap (λ (res : Result Field Refusal). and_then (now res rest) next) (field_read f 2)

reads_format : (rest : List Line) → parts job_rules (line_at 1 (codes "mso 1") ∷ rest) ≡ field_part job_rules format.One rest
unfolding parts
reads_format rest = ap (λ (res : Result Format Refusal). and_then (now res rest) (field_part job_rules)) (format_read 1)

-- ---- the whole header

module _ (names : List (List ℕ)) (rows : MatrixValue) (tree : Tree) (h : IsReadable names rows tree) where
  abbrev f : Field
  f = rows.f

  abbrev entries : OperatorList
  entries = operators_of f tree

  abbrev Es : List (List ℕ)
  Es = elements_lines names

  abbrev Rs : List (List ℕ)
  Rs = map row_text rows.rows

  abbrev Os : List (List ℕ)
  Os = map entry_text entries

  abbrev Ns : List (List ℕ)
  Ns = node_lines tree

  abbrev end : List (List ℕ)
  end = codes "end" ∷ []

  abbrev first_lines : List (List ℕ)
  first_lines = lines_before_tree names rows tree

  vectors : AreVectors f (length names) rows.rows
  vectors = subst (λ n. AreVectors f n rows.rows) h.columns h.is_matrix

  good : AllByRecursion (IsGoodEntry f) entries
  good = good_entries f tree h.valid h.format

  count_entries : length entries + 1 ≤ 4096
  count_entries = omega (arith, count_operators f tree, h.few_leaves)

  count_names : length Es ≤ 64
  count_names =
      let b = div_ceil_times (length names) 64 (omega arith) in
      omega (arith, h.few, b.1, length-map (range_with_len 0 (name_lines names)) (elements_text names), length-range_with_len 0 (name_lines names))

  as_entries : first_lines ≡ codes "mso 1" ∷ field_text f ∷ (Es ++ (Rs ++ (Os ++ codes "tree" ∷ [])))
  as_entries =
      ap (λ (os : List (List ℕ)). codes "mso 1" ∷ field_text f ∷ (Es ++ (Rs ++ (os ++ codes "tree" ∷ [])))) (operator_lines_are f tree)

  before_are_read : AreReadLines first_lines
  before_are_read =
      subst (λ (ls : List (List ℕ)). AreReadLines ls) (sym as_entries) (
        format_is_read,
        (
          field_is_read f,
          lines_both Es (Rs ++ (Os ++ codes "tree" ∷ [])) (names_are_read names (name_lines names) 0 h.named)
              (lines_both Rs (Os ++ codes "tree" ∷ []) (rows_are_read f (length names) rows.rows (omega (arith, h.few)) vectors)
              (lines_both Os (codes "tree" ∷ []) (entries_are_read f entries good) (tree_is_read, tt))),
        ),
      )

  count_before : length first_lines ≤ 8258
  count_before =
      omega (
        arith,
        ap length as_entries,
        length-append Es (Rs ++ (Os ++ codes "tree" ∷ [])),
        length-append Rs (Os ++ codes "tree" ∷ []),
        length-append Os (codes "tree" ∷ []),
        count_names,
        length-map rows.rows row_text,
        length-map entries entry_text,
        h.few_rows,
        count_entries,
      )

  plain_tree : (ls : List (List ℕ)) → ArePlain ls → ArePlain (ls ++ end)
  plain_tree [] p = (end_plain, tt)
  plain_tree (l ∷ ls) p = (p.0, plain_tree ls p.1)

  tree_plain : ArePlain (Ns ++ end)
  tree_plain = plain_tree Ns (plain_nodes f tree h.valid)

  count_tree : length (Ns ++ end) ≡ nodes tree + 1
  count_tree = length-append Ns end ∙ ap (λ (n : ℕ). n + 1) (node_count tree)

  text_is : header_text names rows tree ≡ text_of_lines (first_lines ++ (Ns ++ end))
  unfolding header_text tree_text
  text_is = sym (text_of_both first_lines (Ns ++ end))

  small : (rest : List ℕ) → length rest ≤ most_after → length (text_of_lines (first_lines ++ (Ns ++ end)) ++ rest) ≤ most_bytes
  small rest l =
      omega (
        arith,
        l,
        length-append (text_of_lines (first_lines ++ (Ns ++ end))) rest,
        ap length (text_of_both first_lines (Ns ++ end)),
        length-append (text_of_lines first_lines) (text_of_lines (Ns ++ end)),
        length_lines first_lines before_are_read,
        count_before,
        length_text (Ns ++ end) tree_plain,
        count_tree,
        few_nodes f tree h.valid,
      )

  lines_are : (rest : List ℕ) → length rest ≤ most_after
      → lines (header_text names rows tree ++ rest) ≡ lines_at 1 (first_lines ++ (Ns ++ end)) ++ lines_after (header_length names rows tree) rest
  lines_are rest l =
      let ls : List (List ℕ) = first_lines ++ (Ns ++ end) in
      let count : length ls ≡ header_length names rows tree = length-append first_lines (Ns ++ end) ∙ omega (arith, count_tree) in
      ap (λ (t : List ℕ). lines (t ++ rest)) text_is
      ∙ lines_of_front ls rest (lines_both first_lines (Ns ++ end) before_are_read (of_plain (Ns ++ end) tree_plain)) (small rest l)
      ∙ ap (λ (n : ℕ). lines_at 1 ls ++ lines_after n rest) count

  -- the numbers of the first lines of the groups
  abbrev n1 : ℕ
  n1 = 3 + length Es

  abbrev n2 : ℕ
  n2 = n1 + length Rs

  abbrev n3 : ℕ
  n3 = n2 + length Os

  abbrev n4 : ℕ
  n4 = n3 + 1 + length Ns

  abbrev of_tree : List Line → List Line
  of_tree after = lines_at (n3 + 1) Ns ++ (line_at n4 (codes "end") ∷ after)

  abbrev from_operators : List Line → List Line
  from_operators after = lines_at n2 Os ++ (line_at n3 (codes "tree") ∷ of_tree after)

  abbrev from_rows : List Line → List Line
  from_rows after = lines_at n1 Rs ++ from_operators after

  abbrev from_names : List Line → List Line
  from_names after = lines_at 3 Es ++ from_rows after

  tree_cut : (after : List Line) → lines_at (n3 + 1) (Ns ++ end) ++ after ≡ of_tree after
  tree_cut after =
      ap (λ (ls : List Line). ls ++ after) (lines_at_both (n3 + 1) Ns end) ∙ append_assoc (lines_at (n3 + 1) Ns) (line_at n4 (codes "end") ∷ []) after

  operators_cut : (after : List Line) → lines_at n2 (Os ++ codes "tree" ∷ (Ns ++ end)) ++ after ≡ from_operators after
  operators_cut after =
      ap (λ (ls : List Line). ls ++ after) (lines_at_both n2 Os (codes "tree" ∷ (Ns ++ end)))
      ∙ append_assoc (lines_at n2 Os) (line_at n3 (codes "tree") ∷ lines_at (n3 + 1) (Ns ++ end)) after
      ∙ ap (λ (ls : List Line). lines_at n2 Os ++ (line_at n3 (codes "tree") ∷ ls)) (tree_cut after)

  rows_cut : (after : List Line) → lines_at n1 (Rs ++ (Os ++ codes "tree" ∷ (Ns ++ end))) ++ after ≡ from_rows after
  rows_cut after =
      let more : List (List ℕ) = Os ++ codes "tree" ∷ (Ns ++ end) in
      ap (λ (ls : List Line). ls ++ after) (lines_at_both n1 Rs more) ∙ append_assoc (lines_at n1 Rs) (lines_at n2 more) after
      ∙ ap (λ (ls : List Line). lines_at n1 Rs ++ ls) (operators_cut after)

  names_cut : (after : List Line) → lines_at 3 (Es ++ (Rs ++ (Os ++ codes "tree" ∷ (Ns ++ end)))) ++ after ≡ from_names after
  names_cut after =
      let more : List (List ℕ) = Rs ++ (Os ++ codes "tree" ∷ (Ns ++ end)) in
      ap (λ (ls : List Line). ls ++ after) (lines_at_both 3 Es more) ∙ append_assoc (lines_at 3 Es) (lines_at n1 more) after
      ∙ ap (λ (ls : List Line). lines_at 3 Es ++ ls) (rows_cut after)

  groups : first_lines ++ (Ns ++ end) ≡ codes "mso 1" ∷ field_text f ∷ (Es ++ (Rs ++ (Os ++ codes "tree" ∷ (Ns ++ end))))
  groups =
      let last : List (List ℕ) = codes "tree" ∷ [] in
      ap (λ (ls : List (List ℕ)). ls ++ (Ns ++ end)) as_entries
      ∙ ap (λ (ls : List (List ℕ)). codes "mso 1" ∷ field_text f ∷ ls)
      (append_assoc Es (Rs ++ (Os ++ last)) (Ns ++ end)
      ∙ ap (λ (ls : List (List ℕ)). Es ++ ls) (append_assoc Rs (Os ++ last) (Ns ++ end) ∙ ap (λ (ls : List (List ℕ)). Rs ++ ls) (append_assoc Os last (Ns ++ end))))

  cut : (after : List Line) → lines_at 1 (first_lines ++ (Ns ++ end)) ++ after ≡ line_at 1 (codes "mso 1") ∷ line_at 2 (field_text f) ∷ from_names after
  cut after =
      ap (λ (ls : List (List ℕ)). lines_at 1 ls ++ after) groups
      ∙ ap (λ (ls : List Line). line_at 1 (codes "mso 1") ∷ line_at 2 (field_text f) ∷ ls) (names_cut after)

  operators_stop : (word : List ℕ) (after : List Line) → bytes_eq word (codes "op") ≡ false → bytes_eq word (codes "tree") ≡ false → Stops word (from_operators after)
  operators_stop word after d e =
      group_stops word (codes "op") n2 Os (line_at n3 (codes "tree") ∷ of_tree after) d (entries_start f entries good) (tree_stops f word n3 (of_tree after) e)

  all_operators : HoldsJoins f entries tree
  all_operators =
      let e : entries ++ [] ≡ entries = append-nil entries in
      subst (λ (es : OperatorList). HoldsJoins f es tree) e (held f tree [] [] (subst (λ (es : OperatorList). NamesDiffer es) (sym e) h.operators))

  reads_groups : (after : List Line) → parts job_rules (lines_at 1 (first_lines ++ (Ns ++ end)) ++ after) ≡ Read (header_parts names rows tree) after
  reads_groups after =
      ap (parts job_rules) (cut after)
      ∙ reads_format (line_at 2 (field_text f) ∷ from_names after)
      ∙ reads_field_part f (from_names after)
      ∙ reads_elements_part f names 3 (from_rows after) h.named h.different h.few
      (group_stops (codes "elements") (codes "row") n1 Rs (from_operators after) refl (rows_start rows.rows) (operators_stop (codes "elements") after refl refl))
      ∙ reads_rows_part f names rows.rows n1 (from_operators after) vectors h.few_rows (operators_stop (codes "row") after refl refl)
      ∙ reads_ops_part f names rows.rows entries n2 n3 (of_tree after) good h.operators (omega (arith, count_entries))
      ∙ reads_tree_part f (value f names rows.rows entries) tree (n3 + 1) n4 after refl h.valid (omega (arith, h.few_leaves)) all_operators

pub written_headers : WrittenHeadersAreRead
written_headers names rows tree rest h l =
    ap (parts job_rules) (lines_are names rows tree h rest l) ∙ reads_groups names rows tree h (lines_after (header_length names rows tree) rest)
