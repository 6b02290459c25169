-- Each line of a header, and each of its groups of lines, is read as what was written.
use Rattle.std.proofs.Common.{◌≡◌, ℕ, zero, suc, ◌+◌, ◌-◌, ◌*◌, ◌<◌, ◌≤◌, Bool, true, false, nat_eq, List, [], ◌∷◌, ◌++◌, length, map, take, drop, Some, None, refl, sym, ap, ap₂, ◌∙◌, append_assoc, append-nil, subst, arith}
use Rattle.std.specs.Prelude.{◌&&◌, ◌||◌, ◌==◌, nat_le, nat_lt, codes, All, Ok, if◌then◌else◌}
use Rattle.std.specs.declared.result.Result.{Result}
use Rattle.std.specs.Fmt.{decimal}
use Rattle.std.specs.List.{list_all, range_with_len, AllByRecursion, IsDistinct}
use Rattle.std.specs.Str.{bytes_eq}
use Rattle.std.proofs.lemmas.Bool.{le-leb, lt-ltb, eq-eqb, and_from, or_left, or_parts}
use Rattle.std.proofs.lemmas.List.{drop-take, length-append, length-take, take-append-drop, take-take}
use Rattle.std.proofs.lemmas.List.Elements.{All-drop, All-head, All-tail, All-take}
use Rattle.std.proofs.lemmas.List.Folds.{list_any-append}
use Rattle.std.proofs.lemmas.Slice.Eq.{bytes_eq-Decides}
use Rattle.mm_base.specs.Names.{is_name}
use Rattle.mm_base.proofs.NameLemmas.{bytes_same}
use Rattle.mm_field.specs.Digits.{order}
use Rattle.mm_field.specs.Vectors.{AreDigits, AreVectors, IsVector}
use Rattle.mm_field.specs.declared.Field.{Field}
use Rattle.mm_field.specs.declared.Field.TheVariants.{Two, Three, Four, Five}
use Rattle.mm_lines.specs.LineBytes.{bytes_of}
use Rattle.mm_lines.specs.Numbers.{u32_of}
use Rattle.mm_lines.specs.Tokens.{tokens}
use Rattle.mm_lines.specs.declared.line.Line.{Line}
use Rattle.mm_logic.specs.Operator.{IsBoundary, IsValidOp, Op, row_length}
use Rattle.mm_ops.specs.OpFaults.{fault_of}
use Rattle.mm_ops.specs.OpValue.{OpValue, operator}
use Rattle.mm_ops.specs.Tables.{OperatorList, NamesDiffer, has_name, op_named, refusal_of}
use Rattle.mm_ops.proofs.TableLemmas.{has_name_is, none_refused}
use Rattle.mm_ops.proofs.ValidOps.{valid_ops_exactly}
use Rattle.mm_space.specs.DigitTexts.{digit_of, digits_of, is_digit, vectors_of}
use Rattle.mm_space.specs.VectorText.{gen_text, vector_text}
use Rattle.mm_space.proofs.DigitTextLemmas.{vectors_of_text}
use Rattle.mm_tree.specs.NamedTree.{is_one_of}
use Rattle.mm_tree.specs.ValidTree.{AreNames}
use Rattle.mm_tree.proofs.NameLemmas.{distinct_apart, distinct_left}
use Rattle.mm_tree.proofs.TreeLemmas.{apart_back}
use Rattle.mm_job_text.specs.Arguments.{begins, first_is}
use Rattle.mm_job_text.specs.HeaderLines.{elements_line, field_line, field_of, format_line, row_line, tree_line, with_name, with_names}
use Rattle.mm_job_text.specs.OperatorLines.{first_units, op_line, operator_fields, operator_line, shown}
use Rattle.mm_job_text.specs.Readers.{Read, each}
use Rattle.mm_job_text.specs.declared.format.Format.TheVariants as format
use Rattle.mm_job_text.specs.declared.refusal.Refusal.{Refusal}
use Rattle.mm_job_text.proofs.NumeralLemmas.{number_back, u32_back}
use Rattle.mm_job_text.proofs.SpacedLemmas.{above_is_not, tokens_spaced}
use Rattle.mm_job_text.proofs.TextLineLemmas.{line_at, lines_at}
use Rattle.mm_job_text.proofs.WrittenTreeLemmas.{each_passes, each_stops}
use Rattle.mm_decomp.specs.HeaderText.{elements_text, field_text, names_of_line, operator_text, row_text}
use Rattle.mm_decomp_laws.proofs.HeaderWordLemmas.{IsSmallOp, StartsWith, elements_words, field_words, format_words, names_pass, op_words, row_words, tree_words}

-- ---- where a group of lines ends

-- The next line does not begin with this word.
pub record Stops (word : List ℕ) (rs : List Line) : Type 0 where
  pub first : Line
  pub more : List Line
  pub is : rs ≡ first ∷ more
  pub other : begins word first ≡ false

pub group_ends : {A : Type 0} (word : List ℕ) (g : A → Line → Result A Refusal) (x : A) (rs : List Line) → Stops word rs → each (begins word) g x rs ≡ Read x rs
group_ends {A} word g x rs s =
    ap (λ (all : List Line). each (begins word) g x all) s.is
    ∙ each_stops (begins word) g x s.first s.more s.other
    ∙ ap (λ (all : List Line). Read x all) (sym s.is)

pub group_stops : (word own : List ℕ) (number : ℕ) (ls : List (List ℕ)) (rest : List Line) → bytes_eq word own ≡ false → AllByRecursion (StartsWith own) ls
    → Stops word rest → Stops word (lines_at number ls ++ rest)
group_stops word own number [] rest d h s = s
group_stops word own number (l ∷ ls) rest d h s = record {
  first = line_at number l;
  more = lines_at (number + 1) ls ++ rest;
  is = refl;
  other = ap (first_is word) h.0.tokens_are ∙ d;
}

-- ---- the first two lines

pub format_read : (number : ℕ) → format_line (line_at number (codes "mso 1")) ≡ Ok format.One
unfolding format_line
format_read number = let e = tokens_spaced (codes "mso") (codes "1" ∷ []) format_words in rw e refl

field_back : (f : Field) → field_of (order f) ≡ Some f
field_back Two = refl
field_back Three = refl
field_back Four = refl
field_back Five = refl

order_back : (f : Field) → u32_of (decimal (order f)) ≡ Some (order f)
order_back Two = u32_back 2 (omega arith)
order_back Three = u32_back 3 (omega arith)
order_back Four = u32_back 4 (omega arith)
order_back Five = u32_back 5 (omega arith)

field_line_read : (f : Field) (r : Line) (d : List ℕ) (q : ℕ) → tokens (bytes_of r) ≡ codes "field" ∷ d ∷ [] → u32_of d ≡ Some q → field_of q ≡ Some f
    → field_line r ≡ Ok f
unfolding field_line
field_line_read f r d q e n o = rw (e, n, o) refl

pub field_read : (f : Field) (number : ℕ) → field_line (line_at number (field_text f)) ≡ Ok f
field_read f number =
    field_line_read f (line_at number (field_text f)) (decimal (order f)) (order f) (tokens_spaced (codes "field") (decimal (order f) ∷ []) (field_words f))
    (order_back f) (field_back f)

-- ---- names

new_name : (old ts : List (List ℕ)) (t : List ℕ) → IsDistinct bytes_eq (old ++ t ∷ ts) → is_one_of t old ≡ false
new_name old ts t d =
    apart_back old (t ∷ ts) (distinct_apart old (t ∷ ts) d) t (or_left (bytes_eq t t) (is_one_of t ts) (bytes_same t))

name_added : (most n : ℕ) (old : List (List ℕ)) (t : List ℕ) → is_one_of t old ≡ false → nat_lt (length old) most ≡ true
    → with_name most n old t ≡ Ok (old ++ t ∷ [])
name_added most n old t free room = rw (free, room) refl

names_added : (most n : ℕ) (old ts : List (List ℕ)) → IsDistinct bytes_eq (old ++ ts) → length old + length ts ≤ most → with_names most n old ts ≡ Ok (old ++ ts)
names_added most n old [] d few = ap Ok (sym (append-nil old))
names_added most n old (t ∷ ts) d few =
    let added = name_added most n old t (new_name old ts t d) (lt-ltb (length old) most (omega (arith, few))) in
    let more : List (List ℕ) = old ++ t ∷ [] in
    let e : more ++ ts ≡ old ++ t ∷ ts = append_assoc old (t ∷ []) ts in
    let after = names_added most n more ts (subst (λ (all : List (List ℕ)). IsDistinct bytes_eq all) (sym e) d) (omega (arith, few, length-append old (t ∷ []))) in
    rw added (after ∙ ap Ok e)

elements_read : (most : ℕ) (old ts : List (List ℕ)) (r : Line) → tokens (bytes_of r) ≡ codes "elements" ∷ ts → list_all is_name ts ≡ true
    → with_names most r.number old ts ≡ Ok (old ++ ts) → elements_line most old r ≡ Ok (old ++ ts)
unfolding elements_line
elements_read most old ts r e named added = rw (e, named, added) refl

take_parts : (n m : ℕ) (xs : List (List ℕ)) → take n xs ++ take m (drop n xs) ≡ take (n + m) xs
take_parts n m xs =
    ap₂ (λ (a b : List (List ℕ)). a ++ b) (sym (take-take n (n + m) xs (omega arith))) (sym (drop-take n m xs)) ∙ take-append-drop n (take (n + m) xs)

pub reads_names : (most : ℕ) (names : List (List ℕ)) (c k number : ℕ) (rest : List Line) → IsDistinct bytes_eq names → AreNames names → length names ≤ most
    → each (begins (codes "elements")) (elements_line most) (take (64 * k) names) (lines_at number (map (elements_text names) (range_with_len k c)) ++ rest)
    ≡ each (begins (codes "elements")) (elements_line most) (take (64 * (k + c)) names) rest
reads_names most names zero k number rest d h few =
    ap (λ (n : ℕ). each (begins (codes "elements")) (elements_line most) (take n names) rest) {x = 64 * k} {y = 64 * (k + 0)} (omega arith)
reads_names most names (suc c) k number rest d h few =
    let test = begins (codes "elements") in
    let g = elements_line most in
    let old = take (64 * k) names in
    let ts = names_of_line names k in
    let r = line_at number (elements_text names k) in
    let named : AreNames ts = All-take (λ m. is_name m ≡ true) 64 (drop (64 * k) names) (All-drop (λ m. is_name m ≡ true) (64 * k) names h) in
    let e = tokens_spaced (codes "elements") ts (elements_words ts named) in
    let both : old ++ ts ≡ take (64 * (k + 1)) names =
    take_parts (64 * k) 64 names ∙ ap (λ (n : ℕ). take n names) {x = 64 * k + 64} {y = 64 * (k + 1)} (omega arith) in
    let front : IsDistinct bytes_eq (old ++ ts) =
    subst (λ (all : List (List ℕ)). IsDistinct bytes_eq all) (sym both)
    (distinct_left (take (64 * (k + 1)) names) (drop (64 * (k + 1)) names)
    (subst (λ (all : List (List ℕ)). IsDistinct bytes_eq all) (sym (take-append-drop (64 * (k + 1)) names)) d)) in
    let small : length old + length ts ≤ most =
    omega (arith, few, sym (length-append old ts) ∙ ap length both, length-take (64 * (k + 1)) names) in
    let after : List Line = lines_at (number + 1) (map (elements_text names) (range_with_len (k + 1) c)) ++ rest in
    each_passes test g old (old ++ ts) r after (ap (first_is (codes "elements")) e)
    (elements_read most old ts r e (names_pass ts named) (names_added most number old ts front small))
    ∙ ap (λ (all : List (List ℕ)). each test g all after) both
    ∙ reads_names most names c (k + 1) (number + 1) rest d h few
    ∙ ap (λ (n : ℕ). each test g (take n names) rest) {x = 64 * (k + 1 + c)} {y = 64 * (k + suc c)} (omega arith)

-- ---- rows

digit_shown : (f : Field) (d : ℕ) → d < order f → is_digit f (48 + d) ≡ true
digit_shown f d h =
    and_from (nat_le 48 (48 + d)) (nat_lt (48 + d) (48 + order f)) (le-leb 48 (48 + d) (omega arith)) (lt-ltb (48 + d) (48 + order f) (omega (arith, h)))

digits_shown : (f : Field) (v : List ℕ) → AreDigits f v → list_all (is_digit f) (map (λ x. 48 + x) v) ≡ true
digits_shown f [] h = refl
digits_shown f (d ∷ v) h =
    and_from (is_digit f (48 + d)) (list_all (is_digit f) (map (λ x. 48 + x) v)) (digit_shown f d (h 0 0 (omega arith)))
    (digits_shown f v (λ k e l. h (suc k) e (omega (arith, l))))

shown_back : (v : List ℕ) → map digit_of (map (λ x. 48 + x) v) ≡ v
shown_back [] = refl
shown_back (d ∷ v) = ap₂ (λ (x : ℕ) (xs : List ℕ). x ∷ xs) {x = 48 + d - 48} {y = d} (omega arith) (shown_back v)

row_back : (f : Field) (v : List ℕ) → AreDigits f v → digits_of f (vector_text v) ≡ Some v
row_back f [] h = refl
row_back f (d ∷ v) h =
    let t = map (λ x. 48 + x) (d ∷ v) in
    let more = bytes_eq (map (λ x. 48 + x) v) [] in
    ap (λ (c : Bool). if c && more then Some [] else if nat_le 1 (length t) && list_all (is_digit f) t then Some (map digit_of t) else None)
    (above_is_not (48 + d) 45 (nat_eq (48 + d) 45) (omega arith) refl)
    ∙ ap (λ (c : Bool). if c then Some (map digit_of t) else None)
    (and_from (nat_le 1 (length t)) (list_all (is_digit f) t) (le-leb 1 (length t) (omega arith)) (digits_shown f (d ∷ v) h))
    ∙ ap Some (shown_back (d ∷ v))

row_read : (f : Field) (m : ℕ) (old : List (List ℕ)) (row d : List ℕ) (r : Line) → tokens (bytes_of r) ≡ codes "row" ∷ d ∷ [] → digits_of f d ≡ Some row
    → (length row == m) ≡ true → nat_lt (length old) 4096 ≡ true → row_line f m old r ≡ Ok (old ++ row ∷ [])
unfolding row_line
row_read f m old row d r e shown count room = rw (e, shown, count, room) refl

pub reads_rows : (f : Field) (m : ℕ) (old rows : List (List ℕ)) (number : ℕ) (rest : List Line) → AreVectors f m rows → length old + length rows ≤ 4096
    → each (begins (codes "row")) (row_line f m) old (lines_at number (map row_text rows) ++ rest) ≡ each (begins (codes "row")) (row_line f m) (old ++ rows) rest
reads_rows f m old [] number rest h few = ap (λ (all : List (List ℕ)). each (begins (codes "row")) (row_line f m) all rest) (sym (append-nil old))
reads_rows f m old (row ∷ rows) number rest h few =
    let test = begins (codes "row") in
    let g = row_line f m in
    let r = line_at number (row_text row) in
    let v = All-head (λ x. IsVector f m x) row rows h in
    let e = tokens_spaced (codes "row") (vector_text row ∷ []) (row_words row) in
    let after : List Line = lines_at (number + 1) (map row_text rows) ++ rest in
    each_passes test g old (old ++ row ∷ []) r after (ap (first_is (codes "row")) e)
    (row_read f m old row (vector_text row) r e (row_back f row v.digits) (eq-eqb (length row) m v.len) (lt-ltb (length old) 4096 (omega (arith, few))))
    ∙ reads_rows f m (old ++ row ∷ []) rows (number + 1) rest (All-tail (λ x. IsVector f m x) row rows h) (omega (arith, few, length-append old (row ∷ [])))
    ∙ ap (λ (all : List (List ℕ)). each test g all rest) (append_assoc old (row ∷ []) rows)

-- ---- operators

-- A named operator can be written in format 1.
pub record IsGoodEntry (f : Field) (entry : List ℕ × OpValue) : Type 0 where
  pub field : entry.1.f ≡ f
  pub named : is_name entry.0 ≡ true
  pub valid : IsValidOp f entry.1.op
  pub units : entry.1.op.g3 ≡ first_units (row_length entry.1.op) entry.1.op.t3

abbrev pub entry_text : List ℕ × OpValue → List ℕ
entry_text entry = operator_text entry.0 entry.1.op

vectors_short : (f : Field) (n : ℕ) (vs : List (List ℕ)) → n ≤ 18 → AreVectors f n vs → All (λ u. length u ≤ 18) vs
vectors_short f n vs l h = λ k d i. omega (arith, l, (h k d i).len)

pub small_op : (f : Field) (op : Op) → IsValidOp f op → IsSmallOp op
small_op f op v =
    let s = v.sizes in
    let r : row_length op ≤ 18 = omega (arith, s.2, s.3) in
    record {
      sizes = s;
      first = (omega (arith, s.0, v.first.count), vectors_short f (row_length op) op.g1 r v.first.rows);
      second = (omega (arith, s.1, v.second.count), vectors_short f (row_length op) op.g2 r v.second.rows);
    }

vectors_digits : (f : Field) (n : ℕ) (vs : List (List ℕ)) → AreVectors f n vs → All (λ u. AreDigits f u) vs
vectors_digits f n vs h = λ k d i. (h k d i).digits

gen_back : (f : Field) (t r : ℕ) (g : List (List ℕ)) → t ≤ 6 → r ≤ 18 → IsBoundary f t r g → vectors_of f (gen_text g) ≡ Some g
gen_back f t r g lt lr h =
    vectors_of_text f g (gen_text g)
    (record { digits = vectors_digits f r g h.rows; short = vectors_short f r g lr h.rows; few = omega (arith, lt, h.count); text = refl })

no_op_fault : (f : Field) (op : Op) → IsValidOp f op → fault_of f op ≡ None
no_op_fault f op v =
    let r = row_length op in
    (valid_ops_exactly f op (vectors_digits f r op.g1 v.first.rows) (vectors_digits f r op.g2 v.second.rows) (vectors_digits f r op.g3 v.third.rows)).1 v

op_read : (f : Field) (ops : OperatorList) (r : Line) (name d1 d2 d3 d4 m1 m2 : List ℕ) (t1 t2 t3 c : ℕ) (g1 g2 : List (List ℕ))
    → tokens (bytes_of r) ≡ codes "op" ∷ name ∷ d1 ∷ d2 ∷ d3 ∷ d4 ∷ m1 ∷ m2 ∷ [] → is_name name ≡ true
    → u32_of d1 ≡ Some t1 → u32_of d2 ≡ Some t2 → u32_of d3 ≡ Some t3 → u32_of d4 ≡ Some c → vectors_of f m1 ≡ Some g1 → vectors_of f m2 ≡ Some g2
    → fault_of f (operator t1 t2 t3 c g1 g2 (first_units (t3 + c) t3)) ≡ None → refusal_of name ops ≡ None
    → op_line format.One f ops r ≡ Ok (ops ++ (name, record { f = f; op = operator t1 t2 t3 c g1 g2 (first_units (t3 + c) t3) }) ∷ [])
unfolding op_line operator_line operator_fields shown
op_read f ops r name d1 d2 d3 d4 m1 m2 t1 t2 t3 c g1 g2 e named e1 e2 e3 e4 e5 e6 fine free = rw (e, named, e1, e2, e3, e4, e5, e6, fine, free) refl

entry_read : (f : Field) (ops : OperatorList) (number : ℕ) (entry : List ℕ × OpValue) → IsGoodEntry f entry → refusal_of entry.0 ops ≡ None
    → op_line format.One f ops (line_at number (entry_text entry)) ≡ Ok (ops ++ entry ∷ [])
entry_read f ops number entry h free =
    let name = entry.0 in
    let op = entry.1.op in
    let s = h.valid.sizes in
    let units = first_units (row_length op) op.t3 in
    let made : List (List ℕ) → Op = (λ (g3 : List (List ℕ)). operator op.t1 op.t2 op.t3 op.c op.g1 op.g2 g3) in
    let r18 : row_length op ≤ 18 = omega (arith, s.2, s.3) in
    let c_back : u32_of (decimal op.c) ≡ Some op.c = number_back 9 op.c (omega arith) (omega (arith, s.3)) (omega (arith, s.3)) in
    op_read f ops (line_at number (entry_text entry)) name (decimal op.t1) (decimal op.t2) (decimal op.t3) (decimal op.c) (gen_text op.g1) (gen_text op.g2)
    op.t1 op.t2 op.t3 op.c op.g1 op.g2
    (tokens_spaced (codes "op") (name ∷ decimal op.t1 ∷ decimal op.t2 ∷ decimal op.t3 ∷ decimal op.c ∷ gen_text op.g1 ∷ gen_text op.g2 ∷ [])
    (op_words name op h.named (small_op f op h.valid)))
    h.named (u32_back op.t1 s.0) (u32_back op.t2 s.1) (u32_back op.t3 s.2) c_back (gen_back f op.t1 (row_length op) op.g1 s.0 r18 h.valid.first)
    (gen_back f op.t2 (row_length op) op.g2 s.1 r18 h.valid.second)
    (ap (λ (g3 : List (List ℕ)). fault_of f (made g3)) (sym h.units) ∙ no_op_fault f op h.valid) free
    ∙ ap₂ (λ (g : Field) (g3 : List (List ℕ)). Ok (ops ++ (name, (let v : OpValue = record { f = g; op = made g3 } in v)) ∷ [])) (sym h.field) (sym h.units)

has_name_append : (name : List ℕ) (xs ys : OperatorList) → has_name name (xs ++ ys) ≡ (has_name name xs || has_name name ys)
has_name_append name xs ys = list_any-append (λ (entry : List ℕ × OpValue). bytes_eq name entry.0) xs ys

differ_swapped : (a b : List ℕ) → bytes_eq a b ≡ false → bytes_eq b a ≡ false
differ_swapped a b h = go (bytes_eq b a) refl
  where
    go : (t : Bool) → bytes_eq b a ≡ t → bytes_eq b a ≡ false
    go false e = e
    go true e = absurd (let n : true ≡ false = sym ((bytes_eq-Decides a b).1 (sym ((bytes_eq-Decides b a).0 e))) ∙ h in cc)

-- an operator has a name that none before it has
new_operator : (ops : OperatorList) (entry : List ℕ × OpValue) (entries : OperatorList) → NamesDiffer (ops ++ entry ∷ entries) → has_name entry.0 ops ≡ false
new_operator [] entry entries d = refl
new_operator (o ∷ ops) entry entries d =
    let here = or_parts (has_name o.0 ops) (has_name o.0 (entry ∷ entries)) (sym (has_name_append o.0 ops (entry ∷ entries)) ∙ d.0) in
    let first = or_parts (bytes_eq o.0 entry.0) (has_name o.0 entries) here.1 in
    ap₂ (λ (x y : Bool). x || y) (differ_swapped o.0 entry.0 first.0) (new_operator ops entry entries d.1)

-- and is found under it
pub found_under_name : (ops : OperatorList) (entry : List ℕ × OpValue) (entries : OperatorList) → NamesDiffer (ops ++ entry ∷ entries)
    → op_named entry.0 (ops ++ entry ∷ entries) ≡ Some entry.1
found_under_name [] entry entries d = ap (λ (c : Bool). if c then Some entry.1 else op_named entry.0 entries) (bytes_same entry.0)
found_under_name (o ∷ ops) entry entries d =
    let parts = or_parts (bytes_eq entry.0 o.0) (has_name entry.0 ops) (new_operator (o ∷ ops) entry entries d) in
    ap (λ (c : Bool). if c then Some o.1 else op_named entry.0 (ops ++ entry ∷ entries)) parts.0 ∙ found_under_name ops entry entries d.1

pub reads_operators : (f : Field) (ops entries : OperatorList) (number : ℕ) (rest : List Line) → AllByRecursion (IsGoodEntry f) entries → NamesDiffer (ops ++ entries)
    → length ops + length entries ≤ 4096
    → each (begins (codes "op")) (op_line format.One f) ops (lines_at number (map entry_text entries) ++ rest)
    ≡ each (begins (codes "op")) (op_line format.One f) (ops ++ entries) rest
reads_operators f ops [] number rest h d few = ap (λ (all : OperatorList). each (begins (codes "op")) (op_line format.One f) all rest) (sym (append-nil ops))
reads_operators f ops (entry ∷ entries) number rest h d few =
    let test = begins (codes "op") in
    let g = op_line format.One f in
    let op = entry.1.op in
    let r = line_at number (entry_text entry) in
    let e = tokens_spaced (codes "op")
    (entry.0 ∷ decimal op.t1 ∷ decimal op.t2 ∷ decimal op.t3 ∷ decimal op.c ∷ gen_text op.g1 ∷ gen_text op.g2 ∷ [])
    (op_words entry.0 op h.0.named (small_op f op h.0.valid)) in
    let free = none_refused entry.0 ops (has_name_is entry.0 ops ∙ new_operator ops entry entries d) (omega (arith, few)) in
    let after : List Line = lines_at (number + 1) (map entry_text entries) ++ rest in
    let both : (ops ++ entry ∷ []) ++ entries ≡ ops ++ entry ∷ entries = append_assoc ops (entry ∷ []) entries in
    each_passes test g ops (ops ++ entry ∷ []) r after (ap (first_is (codes "op")) e) (entry_read f ops number entry h.0 free)
    ∙ reads_operators f (ops ++ entry ∷ []) entries (number + 1) rest h.1 (subst (λ (all : OperatorList). NamesDiffer all) (sym both) d)
    (omega (arith, few, length-append ops (entry ∷ [])))
    ∙ ap (λ (all : OperatorList). each test g all rest) both

-- ---- the line before the tree

tree_line_read : (r : Line) → tokens (bytes_of r) ≡ codes "tree" ∷ [] → tree_line r ≡ Ok tt
unfolding tree_line
tree_line_read r e = rw e refl

pub tree_read : (number : ℕ) → tree_line (line_at number (codes "tree")) ≡ Ok tt
tree_read number = tree_line_read (line_at number (codes "tree")) (tokens_spaced (codes "tree") [] tree_words)
