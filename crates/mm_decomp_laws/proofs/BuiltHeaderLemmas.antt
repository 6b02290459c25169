-- The joins and the leaves of a tree that is built: what its header needs of them.
use Rattle.std.proofs.Common.{◌≡◌, ℕ, zero, suc, ◌+◌, ◌<◌, ◌≤◌, ◌^◌, Bool, true, false, List, [], ◌∷◌, ◌++◌, length, map, drop, refl, sym, ap, ap₂, ◌∙◌, subst, arith}
use Rattle.std.specs.Prelude.{◌||◌}
use Rattle.std.specs.List.{range_with_len, AllByRecursion, IsDistinct}
use Rattle.std.specs.Str.{bytes_eq}
use Rattle.std.specs.Str.Parse.{digits_value}
use Rattle.std.proofs.lemmas.Fmt.{decimal_is_IsNumeral}
use Rattle.std.proofs.lemmas.List.{length-append, map-append}
use Rattle.mm_base.proofs.NameLemmas.{same_bytes}
use Rattle.mm_field.specs.declared.Field.{Field}
use Rattle.mm_ops.specs.OpValue.{OpValue}
use Rattle.mm_ops.specs.Tables.{NamesDiffer, OperatorList, has_name}
use Rattle.mm_tree.specs.NamedTree.{is_one_of, leaf_names}
use Rattle.mm_tree.proofs.NameLemmas.{none_equal}
use Rattle.mm_decomp.specs.BuiltTree.{built, join_name}
use Rattle.mm_decomp.specs.Shapes.{Shape, joins, names}
use Rattle.mm_decomp.specs.Shapes.Shape.{Leaf, Join}
use Rattle.mm_decomp.specs.Spaces.{Given}
use Rattle.mm_decomp_laws.specs.WrittenHeaders.{IsOfFormatOne, operators_of}

-- ---- third matrices, and leaves

pub built_format : (given : Given) (k : ℕ) (outside : List (List ℕ)) (s : Shape) → IsOfFormatOne (built given k outside s)
unfolding built IsOfFormatOne
built_format given k outside (Leaf name weight) = tt
built_format given k outside (Join left right) =
    (refl, built_format given k (outside ++ names right) left, built_format given (k + joins left) (outside ++ names left) right)

pub built_leaves : (given : Given) (k : ℕ) (outside : List (List ℕ)) (s : Shape) → leaf_names (built given k outside s) ≡ names s
unfolding names built leaf_names
built_leaves given k outside (Leaf name weight) = refl
built_leaves given k outside (Join left right) =
    ap₂ (λ (a b : List (List ℕ)). a ++ b) (built_leaves given k (outside ++ names right) left) (built_leaves given (k + joins left) (outside ++ names left) right)

pub count_joins : (s : Shape) → joins s + 1 ≡ length (names s)
unfolding joins names
count_joins (Leaf name weight) = refl
count_joins (Join left right) = omega (arith, count_joins left, count_joins right, length-append (names left) (names right))

-- ---- the names of the joins

abbrev name_in : List ℕ × OpValue → List ℕ
name_in entry = entry.0

range_both : (a m n : ℕ) → range_with_len a m ++ range_with_len (a + m) n ≡ range_with_len a (m + n)
range_both a zero n =
    let same : a + 0 ≡ a = omega arith in
    let all : n ≡ 0 + n = omega arith in
    ap₂ range_with_len same all
range_both a (suc m) n =
    ap (λ (from : ℕ). a ∷ (range_with_len (a + 1) m ++ range_with_len from n)) {x = a + suc m} {y = a + 1 + m} (omega arith)
    ∙ ap (λ (more : List ℕ). a ∷ more) (range_both (a + 1) m n)
    ∙ ap (range_with_len a) {x = suc (m + n)} {y = suc m + n} (omega arith)

names_of_joins : (f : Field) (given : Given) (k : ℕ) (outside : List (List ℕ)) (s : Shape)
    → map name_in (operators_of f (built given k outside s)) ≡ map join_name (range_with_len (k + 1) (joins s))
unfolding built operators_of joins
names_of_joins f given k outside (Leaf name weight) = refl
names_of_joins f given k outside (Join left right) =
    let xs = operators_of f (built given k (outside ++ names right) left) in
    let ys = operators_of f (built given (k + joins left) (outside ++ names left) right) in
    let m = joins left in
    let n = joins right in
    let own : List (List ℕ) = join_name (k + m + n + 1) ∷ [] in
    let both : List ℕ = range_with_len (k + 1 + m) n in
    let last : range_with_len (k + 1 + m + n) 1 ≡ (k + m + n + 1) ∷ [] = ap (λ (i : ℕ). i ∷ []) {x = k + 1 + m + n} {y = k + m + n + 1} (omega arith) in
    let right_is : map name_in ys ++ own ≡ map join_name (range_with_len (k + 1 + m) (n + 1)) =
    ap (λ (ns : List (List ℕ)). ns ++ own)
    (names_of_joins f given (k + m) (outside ++ names left) right
    ∙ ap (λ (i : ℕ). map join_name (range_with_len i n)) {x = k + m + 1} {y = k + 1 + m} (omega arith))
    ∙ sym (map-append join_name both ((k + m + n + 1) ∷ []))
    ∙ ap (map join_name) (ap (λ (js : List ℕ). both ++ js) (sym last) ∙ range_both (k + 1 + m) n 1) in
    map-append name_in xs (ys ++ _)
    ∙ ap₂ (λ (a b : List (List ℕ)). a ++ b) (names_of_joins f given k (outside ++ names right) left) (map-append name_in ys _ ∙ right_is)
    ∙ sym (map-append join_name (range_with_len (k + 1) m) (range_with_len (k + 1 + m) (n + 1)))
    ∙ ap (map join_name) (range_both (k + 1) m (n + 1) ∙ ap (range_with_len (k + 1)) {x = m + (n + 1)} {y = m + n + 1} (omega arith))

number_is : (i j : ℕ) → i < 2 ^ 64 → j < 2 ^ 64 → join_name i ≡ join_name j → i ≡ j
number_is i j hi hj e =
    sym (decimal_is_IsNumeral i hi).1 ∙ ap (λ (name : List ℕ). digits_value 10 (drop 1 name)) e ∙ (decimal_is_IsNumeral j hj).1

unequal : (i j : ℕ) → i < j → j < 2 ^ 64 → bytes_eq (join_name i) (join_name j) ≡ false
unequal i j l h = go (bytes_eq (join_name i) (join_name j)) refl
  where
    go : (b : Bool) → bytes_eq (join_name i) (join_name j) ≡ b → b ≡ false
    go false e = refl
    go true e = absurd (omega (arith, l, number_is i j (omega (arith, l, h)) h (same_bytes (join_name i) (join_name j) e)))

before_others : (i a n : ℕ) → i < a → a + n ≤ 2 ^ 64 → AllByRecursion (λ y. bytes_eq (join_name i) y ≡ false) (map join_name (range_with_len a n))
before_others i a zero l h = tt
before_others i a (suc n) l h = (unequal i a l (omega (arith, h)), before_others i (a + 1) n (omega (arith, l)) (omega (arith, h)))

different_joins : (a n : ℕ) → a + n ≤ 2 ^ 64 → IsDistinct bytes_eq (map join_name (range_with_len a n))
unfolding IsDistinct
different_joins a zero h = tt
different_joins a (suc n) h = (before_others a (a + 1) n (omega arith) (omega (arith, h)), different_joins (a + 1) n (omega (arith, h)))

has_name_of : (name : List ℕ) (ops : OperatorList) → has_name name ops ≡ is_one_of name (map name_in ops)
has_name_of name [] = refl
has_name_of name (op ∷ ops) = ap (λ (b : Bool). bytes_eq name op.0 || b) (has_name_of name ops)

differ_by_names : (ops : OperatorList) → IsDistinct bytes_eq (map name_in ops) → NamesDiffer ops
unfolding IsDistinct
differ_by_names [] d = tt
differ_by_names (op ∷ ops) d = (has_name_of op.0 ops ∙ none_equal op.0 (map name_in ops) d.0, differ_by_names ops d.1)

pub built_joins_differ : (f : Field) (given : Given) (s : Shape) → length (names s) ≤ 4096 → NamesDiffer (operators_of f (built given 0 [] s))
built_joins_differ f given s few =
    differ_by_names (operators_of f (built given 0 [] s))
    (subst (λ (ns : List (List ℕ)). IsDistinct bytes_eq ns) (sym (names_of_joins f given 0 [] s))
    (different_joins (0 + 1) (joins s) (omega (arith, few, count_joins s))))
