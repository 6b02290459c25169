-- The tree that is built is valid where no boundary is above 6.
use Rattle.std.proofs.Common.{◌≡◌, ℕ, ◌+◌, ◌<◌, ◌≤◌, ◌^◌, Bool, true, false, max, ℤ, nat_abs, List, [], ◌∷◌, ◌++◌, length, get_or, refl, sym, ap, ap₂, subst, arith}
use Rattle.std.specs.Prelude.{◌||◌, All}
use Rattle.std.proofs.lemmas.List.{length-append}
use Rattle.std.proofs.lemmas.List.Elements.{All-append, All-cons, All-head, All-nil, All-tail}
use Rattle.mm_base.specs.Names.{is_name}
use Rattle.mm_base.proofs.NameLemmas.{same_bytes}
use Rattle.std.specs.Str.{bytes_eq}
use Rattle.std.specs.List.{IsDistinct}
use Rattle.mm_field.specs.Vectors.{InSpan, IsVector}
use Rattle.mm_field.proofs.CombinationLemmas.{first_row}
use Rattle.mm_logic.specs.Operator.{IsValidOp}
use Rattle.mm_logic.specs.Tree.{IsValid}
use Rattle.mm_tree.specs.NamedTree.{depth, is_one_of, node_names, shape, weights}
use Rattle.mm_tree.specs.ValidTree.{AreNames, IsValidTree}
use Rattle.mm_tree.proofs.TreeLemmas.{all_left, all_right}
use Rattle.mm_decomp.specs.BuiltTree.{built, built_operator, join_name}
use Rattle.mm_decomp.specs.Meets.{extended}
use Rattle.mm_decomp.specs.Shapes.{Shape, joins, names}
use Rattle.mm_decomp.specs.Shapes as shapes
use Rattle.mm_decomp.specs.Shapes.Shape.{Leaf, Join}
use Rattle.mm_decomp.specs.Spaces.{Given, boundaries, column_of, space}
use Rattle.mm_decomp.proofs.BuildLemmas.{first_digit_digits}
use Rattle.mm_decomp.proofs.GivenLemmas.{AreColumns, named_columns}
use Rattle.mm_decomp.proofs.JoinNameLemmas.{join_name_is_name}
use Rattle.mm_decomp.proofs.LeafBasisLemmas.{leaf_basis}
use Rattle.mm_decomp.proofs.OperatorLemmas.{extended_least, extended_most, operator_is_valid}
use Rattle.mm_decomp_laws.specs.QueriesAfterHeaders.{IsBuildable, leaf_weights}
use Rattle.mm_decomp_laws.proofs.BuiltHeaderLemmas.{built_leaves, count_joins}
use Rattle.mm_decomp_laws.proofs.ExtendLemmas.{extended_is}
use Rattle.mm_decomp_laws.proofs.RowSpaceLemmas.{stands_for}
use Rattle.mm_decomp_laws.proofs.SpaceLemmas.{both_columns, space_independent, space_reduced, split_columns}

abbrev IsNarrow : ℕ → Type 0
IsNarrow t = t ≤ 6

-- ---- names

one_is_named : (n : List ℕ) (ns : List (List ℕ)) → AreNames ns → is_one_of n ns ≡ true → is_name n ≡ true
one_is_named n [] h e = cc
one_is_named n (m ∷ ms) h e = go (bytes_eq n m) refl e (one_is_named n ms (All-tail (λ x. is_name x ≡ true) m ms h))
  where
    go : (b : Bool) → bytes_eq n m ≡ b → (b || is_one_of n ms) ≡ true → (is_one_of n ms ≡ true → is_name n ≡ true) → is_name n ≡ true
    go true q e more = subst (λ (x : List ℕ). is_name x ≡ true) (sym (same_bytes n m q)) (All-head (λ x. is_name x ≡ true) m ms h)
    go false q e more = more e

all_named : (some ns : List (List ℕ)) → AreNames ns → All (λ name. is_one_of name ns ≡ true) some → AreNames some
all_named some ns h l = λ k d i. one_is_named (get_or some k d) ns h (l k d i)

built_named : (given : Given) (k : ℕ) (outside : List (List ℕ)) (s : Shape) → k + joins s < 2 ^ 32 → AreNames (names s) → AreNames (node_names (built given k outside s))
unfolding built node_names joins names
built_named given k outside (Leaf name weight) l h = h
built_named given k outside (Join left right) l h =
    let P = λ (n : List ℕ). is_name n ≡ true in
    let here = join_name_is_name (k + joins left + joins right + 1) (omega (arith, l)) in
    All-cons P (join_name (k + joins left + joins right + 1)) _ here
    (All-append P (node_names (built given k (outside ++ names right) left)) (node_names (built given (k + joins left) (outside ++ names left) right))
    (built_named given k (outside ++ names right) left (omega (arith, l)) (all_left P (names left) (names right) h))
    (built_named given (k + joins left) (outside ++ names left) right (omega (arith, l)) (all_right P (names left) (names right) h)))

-- ---- depths and weights

built_depth : (given : Given) (k : ℕ) (outside : List (List ℕ)) (s : Shape) → depth (built given k outside s) ≡ shapes.depth s
unfolding built depth shapes.depth
built_depth given k outside (Leaf name weight) = refl
built_depth given k outside (Join left right) =
    ap₂ (λ (a b : ℕ). max a b + 1) (built_depth given k (outside ++ names right) left) (built_depth given (k + joins left) (outside ++ names left) right)

built_weights : (given : Given) (k : ℕ) (outside : List (List ℕ)) (s : Shape) → weights (built given k outside s) ≡ leaf_weights s
unfolding built weights leaf_weights
built_weights given k outside (Leaf name weight) = refl
built_weights given k outside (Join left right) =
    ap₂ (λ (a b : List ℤ). a ++ b) (built_weights given k (outside ++ names right) left) (built_weights given (k + joins left) (outside ++ names left) right)

-- ---- boundaries and operators

root_narrow : (given : Given) (outside : List (List ℕ)) (s : Shape) → All IsNarrow (boundaries given outside s) → length (space given outside s) ≤ 6
unfolding boundaries
root_narrow given outside (Leaf name weight) h = All-head IsNarrow (length (space given outside (Leaf name weight))) [] h
root_narrow given outside (Join left right) h =
    All-head IsNarrow (length (space given outside (Join left right))) []
    (all_right IsNarrow (boundaries given (outside ++ names left) right) (length (space given outside (Join left right)) ∷ [])
    (all_right IsNarrow (boundaries given (outside ++ names right) left) _ h))

children_narrow : (given : Given) (outside : List (List ℕ)) (left right : Shape) → All IsNarrow (boundaries given outside (Join left right))
    → All IsNarrow (boundaries given (outside ++ names right) left) × All IsNarrow (boundaries given (outside ++ names left) right)
unfolding boundaries
children_narrow given outside left right h =
    let bl = boundaries given (outside ++ names right) left in
    let br = boundaries given (outside ++ names left) right in
    let last : List ℕ = length (space given outside (Join left right)) ∷ [] in
    (all_left IsNarrow bl (br ++ last) h, all_left IsNarrow br last (all_right IsNarrow bl (br ++ last) h))

operator_valid : (given : Given) (outside : List (List ℕ)) (left right : Shape) → AreColumns given (names left ++ names right) → AreColumns given outside
    → All IsNarrow (boundaries given outside (Join left right))
    → IsValidOp given.f (built_operator given.f (length given.rows) (space given outside (Join left right)) (space given (outside ++ names right) left)
    (space given (outside ++ names left) right))
unfolding names
operator_valid given outside left right h ho narrow =
    let f = given.f in
    let g = length given.rows in
    let parts = split_columns given (names left) (names right) h in
    let basis = space given outside (Join left right) in
    let first = space given (outside ++ names right) left in
    let second = space given (outside ++ names left) right in
    let few = children_narrow given outside left right narrow in
    let hb = space_reduced given outside (Join left right) h in
    let h1 = space_reduced given (outside ++ names right) left parts.0 in
    let h2 = space_reduced given (outside ++ names left) right parts.1 in
    let rows = first ++ second in
    let list = extended f g basis rows in
    let x = extended_is f g basis rows hb.each (All-append (λ v. IsVector f g v) first second h1.each h2.each) (space_independent given outside (Join left right) h) in
    operator_is_valid f g list basis first second x.each (extended_least f g basis rows)
    (omega (arith, extended_most f g basis rows, length-append first second))
    (all_left (λ v. InSpan f g list v) first second x.reaches) (all_right (λ v. InSpan f g list v) first second x.reaches) h1 h2
    (root_narrow given outside (Join left right) narrow) (root_narrow given (outside ++ names right) left few.0)
    (root_narrow given (outside ++ names left) right few.1)

built_shape : (given : Given) (k : ℕ) (outside : List (List ℕ)) (s : Shape) → AreColumns given (names s) → AreColumns given outside
    → All IsNarrow (boundaries given outside s) → IsValid given.f (shape (built given k outside s))
unfolding built shape names
built_shape given k outside (Leaf name weight) h ho narrow =
    let f = given.f in
    let g = length given.rows in
    let m = column_of given name in
    let hm = first_row f g m [] h in
    (first_digit_digits f m hm.digits, subst (λ (n : ℕ). n ≤ 6) (leaf_basis f g m hm).count (root_narrow given outside (Leaf name weight) narrow))
built_shape given k outside (Join left right) h ho narrow =
    let parts = split_columns given (names left) (names right) h in
    let few = children_narrow given outside left right narrow in
    let beside_left = both_columns given outside (names right) ho parts.1 in
    let beside_right = both_columns given outside (names left) ho parts.0 in (
      operator_valid given outside left right h ho narrow,
      sym (stands_for given k (outside ++ names right) left parts.0 beside_left).count,
      sym (stands_for given (k + joins left) (outside ++ names left) right parts.1 beside_right).count,
      built_shape given k (outside ++ names right) left parts.0 beside_left few.0,
      built_shape given (k + joins left) (outside ++ names left) right parts.1 beside_right few.1,
    )

pub built_is_valid : (given : Given) (s : Shape) → IsBuildable given s → length (names s) ≤ 4096 → IsValidTree given.f (built given 0 [] s)
built_is_valid given s h few =
    let leaves = built_leaves given 0 [] s in
    record {
      valid_shape = built_shape given 0 [] s (named_columns given (names s) h.rows h.leaves) (All-nil (λ v. IsVector given.f (length given.rows) v)) h.narrow;
      formed = built_named given 0 [] s (omega (arith, few, count_joins s)) (all_named (names s) given.names h.named h.leaves);
      different = subst (λ (ns : List (List ℕ)). IsDistinct bytes_eq ns) (sym leaves) h.leaves_differ;
      few = omega (arith, few, ap length leaves);
      shallow = omega (arith, built_depth given 0 [] s, h.shallow);
      light = subst (λ (ws : List ℤ). All (λ w. nat_abs w ≤ 1000000000000) ws) (sym (built_weights given 0 [] s)) h.light;
    }
