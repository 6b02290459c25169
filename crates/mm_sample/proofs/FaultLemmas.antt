-- A sample's tree is built without a fault.
use Rattle.std.proofs.Common.{◌≡◌, ℕ, zero, suc, ◌+◌, ◌≤◌, max, Bool, true, false, List, [], ◌∷◌, ◌++◌, length, map, None, Option, refl, sym, ap, ap₂, ◌∙◌, arith}
use Rattle.std.specs.Prelude.{codes, not, nat_le, ◌==◌, if◌then◌else◌}
use Rattle.std.specs.List.{range_with_len}
use Rattle.std.proofs.lemmas.Bool.Decides.{nat_tests}
use Rattle.std.proofs.lemmas.List.FromFn.{length-map-range_with_len, map-range_with_len_more}
use Rattle.mm_field.specs.declared.Field.{Field}
use Rattle.mm_logic.specs.Operator.{Op}
use Rattle.mm_ops.specs.Tables.{op_named}
use Rattle.mm_sample.specs.Draws.{after, draw}
use Rattle.mm_sample.specs.SampleTree.{chain, element_name, leaf, operator_name, operator_p, operator_s, operators}
use Rattle.mm_sample.proofs.NameLemmas.{element_is_new}
use Rattle.mm_tree.specs.Building.{leaf_fault, named_fault, pair_fault}
use Rattle.mm_tree.specs.NamedTree.{Tree, boundary, depth, is_one_of, leaf_names}
use Rattle.mm_tree.specs.ValidTree.{most_depth, most_leaves}
use Rattle.mm_tree.specs.declared.builder.BuildFault.{BuildFault}

-- ---- leaves

chain_names : (q x y k : ℕ) → leaf_names (chain q x y k) ≡ map element_name (range_with_len 1 (k + 1))
unfolding chain leaf_names
chain_names q x y zero = refl
chain_names q x y (suc k) =
    let same : k + 1 + 1 ≡ suc k + 1 = omega arith in
    ap (λ (names : List (List ℕ)). names ++ element_name (k + 2) ∷ []) (chain_names q x y k)
    ∙ sym (map-range_with_len_more element_name 1 (k + 1) (k + 2) (omega arith))
    ∙ ap (λ n. map element_name (range_with_len 1 n)) same

neither : (b c : Bool) (s t : Option BuildFault) → b ≡ false → c ≡ false → (if b then s else (if c then t else None)) ≡ None
neither false false s t e h = refl
neither false true s t e h = cc
neither true c s t e h = cc

few_leaves : (k : ℕ) → k ≤ 200 → nat_le most_leaves (k + 1) ≡ false
few_leaves k h = grind (arith, nat_tests)

pub leaf_has_no_fault : (q x y k : ℕ) → k ≤ 200 → leaf_fault (element_name (k + 2)) (chain q x y k ∷ []) ≡ None
leaf_has_no_fault q x y k h =
    let names = chain_names q x y k in
    neither _ _ _ _
    (ap (λ (ns : List (List ℕ)). is_one_of (element_name (k + 2)) ns) names ∙ element_is_new (k + 2) 1 (k + 1) (omega arith) (omega (arith, h)))
    (ap (λ (ns : List (List ℕ)). nat_le most_leaves (length ns)) names
    ∙ ap (λ n. nat_le most_leaves n) (length-map-range_with_len element_name 1 (k + 1)) ∙ few_leaves k h)

-- ---- joins

pairs_are_joined : (b : Bool) → (if b then operator_p else operator_s).t3 ≡ 2
pairs_are_joined true = refl
pairs_are_joined false = refl

chain_boundary : (q x y k : ℕ) → boundary (chain q x y k) ≡ 2
unfolding chain boundary
chain_boundary q x y zero = refl
chain_boundary q x y (suc k) = pairs_are_joined (draw 1 2 (after k y) == 0)

chain_depth : (q x y k : ℕ) → depth (chain q x y k) ≤ k
unfolding chain depth
chain_depth q x y zero = omega arith
chain_depth q x y (suc k) = omega (arith, chain_depth q x y k)

none_of : (a b c : Bool) (s t u : Option BuildFault) → a ≡ true → b ≡ true → c ≡ false
    → (if not a then s else (if not b then t else (if c then u else None))) ≡ None
none_of true true false s t u e f g = refl
none_of true true true s t u e f g = cc
none_of true false c s t u e f g = cc
none_of false b c s t u e f g = cc

equal_to : (a b : ℕ) → a ≡ 2 → b ≡ 2 → (a == b) ≡ true
equal_to a b e h = ap₂ (λ (x y : ℕ). x == y) e h

not_deep : (a b : ℕ) → a ≤ 200 → b ≤ 200 → nat_le most_depth (max a b) ≡ false
not_deep a b h k = grind (arith, nat_tests)

-- two trees with boundaries of two digits, not deep
record ArePairs (left right : Tree) : Type 0 where
  left_boundary : boundary left ≡ 2
  right_boundary : boundary right ≡ 2
  left_depth : depth left ≤ 200
  right_depth : depth right ≤ 200

pair_has_no_fault : (f : Field) (op : Op) (left right : Tree) → op.t1 ≡ 2 → op.t2 ≡ 2 → ArePairs left right
    → pair_fault (record { f = f; op = op }) left right ≡ None
pair_has_no_fault f op left right first second pairs =
    none_of _ _ _ _ _ _ (equal_to (boundary left) op.t1 pairs.left_boundary first) (equal_to (boundary right) op.t2 pairs.right_boundary second)
    (not_deep (depth left) (depth right) pairs.left_depth pairs.right_depth)

drawn_join : (f : Field) (left right : Tree) → ArePairs left right → (b : Bool)
    → named_fault (if b then codes "p" else codes "s") (op_named (if b then codes "p" else codes "s") (operators f)) (right ∷ left ∷ []) ≡ None
drawn_join f left right pairs true = pair_has_no_fault f operator_p left right refl refl pairs
drawn_join f left right pairs false = pair_has_no_fault f operator_s left right refl refl pairs

leaf_boundary : (q i x : ℕ) → boundary (leaf q i x) ≡ 2
unfolding boundary
leaf_boundary q i x = refl

leaf_depth : (q i x : ℕ) → depth (leaf q i x) ≤ 200
unfolding depth
leaf_depth q i x = omega arith

pub join_has_no_fault : (f : Field) (q x y k i z j : ℕ) → k ≤ 200
    → named_fault (operator_name j) (op_named (operator_name j) (operators f)) (leaf q i z ∷ chain q x y k ∷ []) ≡ None
join_has_no_fault f q x y k i z j h =
    let shallow = chain_depth q x y k in
    drawn_join f (chain q x y k) (leaf q i z) (record {
      left_boundary = chain_boundary q x y k;
      right_boundary = leaf_boundary q i z;
      left_depth = omega (arith, shallow, h);
      right_depth = leaf_depth q i z;
    }) (draw 1 2 j == 0)
