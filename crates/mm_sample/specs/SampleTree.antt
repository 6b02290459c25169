-- The tree of a sample: elements e1, e2, .. joined one after another by the operators p and s.
use Rattle.std.specs.Prelude.{ℕ, zero, suc, ◌+◌, ◌*◌, ◌-◌, ◌==◌, List, [], ◌∷◌, ◌++◌, map, codes, if◌then◌else◌}
use Rattle.std.specs.Fmt.{decimal}
use Rattle.std.specs.List.{range_with_len}
use Rattle.mm_field.specs.declared.Field.{Field}
use Rattle.mm_field.specs.Digits.{order}
use Rattle.mm_linear.specs.Coordinates.{unit}
use Rattle.mm_logic.specs.Operator.{Op}
use Rattle.mm_ops.specs.OpValue.{operator}
use Rattle.mm_ops.specs.Tables.{OperatorList}
use Rattle.mm_sample.specs.Draws.{after, digits_after, draw, weight_after}
use Rattle.mm_tree.specs.NamedTree.{Tree}
use Rattle.mm_tree.specs.NamedTree.Tree.{Elem, Join}

-- The operator of three boundaries of two digits, with c internal ones, whose third matrix is the first two unit vectors.
abbrev pub on_pairs : (c : ℕ) → (g1 g2 : List (List ℕ)) → Op
on_pairs c g1 g2 = operator 2 2 2 c g1 g2 (map (unit (2 + c)) (range_with_len 0 2))

-- `op p 2 2 2 0 10/01 10/01`
abbrev pub operator_p : Op
operator_p = on_pairs 0 ((1 ∷ 0 ∷ []) ∷ (0 ∷ 1 ∷ []) ∷ []) ((1 ∷ 0 ∷ []) ∷ (0 ∷ 1 ∷ []) ∷ [])

-- `op s 2 2 2 1 100/011 010/001`
abbrev pub operator_s : Op
operator_s = on_pairs 1 ((1 ∷ 0 ∷ 0 ∷ []) ∷ (0 ∷ 1 ∷ 1 ∷ []) ∷ []) ((0 ∷ 1 ∷ 0 ∷ []) ∷ (0 ∷ 0 ∷ 1 ∷ []) ∷ [])

abbrev pub operators : Field → OperatorList
operators f = (codes "p", record { f = f; op = operator_p }) ∷ (codes "s", record { f = f; op = operator_s }) ∷ []

-- The name of the i-th element: the letter e and the number i.
abbrev pub element_name : ℕ → List ℕ
element_name i = codes "e" ++ decimal i

-- The leaf of the i-th element: two digits and then a weight are drawn after x.
abbrev pub leaf : (q i x : ℕ) → Tree
leaf q i x = Elem (element_name i) (digits_after q x) (weight_after (after 2 x))

-- The operator that is drawn after x: p for 0 and s for 1.
abbrev pub operator_name : ℕ → List ℕ
operator_name x = if draw 1 2 x == 0 then codes "p" else codes "s"

abbrev pub operator_after : ℕ → Op
operator_after x = if draw 1 2 x == 0 then operator_p else operator_s

-- The first leaf, and so many others, each joined to those before it: the leaves are drawn after x, the joins after y.
unfoldable pub chain : (q x y : ℕ) → ℕ → Tree
chain q x y zero = leaf q 1 x
chain q x y (suc k) =
    let join = after k y in
    Join (operator_name join) (operator_after join) (chain q x y k) (leaf q (k + 2) (after (3 * (k + 1)) x))

-- The tree of n elements: all leaves are drawn, and then all joins.
abbrev pub sample_tree : Field → (n seed : ℕ) → Tree
sample_tree f n seed = chain (order f) seed (after (3 * n) seed) (n - 1)
