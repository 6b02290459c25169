-- A sample's tree, join by join.
use Rattle.std.proofs.Common.{◌≡◌, ◌+◌, ◌*◌, List, [], ◌∷◌, ℕ, suc, Bool, true, false, if◌then◌else◌, ◌==◌, refl, ap, ap₂, ◌∙◌, arith}
use Rattle.std.specs.Prelude.{codes}
use Rattle.mm_field.specs.declared.Field.{Field}
use Rattle.mm_ops.specs.Tables.{op_named}
use Rattle.mm_sample.specs.Draws.{after, draw, next}
use Rattle.mm_sample.specs.SampleTree.{chain, leaf, operator_name, operator_p, operator_s, operators}
use Rattle.mm_tree.specs.Building.{joined_by, BuilderValue}
use Rattle.mm_tree.specs.NamedTree.{Tree}
use Rattle.mm_tree.specs.NamedTree.Tree.{Join}

-- ---- the leaves

pub three_more : (k x : ℕ) → after 3 (after (3 * k) x) ≡ after (3 * (k + 1)) x
three_more k x =
    let same : suc (suc (suc (3 * k))) ≡ 3 * (k + 1) = omega arith in
    ap (λ n. after n x) same

pub chain_of_one : (q x y : ℕ) → leaf q 1 x ≡ chain q x y 0
unfolding chain
chain_of_one q x y = refl

-- ---- the joins

pub one_more : (k x : ℕ) → next (after k x) ≡ after (k + 1) x
one_more k x =
    let same : suc k ≡ k + 1 = omega arith in
    ap (λ n. after n x) same

joins_as : (f : Field) (right left : Tree) (b : Bool)
    → joined_by (if b then codes "p" else codes "s") (op_named (if b then codes "p" else codes "s") (operators f)) (right ∷ left ∷ [])
    ≡ Join (if b then codes "p" else codes "s") (if b then operator_p else operator_s) left right ∷ []
joins_as f right left true = refl
joins_as f right left false = refl

pub chain_grows : (f : Field) (q x y k : ℕ)
    → joined_by (operator_name (after k y)) (op_named (operator_name (after k y)) (operators f)) (leaf q (k + 2) (after (3 * (k + 1)) x) ∷ chain q x y k ∷ [])
    ≡ chain q x y (suc k) ∷ []
unfolding chain
chain_grows f q x y k = joins_as f (leaf q (k + 2) (after (3 * (k + 1)) x)) (chain q x y k) (draw 1 2 (after k y) == 0)

-- a builder that holds the tree of so many joins, after another leaf and another join
pub chain_is_built : (f : Field) (q x y k : ℕ) (before with_leaf now : BuilderValue) (leaves joins : ℕ)
    → before ≡ record { f = f; trees = chain q x y k ∷ [] } → leaves ≡ after (3 * (k + 1)) x → joins ≡ after k y
    → with_leaf ≡ record { f = f; trees = leaf q (k + 2) leaves ∷ before.trees }
    → now ≡ record { f = f; trees = joined_by (operator_name joins) (op_named (operator_name joins) (operators f)) with_leaf.trees }
    → now ≡ record { f = f; trees = chain q x y (k + 1) ∷ [] }
chain_is_built f q x y k before with_leaf now leaves joins b l j w n =
    let next_one : suc k ≡ k + 1 = omega arith in
    let two : List Tree = leaf q (k + 2) (after (3 * (k + 1)) x) ∷ chain q x y k ∷ [] in
    let joined : ℕ → List Tree → BuilderValue =
    λ (i : ℕ) (ts : List Tree). record { f = f; trees = joined_by (operator_name i) (op_named (operator_name i) (operators f)) ts } in
    n
    ∙ ap (λ (v : BuilderValue). joined joins v.trees)
    (w ∙ ap₂ (λ (i : ℕ) (v : BuilderValue). record { f = f; trees = leaf q (k + 2) i ∷ v.trees }) l b)
    ∙ ap (λ (i : ℕ). joined i two) j
    ∙ ap (λ (ts : List Tree). record { f = f; trees = ts }) (chain_grows f q x y k)
    ∙ ap (λ (i : ℕ). record { f = f; trees = chain q x y i ∷ [] }) next_one
