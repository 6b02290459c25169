-- Which trees are valid.
use Rattle.std.specs.Prelude.{ℕ, ◌≡◌, ◌≤◌, nat_abs, length, List, true, All}
use Rattle.std.specs.List.{IsDistinct}
use Rattle.std.specs.Str.{bytes_eq}
use Rattle.mm_base.specs.Names.{is_name}
use Rattle.mm_field.specs.declared.Field.{Field}
use Rattle.mm_logic.specs.Tree.{IsValid}
use Rattle.mm_tree.specs.declared.TheConstants.{MAX_LEAVES, MAX_DEPTH}
use Rattle.mm_tree.specs.NamedTree.{Tree, shape, node_names, leaf_names, weights, depth}

-- the most leaves of a tree, the most joins above a leaf, and the greatest weight
abbrev pub most_leaves : ℕ
most_leaves = MAX_LEAVES

abbrev pub most_depth : ℕ
most_depth = MAX_DEPTH

abbrev pub most_weight : ℕ
most_weight = 1000000000000

-- Each has the form of a name.
abbrev pub AreNames : List (List ℕ) → Type 0
AreNames names = All (λ name. is_name name ≡ true) names

-- A tree over f is valid where its shape is, its leaves and operators have names of the right form, the leaves different ones, it has
-- at most 8192 leaves, none deeper than 1023, and its weights are from -10^12 to 10^12.
pub record IsValidTree (f : Field) (T : Tree) : Type 0 where
  pub valid_shape : IsValid f (shape T)
  pub formed : AreNames (node_names T)
  pub different : IsDistinct bytes_eq (leaf_names T)
  pub few : length (leaf_names T) ≤ most_leaves
  pub shallow : depth T ≤ most_depth
  pub light : All (λ w. nat_abs w ≤ most_weight) (weights T)
