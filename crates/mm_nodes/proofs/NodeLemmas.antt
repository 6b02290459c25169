-- A join's node built from its two children, as the walk meets them.
use Rattle.std.proofs.Common.{◌≡◌, ◌<◌, ◌≤◌, ◌+◌, ℕ, List, length, Result, Ok, Err, Option, Some, None, sym, subst, arith}
use Rattle.mm_field.specs.declared.Field.{Field}
use Rattle.mm_logic.specs.Formula.{Formula}
use Rattle.mm_logic.specs.Value.{Value}
use Rattle.mm_logic.specs.Occurrence.{nodes as parts, occurring, list_cells, distinct}
use Rattle.mm_logic.specs.Growth.{AllGrown}
use Rattle.mm_logic_laws.specs.ValueLaws.{types_by_rules}
use Rattle.mm_ops.specs.OpValue.{OpValue}
use Rattle.mm_tree.specs.NamedTree.{Tree, shape}
use Rattle.mm_tree.specs.Nodes.{named, named_leaf, field_of}
use Rattle.mm_tree.specs.declared.node.Item.{Item}
use Rattle.mm_tree.specs.declared.node.Leaf.{Leaf}
use Rattle.mm_tree.specs.declared.node.Node.{Node}
use Rattle.mm_tree.proofs.TreeLemmas.{valid_left, valid_right}
use Rattle.mm_nodes.specs.KeptTrees.{top, count, StandsFor}
use Rattle.mm_nodes.specs.KeptTrees.KeptTree.{One}
use Rattle.mm_nodes.specs.KeptNodes.{tree_of}
use Rattle.mm_nodes.specs.Demands.{Frame, IsExact, made, made_rows}
use Rattle.mm_nodes.specs.Calls.{Exceeds, AddsEntry}
use Rattle.mm_nodes.specs.Walks.{BuildsTree, Joins, Builds}
use Rattle.mm_nodes.specs.declared.kept.Kept.{Kept}
use Rattle.mm_nodes.specs.declared.kept.Kept as kepts
use Rattle.mm_nodes.specs.declared.keeps.Keeps.{Ghosts}
use Rattle.mm_nodes.specs.declared.keeps.KeepFault.{KeepFault}
use Rattle.mm_nodes.proofs.RoomLemmas.{exact-then}
use Rattle.mm_nodes.proofs.StandsLemmas.{Laws, stands-count, IsAlone, elem_alone, void_alone}
use Rattle.mm_nodes.proofs.BuildLemmas.{full_left, full_right, full_join, tree_built, left_stands}
use Rattle.mm_nodes.proofs.WalkLemmas.{Meets, MeetsLeaf, as_node, as_child, as_leaf, left_boundary, right_boundary, few_below}

module _ {N : Type 0} (K : Ghosts N) (laws : Laws K) (F F1 F2 : Formula) (e1 : F1 ≡ F) (e2 : F2 ≡ F) (node : Node) (n : List ℕ) (op : OpValue) (l r : Node) (m : Meets node n op l r)
    (olds mids lasts : List (List Value)) (limit before middle last : ℕ) where
  abbrev Full_for : (nows : List (List Value)) → ℕ → Field → Tree → Type 0
  Full_for lists rows f T = Exceeds F lists (made f (K.query F) (shape T)) (rows + made_rows f (K.query F) (shape T)) limit

  -- the left child, named by its node
  pub left_builds : (d : Node) (first : Kept N) → d ≡ l → BuildsTree K F olds mids (field_of d) (named d) limit before middle first → BuildsTree K F olds mids op.f (named l) limit before middle first
  left_builds d first i b = as_child (λ f T. BuildsTree K F olds mids f T limit before middle first) d l op.f i m.left b

  pub right_builds : (d : Node) (second : Kept N) → d ≡ r → BuildsTree K F1 mids lasts (field_of d) (named d) limit middle last second → BuildsTree K F mids lasts op.f (named r) limit middle last second
  right_builds d second i b =
      as_child (λ f T. BuildsTree K F mids lasts f T limit middle last second) d r op.f i m.right
      (subst (λ (G : Formula). BuildsTree K G mids lasts (field_of d) (named d) limit middle last second) e1 b)

  pub left_full : (d : Node) → d ≡ l → Full_for olds before (field_of d) (named d) → Full_for olds before (field_of node) (named node)
  left_full d i e = as_node (Full_for olds before) node n op l r m (full_left K laws F op n (named l) (named r) olds before limit (as_child (Full_for olds before) d l op.f i m.left e))

  module _ (first : Kept N) (a : BuildsTree K F olds mids op.f (named l) limit before middle first) where
    pub mids_exact : IsExact F olds → IsExact F mids
    mids_exact x = exact-then F olds mids (made op.f (K.query F) (shape (named l))) x a.grown

    pub right_full : (d : Node) → d ≡ r → Exceeds F1 mids (made (field_of d) (K.query F1) (shape (named d))) (middle + made_rows (field_of d) (K.query F1) (shape (named d))) limit
        → Full_for olds before (field_of node) (named node)
    right_full d i e =
        as_node (Full_for olds before) node n op l r m (full_right K laws F op n (named l) (named r) olds mids limit before middle first a
        (as_child (Full_for mids middle) d r op.f i m.right (subst (λ (G : Formula). Exceeds G mids (made (field_of d) (K.query G) (shape (named d))) (middle + made_rows (field_of d) (K.query G) (shape (named d))) limit) e1 e)))

    module _ (second : Kept N) (b : BuildsTree K F mids lasts op.f (named r) limit middle last second) where
      pub lasts_exact : IsExact F olds → IsExact F2 lasts
      lasts_exact x = subst (λ (G : Formula). IsExact G lasts) (sym e2) (exact-then F mids lasts (made op.f (K.query F) (shape (named r))) (mids_exact x) b.grown)

      pub lasts_cells : list_cells (parts F2) lasts ≤ limit
      lasts_cells = subst (λ (G : Formula). list_cells (parts G) lasts ≤ limit) (sym e2) b.cells

      abbrev frame2 : Frame
      frame2 = record { f = op.f; F = F2; lists = lasts }

      pub left_fits : K.Fits frame2 op.op.t1 (top (tree_of first))
      left_fits =
          subst (λ (G : Formula). K.Fits (record { f = op.f; F = G; lists = lasts }) op.op.t1 (top (tree_of first))) (sym e2)
          (subst (λ (t : ℕ). K.Fits (record { f = op.f; F = F; lists = lasts }) t (top (tree_of first))) (left_boundary node n op l r m)
          (laws.fits (record { f = op.f; F = F; lists = lasts }) (named l) (tree_of first) (valid_left op.f n op.op (named l) (named r) m.valid)
          (left_stands K laws F op n (named l) (named r) olds mids limit before middle first a lasts last second b)))

      pub right_fits : K.Fits frame2 op.op.t2 (top (tree_of second))
      right_fits =
          subst (λ (G : Formula). K.Fits (record { f = op.f; F = G; lists = lasts }) op.op.t2 (top (tree_of second))) (sym e2)
          (subst (λ (t : ℕ). K.Fits (record { f = op.f; F = F; lists = lasts }) t (top (tree_of second))) (right_boundary node n op l r m)
          (laws.fits (record { f = op.f; F = F; lists = lasts }) (named r) (tree_of second) (valid_right op.f n op.op (named l) (named r) m.valid) b.stands))

      pub few_kept : count (tree_of first) + count (tree_of second) < 100000
      few_kept =
          let one = stands-count K laws (record { f = op.f; F = F; lists = mids }) (named l) (tree_of first) a.stands in
          let two = stands-count K laws (record { f = op.f; F = F; lists = lasts }) (named r) (tree_of second) b.stands in
          let few = few_below node n op l r m in
          omega (arith, one, two, few)

      pub join_builds : (nows : List (List Value)) (after : ℕ) (result : Result (Kept N) KeepFault) → Joins K F2 lasts nows op (tree_of first) (tree_of second) limit last after result
          → Builds K F olds nows (field_of node) (named node) limit before after result
      join_builds nows after result j = by_result result (subst (λ (G : Formula). Joins K G lasts nows op (tree_of first) (tree_of second) limit last after result) e2 j)
        where
          by_result : (result : Result (Kept N) KeepFault) → Joins K F lasts nows op (tree_of first) (tree_of second) limit last after result
              → Builds K F olds nows (field_of node) (named node) limit before after result
          by_result (Ok kept) k =
              as_node (λ f T. BuildsTree K F olds nows f T limit before after kept) node n op l r m
              (tree_built K laws F op n (named l) (named r) olds mids limit before middle first a lasts last second b nows after kept k)
          by_result (Err e) k = λ full.
              as_node (Full_for olds before) node n op l r m (full_join K laws F op n (named l) (named r) olds mids limit before middle first a lasts last second b (k full))

module _ {N : Type 0} (K : Ghosts N) (laws : Laws K) (F : Formula) (node : Node) (leaf : Leaf) (m : MeetsLeaf node leaf) (olds : List (List Value)) (limit before : ℕ) where
  abbrev alone : Frame
  alone = record { f = leaf.field; F = F; lists = olds }

  leaf_alone : IsAlone K laws alone (named_leaf leaf)
  leaf_alone = by_item leaf.item
    where
      by_item : (item : Option Item) → IsAlone K laws alone (named_leaf (record leaf { item = item }))
      by_item None = void_alone K laws alone leaf.name leaf.t
      by_item (Some i) = elem_alone K laws alone leaf.name i.vec i.weight

  stands_alone : (fr : Frame) (entry : N) → K.IsLeaf fr (named_leaf leaf) entry → StandsFor (K.IsLeaf fr) (K.IsJoin fr) (named_leaf leaf) (One entry)
  stands_alone fr entry = by_item leaf.item
    where
      by_item : (item : Option Item) → K.IsLeaf fr (named_leaf (record leaf { item = item })) entry
          → StandsFor (K.IsLeaf fr) (K.IsJoin fr) (named_leaf (record leaf { item = item })) (One entry)
      by_item None h = h
      by_item (Some i) h = h

  pub leaf_builds : (nows : List (List Value)) (after : ℕ) (entry : N)
      → AddsEntry K.rows F olds nows (K.IsLeaf (record { f = leaf.field; F = F; lists = nows }) (named_leaf leaf)) (types_by_rules leaf.field (K.query F) (shape (named_leaf leaf))) limit before after entry
      → BuildsTree K F olds nows (field_of node) (named node) limit before after (kepts.One entry)
  leaf_builds nows after entry a =
      as_leaf (λ f T. BuildsTree K F olds nows f T limit before after (kepts.One entry)) node leaf m (record {
        stands = stands_alone (record { f = leaf.field; F = F; lists = nows }) entry a.is;
        sums = tt;
        grown = subst (λ vs. AllGrown olds nows (occurring F vs)) (sym leaf_alone.0) a.grown;
        cells = a.cells;
        rows = a.rows;
        small = a.small;
      })

  pub leaf_full : Exceeds F olds (types_by_rules leaf.field (K.query F) (shape (named_leaf leaf))) (before + length (distinct (types_by_rules leaf.field (K.query F) (shape (named_leaf leaf))))) limit
      → Exceeds F olds (made (field_of node) (K.query F) (shape (named node))) (before + made_rows (field_of node) (K.query F) (shape (named node))) limit
  leaf_full e = as_leaf (λ f T. Exceeds F olds (made f (K.query F) (shape T)) (before + made_rows f (K.query F) (shape T)) limit) node leaf m
      (subst (λ vs. Exceeds F olds vs (before + made_rows leaf.field (K.query F) (shape (named_leaf leaf))) limit) (sym leaf_alone.0)
      (subst (λ (k : ℕ). Exceeds F olds (types_by_rules leaf.field (K.query F) (shape (named_leaf leaf))) (before + k) limit) (sym leaf_alone.1) e))
