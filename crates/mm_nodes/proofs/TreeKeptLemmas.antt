-- What is kept for a whole tree: its types, and whether they fit.
use Rattle.std.proofs.Common.{◌≡◌, ◌<◌, ◌≤◌, ◌+◌, ◌-◌, ℕ, zero, suc, nat_lt, Bool, true, false, List, [], ◌∷◌, ◌++◌, if◌then◌else◌, ◌⊎◌, inl, inr, refl, sym, ap, ◌∙◌, arith}
use Rattle.std.proofs.lemmas.Bool.{lt-ltb, le-ltb, ltb-true, ltb-false}
use Rattle.mm_field.specs.declared.Field.{Field}
use Rattle.mm_logic.specs.Formula.{Formula}
use Rattle.mm_logic.specs.Value.{Value}
use Rattle.mm_logic.specs.Occurrence.{nodes as parts, occurring, list_cells, cells}
use Rattle.mm_logic.specs.Growth.{root, AllGrown}
use Rattle.mm_logic.proofs.GrowthLemmas.{none_missing_cells}
use Rattle.mm_tree.specs.NamedTree.{Tree, shape, nodes}
use Rattle.mm_tree.specs.NamedTree.Tree.{Elem, Void, Join}
use Rattle.mm_tree.specs.Paths.{Path}
use Rattle.mm_tree.specs.Places.{path_of}
use Rattle.mm_nodes.specs.KeptTrees.{KeptTree, count, path_in, StandsFor, StandsBeside}
use Rattle.mm_nodes.specs.KeptTrees.KeptTree.{One, Two}
use Rattle.mm_nodes.specs.KeptNodes.{tree_of, IsCounted}
use Rattle.mm_nodes.specs.Demands.{Frame, IsExact, IsWithin, made, made_rows}
use Rattle.mm_nodes.specs.Calls.{Exceeds}
use Rattle.mm_nodes.specs.Changes.{KeepsTree, IsFull}
use Rattle.mm_nodes.specs.declared.TheConstants.{MAX_LIMIT}
use Rattle.mm_nodes.specs.declared.kept.Kept.{Kept}
use Rattle.mm_nodes.specs.declared.keeps.Keeps.{Ghosts}
use Rattle.mm_nodes.proofs.RoomLemmas.{root-grows, grown-members, exact-then, exact-cells, within-cells, within-append, within-left, within-right, within-then, same-within}
use Rattle.mm_nodes.proofs.KeptTypeLemmas.{grown_by_all}
use Rattle.mm_nodes.proofs.StandsLemmas.{Laws, stands-rows, stands-within, stands-count}

-- the cells of exact lists are those of the root's types
pub exact_size : (F : Formula) (lists : List (List Value)) → IsExact F lists → cells F (root F lists) ≤ list_cells (parts F) lists
exact_size F lists e =
    let all = exact-cells F lists [] e in
    let none = none_missing_cells F lists in
    let some = within-cells F (root F lists) (root F lists ++ []) (within-left (root F lists) []) in
    omega (arith, all, none, some)

module _ {N : Type 0} (K : Ghosts N) (laws : Laws K) (F : Formula) (olds nows marked : List (List Value)) (f : Field) (T : Tree) (limit : ℕ) (kept : Kept N) where
  abbrev now : Frame
  now = record { f = f; F = F; lists = nows }

  abbrev types : List Value
  types = made f (K.query F) (shape T)

  pub keeps_tree : IsExact F olds → marked ≡ nows → limit ≤ MAX_LIMIT → StandsFor (K.IsLeaf now) (K.IsJoin now) T (tree_of kept) → IsCounted K.rows kept
      → (ws : List Value) → AllGrown olds nows (occurring F ws) → IsWithin ws types → list_cells (parts F) nows + made_rows f (K.query F) (shape T) ≤ limit
      → KeepsTree K F (root F olds) nows marked f T limit kept
  keeps_tree exact same limited stands sums ws grown within fits =
      let later = exact-then F olds nows ws exact grown in
      let all = stands-within K laws now T (tree_of kept) stands in
      let root_grown = root-grows F olds nows ws grown in
      let front = within-then (root F olds) (root F olds ++ ws) (root F nows) (within-left (root F olds) ws) (same-within (root F nows) (root F olds ++ ws) (grown-members (root F olds) (root F nows) ws root_grown)) in
      let size = exact_size F nows later in
      let few = within-cells F (root F olds ++ types) (root F nows) (within-append (root F olds) types (root F nows) front all) in
      let rows = stands-rows K laws now T (tree_of kept) stands in
      record {
        stands = stands;
        grown = grown_by_all (root F olds) (root F nows) ws types root_grown within all;
        fits = omega (arith, fits, size, few);
        settled = record { exact = later; mark = same; sums = sums; within = omega (arith, rows, fits); limited = limited };
      }

-- what exceeds the limit with all types exceeds it with those before and those of the tree
pub too_full : {N : Type 0} (K : Ghosts N) (F : Formula) (olds : List (List Value)) (f : Field) (T : Tree) (limit : ℕ)
    → Exceeds F olds (made f (K.query F) (shape T)) (made_rows f (K.query F) (shape T)) limit → IsFull F (K.query F) (root F olds) f T limit
too_full K F olds f T limit e =
    let types = made f (K.query F) (shape T) in
    e (root F olds ++ types) (within-left (root F olds) types) (within-right (root F olds) types)

-- ---- the way of a number in what is kept is that in the tree

module _ {N : Type 0} (K : Ghosts N) (laws : Laws K) (fr : Frame) where
  turned_alike : (b : Bool) (path path2 : Path) (k : ℕ) (name : List ℕ) (op : _) (l r : Tree) (n : N) (x y : KeptTree N)
      → StandsBeside (K.IsLeaf fr) (K.IsJoin fr) (if b then true ∷ path else false ∷ path2) (Join name op l r) (Two n x y)
      → ((b ≡ true) × StandsBeside (K.IsLeaf fr) (K.IsJoin fr) path l x × StandsFor (K.IsLeaf fr) (K.IsJoin fr) r y)
      ⊎ ((b ≡ false) × StandsFor (K.IsLeaf fr) (K.IsJoin fr) l x × StandsBeside (K.IsLeaf fr) (K.IsJoin fr) path2 r y)
  turned_alike true path path2 k name op l r n x y s = inl (refl, s.1, s.2)
  turned_alike false path path2 k name op l r n x y s = inr (refl, s.1, s.2)

  abbrev IsSameWay : ℕ → Tree → KeptTree N → Type 0
  IsSameWay k T R = (k < count R) × (path_in k R ≡ path_of k T)

  some_kept : (R : KeptTree N) → 0 < count R
  some_kept (One n) = omega arith
  some_kept (Two n a b) = omega arith

  pub same_way : (k : ℕ) (T : Tree) (R : KeptTree N) → k < nodes T → StandsBeside (K.IsLeaf fr) (K.IsJoin fr) (path_of k T) T R → IsSameWay k T R
  unfolding nodes path_of
  same_way zero T R h s = (some_kept R, refl)
  same_way (suc k) (Elem name vec weight) R h s = absurd (omega (arith, h))
  same_way (suc k) (Void name t) R h s = absurd (omega (arith, h))
  same_way (suc k) (Join name op l r) (One n) h s = absurd (no_step (nat_lt k (nodes l)) s)
    where
      no_step : (b : Bool) → StandsBeside (K.IsLeaf fr) (K.IsJoin fr) (if b then true ∷ path_of k l else false ∷ path_of (k - nodes l) r) (Join name op l r) (One n) → ⊥
      no_step true s = s
      no_step false s = s
  same_way (suc k) (Join name op l r) (Two n x y) h s = by_turn (same_way k l x) (same_way (k - nodes l) r y) (turned_alike (nat_lt k (nodes l)) (path_of k l) (path_of (k - nodes l) r) k name op l r n x y s)
    where
      by_turn : (k < nodes l → StandsBeside (K.IsLeaf fr) (K.IsJoin fr) (path_of k l) l x → IsSameWay k l x)
          → (k - nodes l < nodes r → StandsBeside (K.IsLeaf fr) (K.IsJoin fr) (path_of (k - nodes l) r) r y → IsSameWay (k - nodes l) r y)
          → ((nat_lt k (nodes l) ≡ true) × StandsBeside (K.IsLeaf fr) (K.IsJoin fr) (path_of k l) l x × StandsFor (K.IsLeaf fr) (K.IsJoin fr) r y)
          ⊎ ((nat_lt k (nodes l) ≡ false) × StandsFor (K.IsLeaf fr) (K.IsJoin fr) l x × StandsBeside (K.IsLeaf fr) (K.IsJoin fr) (path_of (k - nodes l) r) r y)
          → IsSameWay (suc k) (Join name op l r) (Two n x y)
      by_turn left right (inl t) =
          let ih = left (ltb-true k (nodes l) t.0) t.1 in
          let inside = ih.0 in (
            omega (arith, inside),
            ap (λ (b : Bool). if b then true ∷ path_in k x else false ∷ path_in (k - count x) y) (lt-ltb k (count x) ih.0)
                ∙ ap (λ p. true ∷ p) ih.1
                ∙ sym (ap (λ (b : Bool). if b then true ∷ path_of k l else false ∷ path_of (k - nodes l) r) t.0),
          )
      by_turn left right (inr t) =
          let less = ltb-false k (nodes l) t.0 in
          let same = stands-count K laws fr l x t.1 in
          let ih = right (omega (arith, less, h)) t.2 in
          let inside = ih.0 in (
            omega (arith, inside, same, less),
            ap (λ (b : Bool). if b then true ∷ path_in k x else false ∷ path_in (k - count x) y) (le-ltb k (count x) (omega (arith, same, less)))
                ∙ ap (λ m. false ∷ path_in (k - m) y) same ∙ ap (λ p. false ∷ p) ih.1
                ∙ sym (ap (λ (b : Bool). if b then true ∷ path_of k l else false ∷ path_of (k - nodes l) r) t.0),
          )
