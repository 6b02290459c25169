-- A part made anew and the entries above it: rows, room and growth of the whole.
use Rattle.std.proofs.Common.{◌≡◌, ◌<◌, ◌≤◌, ◌+◌, ℕ, Bool, true, false, List, [], ◌∷◌, ◌++◌, Result, Ok, Err, sym, ap, subst, arith}
use Rattle.mm_field.specs.declared.Field.{Field}
use Rattle.mm_logic.specs.Formula.{Formula}
use Rattle.mm_logic.specs.Value.{Value}
use Rattle.mm_logic.specs.Occurrence.{nodes as parts, occurring, list_cells}
use Rattle.mm_logic.proofs.GrowthLemmas.{calls-then, AllBegin-grown, none_missing_cells}
use Rattle.mm_states.specs.Letters as letters
use Rattle.mm_tree.specs.NamedTree.{Tree, shape}
use Rattle.mm_tree.specs.NamedTree.Tree.{Elem, Void, Join}
use Rattle.mm_tree.specs.Nodes.{named, field_of, IsOver}
use Rattle.mm_tree.specs.Paths.{Path, node_at}
use Rattle.mm_tree.specs.ValidTree.{IsValidTree}
use Rattle.mm_tree.specs.declared.node.Node.{Node}
use Rattle.mm_tree.proofs.TreeLemmas.{valid_part, over_field}
use Rattle.mm_tree.proofs.StepLemmas.{node_root, node_left, node_right}
use Rattle.mm_nodes.specs.KeptTrees.{KeptTree, rows_beside, StandsBeside}
use Rattle.mm_nodes.specs.KeptTrees.KeptTree.{One, Two}
use Rattle.mm_nodes.specs.KeptNodes.{tree_of}
use Rattle.mm_nodes.specs.Demands.{Frame, IsExact, IsWithin, made, made_rows}
use Rattle.mm_nodes.specs.Calls.{CanWalk, Exceeds}
use Rattle.mm_nodes.specs.Walks.{path_rows, CanRemake, RemakesPath, BuildsTree}
use Rattle.mm_nodes.specs.Changes.{Changes}
use Rattle.mm_nodes.specs.declared.TheConstants.{MAX_LIMIT}
use Rattle.mm_nodes.specs.declared.kept.Kept.{Kept}
use Rattle.mm_nodes.specs.declared.change.Change.{Change}
use Rattle.mm_nodes.specs.declared.keeps.Keeps.{Ghosts}
use Rattle.mm_nodes.specs.declared.keeps.KeepFault.{KeepFault}
use Rattle.mm_nodes.proofs.RoomLemmas.{exact-then, exceeds_call, exceeds_part, exceeds_later, within-append, within-then, within-left, within-right}
use Rattle.mm_nodes.proofs.StandsLemmas.{Laws, stands-rows, made_rows-join, made-join, beside-stays}

within_itself : (vs : List Value) → IsWithin vs vs
within_itself vs p e = e

pub within_nothing : (vs : List Value) → IsWithin [] vs
within_nothing vs p e = cc

module _ {N : Type 0} (K : Ghosts N) (laws : Laws K) (fr : Frame) where
  abbrev made_in : Tree → List Value
  made_in T = made fr.f (K.query fr.F) (shape T)

  abbrev rows_in : Tree → ℕ
  rows_in T = made_rows fr.f (K.query fr.F) (shape T)

  -- the rows of a tree: beside a way, at its end, and on it
  pub rows_split : (path : Path) (T : Tree) (R : KeptTree N) → StandsBeside (K.IsLeaf fr) (K.IsJoin fr) path T R
      → rows_beside K.rows path R + made_rows fr.f (K.query fr.F) (shape (node_at T path)) + path_rows fr.f (K.query fr.F) path T ≡ made_rows fr.f (K.query fr.F) (shape T)
  rows_split [] T R s = let e = ap rows_in (node_root T) in omega (arith, e)
  rows_split (true ∷ path) (Join name op l r) (Two n a b) s =
      let below = rows_split path l a s.1 in
      let other = stands-rows K laws fr r b s.2 in
      let all = made_rows-join K laws fr name op l r in
      let here = ap rows_in (node_left name op l r path) in
      omega (arith, below, other, all, here)
  rows_split (false ∷ path) (Join name op l r) (Two n a b) s =
      let below = rows_split path r b s.2 in
      let other = stands-rows K laws fr l a s.1 in
      let all = made_rows-join K laws fr name op l r in
      let here = ap rows_in (node_right name op l r path) in
      omega (arith, below, other, all, here)
  rows_split (true ∷ path) (Elem name vec weight) R s = absurd s
  rows_split (false ∷ path) (Elem name vec weight) R s = absurd s
  rows_split (true ∷ path) (Void name t) R s = absurd s
  rows_split (false ∷ path) (Void name t) R s = absurd s
  rows_split (true ∷ path) (Join name op l r) (One n) s = absurd s
  rows_split (false ∷ path) (Join name op l r) (One n) s = absurd s

  -- the types of a part are among those of the tree
  pub part_within : (path : Path) (T : Tree) → IsWithin (made fr.f (K.query fr.F) (shape (node_at T path))) (made fr.f (K.query fr.F) (shape T))
  unfolding node_at
  part_within [] (Elem name vec weight) = within_itself (made_in (Elem name vec weight))
  part_within [] (Void name t) = within_itself (made_in (Void name t))
  part_within [] (Join name op l r) = within_itself (made_in (Join name op l r))
  part_within (step ∷ path) (Elem name vec weight) = within_itself (made_in (Elem name vec weight))
  part_within (step ∷ path) (Void name t) = within_itself (made_in (Void name t))
  part_within (true ∷ path) (Join name op l r) =
      subst (λ vs. IsWithin (made_in (node_at l path)) vs) (sym (made-join K laws fr name op l r))
      (within-then (made_in (node_at l path)) (made_in l) _ (part_within path l) (within-then (made_in l) (made_in l ++ made_in r) _ (within-left (made_in l) (made_in r)) (within-right _ (made_in l ++ made_in r))))
  part_within (false ∷ path) (Join name op l r) =
      subst (λ vs. IsWithin (made_in (node_at r path)) vs) (sym (made-join K laws fr name op l r))
      (within-then (made_in (node_at r path)) (made_in r) _ (part_within path r) (within-then (made_in r) (made_in l ++ made_in r) _ (within-right (made_in l) (made_in r)) (within-right _ (made_in l ++ made_in r))))

module _ {N : Type 0} (K : Ghosts N) (F : Formula) (olds nows : List (List Value)) (f : Field) (T : Tree) (R new : KeptTree N) (path : Path) (items : List N) (limit before after : ℕ) (changed : Bool)
    (exact : IsExact F olds) (k : RemakesPath K F olds nows f T R new path items limit before after changed) where
  -- too many rows and cells in the end
  pub full_in_the_end : limit < list_cells (parts F) nows + after → Exceeds F olds (made f (K.query F) (shape T)) (before + path_rows f (K.query F) path T) limit
  full_in_the_end h =
      let sum = k.rows in
      let none = none_missing_cells F nows in
      exceeds_later F olds nows k.grown.0 [] (made f (K.query F) (shape T)) after (before + path_rows f (K.query F) path T) limit k.grown.1 k.grown.2 (within_nothing (made f (K.query F) (shape T))) (omega (arith, sum))
      (exceeds_call F nows [] after limit (exact-then F olds nows k.grown.0 exact k.grown.1) (omega (arith, h, none)))

module _ {N : Type 0} (K : Ghosts N) (laws : Laws K) (F : Formula) (olds mids : List (List Value)) (f : Field) (T : Tree) (R : KeptTree N) (path : Path) (limit before : ℕ)
    (beside : StandsBeside (K.IsLeaf (record { f = f; F = F; lists = olds })) (K.IsJoin (record { f = f; F = F; lists = olds })) path T R) (sum : before ≡ rows_beside K.rows path R) where
  abbrev here : Frame
  here = record { f = f; F = F; lists = olds }

  pub full_part : Exceeds F olds (made f (K.query F) (shape (node_at T path))) (before + made_rows f (K.query F) (shape (node_at T path))) limit
      → Exceeds F olds (made f (K.query F) (shape T)) (made_rows f (K.query F) (shape T)) limit
  full_part e =
      let split = rows_split K laws here path T R beside in
      exceeds_part F olds (made f (K.query F) (shape (node_at T path))) (made f (K.query F) (shape T)) (before + made_rows f (K.query F) (shape (node_at T path)))
      (made_rows f (K.query F) (shape T)) limit (part_within K laws here path T) (omega (arith, split, sum)) e

  module _ (middle : ℕ) (part : Kept N) (b : BuildsTree K F olds mids f (node_at T path) limit before middle part) where
    pub can_remake : CanRemake K F mids f T R (tree_of part) path
    can_remake = record { beside = beside-stays K laws here mids path T R (AllBegin-grown olds mids (occurring F (made f (K.query F) (shape (node_at T path)))) b.grown) beside; part = b.stands }

    all_rows : middle + path_rows f (K.query F) path T ≡ made_rows f (K.query F) (shape T)
    all_rows =
        let split = rows_split K laws here path T R beside in
        let own = stands-rows K laws (record { f = f; F = F; lists = mids }) (node_at T path) (tree_of part) b.stands in
        let rows = b.rows in
        omega (arith, split, own, rows, sum)

    pub part_changes : (nows : List (List Value)) (result : Result (Change N) KeepFault) → Changes K F mids nows f T R path limit (middle + path_rows f (K.query F) path T) result
        → Changes K F olds nows f T R path limit (made_rows f (K.query F) (shape T)) result
    part_changes nows (Ok change) c =
        let vs : List Value = made f (K.query F) (shape (node_at T path)) in
        let all = all_rows in
        let fits = c.fits in
        record {
          stands = c.stands;
          sums = c.sums;
          few = c.few;
          grown = (vs ++ c.grown.0, calls-then F olds mids nows vs c.grown.0 b.grown c.grown.1, within-append vs c.grown.0 (made f (K.query F) (shape T)) (part_within K laws here path T) c.grown.2);
          fits = omega (arith, fits, all);
        }
    part_changes nows (Err e) c = λ full.
        let all = all_rows in
        exceeds_later F olds mids (made f (K.query F) (shape (node_at T path))) (made f (K.query F) (shape T)) (made f (K.query F) (shape T)) (middle + path_rows f (K.query F) path T)
        (made_rows f (K.query F) (shape T)) limit b.grown (part_within K laws here path T) (within_itself (made f (K.query F) (shape T))) (omega (arith, all)) (c full)

-- ---- as a walk meets them

module _ (F F1 : Formula) (g g1 : Field) (lists nows : List (List Value)) (limit : ℕ) (node : Node) (c : CanWalk F g lists limit node) where
  -- a walk can go on from the same node with other lists
  pub walks_on : F1 ≡ F → g1 ≡ g → IsExact F nows → list_cells (parts F) nows ≤ limit → CanWalk F1 g1 nows limit node
  walks_on e e1 exact cells =
      subst (λ (G : Formula). CanWalk G g1 nows limit node) (sym e) (subst (λ (h : Field). CanWalk F h nows limit node) (sym e1)
      (record { over = c.over; valid = c.valid; field = c.field; exact = exact; cells = cells; limited = c.limited }))

  -- and below a node of it
  pub part_walks : (d : Node) (path : Path) → named d ≡ node_at (named node) path → IsOver (field_of node) d → CanWalk F g lists limit d
  part_walks d path tree over =
      let f = over_field (field_of node) d over in
      record {
        over = subst (λ (h : Field). IsOver h d) (sym f) over;
        valid = subst (λ (h : Field). IsValidTree h (named d)) (sym f) (subst (λ (U : Tree). IsValidTree (field_of node) U) (sym tree) (valid_part (field_of node) (named node) path c.valid));
        field = subst (λ (h : Field). letters.IsOver F g h) (sym f) c.field;
        exact = c.exact;
        cells = c.cells;
        limited = c.limited;
      }

-- a walk can go from the root of a valid tree
pub root_walks : (F : Formula) (g : Field) (lists : List (List Value)) (limit : ℕ) (node : Node) (f : Field) (T : Tree) → named node ≡ T → IsOver f node → IsValidTree f T → letters.IsOver F g f → IsExact F lists
    → list_cells (parts F) lists ≤ limit → limit ≤ MAX_LIMIT → CanWalk F g lists limit node
root_walks F g lists limit node f T tree over valid field exact cells limited =
    let same = sym (over_field f node over) in
    record {
      over = subst (λ (h : Field). IsOver h node) same over;
      valid = subst (λ (h : Field). IsValidTree h (named node)) same (subst (IsValidTree f) (sym tree) valid);
      field = subst (λ (h : Field). letters.IsOver F g h) same field;
      exact = exact;
      cells = cells;
      limited = limited;
    }

pub as_root : (P : Field → Tree → Type 0) (f g : Field) (T U : Tree) → f ≡ g → T ≡ U → P f T → P g U
as_root P f g T U a b x = subst (λ (o : Tree). P g o) b (subst (λ (o : Field). P o T) a x)
