-- What stands for a tree has its nodes, its types and its rows, and stands for it where the lists grow.
use Rattle.std.proofs.Common.{rules, ◌≡◌, ◌+◌, ℕ, true, false, List, [], ◌∷◌, ◌++◌, map, sum_by, length, refl, sym, ap, ◌∙◌, subst, arith}
use Rattle.std.specs.List.{list_any}
use Rattle.std.proofs.lemmas.List.Sums.{sum_by-append, sum_by-cons}
use Rattle.std.proofs.lemmas.Grind.{flat_map-append}
use Rattle.mm_logic.specs.Formula.{Formula}
use Rattle.mm_logic.specs.Operator.{Op}
use Rattle.mm_logic.specs.Value.{Value}
use Rattle.mm_logic.specs.Order.{SameMembers}
use Rattle.mm_logic.specs.Occurrence.{distinct}
use Rattle.mm_logic.specs.JoinRule.{all_pairs, join_type}
use Rattle.mm_logic.specs.Growth.{root, AllBegin}
use Rattle.mm_logic.specs.StateSize.{asked}
use Rattle.mm_logic.specs.Tree as shapes
use Rattle.mm_logic.proofs.BagLemmas.{bag-same}
use Rattle.mm_logic.proofs.SetLemmas.{list_any-map, list_any-flat_map, list_any-same}
use Rattle.mm_logic_laws.specs.ValueLaws.{types_by_rules}
use Rattle.mm_tree.specs.NamedTree.{Tree, shape, nodes, boundary}
use Rattle.mm_tree.specs.NamedTree.Tree.{Elem, Void, Join}
use Rattle.mm_tree.specs.Paths.{Path}
use Rattle.mm_tree.specs.ValidTree.{IsValidTree}
use Rattle.mm_nodes.specs.KeptTrees.{KeptTree, top, count, row_sum, StandsFor, StandsBeside}
use Rattle.mm_nodes.specs.KeptTrees.KeptTree.{One, Two}
use Rattle.mm_nodes.specs.Demands.{Frame, HasTypes, IsWithin, made, made_rows}
use Rattle.mm_nodes.specs.declared.keeps.Keeps.{Ghosts}
use Rattle.mm_nodes.proofs.RoomLemmas.{within-append, within-then, same-within}

count_each : (vs : List Value) → sum_by (λ v. 1) vs ≡ length vs
count_each [] = refl
count_each (v ∷ vs) = sum_by-cons (λ v. 1) v vs ∙ (let e : sum_by (λ v. 1) vs ≡ length vs = count_each vs in omega (arith, e))

-- as many different values
pub as_many : (vs ws : List Value) → SameMembers vs ws → length (distinct vs) ≡ length (distinct ws)
as_many vs ws h = sym (count_each (distinct vs)) ∙ bag-same vs ws h (λ v. 1) ∙ count_each (distinct ws)

pub all_pairs-same : (j : Value → Value → Value) (vs vs2 ws ws2 : List Value) → SameMembers vs vs2 → SameMembers ws ws2 → SameMembers (all_pairs j vs ws) (all_pairs j vs2 ws2)
all_pairs-same j vs vs2 ws ws2 g h p =
    list_any-flat_map p (λ v. map (j v) ws) vs
    ∙ list_any-same (λ v. list_any p (map (j v) ws)) (λ v. list_any p (map (j v) ws2)) (λ v. list_any-map p (j v) ws ∙ h (λ w. p (j v w)) ∙ sym (list_any-map p (j v) ws2)) vs
    ∙ g (λ v. list_any p (map (j v) ws2))
    ∙ sym (list_any-flat_map p (λ v. map (j v) ws2) vs2)

pub same-then : (us vs ws : List Value) → SameMembers us vs → SameMembers vs ws → SameMembers us ws
same-then us vs ws g h p = g p ∙ h p

-- the laws of what nodes keep
pub record Laws {N : Type 0} (K : Ghosts N) : Type 0 where
  pub asks : (F : Formula) → asked (K.query F) ≡ F
  pub leaf_has : (fr : Frame) (T : Tree) (n : N) → K.IsLeaf fr T n → HasTypes fr.F fr.lists (K.types fr n) (K.rows n) (types_by_rules fr.f (K.query fr.F) (shape T))
  pub join_has : (fr : Frame) (op : Op) (a b n : N) → K.IsJoin fr op a b n → HasTypes fr.F fr.lists (K.types fr n) (K.rows n) (all_pairs (join_type fr.f fr.F op) (K.types fr a) (K.types fr b))
  pub fits : (fr : Frame) (T : Tree) (R : KeptTree N) → IsValidTree fr.f T → StandsFor (K.IsLeaf fr) (K.IsJoin fr) T R → K.Fits fr (boundary T) (top R)
  pub leaf_stays : (fr : Frame) (lists : List (List Value)) (T : Tree) (n : N) → AllBegin fr.lists lists → K.IsLeaf fr T n → K.IsLeaf (record fr { lists = lists }) T n
  pub join_stays : (fr : Frame) (lists : List (List Value)) (op : Op) (a b n : N) → AllBegin fr.lists lists → K.IsJoin fr op a b n → K.IsJoin (record fr { lists = lists }) op a b n
  pub same_left : (fr : Frame) (op : Op) (a b c n : N) → K.Same b a → K.IsJoin fr op a c n → K.IsJoin fr op b c n
  pub same_right : (fr : Frame) (op : Op) (a b c n : N) → K.Same c b → K.IsJoin fr op a b n → K.IsJoin fr op a c n
  pub same_itself : (a : N) → K.Same a a
  pub knows_join : (fr : Frame) (op : Op) (a b n : N) → K.IsJoin fr op a b n → K.Knows fr op n
  pub knows_stays : (fr : Frame) (lists : List (List Value)) (op : Op) (n : N) → AllBegin fr.lists lists → K.Knows fr op n → K.Knows (record fr { lists = lists }) op n

module _ {N : Type 0} (K : Ghosts N) (laws : Laws K) (fr : Frame) where
  abbrev pub Stands : Tree → KeptTree N → Type 0
  Stands T R = StandsFor (K.IsLeaf fr) (K.IsJoin fr) T R

  abbrev pub given : Tree → List Value
  given T = types_by_rules fr.f (K.query fr.F) (shape T)

  -- a join's types are those of the rules, where its children's are
  pub joined_has : (name : List ℕ) (op : Op) (l r : Tree) (a b : List Value) (ts : List Value) (rows : ℕ) → SameMembers a (given l) → SameMembers b (given r)
      → HasTypes fr.F fr.lists ts rows (all_pairs (join_type fr.f fr.F op) a b) → HasTypes fr.F fr.lists ts rows (given (Join name op l r))
  unfolding shape
  joined_has name op l r a b ts rows g h has =
      let all : SameMembers (all_pairs (join_type fr.f fr.F op) a b) (given (Join name op l r)) =
      subst (λ (G : Formula). SameMembers (all_pairs (join_type fr.f fr.F op) a b) (all_pairs (join_type fr.f G op) (given l) (given r))) (sym (laws.asks fr.F))
      (all_pairs-same (join_type fr.f fr.F op) a (given l) b (given r) g h) in
      record {
        types = same-then ts (all_pairs (join_type fr.f fr.F op) a b) (given (Join name op l r)) has.types all;
        counted = has.counted ∙ as_many (all_pairs (join_type fr.f fr.F op) a b) (given (Join name op l r)) all;
        kept = has.kept;
      }

  -- the types and rows of the root
  pub has : (T : Tree) (R : KeptTree N) → Stands T R → HasTypes fr.F fr.lists (K.types fr (top R)) (K.rows (top R)) (given T)
  has (Elem name vec weight) (One n) s = laws.leaf_has fr (Elem name vec weight) n s
  has (Void name t) (One n) s = laws.leaf_has fr (Void name t) n s
  has (Join name op l r) (Two n a b) s =
      joined_has name op l r (K.types fr (top a)) (K.types fr (top b)) (K.types fr n) (K.rows n) (has l a s.1).types (has r b s.2).types (laws.join_has fr op (top a) (top b) n s.0)
  has (Elem name vec weight) (Two n a b) s = absurd s
  has (Void name t) (Two n a b) s = absurd s
  has (Join name op l r) (One n) s = absurd s

  pub stands-count : (T : Tree) (R : KeptTree N) → Stands T R → count R ≡ nodes T
  unfolding nodes
  stands-count (Elem name vec weight) (One n) s = refl
  stands-count (Void name t) (One n) s = refl
  stands-count (Join name op l r) (Two n a b) s = λ i. stands-count l a s.1 i + stands-count r b s.2 i + 1
  stands-count (Elem name vec weight) (Two n a b) s = absurd s
  stands-count (Void name t) (Two n a b) s = absurd s
  stands-count (Join name op l r) (One n) s = absurd s

  abbrev node_rows : shapes.Tree → ℕ
  node_rows S = length (distinct (types_by_rules fr.f (K.query fr.F) S))

  pub made_rows-join : (name : List ℕ) (op : Op) (l r : Tree) → made_rows fr.f (K.query fr.F) (shape (Join name op l r))
      ≡ length (distinct (given (Join name op l r))) + (made_rows fr.f (K.query fr.F) (shape l) + made_rows fr.f (K.query fr.F) (shape r))
  unfolding shape
  made_rows-join name op l r =
      sum_by-cons node_rows (shape (Join name op l r)) (shapes.subtrees (shape l) ++ shapes.subtrees (shape r))
      ∙ ap (λ k. node_rows (shape (Join name op l r)) + k) (sum_by-append node_rows (shapes.subtrees (shape l)) (shapes.subtrees (shape r)))

  pub made-join : (name : List ℕ) (op : Op) (l r : Tree) → made fr.f (K.query fr.F) (shape (Join name op l r))
      ≡ given (Join name op l r) ++ (made fr.f (K.query fr.F) (shape l) ++ made fr.f (K.query fr.F) (shape r))
  unfolding shape
  made-join name op l r =
      ap (λ vs. given (Join name op l r) ++ vs) (flat_map-append (types_by_rules fr.f (K.query fr.F)) (shapes.subtrees (shape l)) (shapes.subtrees (shape r)))

  -- a leaf's types and rows
  abbrev pub IsAlone : Tree → Type 0
  IsAlone T = (made fr.f (K.query fr.F) (shape T) ≡ given T) × (made_rows fr.f (K.query fr.F) (shape T) ≡ length (distinct (given T)))

  pub elem_alone : (name vec : List ℕ) (weight : _) → IsAlone (Elem name vec weight)
  unfolding shape
  elem_alone name vec weight = (search rules, search rules)

  pub void_alone : (name : List ℕ) (t : ℕ) → IsAlone (Void name t)
  unfolding shape
  void_alone name t = (search rules, search rules)

  pub stands-rows : (T : Tree) (R : KeptTree N) → Stands T R → row_sum K.rows R ≡ made_rows fr.f (K.query fr.F) (shape T)
  stands-rows (Elem name vec weight) (One n) s = (laws.leaf_has fr (Elem name vec weight) n s).counted ∙ sym (elem_alone name vec weight).1
  stands-rows (Void name t) (One n) s = (laws.leaf_has fr (Void name t) n s).counted ∙ sym (void_alone name t).1
  stands-rows (Join name op l r) (Two n a b) s =
      let one = stands-rows l a s.1 in
      let two = stands-rows r b s.2 in
      let own = (has (Join name op l r) (Two n a b) s).counted in
      let all = made_rows-join name op l r in
      omega (arith, one, two, own, all)
  stands-rows (Elem name vec weight) (Two n a b) s = absurd s
  stands-rows (Void name t) (Two n a b) s = absurd s
  stands-rows (Join name op l r) (One n) s = absurd s

  -- all types are kept
  pub stands-within : (T : Tree) (R : KeptTree N) → Stands T R → IsWithin (made fr.f (K.query fr.F) (shape T)) (root fr.F fr.lists)
  stands-within (Elem name vec weight) (One n) s =
      let h = laws.leaf_has fr (Elem name vec weight) n s in
      subst (λ vs. IsWithin vs (root fr.F fr.lists)) (sym (elem_alone name vec weight).0)
      (within-then (given (Elem name vec weight)) (K.types fr n) (root fr.F fr.lists) (same-within (K.types fr n) (given (Elem name vec weight)) h.types) h.kept)
  stands-within (Void name t) (One n) s =
      let h = laws.leaf_has fr (Void name t) n s in
      subst (λ vs. IsWithin vs (root fr.F fr.lists)) (sym (void_alone name t).0)
      (within-then (given (Void name t)) (K.types fr n) (root fr.F fr.lists) (same-within (K.types fr n) (given (Void name t)) h.types) h.kept)
  stands-within (Join name op l r) (Two n a b) s =
      let h = has (Join name op l r) (Two n a b) s in
      let g = given (Join name op l r) in
      subst (λ vs. IsWithin vs (root fr.F fr.lists)) (sym (made-join name op l r))
      (within-append g (made fr.f (K.query fr.F) (shape l) ++ made fr.f (K.query fr.F) (shape r)) (root fr.F fr.lists)
      (within-then g (K.types fr n) (root fr.F fr.lists) (same-within (K.types fr n) g h.types) h.kept)
      (within-append (made fr.f (K.query fr.F) (shape l)) (made fr.f (K.query fr.F) (shape r)) (root fr.F fr.lists) (stands-within l a s.1) (stands-within r b s.2)))
  stands-within (Elem name vec weight) (Two n a b) s = absurd s
  stands-within (Void name t) (Two n a b) s = absurd s
  stands-within (Join name op l r) (One n) s = absurd s

  pub stands-stays : (lists : List (List Value)) (T : Tree) (R : KeptTree N) → AllBegin fr.lists lists → Stands T R
      → StandsFor (K.IsLeaf (record fr { lists = lists })) (K.IsJoin (record fr { lists = lists })) T R
  stands-stays lists (Elem name vec weight) (One n) g s = laws.leaf_stays fr lists (Elem name vec weight) n g s
  stands-stays lists (Void name t) (One n) g s = laws.leaf_stays fr lists (Void name t) n g s
  stands-stays lists (Join name op l r) (Two n a b) g s = (laws.join_stays fr lists op (top a) (top b) n g s.0, stands-stays lists l a g s.1, stands-stays lists r b g s.2)
  stands-stays lists (Elem name vec weight) (Two n a b) g s = absurd s
  stands-stays lists (Void name t) (Two n a b) g s = absurd s
  stands-stays lists (Join name op l r) (One n) g s = absurd s

  pub beside-stays : (lists : List (List Value)) (path : Path) (T : Tree) (R : KeptTree N) → AllBegin fr.lists lists → StandsBeside (K.IsLeaf fr) (K.IsJoin fr) path T R
      → StandsBeside (K.IsLeaf (record fr { lists = lists })) (K.IsJoin (record fr { lists = lists })) path T R
  beside-stays lists [] T R g s = tt
  beside-stays lists (true ∷ path) (Join name op l r) (Two n a b) g s = (laws.join_stays fr lists op (top a) (top b) n g s.0, beside-stays lists path l a g s.1, stands-stays lists r b g s.2)
  beside-stays lists (false ∷ path) (Join name op l r) (Two n a b) g s = (laws.join_stays fr lists op (top a) (top b) n g s.0, stands-stays lists l a g s.1, beside-stays lists path r b g s.2)
  beside-stays lists (true ∷ path) (Elem name vec weight) R g s = absurd s
  beside-stays lists (false ∷ path) (Elem name vec weight) R g s = absurd s
  beside-stays lists (true ∷ path) (Void name t) R g s = absurd s
  beside-stays lists (false ∷ path) (Void name t) R g s = absurd s
  beside-stays lists (true ∷ path) (Join name op l r) (One n) g s = absurd s
  beside-stays lists (false ∷ path) (Join name op l r) (One n) g s = absurd s
