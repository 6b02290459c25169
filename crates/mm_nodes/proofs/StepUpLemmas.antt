-- Steps upwards as the walk meets them: a node, what is kept there, and the number of the place.
use Rattle.std.proofs.Common.{◌≡◌, ◌<◌, ◌≤◌, ◌+◌, ◌-◌, ℕ, Bool, true, false, List, [], ◌∷◌, length, Result, Ok, Err, Option, Some, None, nat_lt, if◌then◌else◌, refl, sym, ap, ◌∙◌, subst, arith}
use Rattle.mm_field.specs.declared.Field.{Field}
use Rattle.mm_logic.specs.Formula.{Formula}
use Rattle.mm_logic.specs.Value.{Value}
use Rattle.mm_logic.specs.Occurrence.{distinct, occurring}
use Rattle.mm_logic.proofs.GrowthLemmas.{AllBegin-grown}
use Rattle.mm_ops.specs.OpValue.{OpValue}
use Rattle.mm_tree.specs.NamedTree.{Tree, shape, nodes}
use Rattle.mm_tree.specs.NamedTree.Tree.{Elem, Void, Join}
use Rattle.mm_tree.specs.Nodes.{named, named_leaf, field_of}
use Rattle.mm_tree.specs.Paths.{Path}
use Rattle.mm_tree.specs.declared.node.Item.{Item}
use Rattle.mm_tree.specs.declared.node.Leaf.{Leaf}
use Rattle.mm_tree.specs.declared.node.Node.{Node}
use Rattle.mm_tree.proofs.TreeLemmas.{over_field, valid_left, valid_right}
use Rattle.mm_nodes.specs.KeptTrees.{KeptTree, top, count, path_in, StandsBeside}
use Rattle.mm_nodes.specs.KeptTrees.KeptTree.{One, Two}
use Rattle.mm_nodes.specs.Demands.{Frame, IsExact, made}
use Rattle.mm_nodes.specs.Calls.{Exceeds}
use Rattle.mm_nodes.specs.Walks.{pair_types, path_rows, highest, CanRemake, RemakesPath, Remakes, StepsUp}
use Rattle.mm_nodes.specs.declared.keeps.Keeps.{Ghosts}
use Rattle.mm_nodes.specs.declared.keeps.KeepFault.{KeepFault}
use Rattle.mm_nodes.specs.declared.keeps.KeepFault.TheVariants.{Full}
use Rattle.mm_nodes.proofs.RoomLemmas.{exact-then}
use Rattle.mm_nodes.proofs.StandsLemmas.{Laws}
use Rattle.mm_nodes.proofs.WalkLemmas.{Meets, MeetsLeaf, left_boundary, right_boundary}
use Rattle.mm_nodes.proofs.RemakeLemmas.{path_turns, path_to_left, path_to_right, left_can, right_can, left_full_below, right_full_below, left_full_above, right_full_above, left_added, right_added, left_stays, right_stays, left_fits, right_fits, left_sibling_fits, right_sibling_fits}

pub move : {N : Type 0} (P : Field → Tree → KeptTree N → Path → Type 0) (f g : Field) (T U : Tree) (R S : KeptTree N) (p q : Path) → f ≡ g → T ≡ U → R ≡ S → p ≡ q → P f T R p → P g U S q
move P f g T U R S p q a b c d x = subst (λ (o : Path). P g U S o) d (subst (λ (o : KeptTree _). P g U o p) c (subst (λ (o : Tree). P g o R p) b (subst (λ (o : Field). P o T R p) a x)))

pub step_refused : {N : Type 0} (K : Ghosts N) (F : Formula) (olds nows : List (List Value)) (op : OpValue) (a b old : N) (items later : List N) (limit before after : ℕ) (changed : Bool) (e : KeepFault) → changed ≡ true
    → (e ≡ Full → Exceeds F olds (pair_types K F olds op a b) (before + length (distinct (pair_types K F olds op a b))) limit) → StepsUp K F olds nows op a b old items later limit before after changed (Err e)
step_refused K F olds nows op a b old items later limit before after true e c h = h
step_refused K F olds nows op a b old items later limit before after false e c h = cc

-- ---- from the left

module _ {N : Type 0} (K : Ghosts N) (laws : Laws K) (F : Formula) (op : OpValue) (name : List ℕ) (l r : Tree) (n : N) (a b new : KeptTree N) (path : Path) (olds mids : List (List Value)) (limit before middle : ℕ) (items : List N)
    (can : CanRemake K F olds op.f (Join name op.op l r) (Two n a b) new (true ∷ path)) where
  pub left_steps : (nows : List (List Value)) (later : List N) (after : ℕ) (changed : Bool) (result : Result Bool KeepFault)
      → RemakesPath K F olds mids op.f l a new path items limit before middle changed
      → StepsUp K F mids nows op (highest items (top new)) (top b) n items later limit middle after changed result
      → Remakes K F olds nows op.f (Join name op.op l r) (Two n a b) new (true ∷ path) later limit before after result
  left_steps nows later after true (Ok now) k s = left_added K laws F op name l r n a b new path olds limit before can mids items middle true k nows later after now refl s
  left_steps nows later after false (Ok now) k s = left_stays K laws F op name l r n a b new path olds limit before can mids items middle false k nows later after now refl s
  left_steps nows later after true (Err e) k s = λ full. left_full_above K laws F op name l r n a b new path olds limit before can mids items middle true k refl (s full)
  left_steps nows later after false (Err e) k s = absurd s

module _ {N : Type 0} (K : Ghosts N) (laws : Laws K) (F : Formula) (node : Node) (n : List ℕ) (op : OpValue) (l r : Node) (m : Meets node n op l r)
    (R new : KeptTree N) (e : N) (a b : KeptTree N) (kept : R ≡ Two e a b) (at : ℕ) (z : at ≡ 0 → ⊥) (turn : at - 1 < count a) (down : ℕ) (lower : down ≡ at - 1)
    (olds : List (List Value)) (can : CanRemake K F olds (field_of node) (named node) R new (path_in at R)) where
  abbrev lthere : ℕ
  lthere = down

  abbrev lpath : Path
  lpath = path_in lthere a

  lway : path_in at R ≡ true ∷ lpath
  lway = ap (path_in at) kept ∙ path_to_left at e a b z turn ∙ ap (λ k. true ∷ path_in k a) (sym lower)

  pub left_way : path_in at R ≡ true ∷ path_in down a
  left_way = lway

  pub left_whole : CanRemake K F olds op.f (Join n op.op (named l) (named r)) (Two e a b) new (true ∷ lpath)
  left_whole =
      move (λ f T S p. CanRemake K F olds f T S new p) (field_of node) op.f (named node) (Join n op.op (named l) (named r)) R (Two e a b) (path_in at R) (true ∷ lpath) m.field m.tree kept lway can

  pub left_below : (d : Node) (x : KeptTree N) → d ≡ l → x ≡ a → CanRemake K F olds (field_of d) (named d) x new (path_in down x)
  left_below d x i j =
      move (λ f T S p. CanRemake K F olds f T S new p) op.f (field_of d) (named l) (named d) a x lpath (path_in lthere x)
      (sym (ap field_of i ∙ over_field op.f l m.left)) (ap named (sym i)) (sym j) (ap (path_in lthere) (sym j))
      (left_can K laws F op n (named l) (named r) e a b new lpath olds 0 0 left_whole)

  module _ (mids : List (List Value)) (limit before middle : ℕ) (items : List N) (d : Node) (x : KeptTree N) (i : d ≡ l) (j : x ≡ a) where
    pub left_child : (changed : Bool) → RemakesPath K F olds mids (field_of d) (named d) x new (path_in down x) items limit before middle changed
        → RemakesPath K F olds mids op.f (named l) a new lpath items limit before middle changed
    left_child changed k =
        move (λ f T S p. RemakesPath K F olds mids f T S new p items limit before middle changed) (field_of d) op.f (named d) (named l) x a (path_in lthere x) lpath
        (ap field_of i ∙ over_field op.f l m.left) (ap named i) j (ap (path_in lthere) j) k

    pub left_exact : (F1 : Formula) (changed : Bool) → F1 ≡ F → IsExact F olds → RemakesPath K F olds mids (field_of d) (named d) x new (path_in down x) items limit before middle changed → IsExact F1 mids
    left_exact F1 changed s exact k = subst (λ (G : Formula). IsExact G mids) (sym s) (exact-then F olds mids k.grown.0 exact k.grown.1)

    pub left_made_fits : (F1 : Formula) (changed : Bool) → F1 ≡ F → RemakesPath K F olds mids (field_of d) (named d) x new (path_in down x) items limit before middle changed → changed ≡ true
        → K.Fits (record { f = op.f; F = F1; lists = mids }) op.op.t1 (highest items (top new))
    left_made_fits F1 changed s k c =
        subst (λ (G : Formula). K.Fits (record { f = op.f; F = G; lists = mids }) op.op.t1 (highest items (top new))) (sym s)
        (subst (λ (t : ℕ). K.Fits (record { f = op.f; F = F; lists = mids }) t (highest items (top new))) (left_boundary node n op l r m)
        (left_fits K laws F op n (named l) (named r) e a b new lpath olds limit before left_whole mids items middle changed (left_child changed k)
        (valid_left op.f n op.op (named l) (named r) m.valid) c))

    pub left_other_fits : (F1 : Formula) (changed : Bool) (sibling : N) → F1 ≡ F → sibling ≡ top b
        → RemakesPath K F olds mids (field_of d) (named d) x new (path_in down x) items limit before middle changed → K.Fits (record { f = op.f; F = F1; lists = mids }) op.op.t2 sibling
    left_other_fits F1 changed sibling s q k =
        subst (λ (G : Formula). K.Fits (record { f = op.f; F = G; lists = mids }) op.op.t2 sibling) (sym s)
        (subst (λ (o : N). K.Fits (record { f = op.f; F = F; lists = mids }) op.op.t2 o) (sym q)
        (subst (λ (t : ℕ). K.Fits (record { f = op.f; F = F; lists = mids }) t (top b)) (right_boundary node n op l r m)
        (left_sibling_fits K laws F op n (named l) (named r) e a b new lpath olds limit before left_whole mids items middle changed (left_child changed k)
        (valid_right op.f n op.op (named l) (named r) m.valid))))

    pub left_known : (F1 : Formula) (changed : Bool) (old : N) → F1 ≡ F → old ≡ e
        → RemakesPath K F olds mids (field_of d) (named d) x new (path_in down x) items limit before middle changed → K.Knows (record { f = op.f; F = F1; lists = mids }) op.op old
    left_known F1 changed old s o k =
        subst (λ (G : Formula). K.Knows (record { f = op.f; F = G; lists = mids }) op.op old) (sym s)
        (subst (λ (w : N). K.Knows (record { f = op.f; F = F; lists = mids }) op.op w) (sym o)
        (laws.knows_stays (record { f = op.f; F = F; lists = olds }) mids op.op e (AllBegin-grown olds mids (occurring F k.grown.0) k.grown.1)
        (laws.knows_join (record { f = op.f; F = F; lists = olds }) op.op (top a) (top b) e left_whole.beside.0)))

    pub left_remakes : (F1 : Formula) (nows : List (List Value)) (later : List N) (after : ℕ) (sibling old : N) (changed : Bool) (result : Result Bool KeepFault) → F1 ≡ F → sibling ≡ top b → old ≡ e
        → RemakesPath K F olds mids (field_of d) (named d) x new (path_in down x) items limit before middle changed
        → StepsUp K F1 mids nows op (highest items (top new)) sibling old items later limit middle after changed result
        → Remakes K F olds nows (field_of node) (named node) R new (path_in at R) later limit before after result
    left_remakes F1 nows later after sibling old changed result s q o k u =
        move (λ f T S p. Remakes K F olds nows f T S new p later limit before after result) op.f (field_of node) (Join n op.op (named l) (named r)) (named node) (Two e a b) R (true ∷ lpath) (path_in at R)
        (sym m.field) (sym m.tree) (sym kept) (sym lway)
        (left_steps K laws F op n (named l) (named r) e a b new lpath olds mids limit before middle items left_whole nows later after changed result (left_child changed k)
        (subst (λ (w : N). StepsUp K F mids nows op (highest items (top new)) w e items later limit middle after changed result) q
        (subst (λ (w : N). StepsUp K F mids nows op (highest items (top new)) sibling w items later limit middle after changed result) o
        (subst (λ (G : Formula). StepsUp K G mids nows op (highest items (top new)) sibling old items later limit middle after changed result) s u))))

    pub left_below_full : Exceeds F olds (made (field_of d) (K.query F) (shape (named d))) (before + path_rows (field_of d) (K.query F) (path_in down x) (named d)) limit
        → Exceeds F olds (made (field_of node) (K.query F) (shape (named node))) (before + path_rows (field_of node) (K.query F) (path_in at R) (named node)) limit
    left_below_full u =
        move (λ f T S p. Exceeds F olds (made f (K.query F) (shape T)) (before + path_rows f (K.query F) p T) limit) op.f (field_of node) (Join n op.op (named l) (named r)) (named node) (Two e a b) R (true ∷ lpath) (path_in at R)
        (sym m.field) (sym m.tree) (sym kept) (sym lway)
        (left_full_below K laws F op n (named l) (named r) e a b new lpath olds limit before left_whole
        (move (λ f T S p. Exceeds F olds (made f (K.query F) (shape T)) (before + path_rows f (K.query F) p T) limit) (field_of d) op.f (named d) (named l) x a (path_in lthere x) lpath
        (ap field_of i ∙ over_field op.f l m.left) (ap named i) j (ap (path_in lthere) j) u))

-- ---- from the right

module _ {N : Type 0} (K : Ghosts N) (laws : Laws K) (F : Formula) (op : OpValue) (name : List ℕ) (l r : Tree) (n : N) (a b new : KeptTree N) (path : Path) (olds mids : List (List Value)) (limit before middle : ℕ) (items : List N)
    (can : CanRemake K F olds op.f (Join name op.op l r) (Two n a b) new (false ∷ path)) where
  pub right_steps : (nows : List (List Value)) (later : List N) (after : ℕ) (changed : Bool) (result : Result Bool KeepFault)
      → RemakesPath K F olds mids op.f r b new path items limit before middle changed
      → StepsUp K F mids nows op (top a) (highest items (top new)) n items later limit middle after changed result
      → Remakes K F olds nows op.f (Join name op.op l r) (Two n a b) new (false ∷ path) later limit before after result
  right_steps nows later after true (Ok now) k s = right_added K laws F op name l r n a b new path olds limit before can mids items middle true k nows later after now refl s
  right_steps nows later after false (Ok now) k s = right_stays K laws F op name l r n a b new path olds limit before can mids items middle false k nows later after now refl s
  right_steps nows later after true (Err e) k s = λ full. right_full_above K laws F op name l r n a b new path olds limit before can mids items middle true k refl (s full)
  right_steps nows later after false (Err e) k s = absurd s

module _ {N : Type 0} (K : Ghosts N) (laws : Laws K) (F : Formula) (node : Node) (n : List ℕ) (op : OpValue) (l r : Node) (m : Meets node n op l r)
    (R new : KeptTree N) (e : N) (a b : KeptTree N) (kept : R ≡ Two e a b) (at : ℕ) (z : at ≡ 0 → ⊥) (turn : count a ≤ at - 1) (down : ℕ) (lower : down ≡ at - 1 - count a)
    (olds : List (List Value)) (can : CanRemake K F olds (field_of node) (named node) R new (path_in at R)) where
  abbrev rthere : ℕ
  rthere = down

  abbrev rpath : Path
  rpath = path_in rthere b

  rway : path_in at R ≡ false ∷ rpath
  rway = ap (path_in at) kept ∙ path_to_right at e a b z turn ∙ ap (λ k. false ∷ path_in k b) (sym lower)

  pub right_way : path_in at R ≡ false ∷ path_in down b
  right_way = rway

  pub right_whole : CanRemake K F olds op.f (Join n op.op (named l) (named r)) (Two e a b) new (false ∷ rpath)
  right_whole =
      move (λ f T S p. CanRemake K F olds f T S new p) (field_of node) op.f (named node) (Join n op.op (named l) (named r)) R (Two e a b) (path_in at R) (false ∷ rpath) m.field m.tree kept rway can

  pub right_below : (d : Node) (x : KeptTree N) → d ≡ r → x ≡ b → CanRemake K F olds (field_of d) (named d) x new (path_in down x)
  right_below d x i j =
      move (λ f T S p. CanRemake K F olds f T S new p) op.f (field_of d) (named r) (named d) b x rpath (path_in rthere x)
      (sym (ap field_of i ∙ over_field op.f r m.right)) (ap named (sym i)) (sym j) (ap (path_in rthere) (sym j))
      (right_can K laws F op n (named l) (named r) e a b new rpath olds 0 0 right_whole)

  module _ (mids : List (List Value)) (limit before middle : ℕ) (items : List N) (d : Node) (x : KeptTree N) (i : d ≡ r) (j : x ≡ b) where
    pub right_child : (changed : Bool) → RemakesPath K F olds mids (field_of d) (named d) x new (path_in down x) items limit before middle changed
        → RemakesPath K F olds mids op.f (named r) b new rpath items limit before middle changed
    right_child changed k =
        move (λ f T S p. RemakesPath K F olds mids f T S new p items limit before middle changed) (field_of d) op.f (named d) (named r) x b (path_in rthere x) rpath
        (ap field_of i ∙ over_field op.f r m.right) (ap named i) j (ap (path_in rthere) j) k

    pub right_exact : (F1 : Formula) (changed : Bool) → F1 ≡ F → IsExact F olds → RemakesPath K F olds mids (field_of d) (named d) x new (path_in down x) items limit before middle changed → IsExact F1 mids
    right_exact F1 changed s exact k = subst (λ (G : Formula). IsExact G mids) (sym s) (exact-then F olds mids k.grown.0 exact k.grown.1)

    pub right_made_fits : (F1 : Formula) (changed : Bool) → F1 ≡ F → RemakesPath K F olds mids (field_of d) (named d) x new (path_in down x) items limit before middle changed → changed ≡ true
        → K.Fits (record { f = op.f; F = F1; lists = mids }) op.op.t2 (highest items (top new))
    right_made_fits F1 changed s k c =
        subst (λ (G : Formula). K.Fits (record { f = op.f; F = G; lists = mids }) op.op.t2 (highest items (top new))) (sym s)
        (subst (λ (t : ℕ). K.Fits (record { f = op.f; F = F; lists = mids }) t (highest items (top new))) (right_boundary node n op l r m)
        (right_fits K laws F op n (named l) (named r) e a b new rpath olds limit before right_whole mids items middle changed (right_child changed k)
        (valid_right op.f n op.op (named l) (named r) m.valid) c))

    pub right_other_fits : (F1 : Formula) (changed : Bool) (sibling : N) → F1 ≡ F → sibling ≡ top a
        → RemakesPath K F olds mids (field_of d) (named d) x new (path_in down x) items limit before middle changed → K.Fits (record { f = op.f; F = F1; lists = mids }) op.op.t1 sibling
    right_other_fits F1 changed sibling s q k =
        subst (λ (G : Formula). K.Fits (record { f = op.f; F = G; lists = mids }) op.op.t1 sibling) (sym s)
        (subst (λ (o : N). K.Fits (record { f = op.f; F = F; lists = mids }) op.op.t1 o) (sym q)
        (subst (λ (t : ℕ). K.Fits (record { f = op.f; F = F; lists = mids }) t (top a)) (left_boundary node n op l r m)
        (right_sibling_fits K laws F op n (named l) (named r) e a b new rpath olds limit before right_whole mids items middle changed (right_child changed k)
        (valid_left op.f n op.op (named l) (named r) m.valid))))

    pub right_known : (F1 : Formula) (changed : Bool) (old : N) → F1 ≡ F → old ≡ e
        → RemakesPath K F olds mids (field_of d) (named d) x new (path_in down x) items limit before middle changed → K.Knows (record { f = op.f; F = F1; lists = mids }) op.op old
    right_known F1 changed old s o k =
        subst (λ (G : Formula). K.Knows (record { f = op.f; F = G; lists = mids }) op.op old) (sym s)
        (subst (λ (w : N). K.Knows (record { f = op.f; F = F; lists = mids }) op.op w) (sym o)
        (laws.knows_stays (record { f = op.f; F = F; lists = olds }) mids op.op e (AllBegin-grown olds mids (occurring F k.grown.0) k.grown.1)
        (laws.knows_join (record { f = op.f; F = F; lists = olds }) op.op (top a) (top b) e right_whole.beside.0)))

    pub right_remakes : (F1 : Formula) (nows : List (List Value)) (later : List N) (after : ℕ) (sibling old : N) (changed : Bool) (result : Result Bool KeepFault) → F1 ≡ F → sibling ≡ top a → old ≡ e
        → RemakesPath K F olds mids (field_of d) (named d) x new (path_in down x) items limit before middle changed
        → StepsUp K F1 mids nows op sibling (highest items (top new)) old items later limit middle after changed result
        → Remakes K F olds nows (field_of node) (named node) R new (path_in at R) later limit before after result
    right_remakes F1 nows later after sibling old changed result s q o k u =
        move (λ f T S p. Remakes K F olds nows f T S new p later limit before after result) op.f (field_of node) (Join n op.op (named l) (named r)) (named node) (Two e a b) R (false ∷ rpath) (path_in at R)
        (sym m.field) (sym m.tree) (sym kept) (sym rway)
        (right_steps K laws F op n (named l) (named r) e a b new rpath olds mids limit before middle items right_whole nows later after changed result (right_child changed k)
        (subst (λ (w : N). StepsUp K F mids nows op w (highest items (top new)) e items later limit middle after changed result) q
        (subst (λ (w : N). StepsUp K F mids nows op sibling (highest items (top new)) w items later limit middle after changed result) o
        (subst (λ (G : Formula). StepsUp K G mids nows op sibling (highest items (top new)) old items later limit middle after changed result) s u))))

    pub right_below_full : Exceeds F olds (made (field_of d) (K.query F) (shape (named d))) (before + path_rows (field_of d) (K.query F) (path_in down x) (named d)) limit
        → Exceeds F olds (made (field_of node) (K.query F) (shape (named node))) (before + path_rows (field_of node) (K.query F) (path_in at R) (named node)) limit
    right_below_full u =
        move (λ f T S p. Exceeds F olds (made f (K.query F) (shape T)) (before + path_rows f (K.query F) p T) limit) op.f (field_of node) (Join n op.op (named l) (named r)) (named node) (Two e a b) R (false ∷ rpath) (path_in at R)
        (sym m.field) (sym m.tree) (sym kept) (sym rway)
        (right_full_below K laws F op n (named l) (named r) e a b new rpath olds limit before right_whole
        (move (λ f T S p. Exceeds F olds (made f (K.query F) (shape T)) (before + path_rows f (K.query F) p T) limit) (field_of d) op.f (named d) (named r) x b (path_in rthere x) rpath
        (ap field_of i ∙ over_field op.f r m.right) (ap named i) j (ap (path_in rthere) j) u))

-- ---- a way that is too short, or too long

pub path_short : {N : Type 0} (K : Ghosts N) (fr : Frame) (path : Path) (T : Tree) (R : KeptTree N) → StandsBeside (K.IsLeaf fr) (K.IsJoin fr) path T R → length path < nodes T
unfolding nodes
path_short K fr [] (Elem name vec weight) R s = omega arith
path_short K fr [] (Void name t) R s = omega arith
path_short K fr [] (Join name op l r) R s = omega arith
path_short K fr (true ∷ path) (Join name op l r) (Two n a b) s = let h = path_short K fr path l a s.1 in omega (arith, h)
path_short K fr (false ∷ path) (Join name op l r) (Two n a b) s = let h = path_short K fr path r b s.2 in omega (arith, h)
path_short K fr (true ∷ path) (Elem name vec weight) R s = absurd s
path_short K fr (false ∷ path) (Elem name vec weight) R s = absurd s
path_short K fr (true ∷ path) (Void name t) R s = absurd s
path_short K fr (false ∷ path) (Void name t) R s = absurd s
path_short K fr (true ∷ path) (Join name op l r) (One n) s = absurd s
path_short K fr (false ∷ path) (Join name op l r) (One n) s = absurd s

-- a step of a way leads to no leaf
pub no_leaf_above : {N : Type 0} (K : Ghosts N) (fr : Frame) (leaf : Leaf) (step : Bool) (path : Path) (R : KeptTree N) → StandsBeside (K.IsLeaf fr) (K.IsJoin fr) (step ∷ path) (named_leaf leaf) R → ⊥
no_leaf_above K fr leaf step path R = by_item leaf.item step
  where
    by_item : (item : Option Item) (step : Bool) → StandsBeside (K.IsLeaf fr) (K.IsJoin fr) (step ∷ path) (named_leaf (record leaf { item = item })) R → ⊥
    by_item None true s = s
    by_item None false s = s
    by_item (Some i) true s = s
    by_item (Some i) false s = s

pub no_leaf : {N : Type 0} (K : Ghosts N) (F : Formula) (lists : List (List Value)) (node : Node) (leaf : Leaf) (R new : KeptTree N) (e : N) (a b : KeptTree N) (at : ℕ) → MeetsLeaf node leaf → R ≡ Two e a b → (at ≡ 0 → ⊥)
    → CanRemake K F lists (field_of node) (named node) R new (path_in at R) → ⊥
no_leaf K F lists node leaf R new e a b at m kept z can = by_turn (nat_lt (at - 1) (count a)) (ap (path_in at) kept ∙ path_turns at e a b z)
  where
    there : (step : Bool) (path : Path) → path_in at R ≡ step ∷ path → ⊥
    there step path p =
        no_leaf_above K (record { f = leaf.field; F = F; lists = lists }) leaf step path R
        (move (λ f T S o. CanRemake K F lists f T S new o) (field_of node) leaf.field (named node) (named_leaf leaf) R R (path_in at R) (step ∷ path) m.field m.tree refl p can).beside

    by_turn : (left : Bool) → path_in at R ≡ (if left then true ∷ path_in (at - 1) a else false ∷ path_in (at - 1 - count a) b) → ⊥
    by_turn true p = there true (path_in (at - 1) a) p
    by_turn false p = there false (path_in (at - 1 - count a) b) p
