-- What the formula of a part accepts, by what those of the parts after it accept.
use Rattle.std.proofs.Common.{◌≡◌, ◌<◌, ◌+◌, ℕ, suc, zero, not, List, [], ◌∷◌, map, length, drop, get_or, slice_get, Some, add-one, refl, sym, ap, ◌∙◌, subst, arith}
use Rattle.std.specs.List.{list_any, list_all}
use Rattle.std.proofs.lemmas.List.{drop-drop}
use Rattle.mm_logic.specs.Formula.{Formula, Connective, connect}
use Rattle.mm_logic.specs.Formula.Formula.{Not, Bin}
use Rattle.mm_logic.specs.Value.{members, collected}
use Rattle.mm_logic.specs.Acceptance.{accepts}
use Rattle.mm_logic.proofs.ValueLemmas.{list_any-collected}
use Rattle.mm_logic.proofs.SetLemmas.{list_any-map, list_all-any}
use Rattle.mm_formula.specs.Scope.{connective}
use Rattle.mm_ops.specs.OpValue.{OpValue}
use Rattle.mm_machine.specs.declared.part.Part.{Part}
use Rattle.mm_machine.specs.declared.part.Node.{Node}
use Rattle.mm_machine.specs.declared.part.Node.TheVariants as node
use Rattle.mm_machine.specs.declared.part.Quantifier.{Quantifier}
use Rattle.mm_machine.specs.declared.part.Quantifier.TheVariants.{Ex, All}
use Rattle.mm_machine.specs.Parts.{Block, Table, Kind, View, head_formula, type_in, set_value, one_value, view_of, views, IsKindOf, Begins, pairs_in, sets_in, ones_in}
use Rattle.mm_machine.specs.Blocks.{node_block, memory, block_of, blocks_of}
use Rattle.mm_machine.specs.Shapes.{head_shape, over_sets, over_elements, node_shape, shapes, quantified, node_connective, node_quantifier}
use Rattle.mm_machine.proofs.PartLemmas.{views-drop}
use Rattle.mm_machine.proofs.PlaceLemmas.{later}
use Rattle.mm_machine.proofs.DoneLemmas.{not_place}
use Rattle.mm_machine.proofs.BlockLemmas.{block_at, kind_back}
use Rattle.mm_machine.proofs.ValueLemmas.{pair_type, set_type, one_type}
use Rattle.mm_machine.proofs.LookLemmas.{pair_place, set_place, one_place}

-- ---- the formula at a place

pub shape_at : (ps : List Part) (at : ℕ) (d : Part) → at < length ps → d ≡ get_or ps at d → drop at (shapes ps) ≡ node_shape d.node (drop (at + 1) (shapes ps)) ∷ drop (at + 1) (shapes ps)
shape_at ps at d l e = rw add-one (go ps at d l e)
  where
    go : (ps : List Part) (n : ℕ) (d : Part) → n < length ps → d ≡ get_or ps n d → drop n (shapes ps) ≡ node_shape d.node (drop (suc n) (shapes ps)) ∷ drop (suc n) (shapes ps)
    go [] n d l e = absurd (omega arith)
    go (p ∷ ps) zero d l e = ap (λ (q : Part). node_shape q.node (shapes ps) ∷ shapes ps) (sym e)
    go (p ∷ ps) (suc n) d l e = go ps n d (omega arith) e

module _ (ops : List OpValue) (ps : List Part) (at : ℕ) (d : Part) (l : at < length ps) (e : d ≡ get_or ps at d) where
  here : (k : Kind) → Begins (drop at (blocks_of ops ps)) k → IsKindOf (block_of ops d) k
  here k b = subst (λ p. IsKindOf (block_of ops p) k) (sym e) (kind_back ops ps at d k l b)

  rest : List Formula
  rest = drop (at + 1) (shapes ps)

  head_is : head_shape (drop at (shapes ps)) ≡ node_shape d.node (drop (at + 1) (shapes ps))
  head_is = ap head_shape (shape_at ps at d l e)

  pub not_head : Begins (drop at (blocks_of ops ps)) Kind.IsNot → head_shape (drop at (shapes ps)) ≡ Not (head_shape (drop (at + 1) (shapes ps)))
  not_head b = head_is ∙ by d.node (here Kind.IsNot b)
    where
      by : (n : Node) → IsKindOf (node_block n (memory ops d.memo)) Kind.IsNot → node_shape n (drop (at + 1) (shapes ps)) ≡ Not (head_shape (drop (at + 1) (shapes ps)))
      by (node.Atom a) h = absurd h
      by node.Not h = refl
      by (node.Pair o t skip) h = absurd h
      by (node.Set q k t) h = absurd h
      by (node.One q k t) h = absurd h

  pub pair_head : (skip : ℕ) → Begins (drop at (blocks_of ops ps)) (Kind.IsPair skip)
      → head_shape (drop at (shapes ps)) ≡ Bin (connective (node_connective d.node)) (head_shape (drop (at + 1) (shapes ps))) (head_shape (drop (at + 1 + skip) (shapes ps)))
  pair_head skip b = head_is ∙ by d.node (here (Kind.IsPair skip) b)
    where
      by : (n : Node) → IsKindOf (node_block n (memory ops d.memo)) (Kind.IsPair skip)
          → node_shape n (drop (at + 1) (shapes ps)) ≡ Bin (connective (node_connective n)) (head_shape (drop (at + 1) (shapes ps))) (head_shape (drop (at + 1 + skip) (shapes ps)))
      by (node.Atom a) h = absurd h
      by node.Not h = absurd h
      by (node.Pair o t s) h =
          ap (λ k. Bin (connective o) (head_shape (drop (at + 1) (shapes ps))) (head_shape (drop k (drop (at + 1) (shapes ps))))) (sym h)
          ∙ ap (λ z. Bin (connective o) (head_shape (drop (at + 1) (shapes ps))) (head_shape z)) (drop-drop skip (at + 1) (shapes ps))
      by (node.Set q k t) h = absurd h
      by (node.One q k t) h = absurd h

  pub set_head : Begins (drop at (blocks_of ops ps)) Kind.IsSet → (k : ℕ) × (head_shape (drop at (shapes ps)) ≡ over_sets (node_quantifier d.node) k (head_shape (drop (at + 1) (shapes ps))))
  set_head b = let h = by d.node (here Kind.IsSet b) in (h.0, head_is ∙ h.1)
    where
      by : (n : Node) → IsKindOf (node_block n (memory ops d.memo)) Kind.IsSet → (k : ℕ) × (node_shape n (drop (at + 1) (shapes ps)) ≡ over_sets (node_quantifier n) k (head_shape (drop (at + 1) (shapes ps))))
      by (node.Atom a) h = absurd h
      by node.Not h = absurd h
      by (node.Pair o t skip) h = absurd h
      by (node.Set q k t) h = (k.number, refl)
      by (node.One q k t) h = absurd h

  pub one_head : Begins (drop at (blocks_of ops ps)) Kind.IsOne → (k : ℕ) × (head_shape (drop at (shapes ps)) ≡ over_elements (node_quantifier d.node) k (head_shape (drop (at + 1) (shapes ps))))
  one_head b = let h = by d.node (here Kind.IsOne b) in (h.0, head_is ∙ h.1)
    where
      by : (n : Node) → IsKindOf (node_block n (memory ops d.memo)) Kind.IsOne → (k : ℕ) × (node_shape n (drop (at + 1) (shapes ps)) ≡ over_elements (node_quantifier n) k (head_shape (drop (at + 1) (shapes ps))))
      by (node.Atom a) h = absurd h
      by node.Not h = absurd h
      by (node.Pair o t skip) h = absurd h
      by (node.Set q k t) h = absurd h
      by (node.One q k t) h = (k.number, refl)

  pub atom_head : Begins (drop at (blocks_of ops ps)) Kind.IsAtom → head_shape (drop at (shapes ps)) ≡ head_formula (views (drop at (blocks_of ops ps)))
  atom_head b =
      head_is ∙ by d.node (here Kind.IsAtom b) (views (drop (suc at) (blocks_of ops ps)))
      ∙ sym (ap (λ z. head_formula (views z)) (block_at ops ps at d l ∙ ap (λ p. block_of ops p ∷ drop (suc at) (blocks_of ops ps)) (sym e)))
    where
      by : (n : Node) → IsKindOf (node_block n (memory ops d.memo)) Kind.IsAtom → (vs : List View) → node_shape n (drop (at + 1) (shapes ps)) ≡ (view_of (node_block n (memory ops d.memo)) vs).formula
      by (node.Atom a) h vs = refl
      by node.Not h vs = absurd h
      by (node.Pair o t skip) h vs = absurd h
      by (node.Set q k t) h vs = absurd h
      by (node.One q k t) h vs = absurd h

some_part : (ps : List Part) (at : ℕ) → at < length ps → (d : Part) × (d ≡ get_or ps at d)
some_part [] at l = absurd (omega arith)
some_part (p ∷ ps) zero l = (p, refl)
some_part (p ∷ ps) (suc at) l = some_part ps at (omega arith)

pub not_head_at : (ops : List OpValue) (ps : List Part) (at : ℕ) → at < length ps → Begins (drop at (blocks_of ops ps)) Kind.IsNot → head_shape (drop at (shapes ps)) ≡ Not (head_shape (drop (at + 1) (shapes ps)))
not_head_at ops ps at l b = let d = some_part ps at l in not_head ops ps at d.0 l d.1 b

pub atom_head_at : (ops : List OpValue) (ps : List Part) (at : ℕ) → at < length ps → Begins (drop at (blocks_of ops ps)) Kind.IsAtom → head_shape (drop at (shapes ps)) ≡ head_formula (views (drop at (blocks_of ops ps)))
atom_head_at ops ps at l b = let d = some_part ps at l in atom_head ops ps at d.0 l d.1 b

-- ---- acceptance

pub not_accepts_by : (ps : List Block) (at id : ℕ) (G F : Formula) → Begins (drop at ps) Kind.IsNot → G ≡ Not F
    → not (accepts F (type_in (views (drop (at + 1) ps)) id)) ≡ accepts G (type_in (views (drop at ps)) id)
not_accepts_by ps at id G F b g = sym (λ i. accepts (g i) (type_in (views (not_place ps at b i)) id))

pub pair_accepts_by : (ps : List Block) (at skip id : ℕ) (p : ℕ × ℕ) (o : Connective) (G E F : Formula) → Begins (drop at ps) (Kind.IsPair skip) → slice_get (pairs_in (drop at ps)) id ≡ Some p → G ≡ Bin o E F
    → connect o (accepts E (type_in (views (drop (at + 1) ps)) p.0)) (accepts F (type_in (views (drop (at + 1 + skip) ps)) p.1)) ≡ accepts G (type_in (views (drop at ps)) id)
pair_accepts_by ps at skip id p o G E F b x g =
    let q = pair_place ps at skip b in
    let Q : List Block = drop (at + 1) ps in
    let t = pair_type q.0 skip Q id p (subst (λ z. slice_get (pairs_in z) id ≡ Some p) q.1 x) in
    ap (λ z. connect o (accepts E (type_in (views Q) p.0)) (accepts F (type_in z p.1))) (ap views (later (at + 1) skip ps) ∙ views-drop skip Q)
    ∙ sym (ap (accepts (Bin o E F)) t)
    ∙ sym (λ i. accepts (g i) (type_in (views (q.1 i)) id))

some_of : (F : Formula) (vs : List View) (ids : List ℕ) → list_any (λ id. accepts F (type_in vs id)) ids ≡ list_any (accepts F) (members (collected (map (type_in vs) ids)))
some_of F vs ids = sym (list_any-collected (accepts F) (map (type_in vs) ids) ∙ list_any-map (accepts F) (type_in vs) ids)

each_of : (F : Formula) (vs : List View) (ids : List ℕ) → list_all (λ id. accepts F (type_in vs id)) ids ≡ list_all (accepts F) (members (collected (map (type_in vs) ids)))
each_of F vs ids =
    list_all-any (λ id. accepts F (type_in vs id)) ids
    ∙ ap not (sym (list_any-collected (λ v. not (accepts F v)) (map (type_in vs) ids) ∙ list_any-map (λ v. not (accepts F v)) (type_in vs) ids))
    ∙ sym (list_all-any (accepts F) (members (collected (map (type_in vs) ids))))

pub set_accepts_by : (ps : List Block) (at id : ℕ) (ids : List ℕ) (q : Quantifier) (k : ℕ) (G F : Formula) → Begins (drop at ps) Kind.IsSet → slice_get (sets_in (drop at ps)) id ≡ Some ids → G ≡ over_sets q k F
    → quantified q (λ id. accepts F (type_in (views (drop (at + 1) ps)) id)) ids ≡ accepts G (type_in (views (drop at ps)) id)
set_accepts_by ps at id ids q k G F b x g = by q g
  where
    w : (k : ℕ) × (t : Table (List ℕ)) × (drop at ps ≡ Block.Set k t ∷ drop (at + 1) ps)
    w = set_place ps at b

    t : type_in (views (drop at ps)) id ≡ set_value (views (drop (at + 1) ps)) ids
    t = ap (λ z. type_in (views z) id) w.2 ∙ set_type w.0 w.1 (drop (at + 1) ps) id ids (subst (λ z. slice_get (sets_in z) id ≡ Some ids) w.2 x)

    by : (q : Quantifier) → G ≡ over_sets q k F → quantified q (λ id. accepts F (type_in (views (drop (at + 1) ps)) id)) ids ≡ accepts G (type_in (views (drop at ps)) id)
    by Ex g = some_of F (views (drop (at + 1) ps)) ids ∙ sym (λ i. accepts (g i) (t i))
    by All g = each_of F (views (drop (at + 1) ps)) ids ∙ sym (λ i. accepts (g i) (t i))

pub one_accepts_by : (ps : List Block) (at id : ℕ) (p : ℕ × List ℕ) (q : Quantifier) (k : ℕ) (G F : Formula) → Begins (drop at ps) Kind.IsOne → slice_get (ones_in (drop at ps)) id ≡ Some p → G ≡ over_elements q k F
    → quantified q (λ id. accepts F (type_in (views (drop (at + 1) ps)) id)) p.1 ≡ accepts G (type_in (views (drop at ps)) id)
one_accepts_by ps at id p q k G F b x g = by q g
  where
    w : (k : ℕ) × (t : Table (ℕ × List ℕ)) × (drop at ps ≡ Block.One k t ∷ drop (at + 1) ps)
    w = one_place ps at b

    t : type_in (views (drop at ps)) id ≡ one_value (views (drop (at + 1) ps)) p
    t = ap (λ z. type_in (views z) id) w.2 ∙ one_type w.0 w.1 (drop (at + 1) ps) id p (subst (λ z. slice_get (ones_in z) id ≡ Some p) w.2 x)

    by : (q : Quantifier) → G ≡ over_elements q k F → quantified q (λ id. accepts F (type_in (views (drop (at + 1) ps)) id)) p.1 ≡ accepts G (type_in (views (drop at ps)) id)
    by Ex g = some_of F (views (drop (at + 1) ps)) p.1 ∙ sym (λ i. accepts (g i) (t i))
    by All g = each_of F (views (drop (at + 1) ps)) p.1 ∙ sym (λ i. accepts (g i) (t i))
