-- What the value of a number is, over the numbers of the parts that the first part stands on.
use Rattle.std.proofs.Common.{◌≡◌, ◌<◌, ◌+◌, ℕ, suc, zero, List, [], ◌∷◌, map, length, drop, slice_get, Some, Bor, refl, sym, ap, ◌∙◌, subst, arith}
use Rattle.std.proofs.lemmas.List.{drop-map, length-map, length-drop}
use Rattle.mm_field.specs.declared.Field.{Field}
use Rattle.mm_logic.specs.Formula.{Formula, Connective}
use Rattle.mm_logic.specs.Value.{Value, Value as value, collected}
use Rattle.mm_logic.specs.Occurrence.{nodes}
use Rattle.mm_logic.specs.Growth.{root, type_at}
use Rattle.mm_formula.specs.Scope.{connective}
use Rattle.mm_ops.specs.OpValue.{OpValue}
use Rattle.mm_states.specs.Lists.{AllFit}
use Rattle.mm_states.proofs.FitLemmas.{AllFit-more, AllFit-at}
use Rattle.mm_base_auto.specs.Atoms.{shown_space}
use Rattle.mm_base_auto.specs.OneAtom.{atom_shape, atom_values}
use Rattle.mm_base_auto.specs.declared.atom.Atom.TheVariants as atom
use Rattle.mm_base_auto.specs.declared.value.AtomValue.{AtomValue}
use Rattle.mm_machine.specs.declared.content.Content.{Content}
use Rattle.mm_machine.specs.declared.content.Content.TheVariants as content
use Rattle.mm_machine.specs.declared.part.Part.{Part}
use Rattle.mm_machine.specs.declared.part.Node.{Node}
use Rattle.mm_machine.specs.declared.part.Node.TheVariants as node
use Rattle.mm_machine.specs.declared.part.Quantifier.TheVariants.{Ex, All}
use Rattle.mm_machine.specs.Parts.{Block, Memory, Table, Kind, View, lists, type_in, views, view_of, IsNumber, Begins, IsSound, IsSoundPart, FitsPair, FitsSet, FitsOne, pairs_in, sets_in, ones_in}
use Rattle.mm_machine.specs.Blocks.{node_block, memory, block_of, blocks_of, blocks}
use Rattle.mm_machine.specs.Shapes.{head_shape, shapes, node_shape}
use Rattle.mm_machine.specs.Machines.{IsPartOf, IsMachine, shape_in, shape_at, lists_in}
use Rattle.mm_machine.specs.Looks.{CanLook}
use Rattle.mm_machine.specs.declared.part.Parts.{Parts}
use Rattle.mm_machine.specs.Shown.{shown_in}
use Rattle.mm_machine.specs.Contents.{IsContent, IsNumberOf, IsPairOf, IsSetOf, IsOneOf}
use Rattle.mm_machine.proofs.PartLemmas.{views-drop, lists-drop, sound-drop}
use Rattle.mm_machine.proofs.PlainLemmas.{plain_root, plain_type}
use Rattle.mm_machine.proofs.PlaceLemmas.{later}
use Rattle.mm_machine.proofs.ValueLemmas.{pair_type, set_type, one_type}
use Rattle.mm_machine.proofs.MachineLemmas.{plain_list, sound_of}
use Rattle.mm_machine.proofs.BuildLemmas.{plain_count}

-- ---- the first part by its formula

pub shapes-drop : (k : ℕ) (ps : List Part) → drop k (shapes ps) ≡ shapes (drop k ps)
shapes-drop zero ps = refl
shapes-drop (suc k) [] = refl
shapes-drop (suc k) (p ∷ ps) = shapes-drop k ps

module _ (ops : List OpValue) where
  lists_of : List Part → List (List Value)
  lists_of ps = lists (views (blocks_of ops ps))

  type_by : (ps : List Part) (id : ℕ) → type_in (views (blocks_of ops ps)) id ≡ type_at (head_shape (shapes ps)) (lists (views (blocks_of ops ps))) id
  type_by ps id = ap (λ F. type_at F (lists (views (blocks_of ops ps))) id) (sym (plain_list ops ps)) ∙ plain_type (head_shape (shapes ps)) (lists (views (blocks_of ops ps))) id

  number_by : (ps : List Part) (id : ℕ) → IsNumber (views (blocks_of ops ps)) id → IsNumberOf (head_shape (shapes ps)) (lists (views (blocks_of ops ps))) id
  number_by ps id h =
      subst (λ vs. id < length vs) (plain_root (head_shape (shapes ps)) (lists (views (blocks_of ops ps))))
      (subst (λ F. id < length (root F (lists (views (blocks_of ops ps))))) (sym (plain_list ops ps)) h)

  -- and so of the part that stands k parts behind
  views_behind : (k : ℕ) (ps : List Part) → drop k (views (blocks_of ops ps)) ≡ views (blocks_of ops (drop k ps))
  views_behind k ps = sym (views-drop k (blocks_of ops ps)) ∙ ap views (drop-map (block_of ops) k ps)

  behind : (k : ℕ) (ps : List Part) → lists (views (blocks_of ops (drop k ps))) ≡ drop k (lists (views (blocks_of ops ps)))
  behind k ps = ap lists (sym (views_behind k ps)) ∙ lists-drop k (views (blocks_of ops ps))

  pair_of : (o : Connective) (t : Table (ℕ × ℕ)) (skip id : ℕ) (p : ℕ × ℕ) (ys : List Part) → IsSoundPart (Block.Pair t skip) (views (blocks_of ops ys)) → slice_get t.values id ≡ Some p
      → IsPairOf (head_shape (shapes ys)) (head_shape (drop skip (shapes ys))) (lists (views (blocks_of ops ys))) (type_in (views (Block.Pair t skip ∷ blocks_of ops ys)) id) p.0 p.1
  pair_of o t skip id p ys s at = (
    pair_type t skip (blocks_of ops ys) id p at ∙ (λ i. value.Pair (type_by ys p.0 i) (second i)),
    number_by ys p.0 fits.0,
    subst (λ ls. IsNumberOf (head_shape (drop skip (shapes ys))) ls p.1) lists_are
        (subst (λ Fs. IsNumberOf (head_shape Fs) (lists (views (blocks_of ops (drop skip ys)))) p.1) (sym (shapes-drop skip ys))
        (number_by (drop skip ys) p.1 (subst (λ vs. IsNumber vs p.1) (views_behind skip ys) fits.1))),
  )
    where
      fits : FitsPair (views (blocks_of ops ys)) skip p
      fits = AllFit-at (FitsPair (views (blocks_of ops ys)) skip) t.values id p s.keys.2 at

      count : skip ≡ length (nodes (head_shape (shapes ys)))
      count = s.keys.1 ∙ ap (λ F. length (nodes F)) (sym (plain_list ops ys)) ∙ plain_count (head_shape (shapes ys))

      lists_are : lists (views (blocks_of ops (drop skip ys))) ≡ drop (length (nodes (head_shape (shapes ys)))) (lists (views (blocks_of ops ys)))
      lists_are = behind skip ys ∙ ap (λ k. drop k (lists (views (blocks_of ops ys)))) count

      second : type_in (drop skip (views (blocks_of ops ys))) p.1 ≡ type_at (head_shape (drop skip (shapes ys))) (drop (length (nodes (head_shape (shapes ys)))) (lists (views (blocks_of ops ys)))) p.1
      second =
          ap (λ vs. type_in vs p.1) (views_behind skip ys) ∙ type_by (drop skip ys) p.1
          ∙ (λ i. type_at (head_shape (sym (shapes-drop skip ys) i)) (lists_are i) p.1)

  set_of : (k : ℕ) (t : Table (List ℕ)) (id : ℕ) (ids : List ℕ) (ys : List Part) → IsSoundPart (Block.Set k t) (views (blocks_of ops ys)) → slice_get t.values id ≡ Some ids
      → IsSetOf (head_shape (shapes ys)) (lists (views (blocks_of ops ys))) (type_in (views (Block.Set k t ∷ blocks_of ops ys)) id) ids
  set_of k t id ids ys s at = (
    set_type k t (blocks_of ops ys) id ids at ∙ (λ i. collected (map (λ j. type_by ys j i) ids)),
    AllFit-more (IsNumber (views (blocks_of ops ys))) (IsNumberOf (head_shape (shapes ys)) (lists (views (blocks_of ops ys)))) (number_by ys) ids (AllFit-at (FitsSet (views (blocks_of ops ys))) t.values id ids s.keys.1 at).0,
  )

  one_of : (k : ℕ) (t : Table (ℕ × List ℕ)) (id : ℕ) (p : ℕ × List ℕ) (ys : List Part) → IsSoundPart (Block.One k t) (views (blocks_of ops ys)) → slice_get t.values id ≡ Some p
      → IsOneOf (head_shape (shapes ys)) (lists (views (blocks_of ops ys))) (type_in (views (Block.One k t ∷ blocks_of ops ys)) id) p.0 p.1
  one_of k t id p ys s at = (
    one_type k t (blocks_of ops ys) id p at ∙ (λ i. value.Pair (type_by ys p.0 i) (collected (map (λ j. type_by ys j i) p.1))),
    number_by ys p.0 fits.0,
    AllFit-more (IsNumber (views (blocks_of ops ys))) (IsNumberOf (head_shape (shapes ys)) (lists (views (blocks_of ops ys)))) (number_by ys) p.1 fits.1.0,
  )
    where
      fits : FitsOne (views (blocks_of ops ys)) p
      fits = AllFit-at (FitsOne (views (blocks_of ops ys))) t.values id p s.keys.1 at

  IsFirst : Field → List Part → ℕ → Content → Type 0
  IsFirst f ps id c = IsContent f (head_shape (shapes ps)) (lists (views (blocks_of ops ps))) id c

  -- ---- the kinds of nodes

  first_pair : (f : Field) (ps : List Part) (skip id : ℕ) (p : ℕ × ℕ) → Begins (blocks_of ops ps) (Kind.IsPair skip) → IsSound (blocks_of ops ps) → slice_get (pairs_in (blocks_of ops ps)) id ≡ Some p → IsFirst f ps id (content.Pair p.0 p.1)
  unfolding IsFirst
  first_pair f [] skip id p b s at = absurd b
  first_pair f (x ∷ ys) skip id p b s at = by x.node (memory ops x.memo) b s.0 at
    where
      by : (n : Node) (m : Memory) → Begins (node_block n m ∷ blocks_of ops ys) (Kind.IsPair skip) → IsSoundPart (node_block n m) (views (blocks_of ops ys)) → slice_get (pairs_in (node_block n m ∷ blocks_of ops ys)) id ≡ Some p
          → IsContent f (node_shape n (shapes ys)) (lists (views (node_block n m ∷ blocks_of ops ys))) id (content.Pair p.0 p.1)
      by (node.Atom a) m b s at = absurd b
      by node.Not m b s at = absurd b
      by (node.Pair o t j) m b s at = pair_of (connective o) (record { values = t.values; memo = m }) j id p ys s at
      by (node.Set q k t) m b s at = absurd b
      by (node.One q k t) m b s at = absurd b

  first_set : (f : Field) (ps : List Part) (id : ℕ) (ids : Bor (List ℕ)) → Begins (blocks_of ops ps) Kind.IsSet → IsSound (blocks_of ops ps) → slice_get (sets_in (blocks_of ops ps)) id ≡ Some ids.now → IsFirst f ps id (content.Set ids)
  unfolding IsFirst
  first_set f [] id ids b s at = absurd b
  first_set f (x ∷ ys) id ids b s at = by x.node (memory ops x.memo) b s.0 at
    where
      by : (n : Node) (m : Memory) → Begins (node_block n m ∷ blocks_of ops ys) Kind.IsSet → IsSoundPart (node_block n m) (views (blocks_of ops ys)) → slice_get (sets_in (node_block n m ∷ blocks_of ops ys)) id ≡ Some ids.now
          → IsContent f (node_shape n (shapes ys)) (lists (views (node_block n m ∷ blocks_of ops ys))) id (content.Set ids)
      by (node.Atom a) m b s at = absurd b
      by node.Not m b s at = absurd b
      by (node.Pair o t j) m b s at = absurd b
      by (node.Set Ex k t) m b s at = set_of k.number (record { values = t.values; memo = m }) id ids.now ys s at
      by (node.Set All k t) m b s at = set_of k.number (record { values = t.values; memo = m }) id ids.now ys s at
      by (node.One q k t) m b s at = absurd b

  first_one : (f : Field) (ps : List Part) (id a : ℕ) (ids : Bor (List ℕ)) → Begins (blocks_of ops ps) Kind.IsOne → IsSound (blocks_of ops ps) → slice_get (ones_in (blocks_of ops ps)) id ≡ Some (a, ids.now) → IsFirst f ps id (content.One a ids)
  unfolding IsFirst
  first_one f [] id a ids b s at = absurd b
  first_one f (x ∷ ys) id a ids b s at = by x.node (memory ops x.memo) b s.0 at
    where
      by : (n : Node) (m : Memory) → Begins (node_block n m ∷ blocks_of ops ys) Kind.IsOne → IsSoundPart (node_block n m) (views (blocks_of ops ys)) → slice_get (ones_in (node_block n m ∷ blocks_of ops ys)) id ≡ Some (a, ids.now)
          → IsContent f (node_shape n (shapes ys)) (lists (views (node_block n m ∷ blocks_of ops ys))) id (content.One a ids)
      by (node.Atom x) m b s at = absurd b
      by node.Not m b s at = absurd b
      by (node.Pair o t j) m b s at = absurd b
      by (node.Set q k t) m b s at = absurd b
      by (node.One Ex k t) m b s at = one_of k.number (record { values = t.values; memo = m }) id (a, ids.now) ys s at
      by (node.One All k t) m b s at = one_of k.number (record { values = t.values; memo = m }) id (a, ids.now) ys s at

  first_not : (f : Field) (ps : List Part) (id : ℕ) (c : Content) → Begins (blocks_of ops ps) Kind.IsNot → IsFirst f (drop 1 ps) id c → IsFirst f ps id c
  unfolding IsFirst
  first_not f [] id c b h = absurd b
  first_not f (x ∷ ys) id c b h = by x.node (memory ops x.memo) b
    where
      by : (n : Node) (m : Memory) → Begins (node_block n m ∷ blocks_of ops ys) Kind.IsNot → IsContent f (node_shape n (shapes ys)) (lists (views (node_block n m ∷ blocks_of ops ys))) id c
      by (node.Atom a) m b = absurd b
      by node.Not m b = h
      by (node.Pair o t j) m b = absurd b
      by (node.Set q k t) m b = absurd b
      by (node.One q k t) m b = absurd b

  first_atom : (F : Formula) (f : Field) (ps : List Part) (id : ℕ) (v : AtomValue) → Begins (blocks_of ops ps) Kind.IsAtom → AllFit (IsPartOf F f) (views (blocks_of ops ps)) → v ≡ shown_in (blocks_of ops ps) id → IsFirst f ps id (content.Atom v)
  unfolding IsFirst
  first_atom F f [] id v b o e = absurd b
  first_atom F f (x ∷ ys) id v b o e = by x.node (memory ops x.memo) b o.0 e
    where
      by : (n : Node) (m : Memory) → Begins (node_block n m ∷ blocks_of ops ys) Kind.IsAtom → IsPartOf F f (view_of (node_block n m) (views (blocks_of ops ys))) → v ≡ shown_in (node_block n m ∷ blocks_of ops ys) id
          → IsContent f (node_shape n (shapes ys)) (lists (views (node_block n m ∷ blocks_of ops ys))) id (content.Atom v)
      by (node.Atom (atom.Const a)) m b o e = e
      by (node.Atom (atom.Ind a)) m b o e = e ∙ ap (λ g. shown_space g (type_at (atom_shape (atom.Ind a)) (atom_values (atom.Ind a) ∷ []) id)) o.0
      by (node.Atom (atom.Member a)) m b o e = e
      by (node.Atom (atom.SameElem a)) m b o e = e
      by (node.Atom (atom.Sub a)) m b o e = e
      by (node.Atom (atom.SameSet a)) m b o e = e
      by node.Not m b o e = absurd b
      by (node.Pair c t j) m b o e = absurd b
      by (node.Set q k t) m b o e = absurd b
      by (node.One q k t) m b o e = absurd b

  -- ---- at a place

  module _ (ps : List Part) (at : ℕ) where
    blocks_at : drop at (blocks_of ops ps) ≡ blocks_of ops (drop at ps)
    blocks_at = drop-map (block_of ops) at ps

    IsAt : Field → ℕ → Content → Type 0
    IsAt f id c = IsContent f (head_shape (drop at (shapes ps))) (lists (views (drop at (blocks_of ops ps)))) id c

    from_first : (f : Field) (id : ℕ) (c : Content) → IsFirst f (drop at ps) id c → IsContent f (head_shape (drop at (shapes ps))) (lists (views (drop at (blocks_of ops ps)))) id c
    unfolding IsFirst
    from_first f id c h =
        subst (λ bs. IsContent f (head_shape (drop at (shapes ps))) (lists (views bs)) id c) (sym blocks_at)
        (subst (λ Fs. IsContent f (head_shape Fs) (lists (views (blocks_of ops (drop at ps)))) id c) (sym (shapes-drop at ps)) h)

    pub pair_content : (f : Field) (skip id : ℕ) (p : ℕ × ℕ) → Begins (drop at (blocks_of ops ps)) (Kind.IsPair skip) → IsSound (drop at (blocks_of ops ps)) → slice_get (pairs_in (drop at (blocks_of ops ps))) id ≡ Some p
        → IsContent f (head_shape (drop at (shapes ps))) (lists (views (drop at (blocks_of ops ps)))) id (content.Pair p.0 p.1)
    pair_content f skip id p b s g =
        from_first f id (content.Pair p.0 p.1)
        (first_pair f (drop at ps) skip id p (subst (λ z. Begins z (Kind.IsPair skip)) blocks_at b) (subst IsSound blocks_at s) (subst (λ z. slice_get (pairs_in z) id ≡ Some p) blocks_at g))

    pub set_content : (f : Field) (id : ℕ) (ids : Bor (List ℕ)) → Begins (drop at (blocks_of ops ps)) Kind.IsSet → IsSound (drop at (blocks_of ops ps)) → slice_get (sets_in (drop at (blocks_of ops ps))) id ≡ Some ids.now
        → IsContent f (head_shape (drop at (shapes ps))) (lists (views (drop at (blocks_of ops ps)))) id (content.Set ids)
    set_content f id ids b s g =
        from_first f id (content.Set ids)
        (first_set f (drop at ps) id ids (subst (λ z. Begins z Kind.IsSet) blocks_at b) (subst IsSound blocks_at s) (subst (λ z. slice_get (sets_in z) id ≡ Some ids.now) blocks_at g))

    pub one_content : (f : Field) (id a : ℕ) (ids : Bor (List ℕ)) → Begins (drop at (blocks_of ops ps)) Kind.IsOne → IsSound (drop at (blocks_of ops ps)) → slice_get (ones_in (drop at (blocks_of ops ps))) id ≡ Some (a, ids.now)
        → IsContent f (head_shape (drop at (shapes ps))) (lists (views (drop at (blocks_of ops ps)))) id (content.One a ids)
    one_content f id a ids b s g =
        from_first f id (content.One a ids)
        (first_one f (drop at ps) id a ids (subst (λ z. Begins z Kind.IsOne) blocks_at b) (subst IsSound blocks_at s) (subst (λ z. slice_get (ones_in z) id ≡ Some (a, ids.now)) blocks_at g))

    pub atom_content : (F : Formula) (f : Field) (id : ℕ) (v : AtomValue) → Begins (drop at (blocks_of ops ps)) Kind.IsAtom → AllFit (IsPartOf F f) (views (drop at (blocks_of ops ps))) → v ≡ shown_in (drop at (blocks_of ops ps)) id
        → IsContent f (head_shape (drop at (shapes ps))) (lists (views (drop at (blocks_of ops ps)))) id (content.Atom v)
    atom_content F f id v b o e =
        from_first f id (content.Atom v)
        (first_atom F f (drop at ps) id v (subst (λ z. Begins z Kind.IsAtom) blocks_at b) (subst (λ z. AllFit (IsPartOf F f) (views z)) blocks_at o) (e ∙ ap (λ z. shown_in z id) blocks_at))

    pub not_content : (f : Field) (id : ℕ) (c : Content) → Begins (drop at (blocks_of ops ps)) Kind.IsNot → IsContent f (head_shape (drop (at + 1) (shapes ps))) (lists (views (drop (at + 1) (blocks_of ops ps)))) id c
        → IsContent f (head_shape (drop at (shapes ps))) (lists (views (drop at (blocks_of ops ps)))) id c
    unfolding IsFirst
    not_content f id c b h =
        from_first f id c (first_not f (drop at ps) id c (subst (λ z. Begins z Kind.IsNot) blocks_at b)
        (subst (λ qs. IsContent f (head_shape (shapes qs)) (lists (views (blocks_of ops qs))) id c) (later at 1 ps)
        (subst (λ bs. IsContent f (head_shape (shapes (drop (at + 1) ps))) (lists (views bs)) id c) (drop-map (block_of ops) (at + 1) ps)
        (subst (λ Fs. IsContent f (head_shape Fs) (lists (views (drop (at + 1) (blocks_of ops ps)))) id c) (shapes-drop (at + 1) ps) h))))

    pub over_behind : (F : Formula) (f : Field) → AllFit (IsPartOf F f) (views (drop at (blocks_of ops ps))) → AllFit (IsPartOf F f) (views (drop (at + 1) (blocks_of ops ps)))
    over_behind F f h = subst (λ bs. AllFit (IsPartOf F f) (views bs)) (sym (later at 1 (blocks_of ops ps))) (tail_fits (drop at (blocks_of ops ps)) h)
      where
        tail_fits : (bs : List Block) → AllFit (IsPartOf F f) (views bs) → AllFit (IsPartOf F f) (views (drop 1 bs))
        tail_fits [] h = tt
        tail_fits (b ∷ bs) h = h.1

-- ---- in a machine

module _ (ps : Parts) (g : Field) (h : IsMachine ps g) (at : ℕ) (l : at < length (nodes (shape_in ps))) where
  lists_at : lists (views (drop at (blocks ps))) ≡ drop at (lists_in ps)
  lists_at = ap lists (views-drop at (blocks ps)) ∙ lists-drop at (views (blocks ps))

  pub look_at : CanLook (drop at (blocks ps))
  look_at = record {
    some = omega (arith, l, h.whole, length-drop at (blocks ps), length-map ps.list.items (block_of ps.ops));
    sound = sound-drop at (blocks ps) (sound_of (blocks ps) h.held);
  }

  pub number_at : (id : ℕ) → IsNumberOf (shape_at ps at) (drop at (lists_in ps)) id → IsNumber (views (drop at (blocks ps))) id
  number_at id n =
      subst (λ bs. IsNumber (views bs) id) (sym (drop-map (block_of ps.ops) at ps.list.items))
      (subst (λ F. id < length (root F (lists (views (blocks_of ps.ops (drop at ps.list.items)))))) (plain_list ps.ops (drop at ps.list.items))
      (subst (λ vs. id < length vs) (sym (plain_root (head_shape (shapes (drop at ps.list.items))) (lists (views (blocks_of ps.ops (drop at ps.list.items))))))
      (subst (λ Fs. IsNumberOf (head_shape Fs) (lists (views (blocks_of ps.ops (drop at ps.list.items)))) id) (shapes-drop at ps.list.items)
      (subst (λ bs. IsNumberOf (shape_at ps at) (lists (views bs)) id) (drop-map (block_of ps.ops) at ps.list.items)
      (subst (λ ls. IsNumberOf (shape_at ps at) ls id) (sym lists_at) n)))))

  pub over_at : AllFit (IsPartOf (shape_in ps) g) (views (drop at (blocks ps)))
  over_at = subst (AllFit (IsPartOf (shape_in ps) g)) (sym (views-drop at (blocks ps))) (fit_drop at (views (blocks ps)) h.over)
    where
      fit_drop : (k : ℕ) (vs : List View) → AllFit (IsPartOf (shape_in ps) g) vs → AllFit (IsPartOf (shape_in ps) g) (drop k vs)
      fit_drop zero vs f = f
      fit_drop (suc k) [] f = tt
      fit_drop (suc k) (v ∷ vs) f = fit_drop k vs f.1

  pub content_of : (id : ℕ) (c : Content) → ((F : Formula) (f : Field) → AllFit (IsPartOf F f) (views (drop at (blocks ps))) → IsContent f (shape_at ps at) (lists (views (drop at (blocks ps)))) id c)
      → IsContent g (shape_at ps at) (drop at (lists_in ps)) id c
  content_of id c e = subst (λ ls. IsContent g (shape_at ps at) ls id c) lists_at (e (shape_in ps) g over_at)
