-- Calls at a part of a machine: what the calls on its parts need, and what they leave.
use Rattle.std.proofs.Common.{◌≡◌, ◌<◌, ◌≤◌, ℕ, suc, zero, true, List, [], ◌∷◌, ◌++◌, map, length, take, drop, ◌||◌, refl, sym, ap, ◌∙◌, subst, arith, Result, Ok, Err}
use Rattle.std.proofs.lemmas.List.{drop-map, length-map}
use Rattle.mm_field.specs.declared.Field.{Field}
use Rattle.mm_logic.specs.Formula.{Formula}
use Rattle.mm_logic.specs.Formula.Formula.{Const, Ind, Member, SameElem, Sub, SameSet, Not, Bin, ExSet, AllSet, ExElem, AllElem}
use Rattle.mm_logic.specs.Value.{Value}
use Rattle.mm_logic.specs.Acceptance.{accepts}
use Rattle.mm_logic.specs.Occurrence.{nodes}
use Rattle.mm_logic.specs.Growth.{root, type_at, AllGrew}
use Rattle.mm_ops.specs.OpValue.{OpValue}
use Rattle.std.specs.Result.{IsErr, IsErrAnd}
use Rattle.mm_states.specs.declared.letter.AutoFault.{AutoFault}
use Rattle.mm_states.specs.declared.letter.AutoFault.TheVariants.{NoMemory}
use Rattle.mm_states.specs.declared.letter.Letter.{Letter}
use Rattle.mm_states.specs.Lists.{AllFit}
use Rattle.mm_states.specs.Letters.{has_ind, leaf_type}
use Rattle.mm_states.specs.Calls as calls
use Rattle.mm_states.proofs.FitLemmas.{AllFit-more, AllFit-append, AllFit-take}
use Rattle.mm_machine.specs.declared.part.Part.{Part}
use Rattle.mm_machine.specs.declared.part.Parts.{Parts}
use Rattle.mm_machine.specs.Plain.{plain}
use Rattle.mm_machine.specs.Parts.{Block, View, lists, head_formula, own_views, views, roots, type_in, IsFormulaOver, IsNodeOver, IsSound, Extends, join_value}
use Rattle.mm_machine.specs.Blocks.{block_of, blocks_of, cuts, blocks}
use Rattle.mm_machine.specs.Calls.{CanCall, CanRead, CanJoin, Kept, Done, leaf_value}
use Rattle.mm_machine.specs.Shapes.{head_shape, shapes, signs, accepts_by}
use Rattle.mm_machine.specs.Operators.{KeepsTables}
use Rattle.mm_machine.specs.Machines.{shape_in, shape_at, lists_in, IsIndOf, IsPartOf, IsMachine}
use Rattle.mm_machine.proofs.PartLemmas.{views-drop, lists-drop}
use Rattle.mm_machine.proofs.PairLemmas.{tail_kept, tail_before}
use Rattle.mm_machine.proofs.DoneLemmas.{memory_done}
use Rattle.mm_machine.proofs.PlainLemmas.{plain_nodes, plain_ind, plain_root, plain_type, plain_leaf, plain_joined, plain_answers, plain_can_read, plain_can_join}
use Rattle.mm_machine.proofs.NodeLemmas.{shapes_stay}
use Rattle.mm_machine.proofs.MachineLemmas.{plain_list, formulas, plain_shapes, sound_of, shape_stays, keeps_signs, keeps_lists, keeps_machine, kept_machine}
use Rattle.mm_machine.proofs.BuildLemmas.{plain_count, or_left, or_right}
use Rattle.mm_machine.proofs.ContentLemmas.{shapes-drop, look_at, over_at}
use Rattle.mm_machine.proofs.ShapeLemmas.{each_begins}

-- ---- an `ind` among the nodes of a formula makes it one that speaks of independence

abbrev HasInd : Formula → Formula → Type 0
HasInd F (Ind u) = has_ind F ≡ true
HasInd F _ = Unit {0}

more_ind : (F G : Formula) → (has_ind G ≡ true → has_ind F ≡ true) → (H : Formula) → HasInd G H → HasInd F H
more_ind F G m (Const b) h = tt
more_ind F G m (Ind u) h = m h
more_ind F G m (Member x y) h = tt
more_ind F G m (SameElem x y) h = tt
more_ind F G m (Sub x y) h = tt
more_ind F G m (SameSet x y) h = tt
more_ind F G m (Not H) h = tt
more_ind F G m (Bin o H K) h = tt
more_ind F G m (ExSet k H) h = tt
more_ind F G m (AllSet k H) h = tt
more_ind F G m (ExElem k H) h = tt
more_ind F G m (AllElem k H) h = tt

-- the nodes of a part are nodes of the whole
below_ind : (F G : Formula) → (has_ind G ≡ true → has_ind F ≡ true) → AllFit (HasInd G) (nodes G) → AllFit (HasInd F) (nodes G)
below_ind F G m h = AllFit-more (HasInd G) (HasInd F) (more_ind F G m) (nodes G) h

nodes_ind : (F : Formula) → AllFit (HasInd F) (nodes F)
nodes_ind (Const b) = (tt, tt)
nodes_ind (Ind u) = (refl, tt)
nodes_ind (Member x y) = (tt, tt)
nodes_ind (SameElem x y) = (tt, tt)
nodes_ind (Sub x y) = (tt, tt)
nodes_ind (SameSet x y) = (tt, tt)
nodes_ind (Not F) = (tt, below_ind (Not F) F (λ e. e) (nodes_ind F))
nodes_ind (Bin o F G) = (
  tt,
  AllFit-append (HasInd (Bin o F G)) (nodes F) (nodes G) (below_ind (Bin o F G) F (or_left (has_ind F) (has_ind G)) (nodes_ind F))
      (below_ind (Bin o F G) G (or_right (has_ind F) (has_ind G)) (nodes_ind G)),
)
nodes_ind (ExSet k F) = (tt, below_ind (ExSet k F) F (λ e. e) (nodes_ind F))
nodes_ind (AllSet k F) = (tt, below_ind (AllSet k F) F (λ e. e) (nodes_ind F))
nodes_ind (ExElem k F) = (tt, below_ind (ExElem k F) F (λ e. e) (nodes_ind F))
nodes_ind (AllElem k F) = (tt, below_ind (AllElem k F) F (λ e. e) (nodes_ind F))

-- ---- the field of the first formula's parts

formulas-take : (k : ℕ) (vs : List View) → formulas (take k vs) ≡ take k (formulas vs)
formulas-take zero vs = refl
formulas-take (suc k) [] = refl
formulas-take (suc k) (v ∷ vs) = ap (λ z. v.formula ∷ z) (formulas-take k vs)

plain-take : (k : ℕ) (Fs : List Formula) → take k (map plain Fs) ≡ map plain (take k Fs)
plain-take zero Fs = refl
plain-take (suc k) [] = refl
plain-take (suc k) (F ∷ Fs) = ap (λ z. plain F ∷ z) (plain-take k Fs)

own_formulas : (ops : List OpValue) (qs : List Part) → IsSound (blocks_of ops qs) → 0 < length qs → formulas (own_views (views (blocks_of ops qs))) ≡ nodes (plain (head_shape (shapes qs)))
own_formulas ops qs s l =
    let F : Formula = head_shape (shapes qs) in
    let vs : List View = views (blocks_of ops qs) in
    formulas-take (length (nodes (head_formula vs))) vs
    ∙ (λ i. take (length (nodes (sym (plain_list ops qs) i))) (sym (plain_shapes ops qs) i))
    ∙ ap (λ k. take k (map plain (shapes qs))) (plain_count F)
    ∙ plain-take (length (nodes F)) (shapes qs)
    ∙ ap (map plain) (each_begins ops qs s 0 l)
    ∙ sym (plain_nodes F)

node_over : (F S : Formula) (g f : Field) → (has_ind F ≡ true → g ≡ f) → (G : Formula) (x : Field) → HasInd F G → IsIndOf G S x g → IsFormulaOver G x f
node_over F S g f h (Const b) x i p = tt
node_over F S g f h (Ind u) x i p = p.0 ∙ h i
node_over F S g f h (Member y z) x i p = tt
node_over F S g f h (SameElem y z) x i p = tt
node_over F S g f h (Sub y z) x i p = tt
node_over F S g f h (SameSet y z) x i p = tt
node_over F S g f h (Not G) x i p = tt
node_over F S g f h (Bin o G H) x i p = tt
node_over F S g f h (ExSet k G) x i p = tt
node_over F S g f h (AllSet k G) x i p = tt
node_over F S g f h (ExElem k G) x i p = tt
node_over F S g f h (AllElem k G) x i p = tt

nodes_over : (F S : Formula) (g f : Field) (vs : List View) → (has_ind F ≡ true → g ≡ f) → AllFit (HasInd F) (formulas vs) → AllFit (IsPartOf S g) vs → AllFit (IsNodeOver f) vs
nodes_over F S g f [] h i p = tt
nodes_over F S g f (v ∷ vs) h i p = (node_over F S g f h v.formula v.field i.0 p.0, nodes_over F S g f vs h i.1 p.1)

own_over : (ops : List OpValue) (qs : List Part) (S : Formula) (g f : Field) → IsSound (blocks_of ops qs) → 0 < length qs → (has_ind (head_shape (shapes qs)) ≡ true → g ≡ f)
    → AllFit (IsPartOf S g) (views (blocks_of ops qs)) → AllFit (IsNodeOver f) (own_views (views (blocks_of ops qs)))
own_over ops qs S g f s l h p =
    let F : Formula = head_shape (shapes qs) in
    let vs : List View = views (blocks_of ops qs) in
    nodes_over (plain F) S g f (own_views vs) (λ e. h (sym (plain_ind F) ∙ e)) (subst (AllFit (HasInd (plain F))) (sym (own_formulas ops qs s l)) (nodes_ind (plain F)))
    (AllFit-take (IsPartOf S g) (length (nodes (head_formula vs))) vs p)

-- ---- what a call at a part needs

module _ (ps : Parts) (at : ℕ) where
  plain_at : plain (shape_at ps at) ≡ head_formula (views (drop at (blocks ps)))
  plain_at =
      ap (λ Fs. plain (head_shape Fs)) (shapes-drop at ps.list.items)
      ∙ plain_list ps.ops (drop at ps.list.items)
      ∙ ap (λ bs. head_formula (views bs)) (sym (drop-map (block_of ps.ops) at ps.list.items))

  lists_at : lists (views (drop at (blocks ps))) ≡ drop at (lists_in ps)
  lists_at = ap lists (views-drop at (blocks ps)) ∙ lists-drop at (views (blocks ps))

  type_is : (id : ℕ) → type_in (views (drop at (blocks ps))) id ≡ type_at (shape_at ps at) (drop at (lists_in ps)) id
  type_is id =
      ap (λ F. type_at F (lists (views (drop at (blocks ps)))) id) (sym plain_at)
      ∙ plain_type (shape_at ps at) (lists (views (drop at (blocks ps)))) id
      ∙ ap (λ ls. type_at (shape_at ps at) ls id) lists_at

  pub accepts_is : (id : ℕ) → accepts_by (drop at (shapes ps.list.items)) (views (drop at (blocks ps))) id ≡ accepts (shape_at ps at) (type_at (shape_at ps at) (drop at (lists_in ps)) id)
  accepts_is id = ap (accepts (shape_at ps at)) (type_is id)

  pub count_is : length (roots (views (drop at (blocks ps)))) ≡ length (root (shape_at ps at) (drop at (lists_in ps)))
  count_is =
      ap (λ F. length (root F (lists (views (drop at (blocks ps)))))) (sym plain_at)
      ∙ ap length (plain_root (shape_at ps at) (lists (views (drop at (blocks ps)))))
      ∙ ap (λ ls. length (root (shape_at ps at) ls)) lists_at

  pub leaf_is : (l : Letter) → leaf_value (views (drop at (blocks ps))) l ≡ leaf_type (shape_at ps at) l
  leaf_is l = ap (λ F. leaf_type F l) (sym plain_at) ∙ plain_leaf (shape_at ps at) l

  join_is : (op : OpValue) (left right : ℕ) → join_value (views (drop at (blocks ps))) op left right ≡ calls.value_of_join (shape_at ps at) (drop at (lists_in ps)) op left right
  join_is op left right =
      ap (λ F. calls.value_of_join F (lists (views (drop at (blocks ps)))) op left right) (sym plain_at)
      ∙ plain_joined (shape_at ps at) (lists (views (drop at (blocks ps)))) op left right
      ∙ ap (λ ls. calls.value_of_join (shape_at ps at) ls op left right) lists_at

  module _ (g : Field) (h : IsMachine ps g) (l : at < length (nodes (shape_in ps))) where
    call_at : (f : Field) (room : ℕ) → (has_ind (shape_at ps at) ≡ true → g ≡ f) → calls.IsRoomy (plain (shape_at ps at)) (lists (views (drop at (blocks ps)))) room → CanCall (drop at (blocks ps)) f room
    call_at f room o r =
        let look = look_at ps g h at l in
        let same = drop-map (block_of ps.ops) at ps.list.items in
        record {
          some = look.some;
          sound = look.sound;
          over = subst (λ bs. AllFit (IsNodeOver f) (own_views (views bs))) (sym same)
              (own_over ps.ops (drop at ps.list.items) (shape_in ps) g f (subst IsSound same look.sound) (subst (λ n. 0 < n) (length-map (drop at ps.list.items) (block_of ps.ops)) (subst (λ bs. 0 < length bs) same look.some))
              (subst (λ Fs. has_ind (head_shape Fs) ≡ true → g ≡ f) (shapes-drop at ps.list.items) o)
              (subst (λ bs. AllFit (IsPartOf (shape_in ps) g) (views bs)) same (over_at ps g h at l)));
          roomy = subst (λ F. calls.IsRoomy F (lists (views (drop at (blocks ps)))) room) plain_at r;
        }

    pub read_at : (letter : Letter) (room : ℕ) → calls.CanRead (shape_at ps at) g (drop at (lists_in ps)) letter room → CanRead (drop at (blocks ps)) letter room
    read_at letter room c =
        let p = plain_can_read (shape_at ps at) g (lists (views (drop at (blocks ps)))) letter room (subst (λ ls. calls.CanRead (shape_at ps at) g ls letter room) (sym lists_at) c) in
        record { call = call_at letter.field room c.field p.roomy; readable = c.readable }

    pub join_at : (op : OpValue) (left right room : ℕ) → calls.CanJoin (shape_at ps at) g (drop at (lists_in ps)) op left right room → CanJoin (drop at (blocks ps)) op left right room
    join_at op left right room c =
        let p = plain_can_join (shape_at ps at) g (lists (views (drop at (blocks ps)))) op left right room (subst (λ ls. calls.CanJoin (shape_at ps at) g ls op left right room) (sym lists_at) c) in
        let q = subst (λ F. calls.CanJoin F g (lists (views (drop at (blocks ps)))) op left right room) plain_at p in
        record { call = call_at op.f room c.field p.roomy; in_left = (q.left_operand.within, q.left_operand.value); in_right = (q.right_operand.within, q.right_operand.value) }

-- ---- what it leaves

lists_grew : (vs ws : List View) → Extends vs ws → AllGrew (lists vs) (lists ws)
lists_grew [] [] h = tt
lists_grew (v ∷ vs) (w ∷ ws) h = (h.2, lists_grew vs ws h.3)
lists_grew [] (w ∷ ws) h = absurd h
lists_grew (v ∷ vs) [] h = absurd h

done_here : (bs cs : List Block) (at : ℕ) (v : Value) (room after : ℕ) (r : Result ℕ AutoFault) → Done bs cs at v room after r
    → calls.Answers (head_formula (views (drop at bs))) v (lists (views (drop at bs))) (lists (views (drop at cs))) room r
done_here bs cs at v room after (Ok id) d = (d.outcome.0, omega (arith, d.outcome.1))
done_here bs cs at v room after (Err e) d = (lists_grew (views (drop at bs)) (views (drop at cs)) d.kept.extends, d.outcome)

module _ (ps qs : Parts) (at : ℕ) (v : Value) (room after : ℕ) (r : Result ℕ AutoFault) (d : Done (blocks ps) (blocks qs) at v room after r) where
  pub done_answers : (w : Value) → v ≡ w → calls.Answers (shape_at ps at) w (drop at (lists_in ps)) (drop at (lists_in qs)) room r
  done_answers w e =
      subst (λ ls. calls.Answers (shape_at ps at) w ls (drop at (lists_in qs)) room r) (lists_at ps at)
      (subst (λ ls. calls.Answers (shape_at ps at) w (lists (views (drop at (blocks ps)))) ls room r) (lists_at qs at)
      (plain_answers (shape_at ps at) w (lists (views (drop at (blocks ps)))) (lists (views (drop at (blocks qs)))) room r
      (subst (λ F. calls.Answers F w (lists (views (drop at (blocks ps)))) (lists (views (drop at (blocks qs)))) room r) (sym (plain_at ps at))
      (subst (λ x. calls.Answers (head_formula (views (drop at (blocks ps)))) x (lists (views (drop at (blocks ps)))) (lists (views (drop at (blocks qs)))) room r) e
      (done_here (blocks ps) (blocks qs) at v room after r d)))))

  module _ (g : Field) (h : IsMachine ps g) where
    pub done_kept : Kept (blocks ps) (blocks qs)
    done_kept = tail_kept at (blocks ps) (blocks qs) d.before (sound_of (blocks ps) h.held) d.kept

    pub done_before : take at (lists_in qs) ≡ take at (lists_in ps)
    done_before = tail_before at (blocks ps) (blocks qs) d.before (sound_of (blocks ps) h.held) d.kept

    pub done_machine : signs qs ≡ signs ps → length qs.ops ≤ 65536 → cuts qs ≡ cuts ps → IsMachine qs g
    done_machine s o c = kept_machine ps qs g h s o done_kept c

-- ---- a join, once its operator has a number

module _ (ps ms : Parts) (k : KeepsTables ps ms) (at : ℕ) where
  mid_shape : shape_at ms at ≡ shape_at ps at
  mid_shape = ap (λ Fs. head_shape (drop at Fs)) (shapes_stay ps.list.items ms.list.items (keeps_signs ps ms k))

  mid_lists : drop at (lists_in ms) ≡ drop at (lists_in ps)
  mid_lists = ap (drop at) (keeps_lists ps ms k)

  pub mid_place : at < length (nodes (shape_in ps)) → at < length (nodes (shape_in ms))
  mid_place l = subst (λ F. at < length (nodes F)) (sym (shape_stays ps ms (keeps_signs ps ms k))) l

  pub join_can : (g : Field) (op : OpValue) (left right room : ℕ) → length ms.ops ≤ 65536 → IsMachine ps g → at < length (nodes (shape_in ps))
      → calls.CanJoin (shape_at ps at) g (drop at (lists_in ps)) op left right room → CanJoin (drop at (blocks ms)) op left right room
  join_can g op left right room o h l c =
      join_at ms at g (keeps_machine ps ms k g o h) (mid_place l) op left right room
      (subst (λ F. calls.CanJoin F g (drop at (lists_in ms)) op left right room) (sym mid_shape) (subst (λ ls. calls.CanJoin (shape_at ps at) g ls op left right room) (sym mid_lists) c))

  pub join_answers : (qs : Parts) (op : OpValue) (left right room after : ℕ) (r : Result ℕ AutoFault) → Done (blocks ms) (blocks qs) at (join_value (views (drop at (blocks ms))) op left right) room after r
      → calls.Answers (shape_at ps at) (calls.value_of_join (shape_at ps at) (drop at (lists_in ps)) op left right) (drop at (lists_in ps)) (drop at (lists_in qs)) room r
  join_answers qs op left right room after r d =
      subst (λ ls. calls.Answers (shape_at ps at) (calls.value_of_join (shape_at ps at) ls op left right) ls (drop at (lists_in qs)) room r) mid_lists
      (subst (λ F. calls.Answers F (calls.value_of_join F (drop at (lists_in ms)) op left right) (drop at (lists_in ms)) (drop at (lists_in qs)) room r) mid_shape
      (done_answers ms qs at (join_value (views (drop at (blocks ms))) op left right) room after r d (calls.value_of_join (shape_at ms at) (drop at (lists_in ms)) op left right) (join_is ms at op left right)))

  pub no_number : (g : Field) (v : Value) (room : ℕ) (r : Result ℕ AutoFault) → IsMachine ps g → at < length (nodes (shape_in ps)) → IsErr r × IsErrAnd r (λ e. e ≡ NoMemory)
      → calls.Answers (shape_at ps at) v (drop at (lists_in ps)) (drop at (lists_in ms)) room r
  no_number g v room r h l e =
      subst (λ ls. calls.Answers (shape_at ps at) v (drop at (lists_in ps)) ls room r) (sym mid_lists)
      (done_answers ps ps at v room room r (memory_done (blocks ps) at v room r (look_at ps g h at l).sound e) v refl)
