-- Parts put before others make the parts of a larger formula.
use Rattle.std.proofs.Common.{◌≡◌, ◌<◌, ◌≤◌, ◌+◌, ◌++◌, ◌||◌, ℕ, suc, zero, Bool, true, false, List, [], ◌∷◌, length, take, drop, reverse, Some, None, Result, Ok, Err, OnOk, refl, sym, ap, ◌∙◌, subst, arith, if◌then◌else◌}
use Rattle.std.proofs.lemmas.List.{length-map, length-append, reverse-append, drop-drop, take_all, length-take}
use Rattle.mm_field.specs.declared.Field.{Field}
use Rattle.mm_logic.specs.Formula.{Formula}
use Rattle.mm_logic.specs.Formula.Formula.{Const, Ind, Member, SameElem, Sub, SameSet, Not, Bin, ExSet, AllSet, ExElem, AllElem}
use Rattle.mm_logic.specs.Occurrence.{nodes}
use Rattle.mm_formula.specs.declared.formula.Connective.{Connective as Named}
use Rattle.mm_formula.specs.Scope.{connective, slotted}
use Rattle.mm_formula.specs.Syntax.{Syntax, Syntax as syntax, nodes as syntax_nodes}
use Rattle.mm_formula.specs.Variables.{is_set}
use Rattle.mm_logic.specs.Growth.{no_values}
use Rattle.mm_machine.specs.declared.part.Parts.{Parts}
use Rattle.mm_machine.specs.Sound.{IsHeld}
use Rattle.mm_combine.specs.Marked.{Pairs}
use Rattle.mm_states.specs.Lists.{AllFit}
use Rattle.mm_states.specs.Letters.{has_ind}
use Rattle.mm_states.specs.Memos.{joins_answer, no_answers}
use Rattle.mm_states.proofs.FitLemmas.{AllFit-more}
use Rattle.mm_base_auto.specs.Atoms.{IsAtomic}
use Rattle.mm_base_auto.specs.declared.atom.Atom.{Atom}
use Rattle.mm_base_auto.specs.declared.atom.Atom.TheVariants as atom
use Rattle.mm_base_auto.specs.OneAtom.{atom_shape, atom_field}
use Rattle.mm_machine.specs.declared.part.Part.{Part}
use Rattle.mm_machine.specs.declared.part.Node.{Node}
use Rattle.mm_machine.specs.declared.part.Node.TheVariants as node
use Rattle.mm_machine.specs.declared.part.Quantifier.{Quantifier}
use Rattle.mm_machine.specs.declared.part.Quantifier.TheVariants.{Ex, All}
use Rattle.mm_machine.specs.declared.slots.Slot.{Slot}
use Rattle.mm_machine.specs.Plain.{plain}
use Rattle.mm_machine.specs.Parts.{lists, Block, nothing, View, head_formula, view_of, views, Apart, Keys, IsTrue, memo_of, IsFormulaOver, IsSoundPart, IsSound}
use Rattle.mm_machine.specs.Blocks.{node_block, node_cut, memory, block_of, cut_of, blocks_of, cuts_of, blocks, cuts}
use Rattle.mm_machine.specs.Empties.{emptied}
use Rattle.mm_machine.specs.Shapes.{head_shape, shapes, node_shape, over_sets, over_elements}
use Rattle.mm_machine.specs.Machines.{IsIndOf, IsPartOf, IsMachine, shape_in, lists_in, marked_in}
use Rattle.mm_machine.specs.Builds.{IsNewAtom, IsNewQuantifier, Pushes, AreNew, Built}
use Rattle.mm_machine.proofs.PartLemmas.{length-views, views-drop}
use Rattle.mm_machine.proofs.DoneLemmas.{atomic_nodes}
use Rattle.mm_machine.proofs.PlainLemmas.{plain_nodes}
use Rattle.mm_machine.proofs.EmptyLemmas.{new_memory, no_list, no_lists}
use Rattle.mm_machine.proofs.MachineLemmas.{plain_list, held_of}

-- ---- counts of nodes

pub nodes_some : (F : Formula) → 0 < length (nodes F)
nodes_some (Const b) = omega arith
nodes_some (Ind u) = omega arith
nodes_some (Member x y) = omega arith
nodes_some (SameElem x y) = omega arith
nodes_some (Sub x y) = omega arith
nodes_some (SameSet x y) = omega arith
nodes_some (Not F) = omega arith
nodes_some (Bin o F G) = omega arith
nodes_some (ExSet k F) = omega arith
nodes_some (AllSet k F) = omega arith
nodes_some (ExElem k F) = omega arith
nodes_some (AllElem k F) = omega arith

pub plain_count : (F : Formula) → length (nodes (plain F)) ≡ length (nodes F)
plain_count F = ap length (plain_nodes F) ∙ length-map (nodes F) plain

count_sets : (q : Quantifier) (k : ℕ) (G : Formula) → length (nodes (over_sets q k G)) ≡ suc (length (nodes G))
count_sets Ex k G = refl
count_sets All k G = refl

count_elements : (q : Quantifier) (k : ℕ) (G : Formula) → length (nodes (over_elements q k G)) ≡ suc (length (nodes G))
count_elements Ex k G = refl
count_elements All k G = refl

ind_sets : (q : Quantifier) (k : ℕ) (G : Formula) → has_ind (over_sets q k G) ≡ has_ind G
ind_sets Ex k G = refl
ind_sets All k G = refl

ind_elements : (q : Quantifier) (k : ℕ) (G : Formula) → has_ind (over_elements q k G) ≡ has_ind G
ind_elements Ex k G = refl
ind_elements All k G = refl

-- ---- parts of a part

more_ind : (H F G : Formula) (g f : Field) → (has_ind G ≡ true → has_ind F ≡ true) → IsIndOf H G g f → IsIndOf H F g f
more_ind (Const b) F G g f m h = tt
more_ind (Ind u) F G g f m h = (h.0, m h.1)
more_ind (Member x y) F G g f m h = tt
more_ind (SameElem x y) F G g f m h = tt
more_ind (Sub x y) F G g f m h = tt
more_ind (SameSet x y) F G g f m h = tt
more_ind (Not H) F G g f m h = tt
more_ind (Bin o H K) F G g f m h = tt
more_ind (ExSet k H) F G g f m h = tt
more_ind (AllSet k H) F G g f m h = tt
more_ind (ExElem k H) F G g f m h = tt
more_ind (AllElem k H) F G g f m h = tt

more_parts : (F G : Formula) (f : Field) (vs : List View) → (has_ind G ≡ true → has_ind F ≡ true) → AllFit (IsPartOf G f) vs → AllFit (IsPartOf F f) vs
more_parts F G f vs m h = AllFit-more (IsPartOf G f) (IsPartOf F f) (λ v. more_ind v.formula F G v.field f m) vs h

fit_two : {K : Type 0} (P : K → Type 0) (a b n : ℕ) (vs : List K) → n ≡ a + b → AllFit P (take a vs) → AllFit P (take b (drop a vs)) → AllFit P (take n vs)
fit_two P zero b n vs e h g = let same : b ≡ n = omega (arith, e) in subst (λ z. AllFit P (take z vs)) same g
fit_two P (suc a) b zero vs e h g = tt
fit_two P (suc a) b (suc n) [] e h g = tt
fit_two P (suc a) b (suc n) (v ∷ vs) e h g = (h.0, fit_two P a b n vs (omega (arith, e)) h.1 g)

blocks-drop : (k : ℕ) (ps : List Part) → drop k (blocks_of [] ps) ≡ blocks_of [] (drop k ps)
blocks-drop zero ps = refl
blocks-drop (suc k) [] = refl
blocks-drop (suc k) (p ∷ ps) = blocks-drop k ps

views_behind : (k : ℕ) (ps qs : List Part) → drop k ps ≡ qs → drop k (views (blocks_of [] ps)) ≡ views (blocks_of [] qs)
views_behind k ps qs e = sym (views-drop k (blocks_of [] ps)) ∙ ap views (blocks-drop k ps ∙ ap (blocks_of []) e)

long_views : (ps : List Part) → length (views (blocks_of [] ps)) ≡ length ps
long_views ps = length-views (blocks_of [] ps) ∙ length-map ps (block_of [])

-- ---- a part with an empty table

no_memo : (b : Block) → memo_of (emptied b) ≡ nothing
no_memo (Block.Atom F g t) = refl
no_memo Block.Nothing = refl
no_memo (Block.Pair t skip) = refl
no_memo (Block.Set k t) = refl
no_memo (Block.One k t) = refl

empty_part : (b : Block) (vs : List View) → b ≡ emptied b → Keys b vs → length (nodes (view_of b vs).formula) ≤ suc (length vs) → IsSoundPart b vs
empty_part b vs e k n = record {
  keys = k;
  apart = subst Apart (sym (ap (λ z. (view_of z vs).values) e ∙ no_list b vs)) (λ v. omega arith);
  enough = n;
  memo = subst (IsTrue (view_of b vs ∷ vs)) (sym (ap memo_of e ∙ no_memo b)) (λ n l r id a. let no : None ≡ Some id = a in cc);
}

pub record IsNewNode (n : Node) : Type 0 where
  pub block : node_block n nothing ≡ emptied (node_block n nothing)
  pub cut : node_cut n nothing ≡ node_block n nothing

module _ (f : Field) (n : Node) (olds mids : List Part) (p : Part) (at : p.node ≡ n) (m : joins_answer p.memo ≡ no_answers) (new : IsNewNode n) where
  block_is : block_of [] p ≡ node_block n nothing
  block_is = ap (λ z. node_block z (memory [] p.memo)) at ∙ ap (node_block n) (new_memory p.memo m)

  cut_is : cut_of [] p ≡ node_cut n nothing
  cut_is = ap (λ z. node_cut z nothing) at

  built_on : (F : Formula) (k : ℕ) → length (nodes F) ≡ suc k → node_shape n (shapes mids) ≡ F → drop k mids ≡ olds → length mids ≡ k + length olds → (AreNew olds → AreNew mids) → (IsSound (blocks_of [] olds) → IsSound (blocks_of [] mids))
      → Keys (node_block n nothing) (views (blocks_of [] mids)) → IsPartOf F f (view_of (node_block n nothing) (views (blocks_of [] mids))) → AllFit (IsPartOf F f) (take k (views (blocks_of [] mids))) → Built f F olds (p ∷ mids)
  built_on F k count shape behind long news sound keys head over = record {
    shape = here;
    behind = ap (λ z. drop z (p ∷ mids)) count ∙ behind;
    long = omega (arith, count, long);
    new = λ o. record {
      blocks = λ i. (block_is ∙ new.block ∙ sym (ap emptied block_is)) i ∷ (news o).blocks i;
      cuts = λ i. (cut_is ∙ new.cut ∙ sym block_is) i ∷ (news o).cuts i;
    };
    sound = λ s. (subst (λ b. IsSoundPart b (views (blocks_of [] mids))) (sym block_is) (empty_part (node_block n nothing) (views (blocks_of [] mids)) new.block keys enough), sound s);
    over = subst (λ z. AllFit (IsPartOf F f) (take z (views (blocks_of [] (p ∷ mids))))) (sym count) (subst (λ b. IsPartOf F f (view_of b (views (blocks_of [] mids)))) (sym block_is) head, over);
  }
    where
      here : node_shape p.node (shapes mids) ≡ F
      here = ap (λ z. node_shape z (shapes mids)) at ∙ shape

      formula_is : (view_of (node_block n nothing) (views (blocks_of [] mids))).formula ≡ plain F
      formula_is = ap (λ b. (view_of b (views (blocks_of [] mids))).formula) (sym block_is) ∙ sym (plain_list [] (p ∷ mids)) ∙ ap plain here

      enough : length (nodes (view_of (node_block n nothing) (views (blocks_of [] mids))).formula) ≤ suc (length (views (blocks_of [] mids)))
      enough = omega (arith, ap (λ G. length (nodes G)) formula_is, plain_count F, count, long, long_views mids)

  -- before the parts of one formula
  built_below : (F G : Formula) → length (nodes F) ≡ suc (length (nodes G)) → (has_ind G ≡ true → has_ind F ≡ true) → node_shape n (shapes mids) ≡ F → (0 < length (views (blocks_of [] mids)) → Keys (node_block n nothing) (views (blocks_of [] mids)))
      → IsPartOf F f (view_of (node_block n nothing) (views (blocks_of [] mids))) → Built f G olds mids → Built f F olds (p ∷ mids)
  built_below F G count ind shape keys head b =
      built_on F (length (nodes G)) count shape b.behind b.long b.new b.sound (keys (omega (arith, b.long, long_views mids, nodes_some G))) head (more_parts F G f (take (length (nodes G)) (views (blocks_of [] mids))) ind b.over)

-- ---- the kinds of nodes

pub atomic : (a : Atom) → IsAtomic (atom_shape a)
atomic (atom.Const a) = tt
atomic (atom.Ind a) = tt
atomic (atom.Member a) = tt
atomic (atom.SameElem a) = tt
atomic (atom.Sub a) = tt
atomic (atom.SameSet a) = tt

own_ind : (F : Formula) (g f : Field) → IsAtomic F → IsFormulaOver F g f → IsIndOf F F g f
own_ind (Const b) g f a h = tt
own_ind (Ind u) g f a h = (h, refl)
own_ind (Member x y) g f a h = tt
own_ind (SameElem x y) g f a h = tt
own_ind (Sub x y) g f a h = tt
own_ind (SameSet x y) g f a h = tt
own_ind (Not F) g f a h = absurd a
own_ind (Bin o F G) g f a h = absurd a
own_ind (ExSet k F) g f a h = absurd a
own_ind (AllSet k F) g f a h = absurd a
own_ind (ExElem k F) g f a h = absurd a
own_ind (AllElem k F) g f a h = absurd a

atom_built : (f : Field) (a : Atom) (olds : List Part) (p : Part) → p.node ≡ node.Atom a → joins_answer p.memo ≡ no_answers → IsNewAtom f a → Built f (atom_shape a) olds (p ∷ olds)
atom_built f a olds p at m new =
    built_on f (node.Atom a) olds olds p at m
    (record {
      block = ap (λ vs. Block.Atom (atom_shape a) (atom_field a) (record { values = vs; memo = nothing })) new.values;
      cut = ap (λ vs. Block.Atom (atom_shape a) (atom_field a) (record { values = vs; memo = nothing })) (new.marked ∙ sym new.values);
    })
    (atom_shape a) 0 (ap length (atomic_nodes (atom_shape a) (atomic a))) refl refl (omega arith) (λ o. o) (λ s. s) (atomic a) (own_ind (atom_shape a) (atom_field a) f (atomic a) new.over) tt

not_built : (f : Field) (G : Formula) (olds mids : List Part) (p : Part) → p.node ≡ node.Not → joins_answer p.memo ≡ no_answers → Built f G olds mids → Built f (Not G) olds (p ∷ mids)
not_built f G olds mids p at m b = built_below f node.Not olds mids p at m (record { block = refl; cut = refl }) (Not G) G refl (λ h. h) (ap Not b.shape) (λ l. l) tt b

set_built : (f : Field) (q : Quantifier) (s : Slot) (G : Formula) (olds mids : List Part) (p : Part) → p.node ≡ node.Set q s (record { values = []; mark = 0 }) → joins_answer p.memo ≡ no_answers → Built f G olds mids → Built f (over_sets q s.number G) olds (p ∷ mids)
set_built f q s G olds mids p at m b =
    built_below f (node.Set q s (record { values = []; mark = 0 })) olds mids p at m (record { block = refl; cut = refl }) (over_sets q s.number G) G (count_sets q s.number G) (λ h. ind_sets q s.number G ∙ h)
    (ap (over_sets q s.number) b.shape) (λ l. (l, tt)) tt b

one_built : (f : Field) (q : Quantifier) (s : Slot) (G : Formula) (olds mids : List Part) (p : Part) → p.node ≡ node.One q s (record { values = []; mark = 0 }) → joins_answer p.memo ≡ no_answers → Built f G olds mids → Built f (over_elements q s.number G) olds (p ∷ mids)
one_built f q s G olds mids p at m b =
    built_below f (node.One q s (record { values = []; mark = 0 })) olds mids p at m (record { block = refl; cut = refl }) (over_elements q s.number G) G (count_elements q s.number G) (λ h. ind_elements q s.number G ∙ h)
    (ap (over_elements q s.number) b.shape) (λ l. (l, tt)) tt b

-- a quantifier over sets or over elements
abbrev pub quantified : Quantifier → Bool → ℕ → Formula → Formula
quantified q true k G = over_sets q k G
quantified q false k G = over_elements q k G

quantifier_built : (f : Field) (q : Quantifier) (sets : Bool) (k : ℕ) (n : Node) (G : Formula) (olds mids : List Part) (p : Part) → IsNewQuantifier q sets k n → p.node ≡ n → joins_answer p.memo ≡ no_answers → Built f G olds mids → Built f (quantified q sets k G) olds (p ∷ mids)
quantifier_built f q true k (node.Set r s t) G olds mids p new at m b =
    subst (λ j. Built f (over_sets q j G) olds (p ∷ mids)) new.1 (set_built f q s G olds mids p (at ∙ (λ i. node.Set (new.0 i) s (new.2 i))) m b)
quantifier_built f q false k (node.One r s t) G olds mids p new at m b =
    subst (λ j. Built f (over_elements q j G) olds (p ∷ mids)) new.1 (one_built f q s G olds mids p (at ∙ (λ i. node.One (new.0 i) s (new.2 i))) m b)
quantifier_built f q true k (node.Atom a) G olds mids p new at m b = absurd new
quantifier_built f q true k node.Not G olds mids p new at m b = absurd new
quantifier_built f q true k (node.Pair o t skip) G olds mids p new at m b = absurd new
quantifier_built f q true k (node.One r s t) G olds mids p new at m b = absurd new
quantifier_built f q false k (node.Atom a) G olds mids p new at m b = absurd new
quantifier_built f q false k node.Not G olds mids p new at m b = absurd new
quantifier_built f q false k (node.Pair o t skip) G olds mids p new at m b = absurd new
quantifier_built f q false k (node.Set r s t) G olds mids p new at m b = absurd new

pub or_left : (a b : Bool) → a ≡ true → (a || b) ≡ true
or_left true b e = refl
or_left false b e = let no : false ≡ true = e in cc

pub or_right : (a b : Bool) → b ≡ true → (a || b) ≡ true
or_right true b e = refl
or_right false b e = e

pair_built : (f : Field) (o : Named) (skip : ℕ) (G H : Formula) (olds lows mids : List Part) (p : Part) → skip ≡ length (nodes G) → p.node ≡ node.Pair o (record { values = []; mark = 0 }) skip → joins_answer p.memo ≡ no_answers
    → Built f H olds lows → Built f G lows mids → Built f (Bin (connective o) G H) olds (p ∷ mids)
pair_built f o skip G H olds lows mids p e at m low mid =
    built_on f (node.Pair o (record { values = []; mark = 0 }) skip) olds mids p at m (record { block = refl; cut = refl }) F k refl shape behind long (λ z. mid.new (low.new z)) (λ s. mid.sound (low.sound s)) keys tt over
  where
    F : Formula
    F = Bin (connective o) G H

    k : ℕ
    k = length (nodes G ++ nodes H)

    sum : k ≡ length (nodes G) + length (nodes H)
    sum = length-append (nodes G) (nodes H)

    first : head_shape (shapes mids) ≡ G
    first = mid.shape

    second : head_shape (drop skip (shapes mids)) ≡ H
    second = ap (λ z. head_shape (drop z (shapes mids))) e ∙ ap head_shape (shapes-drop (length (nodes G)) mids) ∙ ap (λ z. head_shape (shapes z)) mid.behind ∙ low.shape
      where
        shapes-drop : (j : ℕ) (ps : List Part) → drop j (shapes ps) ≡ shapes (drop j ps)
        shapes-drop zero ps = refl
        shapes-drop (suc j) [] = refl
        shapes-drop (suc j) (x ∷ ps) = shapes-drop j ps

    shape : Bin (connective o) (head_shape (shapes mids)) (head_shape (drop skip (shapes mids))) ≡ F
    shape = λ i. Bin (connective o) (first i) (second i)

    behind : drop k mids ≡ olds
    behind = ap (λ z. drop z mids) sum ∙ sym (drop-drop (length (nodes H)) (length (nodes G)) mids) ∙ ap (drop (length (nodes H))) mid.behind ∙ low.behind

    long : length mids ≡ k + length olds
    long = omega (arith, sum, mid.long, low.long)

    head_is : head_formula (views (blocks_of [] mids)) ≡ plain G
    head_is = sym (plain_list [] mids) ∙ ap plain mid.shape

    keys : Keys (node_block (node.Pair o (record { values = []; mark = 0 }) skip) nothing) (views (blocks_of [] mids))
    keys = (omega (arith, e, long, sum, long_views mids, nodes_some H), e ∙ sym (ap (λ z. length (nodes z)) head_is ∙ plain_count G), tt)

    over : AllFit (IsPartOf F f) (take k (views (blocks_of [] mids)))
    over =
        fit_two (IsPartOf F f) (length (nodes G)) (length (nodes H)) k (views (blocks_of [] mids)) sum
        (more_parts F G f (take (length (nodes G)) (views (blocks_of [] mids))) (or_left (has_ind G) (has_ind H)) mid.over)
        (subst (λ vs. AllFit (IsPartOf F f) (take (length (nodes H)) vs)) (sym (views_behind (length (nodes G)) mids lows mid.behind))
        (more_parts F H f (take (length (nodes H)) (views (blocks_of [] lows))) (or_right (has_ind G) (has_ind H)) low.over))

-- ---- what is put last stands first from the back

turned : (olds news : List Part) (p : Part) → news ≡ olds ++ p ∷ [] → reverse news ≡ p ∷ reverse olds
turned olds news p e = ap reverse e ∙ reverse-append olds (p ∷ [])

after_ok : {A B : Type 0} {E : Type 0} {X : Type 0} (r : Result X E) → (A → B) → OnOk r A → OnOk r B
after_ok (Ok x) g h = g h
after_ok (Err e) g h = tt

module _ {X E : Type 0} (f : Field) (olds mids news : List Part) (r : Result X E) where
  put_on : (n : Node) (F : Formula) (below : List Part) → ((p : Part) → p.node ≡ n → joins_answer p.memo ≡ no_answers → Built f F below (p ∷ reverse mids)) → OnOk r (Pushes n mids news) → OnOk r (Built f F below (reverse news))
  put_on n F below g h = after_ok r (λ (z : Pushes n mids news). subst (Built f F below) (sym (turned mids news z.part z.last)) (g z.part z.node z.memo)) h

  pub push_not : (G : Formula) → Built f G (reverse olds) (reverse mids) → OnOk r (Pushes node.Not mids news) → OnOk r (Built f (Not G) (reverse olds) (reverse news))
  push_not G b h = put_on node.Not (Not G) (reverse olds) (λ p at m. not_built f G (reverse olds) (reverse mids) p at m b) h

  pub push_quantifier : (q : Quantifier) (sets : Bool) (k : ℕ) (n : Node) (G : Formula) → IsNewQuantifier q sets k n → Built f G (reverse olds) (reverse mids) → OnOk r (Pushes n mids news) → OnOk r (Built f (quantified q sets k G) (reverse olds) (reverse news))
  push_quantifier q sets k n G new b h = put_on n (quantified q sets k G) (reverse olds) (λ p at m. quantifier_built f q sets k n G (reverse olds) (reverse mids) p new at m b) h

pub push_atom_node : {X E : Type 0} (f : Field) (olds news : List Part) (r : Result X E) (a : Atom) → IsNewAtom f a → OnOk r (Pushes (node.Atom a) olds news) → OnOk r (Built f (atom_shape a) (reverse olds) (reverse news))
push_atom_node f olds news r a new h = put_on f olds olds news r (node.Atom a) (atom_shape a) (reverse olds) (λ p at m. atom_built f a (reverse olds) p at m new) h

pub push_pair : {X E : Type 0} (f : Field) (olds lows mids news : List Part) (r : Result X E) (o : Named) (t : Pairs) (skip : ℕ) (G H : Formula) → skip ≡ length (nodes G) → t ≡ record { values = []; mark = 0 }
    → Built f H (reverse olds) (reverse lows) → Built f G (reverse lows) (reverse mids) → OnOk r (Pushes (node.Pair o t skip) mids news) → OnOk r (Built f (Bin (connective o) G H) (reverse olds) (reverse news))
push_pair f olds lows mids news r o t skip G H e new low mid h =
    put_on f olds mids news r (node.Pair o t skip) (Bin (connective o) G H) (reverse olds) (λ p at m. pair_built f o skip G H (reverse olds) (reverse lows) (reverse mids) p e (at ∙ ap (λ z. node.Pair o z skip) new) m low mid) h

pub some_is : (sets : Bool) (k : ℕ) (G : Formula) → quantified Ex sets k G ≡ (if sets then ExSet k G else ExElem k G)
some_is true k G = refl
some_is false k G = refl

pub each_is : (sets : Bool) (k : ℕ) (G : Formula) → quantified All sets k G ≡ (if sets then AllSet k G else AllElem k G)
each_is true k G = refl
each_is false k G = refl

-- ---- the nodes of a formula with variables

count_if : (s : Bool) (G H : Formula) (n : ℕ) → length (nodes G) ≡ n → length (nodes H) ≡ n → length (nodes (if s then G else H)) ≡ n
count_if true G H n g h = g
count_if false G H n g h = h

slotted_count : (bs : List (List ℕ)) (F : Syntax) → length (nodes (slotted bs F)) ≡ syntax_nodes F
slotted_count bs (syntax.Const b) = refl
slotted_count bs (syntax.Ind t) = refl
slotted_count bs (syntax.Member x a) = refl
slotted_count bs (syntax.SameElem x y) = refl
slotted_count bs (syntax.Sub a b) = refl
slotted_count bs (syntax.SameSet a b) = refl
slotted_count bs (syntax.Not F) = omega (arith, slotted_count bs F)
slotted_count bs (syntax.Bin c F G) = omega (arith, slotted_count bs F, slotted_count bs G, length-append (nodes (slotted bs F)) (nodes (slotted bs G)))
slotted_count bs (syntax.Ex v F) = count_if (is_set v) (ExSet (length bs) (slotted (v ∷ bs) F)) (ExElem (length bs) (slotted (v ∷ bs) F)) (1 + syntax_nodes F) (omega (arith, slotted_count (v ∷ bs) F)) (omega (arith, slotted_count (v ∷ bs) F))
slotted_count bs (syntax.All v F) = count_if (is_set v) (AllSet (length bs) (slotted (v ∷ bs) F)) (AllElem (length bs) (slotted (v ∷ bs) F)) (1 + syntax_nodes F) (omega (arith, slotted_count (v ∷ bs) F)) (omega (arith, slotted_count (v ∷ bs) F))

pub short_front : (n : ℕ) (ps : List Part) → n ≤ 512 → length (take n ps) ≤ 512
short_front n ps l = omega (arith, l, length-take n ps)

pub built_size : (f : Field) (bs : List (List ℕ)) (F : Syntax) (ps : List Part) → syntax_nodes F ≤ 512 → Built f (slotted bs F) [] ps → length ps ≤ 512
built_size f bs F ps n b = omega (arith, n, b.long, slotted_count bs F)

-- ---- the parts of a whole formula

module _ (qs : Parts) (f : Field) (F : Formula) (o : qs.ops ≡ []) (size : length qs.list.items ≤ 512) (b : Built f F [] qs.list.items) where
  all_new : AreNew qs.list.items
  all_new = b.new (record { blocks = refl; cuts = refl })

  no_ops : blocks qs ≡ blocks_of [] qs.list.items
  no_ops = ap (λ z. blocks_of z qs.list.items) o

  no_ops_cut : cuts qs ≡ blocks_of [] qs.list.items
  no_ops_cut = ap (λ z. cuts_of z qs.list.items) o ∙ all_new.cuts

  built_held : IsHeld (blocks_of [] qs.list.items)
  built_held = held_of (blocks_of [] qs.list.items) (b.sound tt)

  built_long : length qs.list.items ≡ length (nodes (shape_in qs))
  built_long = omega (arith, b.long, ap (λ G. length (nodes G)) b.shape)

  pub built_machine : IsMachine qs f
  built_machine = record {
    some = omega (arith, built_long, nodes_some (shape_in qs));
    size = size;
    few = omega (arith, ap length o);
    held = subst IsHeld (sym no_ops) built_held;
    marked = subst IsHeld (sym no_ops_cut) built_held;
    whole = built_long;
    over = subst (λ G. AllFit (IsPartOf G f) (views (blocks qs))) (sym b.shape)
        (subst (λ bs. AllFit (IsPartOf F f) (views bs)) (sym no_ops)
        (subst (AllFit (IsPartOf F f)) (take_all (length (nodes F)) (views (blocks_of [] qs.list.items)) (omega (arith, b.long, long_views qs.list.items))) b.over));
  }

  built_none : lists (views (blocks_of [] qs.list.items)) ≡ no_values (shape_in qs)
  built_none = ap (λ bs. lists (views bs)) all_new.blocks ∙ no_lists (blocks_of [] qs.list.items) (nodes (shape_in qs)) (length-map qs.list.items (block_of []) ∙ built_long)

  pub built_lists : lists_in qs ≡ no_values (shape_in qs)
  built_lists = ap (λ bs. lists (views bs)) no_ops ∙ built_none

  pub built_marked : marked_in qs ≡ no_values (shape_in qs)
  built_marked = ap (λ bs. lists (views bs)) no_ops_cut ∙ built_none
