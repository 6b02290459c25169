-- The laws of rows.
use Rattle.std.proofs.Common.{◌≡◌, ◌<◌, ◌≤◌, ◌+◌, ◌*◌, ◌+ℤ◌, ℕ, zero, suc, ℤ, nat_abs, Bool, true, false, ◌||◌, if◌then◌else◌, int_lt, List, [], ◌∷◌, ◌++◌, map, length, get_or, Option, Some, None, refl, sym, ap, ◌∙◌, subst, arith, length-append}
use Rattle.std.specs.List.{list_any}
use Rattle.std.proofs.lemmas.Int.{ints}
use Rattle.std.proofs.lemmas.List.{length-map}
use Rattle.std.proofs.lemmas.List.Elements.{All-head}
use Rattle.mm_field.specs.declared.Field.{Field}
use Rattle.mm_logic.specs.Formula.{Formula}
use Rattle.mm_logic.specs.Operator.{Op}
use Rattle.mm_logic.specs.Value.{Value}
use Rattle.mm_logic.specs.Value.Value.{Dead}
use Rattle.mm_logic.specs.Marks.{mark, no_marks}
use Rattle.mm_logic.specs.Occurrence.{same, distinct}
use Rattle.mm_logic.specs.StateSize.{asked}
use Rattle.mm_logic.specs.StateSize.Query.{Least}
use Rattle.mm_logic.specs.Growth.{root, type_at, AllBegin}
use Rattle.mm_logic.specs.JoinRule.{join_type, all_pairs}
use Rattle.mm_logic.specs.PossibleValues.{IsValueOf}
use Rattle.mm_logic.proofs.GrowthLemmas.{type_at-begins, within-begins}
use Rattle.mm_logic_laws.specs.ValueLaws.{types_by_rules}
use Rattle.mm_logic_laws.proofs.PossibleValueLemmas.{rules_keep_values}
use Rattle.mm_states.specs.Lists.{AllFit}
use Rattle.mm_tree.specs.NamedTree.{Tree, shape, boundary, leaf_names, weights}
use Rattle.mm_tree.specs.NamedTree.Tree.{Elem, Void, Join}
use Rattle.mm_tree.specs.ValidTree.{IsValidTree, most_leaves, most_weight}
use Rattle.mm_tree.proofs.TreeLemmas.{valid_left, valid_right, shape_boundary}
use Rattle.mm_nodes.specs.KeptTrees.{KeptTree, top, StandsFor}
use Rattle.mm_nodes.specs.KeptTrees.KeptTree.{One, Two}
use Rattle.mm_nodes.specs.Demands.{Frame, HasTypes, IsWithin}
use Rattle.mm_least.specs.declared.row.Row.{Row}
use Rattle.mm_least.specs.declared.row.Origin.{Origin}
use Rattle.mm_least.specs.Transitions.{TransitionValue, AreIn, ArePlaces, named, IsKnown}
use Rattle.mm_least.specs.NodeRowsValue.{NodeValue}
use Rattle.mm_least.specs.Rows.{shown}
use Rattle.mm_least.specs.Candidates.{Candidate, candidate, put, put_all, types_of, held, typed, leaf_candidates, pairs_with, pairs_of}
use Rattle.mm_least.specs.BestLaws.{Different, best-members, best-count}
use Rattle.mm_least.specs.Passes.{AreWithin, AreOperands, AreLight, most_sum}
use Rattle.mm_least.specs.EmptySets.{ComesFromBoth}
use Rattle.mm_least.specs.RowCalls.{IsLeafRows, IsJoinRows, CanBeJoined, KnowsJoins, row_types}

pub asks : (F : Formula) → asked (Least F) ≡ F
asks F = refl

-- ---- types

one_or : (a b c : Bool) → (a ≡ true → c ≡ true) → (b ≡ true → c ≡ true) → (a || b) ≡ true → c ≡ true
one_or true b c f g e = f refl
one_or false b c f g e = g e

or_here : (a b : Bool) → a ≡ true → (a || b) ≡ true
or_here a b e = ap (λ (x : Bool). x || b) e

pub or_later : (a b : Bool) → b ≡ true → (a || b) ≡ true
or_later true b e = refl
or_later false b e = e

passes_there : (vs : List Value) (id : ℕ) (d : Value) → id < length vs → (p : Value → Bool) → p (get_or vs id d) ≡ true → list_any p vs ≡ true
passes_there [] id d l p e = absurd (omega (arith, l))
passes_there (v ∷ vs) zero d l p e = or_here (p v) _ e
passes_there (v ∷ vs) (suc id) d l p e = or_later (p v) _ (passes_there vs id d (omega (arith, l)) p e)

pub types_within : (F : Formula) (lists : List (List Value)) (rows : List Row) → AreWithin F lists (shown rows) → IsWithin (types_of (held F lists rows)) (root F lists)
types_within F lists [] h p e = cc
types_within F lists (r ∷ rows) h p e =
    one_or (p (type_at F lists r.id)) _ _ (passes_there (root F lists) r.id Dead h.0 p) (types_within F lists rows h.1 p) e

-- rows that are the best of candidates have their types
best_has : (F : Formula) (lists : List (List Value)) (rows : List Row) (cs : List (Candidate Origin)) (vs : List Value) → types_of cs ≡ vs → AreWithin F lists (shown rows) → held F lists rows ≡ put_all cs []
    → HasTypes F lists (types_of (held F lists rows)) (length rows) vs
best_has F lists rows cs vs t w b = record {
  types = λ p. ap (λ ds. list_any p (types_of ds)) b ∙ best-members cs p ∙ ap (list_any p) t;
  counted = sym (length-map rows (λ r. candidate (type_at F lists r.id) r.weight r.origin)) ∙ ap length b ∙ best-count cs ∙ ap (λ us. length (distinct us)) t;
  kept = types_within F lists rows w;
}

with-types : (F : Formula) (lists : List (List Value)) (j : Value → Value → Value) (v : Value) (w : ℤ) (i n : ℕ) (rows : List Row) → types_of (pairs_with j (v, w) i (typed F lists (shown rows)) n) ≡ map (j v) (types_of (held F lists rows))
with-types F lists j v w i n [] = refl
with-types F lists j v w i n (r ∷ rows) = ap (λ us. j v (type_at F lists r.id) ∷ us) (with-types F lists j v w i (suc n) rows)

types-both : (cs ds : List (Candidate Origin)) → types_of (cs ++ ds) ≡ types_of cs ++ types_of ds
types-both [] ds = refl
types-both (c ∷ cs) ds = ap (λ us. c.type ∷ us) (types-both cs ds)

-- the types of all pairs
pub of-types : (F : Formula) (lists : List (List Value)) (j : Value → Value → Value) (rs bs : List Row) (n : ℕ)
    → types_of (pairs_of j (typed F lists (shown rs)) n (typed F lists (shown bs))) ≡ all_pairs j (types_of (held F lists rs)) (types_of (held F lists bs))
of-types F lists j [] bs n = refl
of-types F lists j (a ∷ rs) bs n =
    types-both (pairs_with j (type_at F lists a.id, a.weight) n (typed F lists (shown bs)) 0) (pairs_of j (typed F lists (shown rs)) (suc n) (typed F lists (shown bs)))
    ∙ (λ i. with-types F lists j (type_at F lists a.id) a.weight n 0 bs i ++ of-types F lists j rs bs (suc n) i)

pub leaf_has : (fr : Frame) (T : Tree) (n : NodeValue) → IsLeafRows fr T n → HasTypes fr.F fr.lists (row_types fr n) (length n.rows) (types_by_rules fr.f (Least fr.F) (shape T))
unfolding shape
leaf_has fr (Elem name vec weight) n h = best_has fr.F fr.lists n.rows (leaf_candidates fr.f fr.F (Elem name vec weight)) _ refl h.within h.rows
leaf_has fr (Void name t) n h = best_has fr.F fr.lists n.rows (leaf_candidates fr.f fr.F (Void name t)) _ refl h.within h.rows
leaf_has fr (Join name op l r) n h = absurd h.leaf

pub join_has : (fr : Frame) (op : Op) (a b n : NodeValue) → IsJoinRows fr op a b n
    → HasTypes fr.F fr.lists (row_types fr n) (length n.rows) (all_pairs (join_type fr.f fr.F op) (row_types fr a) (row_types fr b))
join_has fr op a b n h =
    best_has fr.F fr.lists n.rows (pairs_of (join_type fr.f fr.F op) (typed fr.F fr.lists (shown a.rows)) 0 (typed fr.F fr.lists (shown b.rows))) _
    (of-types fr.F fr.lists (join_type fr.f fr.F op) a.rows b.rows 0) h.within h.rows

-- ---- where the lists grow

pub held-stays : (F : Formula) (olds nows : List (List Value)) (rows : List Row) → AllBegin olds nows → AreWithin F olds (shown rows) → held F nows rows ≡ held F olds rows
held-stays F olds nows [] b h = refl
held-stays F olds nows (r ∷ rows) b h = (λ i. candidate (type_at-begins F olds nows r.id b h.0 i) r.weight r.origin ∷ held-stays F olds nows rows b h.1 i)

typed-stays : (F : Formula) (olds nows : List (List Value)) (ps : List (ℕ × ℤ)) → AllBegin olds nows → AreWithin F olds ps → typed F nows ps ≡ typed F olds ps
typed-stays F olds nows [] b h = refl
typed-stays F olds nows (p ∷ ps) b h = (λ i. (type_at-begins F olds nows p.0 b h.0 i, p.1) ∷ typed-stays F olds nows ps b h.1 i)

pub within-stays : (F : Formula) (olds nows : List (List Value)) (ps : List (ℕ × ℤ)) → AllBegin olds nows → AreWithin F olds ps → AreWithin F nows ps
within-stays F olds nows [] b h = tt
within-stays F olds nows (p ∷ ps) b h = (within-begins F olds nows p.0 b h.0, within-stays F olds nows ps b h.1)

pub leaf_stays : (fr : Frame) (lists : List (List Value)) (T : Tree) (n : NodeValue) → AllBegin fr.lists lists → IsLeafRows fr T n → IsLeafRows (record fr { lists = lists }) T n
leaf_stays fr lists T n b h = record {
  leaf = h.leaf;
  name = h.name;
  within = within-stays fr.F fr.lists lists (shown n.rows) b h.within;
  rows = held-stays fr.F fr.lists lists n.rows b h.within ∙ h.rows;
  nothing = h.nothing;
}

pub ids-within : (F : Formula) (olds nows : List (List Value)) (ids : List ℕ) → AllBegin olds nows → AreIn F olds ids → AreIn F nows ids
ids-within F olds nows [] b h = tt
ids-within F olds nows (id ∷ ids) b h = (within-begins F olds nows id b h.0, ids-within F olds nows ids b h.1)

pub ids-stay : (F : Formula) (olds nows : List (List Value)) (ids : List ℕ) → AllBegin olds nows → AreIn F olds ids → map (type_at F nows) ids ≡ map (type_at F olds) ids
ids-stay F olds nows [] b h = refl
ids-stay F olds nows (id ∷ ids) b h = (λ i. type_at-begins F olds nows id b h.0 i ∷ ids-stay F olds nows ids b h.1 i)

id_within : (F : Formula) (lists : List (List Value)) (ids : List ℕ) (p : ℕ) → AreIn F lists ids → p < length ids → get_or ids p 0 < length (root F lists)
id_within F lists [] p h l = absurd (omega (arith, l))
id_within F lists (id ∷ ids) zero h l = h.0
id_within F lists (id ∷ ids) (suc p) h l = id_within F lists ids p h.1 (omega (arith, l))

named_within : (F : Formula) (lists : List (List Value)) (ids places : List ℕ) → AreIn F lists ids → ArePlaces ids places → AreIn F lists (named ids places)
named_within F lists ids [] h k = tt
named_within F lists ids (p ∷ places) h k = (id_within F lists ids p h k.0, named_within F lists ids places h k.1)

known_stays : (fr : Frame) (lists : List (List Value)) (op : Op) (known : Option TransitionValue) → AllBegin fr.lists lists → IsKnown fr op known → IsKnown (record fr { lists = lists }) op known
known_stays fr lists op None b h = tt
known_stays fr lists op (Some t) b h = record {
  left_within = ids-within fr.F fr.lists lists t.left b h.left_within;
  right_within = ids-within fr.F fr.lists lists t.right b h.right_within;
  within = ids-within fr.F fr.lists lists t.ids b h.within;
  different = subst Different (sym (ids-stay fr.F fr.lists lists t.ids b h.within)) h.different;
  placed = h.placed;
  tells =
      ids-stay fr.F fr.lists lists (named t.ids t.table) b (named_within fr.F fr.lists t.ids t.table h.within h.placed) ∙ h.tells
      ∙ (λ i. all_pairs (join_type fr.f fr.F op) (sym (ids-stay fr.F fr.lists lists t.left b h.left_within) i) (sym (ids-stay fr.F fr.lists lists t.right b h.right_within) i));
}

pub join_stays : (fr : Frame) (lists : List (List Value)) (op : Op) (a b n : NodeValue) → AllBegin fr.lists lists → IsJoinRows fr op a b n → IsJoinRows (record fr { lists = lists }) op a b n
join_stays fr lists op a b n g h = record {
  left_within = within-stays fr.F fr.lists lists (shown a.rows) g h.left_within;
  right_within = within-stays fr.F fr.lists lists (shown b.rows) g h.right_within;
  within = within-stays fr.F fr.lists lists (shown n.rows) g h.within;
  rows =
      held-stays fr.F fr.lists lists n.rows g h.within ∙ h.rows
      ∙ (λ i. put_all (pairs_of (join_type fr.f fr.F op) (sym (typed-stays fr.F fr.lists lists (shown a.rows) g h.left_within) i) 0 (sym (typed-stays fr.F fr.lists lists (shown b.rows) g h.right_within) i)) []);
  known = known_stays fr lists op n.known g h.known;
  nothing = h.nothing;
}

-- a parent can tell no more of rows than what they show, and whether the set of one is empty
abbrev pub ShowSame : NodeValue → NodeValue → Type 0
ShowSame a b = (shown a.rows ≡ shown b.rows) × (a.nothing ≡ b.nothing)

pub same_left : (fr : Frame) (op : Op) (a b c n : NodeValue) → ShowSame b a → IsJoinRows fr op a c n → IsJoinRows fr op b c n
same_left fr op a b c n e h = record {
  left_within = subst (AreWithin fr.F fr.lists) (sym e.0) h.left_within;
  right_within = h.right_within;
  within = h.within;
  rows = h.rows ∙ ap (λ ps. put_all (pairs_of (join_type fr.f fr.F op) (typed fr.F fr.lists ps) 0 (typed fr.F fr.lists (shown c.rows))) []) (sym e.0);
  known = h.known;
  nothing = subst (λ o. ComesFromBoth o c.nothing n.rows n.nothing) (sym e.1) h.nothing;
}

pub same_right : (fr : Frame) (op : Op) (a b c n : NodeValue) → ShowSame c b → IsJoinRows fr op a b n → IsJoinRows fr op a c n
same_right fr op a b c n e h = record {
  left_within = h.left_within;
  right_within = subst (AreWithin fr.F fr.lists) (sym e.0) h.right_within;
  within = h.within;
  rows = h.rows ∙ ap (λ ps. put_all (pairs_of (join_type fr.f fr.F op) (typed fr.F fr.lists (shown a.rows)) 0 (typed fr.F fr.lists ps)) []) (sym e.0);
  known = h.known;
  nothing = subst (λ o. ComesFromBoth a.nothing o n.rows n.nothing) (sym e.1) h.nothing;
}

pub same_itself : (a : NodeValue) → ShowSame a a
same_itself a = (refl, refl)

-- what is known of joins
pub knows_join : (fr : Frame) (op : Op) (a b n : NodeValue) → IsJoinRows fr op a b n → KnowsJoins fr op n
knows_join fr op a b n h = h.known

pub knows_stays : (fr : Frame) (lists : List (List Value)) (op : Op) (n : NodeValue) → AllBegin fr.lists lists → KnowsJoins fr op n → KnowsJoins (record fr { lists = lists }) op n
knows_stays fr lists op n g h = known_stays fr lists op n.known g h

-- ---- what can be joined

pub append_fits : {K : Type 0} (P : K → Type 0) (ks js : List K) → AllFit P ks → AllFit P js → AllFit P (ks ++ js)
append_fits P [] js h l = l
append_fits P (k ∷ ks) js h l = (h.0, append_fits P ks js h.1 l)

module _ {From : Type 0} (P : Candidate From → Type 0) where
  put_fits : (c : Candidate From) (ds : List (Candidate From)) → P c → AllFit P ds → AllFit P (put c ds)
  put_fits c [] p h = (p, tt)
  put_fits c (d ∷ ds) p h = by (same d.type c.type) (int_lt c.weight d.weight) (put_fits c ds p h.1)
    where
      by : (b less : Bool) → AllFit P (put c ds) → AllFit P (if b then (if less then ds ++ c ∷ [] else d ∷ ds) else d ∷ put c ds)
      by true true rest = append_fits P ds (c ∷ []) h.1 (p, tt)
      by true false rest = h
      by false less rest = (h.0, rest)

  pub put_all_fits : (cs ds : List (Candidate From)) → AllFit P cs → AllFit P ds → AllFit P (put_all cs ds)
  put_all_fits [] ds h k = k
  put_all_fits (c ∷ cs) ds h k = put_all_fits cs (put c ds) h.1 (put_fits c ds h.0 k)

module _ (P Q R : Value → ℤ → Type 0) (j : Value → Value → Value) (both : (v w : Value) (x y : ℤ) → P v x → Q w y → R (j v w) (x +ℤ y)) where
  with_fits : (p : Value × ℤ) (i : ℕ) (qs : List (Value × ℤ)) (n : ℕ) → P p.0 p.1 → AllFit (λ q. Q q.0 q.1) qs → AllFit (λ (c : Candidate Origin). R c.type c.weight) (pairs_with j p i qs n)
  with_fits p i [] n h k = tt
  with_fits p i (q ∷ qs) n h k = (both p.0 q.0 p.1 q.1 h k.0, with_fits p i qs (suc n) h k.1)

  of_fits : (ps qs : List (Value × ℤ)) (n : ℕ) → AllFit (λ p. P p.0 p.1) ps → AllFit (λ q. Q q.0 q.1) qs → AllFit (λ (c : Candidate Origin). R c.type c.weight) (pairs_of j ps n qs)
  of_fits [] qs n h k = tt
  of_fits (p ∷ ps) qs n h k = append_fits (λ (c : Candidate Origin). R c.type c.weight) (pairs_with j p n qs 0) (pairs_of j ps (suc n) qs) (with_fits p n qs 0 h.0 k) (of_fits ps qs (suc n) h.1 k)

typed_fits : (P : Value → ℤ → Type 0) (F : Formula) (lists : List (List Value)) (rows : List Row) → AllFit (λ (c : Candidate Origin). P c.type c.weight) (held F lists rows)
    → AllFit (λ p. P p.0 p.1) (typed F lists (shown rows))
typed_fits P F lists [] h = tt
typed_fits P F lists (r ∷ rows) h = (h.0, typed_fits P F lists rows h.1)

-- a type that can be joined, with a weight of so many elements
abbrev IsSum : Field → Formula → ℕ → ℕ → Value → ℤ → Type 0
IsSum f F t n v w = IsValueOf f t F v × (nat_abs w ≤ n * most_weight)

sum_of_two : (n m : ℕ) (x y : ℤ) → nat_abs x ≤ n * most_weight → nat_abs y ≤ m * most_weight → nat_abs (x +ℤ y) ≤ (n + m) * most_weight
sum_of_two n m x y h k = omega (arith, ints, h, k)

sums : (fr : Frame) (T : Tree) (R : KeptTree NodeValue) → IsValidTree fr.f T → StandsFor (IsLeafRows fr) (IsJoinRows fr) T R
    → AllFit (λ (c : Candidate Origin). IsSum fr.f fr.F (boundary T) (length (leaf_names T)) c.type c.weight) (held fr.F fr.lists (top R).rows)
unfolding shape boundary leaf_names weights
sums fr (Elem name vec weight) (One n) v s =
    let P : Candidate Origin → Type 0 = λ c. IsSum fr.f fr.F (length vec) 1 c.type c.weight in
    let kept = (rules_keep_values fr.f fr.F).0 vec in
    let light = All-head (λ w. nat_abs w ≤ most_weight) weight [] v.light in
    subst (AllFit P) (sym s.rows)
    (put_all_fits P (leaf_candidates fr.f fr.F (Elem name vec weight)) [] ((kept (mark 0 false no_marks), omega (arith, ints)), ((kept (mark 0 true no_marks), omega (arith, light)), tt)) tt)
sums fr (Void name t) (One n) v s =
    let P : Candidate Origin → Type 0 = λ c. IsSum fr.f fr.F t 1 c.type c.weight in
    subst (AllFit P) (sym s.rows) (put_all_fits P (leaf_candidates fr.f fr.F (Void name t)) [] (((rules_keep_values fr.f fr.F).1 t, omega (arith, ints)), tt) tt)
sums fr (Join name op l r) (Two n a b) v s =
    let P : Candidate Origin → Type 0 = λ c. IsSum fr.f fr.F op.t3 (length (leaf_names l ++ leaf_names r)) c.type c.weight in
    let left = sums fr l a (valid_left fr.f name op l r v) s.1 in
    let right = sums fr r b (valid_right fr.f name op l r v) s.2 in
    let one = sym (shape_boundary l) ∙ v.valid_shape.1 in
    let two = sym (shape_boundary r) ∙ v.valid_shape.2 in
    let many = length-append (leaf_names l) (leaf_names r) in
    subst (AllFit P) (sym s.0.rows)
    (put_all_fits P (pairs_of (join_type fr.f fr.F op) (typed fr.F fr.lists (shown (top a).rows)) 0 (typed fr.F fr.lists (shown (top b).rows))) []
    (of_fits (IsSum fr.f fr.F (boundary l) (length (leaf_names l))) (IsSum fr.f fr.F (boundary r) (length (leaf_names r))) (IsSum fr.f fr.F op.t3 (length (leaf_names l ++ leaf_names r))) (join_type fr.f fr.F op)
    (λ x y w z h k. (
      (rules_keep_values fr.f fr.F).2 op x y (subst (λ t. IsValueOf fr.f t fr.F x) one h.0) (subst (λ t. IsValueOf fr.f t fr.F y) two k.0),
      subst (λ m. nat_abs (w +ℤ z) ≤ m * most_weight) (sym many) (sum_of_two (length (leaf_names l)) (length (leaf_names r)) w z h.1 k.1),
    ))
    (typed fr.F fr.lists (shown (top a).rows)) (typed fr.F fr.lists (shown (top b).rows)) 0
    (typed_fits (IsSum fr.f fr.F (boundary l) (length (leaf_names l))) fr.F fr.lists (top a).rows left)
    (typed_fits (IsSum fr.f fr.F (boundary r) (length (leaf_names r))) fr.F fr.lists (top b).rows right)) tt)
sums fr (Elem name vec weight) (Two n a b) v s = absurd s
sums fr (Void name t) (Two n a b) v s = absurd s
sums fr (Join name op l r) (One n) v s = absurd s

to_operands : (F : Formula) (f : Field) (t n : ℕ) (lists : List (List Value)) (rows : List Row) → AreWithin F lists (shown rows)
    → AllFit (λ (c : Candidate Origin). IsSum f F t n c.type c.weight) (held F lists rows) → AreOperands F f t lists (shown rows)
to_operands F f t n lists [] w h = tt
to_operands F f t n lists (r ∷ rows) w h = (record { within = w.0; value = h.0.0 }, to_operands F f t n lists rows w.1 h.1)

bounded : (n x : ℕ) → n ≤ most_leaves → x ≤ n * most_weight → x ≤ most_sum
bounded n x h k = omega (arith, h, k)

to_light : (F : Formula) (f : Field) (t n : ℕ) (lists : List (List Value)) (rows : List Row) → n ≤ most_leaves
    → AllFit (λ (c : Candidate Origin). IsSum f F t n c.type c.weight) (held F lists rows) → AreLight (shown rows)
to_light F f t n lists [] few h = tt
to_light F f t n lists (r ∷ rows) few h = (bounded n (nat_abs r.weight) few h.0.1, to_light F f t n lists rows few h.1)

pub top_within : (fr : Frame) (T : Tree) (R : KeptTree NodeValue) → StandsFor (IsLeafRows fr) (IsJoinRows fr) T R → AreWithin fr.F fr.lists (shown (top R).rows)
top_within fr (Elem name vec weight) (One n) s = s.within
top_within fr (Void name t) (One n) s = s.within
top_within fr (Join name op l r) (Two n a b) s = s.0.within
top_within fr (Elem name vec weight) (Two n a b) s = absurd s
top_within fr (Void name t) (Two n a b) s = absurd s
top_within fr (Join name op l r) (One n) s = absurd s

pub fits : (fr : Frame) (T : Tree) (R : KeptTree NodeValue) → IsValidTree fr.f T → StandsFor (IsLeafRows fr) (IsJoinRows fr) T R → CanBeJoined fr (boundary T) (top R)
fits fr T R v s = record {
  operands = to_operands fr.F fr.f (boundary T) (length (leaf_names T)) fr.lists (top R).rows (top_within fr T R s) (sums fr T R v s);
  light = to_light fr.F fr.f (boundary T) (length (leaf_names T)) fr.lists (top R).rows v.few (sums fr T R v s);
}
