-- The minor formula is well sorted, has no free variable and is within the limits.
use Rattle.std.proofs.Common.{◌≡◌, ℕ, zero, suc, ◌+◌, ◌-◌, ◌*◌, ◌^◌, ◌<◌, ◌≤◌, Bool, true, false, max, All, List, [], ◌∷◌, ◌++◌, length, refl, ap, ap₂, ◌∙◌, arith}
use Rattle.std.specs.Prelude.{not, if◌then◌else◌, nat_lt, None, slice_get}
use Rattle.std.specs.List.{items_where_true}
use Rattle.std.proofs.lemmas.Bool.{le-ltb, and_from}
use Rattle.std.proofs.lemmas.List.{length-append}
use Rattle.std.proofs.lemmas.List.Elements.{All-head, All-tail, All-append, All-weaker}
use Rattle.std.proofs.lemmas.List.FromFn.{length-map-range_with_len}
use Rattle.mm_matrix.specs.MatrixValue.{MatrixValue}
use Rattle.mm_formula.specs.Repeats.{has}
use Rattle.mm_formula.specs.Syntax.{Syntax, nodes, is_well_sorted}
use Rattle.mm_formula.specs.Syntax.Syntax.{Member, SameElem, Not, Bin}
use Rattle.mm_formula.specs.Scope.{without, unbound, depth, fault_of, scope_fault}
use Rattle.mm_formula.specs.declared.formula.Connective.TheVariants.{And}
use Rattle.mm_minor.specs.MinorFormula.{contracted, element, elements, subset, with_contracted, outside, different_from, different, asserted, has_independent, alike, all_alike, conjunction, with_some, conditions, minor_formula}
use Rattle.mm_minor.proofs.SlotLemmas.{under, all_binders, contracted_bound, element_bound}
use Rattle.mm_minor.proofs.SubsetLemmas.{All-chosen}
use Rattle.mm_minor.proofs.HoldsLemmas.{range_from_each, range_from_each_list}

-- a condition of the minor formula: sorted, bound, without quantifiers and of at most two nodes
record IsCondition (k : ℕ) (F : Syntax) : Type 0 where
  sorted : is_well_sorted F ≡ true
  bound : unbound (all_binders k) F ≡ []
  flat : depth F ≡ 0
  small : nodes F ≤ 2

without_bound : (binders vs : List (List ℕ)) → All (λ v. has v binders ≡ true) vs → without binders vs ≡ []
without_bound binders [] h = refl
without_bound binders (v ∷ vs) h =
    ap (λ (b : Bool). if not b then v ∷ without binders vs else without binders vs) (All-head (λ v. has v binders ≡ true) v vs h)
    ∙ without_bound binders vs (All-tail (λ v. has v binders ≡ true) v vs h)

two_bound : (binders : List (List ℕ)) (v w : List ℕ) → has v binders ≡ true → has w binders ≡ true → without binders (v ∷ w ∷ []) ≡ []
two_bound binders v w p q =
    ap (λ (b : Bool). if not b then v ∷ without binders (w ∷ []) else without binders (w ∷ [])) p
    ∙ ap (λ (b : Bool). if not b then w ∷ [] else []) q

outside_condition : (k i : ℕ) → i < k → IsCondition k (Not (Member (element i) contracted))
outside_condition k i l = record {
  sorted = refl;
  bound = two_bound (all_binders k) (element i) contracted (element_bound k i l) (contracted_bound k);
  flat = refl;
  small = omega arith;
}

different_condition : (k i j : ℕ) → i < k → j < k → IsCondition k (Not (SameElem (element i) (element j)))
different_condition k i j l m = record {
  sorted = refl;
  bound = two_bound (all_binders k) (element i) (element j) (element_bound k i l) (element_bound k j m);
  flat = refl;
  small = omega arith;
}

with_contracted_bound : (k : ℕ) (I : List Bool) → unbound (all_binders k) (with_contracted k I) ≡ []
with_contracted_bound k I =
    let vs = items_where_true I (elements k) in
    let rest : without (all_binders k) vs ≡ [] =
    without_bound (all_binders k) vs
    (All-chosen (λ v. has v (all_binders k) ≡ true) I (elements k)
    (range_from_each (λ v. has v (all_binders k) ≡ true) element 0 k (λ i la l. element_bound k i (omega (arith, l))))) in
    ap (λ (b : Bool). if not b then contracted ∷ without (all_binders k) vs else without (all_binders k) vs) (contracted_bound k) ∙ rest

asserted_condition : (k : ℕ) (b : Bool) (I : List Bool) → IsCondition k (asserted b (with_contracted k I))
asserted_condition k true I = record { sorted = refl; bound = with_contracted_bound k I; flat = refl; small = omega arith }
asserted_condition k false I = record { sorted = refl; bound = with_contracted_bound k I; flat = refl; small = omega arith }

abbrev conditions_of : MatrixValue → List Syntax
conditions_of n = outside n.cols ++ different n.cols ++ all_alike n

all_conditions : (n : MatrixValue) → All (λ F. IsCondition n.cols F) (conditions_of n)
all_conditions n =
    let k = n.cols in
    let P : Syntax → Type 0 = λ F. IsCondition k F in
    All-append P (outside k ++ different k) (all_alike n)
    (All-append P (outside k) (different k)
    (range_from_each P (λ i. Not (Member (element i) contracted)) 0 k (λ i la l. outside_condition k i (omega (arith, l))))
    (range_from_each_list P (different_from k) 0 k
    (λ i la l. range_from_each P (λ j. Not (SameElem (element i) (element j))) (i + 1) (k - (i + 1))
    (λ j lj m. let lk : i < k = omega (arith, l) in different_condition k i j lk (omega (arith, lj, m, lk))))))
    (range_from_each P (alike n) 1 (2 ^ k - 1) (λ s ls l. asserted_condition k (has_independent n s) (subset k s)))

-- ---- conjunctions

conjunction_sorted : (F : Syntax) (Gs : List Syntax) → is_well_sorted F ≡ true → All (λ G. is_well_sorted G ≡ true) Gs → is_well_sorted (conjunction F Gs) ≡ true
conjunction_sorted F [] h g = h
conjunction_sorted F (G ∷ Gs) h g =
    conjunction_sorted (Bin And F G) Gs (and_from (is_well_sorted F) (is_well_sorted G) h (All-head (λ G. is_well_sorted G ≡ true) G Gs g))
    (All-tail (λ G. is_well_sorted G ≡ true) G Gs g)

conjunction_bound : (binders : List (List ℕ)) (F : Syntax) (Gs : List Syntax) → unbound binders F ≡ [] → All (λ G. unbound binders G ≡ []) Gs
    → unbound binders (conjunction F Gs) ≡ []
conjunction_bound binders F [] h g = h
conjunction_bound binders F (G ∷ Gs) h g =
    conjunction_bound binders (Bin And F G) Gs (ap₂ (λ xs ys. xs ++ ys) h (All-head (λ G. unbound binders G ≡ []) G Gs g))
    (All-tail (λ G. unbound binders G ≡ []) G Gs g)

conjunction_flat : (F : Syntax) (Gs : List Syntax) → depth F ≡ 0 → All (λ G. depth G ≡ 0) Gs → depth (conjunction F Gs) ≡ 0
conjunction_flat F [] h g = h
conjunction_flat F (G ∷ Gs) h g =
    conjunction_flat (Bin And F G) Gs (ap₂ (λ x y. max x y) h (All-head (λ G. depth G ≡ 0) G Gs g)) (All-tail (λ G. depth G ≡ 0) G Gs g)

conjunction_small : (F : Syntax) (Gs : List Syntax) → All (λ G. nodes G ≤ 2) Gs → nodes (conjunction F Gs) ≤ nodes F + 3 * length Gs
conjunction_small F [] g = omega arith
conjunction_small F (G ∷ Gs) g =
    let ih = conjunction_small (Bin And F G) Gs (All-tail (λ G. nodes G ≤ 2) G Gs g) in
    let one = All-head (λ G. nodes G ≤ 2) G Gs g in
    omega (arith, ih, one)

-- ---- quantifiers

some_sorted : (vs : List (List ℕ)) (F : Syntax) → is_well_sorted (with_some vs F) ≡ is_well_sorted F
some_sorted [] F = refl
some_sorted (v ∷ vs) F = some_sorted vs F

some_bound : (vs binders : List (List ℕ)) (F : Syntax) → unbound binders (with_some vs F) ≡ unbound (under vs binders) F
some_bound [] binders F = refl
some_bound (v ∷ vs) binders F = some_bound vs (v ∷ binders) F

some_depth : (vs : List (List ℕ)) (F : Syntax) → depth (with_some vs F) ≡ length vs + depth F
some_depth [] F = omega arith
some_depth (v ∷ vs) F = let ih = some_depth vs F in omega (arith, ih)

some_nodes : (vs : List (List ℕ)) (F : Syntax) → nodes (with_some vs F) ≡ length vs + nodes F
some_nodes [] F = omega arith
some_nodes (v ∷ vs) F = let ih = some_nodes vs F in omega (arith, ih)

-- ---- counts

few_pairs : (k : ℕ) → k ≤ 5 → length (different k) ≤ 10
few_pairs zero l = omega arith
few_pairs (suc zero) l = omega arith
few_pairs (suc (suc zero)) l = omega arith
few_pairs (suc (suc (suc zero))) l = omega arith
few_pairs (suc (suc (suc (suc zero)))) l = omega arith
few_pairs (suc (suc (suc (suc (suc zero))))) l = omega arith
few_pairs (suc (suc (suc (suc (suc (suc k)))))) l = absurd (omega (arith, l))

few_subsets : (k : ℕ) → k ≤ 5 → 2 ^ k ≤ 32
few_subsets zero l = omega arith
few_subsets (suc zero) l = omega arith
few_subsets (suc (suc zero)) l = omega arith
few_subsets (suc (suc (suc zero))) l = omega arith
few_subsets (suc (suc (suc (suc zero)))) l = omega arith
few_subsets (suc (suc (suc (suc (suc zero))))) l = omega arith
few_subsets (suc (suc (suc (suc (suc (suc k)))))) l = absurd (omega (arith, l))

few_conditions : (n : MatrixValue) → n.cols ≤ 5 → length (conditions_of n) ≤ 46
few_conditions n l =
    let k = n.cols in
    let a = length-append (outside k ++ different k) (all_alike n) in
    let b = length-append (outside k) (different k) in
    let c = length-map-range_with_len (λ (i : ℕ). Not (Member (element i) contracted)) 0 k in
    let d = length-map-range_with_len (alike n) 1 (2 ^ k - 1) in
    let e = few_pairs k l in
    let g = few_subsets k l in
    omega (arith, a, b, c, d, e, g, l)

-- ---- the formula

pub minor_formula_sorted : (n : MatrixValue) → is_well_sorted (minor_formula n) ≡ true
unfolding minor_formula
minor_formula_sorted n =
    let k = n.cols in
    some_sorted (contracted ∷ elements k) (conditions n)
    ∙ conjunction_sorted (with_contracted k []) (conditions_of n) refl
    (All-weaker (λ F. IsCondition k F) (λ F. is_well_sorted F ≡ true) (λ F c. c.sorted) (conditions_of n) (all_conditions n))

formula_bound : (n : MatrixValue) → unbound [] (minor_formula n) ≡ []
unfolding minor_formula
formula_bound n =
    let k = n.cols in
    some_bound (contracted ∷ elements k) [] (conditions n)
    ∙ conjunction_bound (all_binders k) (with_contracted k []) (conditions_of n) (with_contracted_bound k [])
    (All-weaker (λ F. IsCondition k F) (λ F. unbound (all_binders k) F ≡ []) (λ F c. c.bound) (conditions_of n) (all_conditions n))

formula_depth : (n : MatrixValue) → depth (minor_formula n) ≡ suc n.cols
unfolding minor_formula
formula_depth n =
    let k = n.cols in
    let flat = conjunction_flat (with_contracted k []) (conditions_of n) refl
    (All-weaker (λ F. IsCondition k F) (λ F. depth F ≡ 0) (λ F c. c.flat) (conditions_of n) (all_conditions n)) in
    let all = some_depth (contracted ∷ elements k) (conditions n) in
    let count = length-map-range_with_len element 0 k in
    omega (arith, flat, all, count)

formula_nodes : (n : MatrixValue) → n.cols ≤ 5 → nodes (minor_formula n) ≤ 145
unfolding minor_formula
formula_nodes n l =
    let k = n.cols in
    let small = conjunction_small (with_contracted k []) (conditions_of n)
    (All-weaker (λ F. IsCondition k F) (λ F. nodes F ≤ 2) (λ F c. c.small) (conditions_of n) (all_conditions n)) in
    let all = some_nodes (contracted ∷ elements k) (conditions n) in
    let count = length-map-range_with_len element 0 k in
    let few = few_conditions n l in
    omega (arith, small, all, count, few, l)

no_fault : (vs : List (List ℕ)) (deep large : Bool) → vs ≡ [] → deep ≡ false → large ≡ false → fault_of (slice_get vs 0) deep large ≡ None
no_fault [] false false a b c = refl
no_fault [] false true a b c = let e : true ≡ false = c in cc
no_fault [] true large a b c = let e : true ≡ false = b in cc
no_fault (v ∷ vs) deep large a b c = let e : v ∷ vs ≡ [] = a in cc

pub minor_formula_scoped : (n : MatrixValue) → n.cols ≤ 5 → scope_fault (minor_formula n) None ≡ None
minor_formula_scoped n l =
    let d = formula_depth n in
    let s = formula_nodes n l in
    no_fault (unbound [] (minor_formula n)) (nat_lt 16 (0 + depth (minor_formula n))) (nat_lt 512 (nodes (minor_formula n))) (formula_bound n)
    (le-ltb 16 (0 + depth (minor_formula n)) (omega (arith, d, l)))
    (le-ltb 512 (nodes (minor_formula n)) (omega (arith, s)))
