-- The minor formula holds exactly where there is a minor.
use Rattle.std.proofs.Common.{◌≡◌, ◌≢◌, ℕ, ◌+◌, ◌-◌, ◌^◌, ◌<◌, ◌≤◌, ◌↔◌, inl, inr, Bool, true, false, eqb, All, List, [], ◌∷◌, ◌++◌, length, get_or, refl, sym, ap, ◌∙◌, subst, arith}
use Rattle.std.specs.List.{items_where_true}
use Rattle.std.proofs.lemmas.Bool.{cases_eq, eqb-true, eq-eqb, false_from_ne_true, both_ways}
use Rattle.std.proofs.lemmas.List.{length-replicate}
use Rattle.std.proofs.lemmas.List.Elements.{All-append, All-from_get_or}
use Rattle.std.proofs.lemmas.List.FromFn.{length-map-range_with_len}
use Rattle.mm_field.specs.declared.Field.{Field}
use Rattle.mm_field.specs.Vectors.{IsVector, AreVectors, AreIndependent}
use Rattle.mm_linear.proofs.DecideLemmas.{is_independent_decides}
use Rattle.mm_linear.proofs.IndependenceLemmas.{none_independent}
use Rattle.mm_logic.specs.Tree.{Tree, size}
use Rattle.mm_logic.specs.PresentMatrix.{IsIndependent}
use Rattle.mm_logic.specs.Marks.{no_marks, unmarked, assign}
use Rattle.mm_logic.specs.Meaning.{Holds}
use Rattle.mm_matrix.specs.MatrixValue.{MatrixValue, IsMatrix}
use Rattle.mm_matrix.specs.Columns.{column}
use Rattle.mm_matrix.proofs.ColumnLemmas.{IsVector-column}
use Rattle.mm_formula.specs.Syntax.{Syntax}
use Rattle.mm_formula.specs.Syntax.Syntax.{Member, SameElem, Not}
use Rattle.mm_formula.specs.Scope.{slotted}
use Rattle.mm_minor.specs.MinorFormula.{contracted, element, all_columns, subset, with_contracted, outside, different_from, different, has_independent, alike, all_alike, conditions, minor_formula}
use Rattle.mm_minor.specs.Minors.{with_elements, HasMinor, MinorsAreAsked}
use Rattle.mm_minor.proofs.SubsetLemmas.{number, subset_of_number, number_below, length-subset, nothing_chosen, All-chosen}
use Rattle.mm_minor.proofs.SlotLemmas.{all_binders}
use Rattle.mm_minor.proofs.AssignmentLemmas.{length-assign, AreChosen, assignment, contracted_marks, element_marks, union_is}
use Rattle.mm_minor.proofs.HoldsLemmas.{All-left, All-right, each_in_range, range_from_each, each_list_in_range, range_from_each_list, parts_hold, conjunction_holds, asserted_says, asserted_from, some_hold, some_from}

-- a condition of the minor formula holds with C and xs
abbrev HoldsWith : Field → Tree → ℕ → List Bool → List ℕ → Syntax → Type 0
HoldsWith f T k C xs F = Holds f (slotted (all_binders k) F) T (assignment (size T) C xs)

-- ---- C with some of the elements

independent_says : (f : Field) (T : Tree) (k : ℕ) (C : List Bool) (xs : List ℕ) (I : List Bool) → AreChosen (size T) k C xs
    → HoldsWith f T k C xs (with_contracted k I) ↔ IsIndependent f T (with_elements C (items_where_true I xs))
independent_says f T k C xs I h =
    let e = union_is (size T) k C xs I h in
    ((λ p. subst (λ X. IsIndependent f T X) e p), (λ p. subst (λ X. IsIndependent f T X) (sym e) p))

-- ---- elements are outside C

outside_says : (f : Field) (T : Tree) (k : ℕ) (C : List Bool) (xs : List ℕ) (i : ℕ) → AreChosen (size T) k C xs → i < k
    → HoldsWith f T k C xs (Not (Member (element i) contracted)) ↔ (get_or C (get_or xs i 0) false ≡ false)
outside_says f T k C xs i h l =
    let x = get_or xs i 0 in
    let M = assignment (size T) C xs in
    let bs = all_binders k in (
      (λ p.
          false_from_ne_true (get_or C x false)
          (λ t. p (x, element_marks (size T) k C xs x i h l ∙ eq-eqb x x refl, contracted_marks (size T) k C xs x h ∙ t))),
      (λ q r.
          let a : eqb r.0 x ≡ true = sym (element_marks (size T) k C xs r.0 i h l) ∙ r.1 in
          let b : get_or C r.0 false ≡ true = sym (contracted_marks (size T) k C xs r.0 h) ∙ r.2 in
          both_ways (get_or C x false) q (ap (λ (y : ℕ). get_or C y false) (sym (eqb-true r.0 x a)) ∙ b)),
    )

-- ---- elements are different

different_says : (f : Field) (T : Tree) (k : ℕ) (C : List Bool) (xs : List ℕ) (i j : ℕ) → AreChosen (size T) k C xs → i < k → j < k
    → HoldsWith f T k C xs (Not (SameElem (element i) (element j))) ↔ (get_or xs i 0 ≢ get_or xs j 0)
different_says f T k C xs i j h li lj =
    let x = get_or xs i 0 in
    let y = get_or xs j 0 in (
      (λ p e. p (x, element_marks (size T) k C xs x i h li ∙ eq-eqb x x refl, element_marks (size T) k C xs x j h lj ∙ eq-eqb x y e)),
      (λ q r.
          let a : eqb r.0 x ≡ true = sym (element_marks (size T) k C xs r.0 i h li) ∙ r.1 in
          let b : eqb r.0 y ≡ true = sym (element_marks (size T) k C xs r.0 j h lj) ∙ r.2 in
          q (sym (eqb-true r.0 x a) ∙ eqb-true r.0 y b)),
    )

-- ---- subsets are alike

abbrev AreAlike : Field → Tree → MatrixValue → List Bool → List ℕ → List Bool → Type 0
AreAlike f T n C xs I =
    IsIndependent f T (with_elements C (items_where_true I xs)) ↔ AreIndependent n.f (length n.rows) (items_where_true I (all_columns n))

columns_are_vectors : (n : MatrixValue) → IsMatrix n → AreVectors n.f (length n.rows) (all_columns n)
columns_are_vectors n h =
    range_from_each (λ v. IsVector n.f (length n.rows) v) (column n.rows) 0 n.cols (λ j lj l. IsVector-column n.f n.cols j n.rows h (omega (arith, l)))

alike_says : (f : Field) (T : Tree) (n : MatrixValue) (C : List Bool) (xs : List ℕ) (s : ℕ) → IsMatrix n → AreChosen (size T) n.cols C xs
    → HoldsWith f T n.cols C xs (alike n s) ↔ AreAlike f T n C xs (subset n.cols s)
alike_says f T n C xs s m h =
    let k = n.cols in
    let I = subset k s in
    let d = is_independent_decides n.f (length n.rows) (items_where_true I (all_columns n))
    (All-chosen (λ v. IsVector n.f (length n.rows) v) I (all_columns n) (columns_are_vectors n m)) in
    let e = independent_says f T k C xs I h in
    let M = assignment (size T) C xs in (
      (λ p. let a = asserted_says f T (all_binders k) M (has_independent n s) (with_contracted k I) p in
          ((λ q. d.0 (a.0 (e.1 q))), (λ q. e.0 (a.1 (d.1 q))))),
      (λ g. asserted_from f T (all_binders k) M (has_independent n s) (with_contracted k I)
          ((λ q. d.1 (g.0 (e.0 q))), (λ q. e.1 (g.1 (d.0 q))))),
    )

-- the empty subset is alike where C is independent
empty_alike : (f : Field) (T : Tree) (n : MatrixValue) (C : List Bool) (xs : List ℕ) (I : List Bool) → IsIndependent f T C → length I ≡ n.cols → number I ≡ 0
    → AreAlike f T n C xs I
empty_alike f T n C xs I ind l z =
    let e : I ≡ subset n.cols 0 = sym (subset_of_number I) ∙ ap (λ (s : ℕ). subset (length I) s) z ∙ ap (λ (k : ℕ). subset k 0) l in
    let a : items_where_true I xs ≡ [] = ap (λ (J : List Bool). items_where_true J xs) e ∙ nothing_chosen n.cols xs in
    let b : items_where_true I (all_columns n) ≡ [] = ap (λ (J : List Bool). items_where_true J (all_columns n)) e ∙ nothing_chosen n.cols (all_columns n) in (
      (λ p. subst (λ (vs : List (List ℕ)). AreIndependent n.f (length n.rows) vs) (sym b) (none_independent n.f (length n.rows))),
      (λ p. subst (λ (ys : List ℕ). IsIndependent f T (with_elements C ys)) (sym a) ind),
    )

every_alike : (f : Field) (T : Tree) (n : MatrixValue) (C : List Bool) (xs : List ℕ) → IsIndependent f T C
    → ((s : ℕ) → 1 ≤ s → s < 2 ^ n.cols → AreAlike f T n C xs (subset n.cols s))
    → (I : List Bool) → length I ≡ n.cols → AreAlike f T n C xs I
every_alike f T n C xs ind each I l = elim (cases_eq (number I) 0) [
  | inl z ↦ empty_alike f T n C xs I ind l z
  | inr nz ↦
      let e : subset n.cols (number I) ≡ I = ap (λ (k : ℕ). subset k (number I)) (sym l) ∙ subset_of_number I in
      let below : number I < 2 ^ n.cols = subst (λ (k : ℕ). number I < 2 ^ k) l (number_below I) in
      subst (λ J. AreAlike f T n C xs J) e (each (number I) (positive (number I) nz) below)
]
  where
    positive : (s : ℕ) → (s ≡ 0 → ⊥) → 1 ≤ s
    positive s nz = omega (arith, nz)

-- ---- the conditions together

abbrev conditions_of : MatrixValue → List Syntax
conditions_of n = outside n.cols ++ different n.cols ++ all_alike n

minor_from : (f : Field) (T : Tree) (n : MatrixValue) (C : List Bool) (xs : List ℕ) → IsMatrix n → AreChosen (size T) n.cols C xs
    → HoldsWith f T n.cols C xs (conditions n) → HasMinor f T n
minor_from f T n C xs m h p =
    let k = n.cols in
    let P : Syntax → Type 0 = λ F. HoldsWith f T k C xs F in
    let parts = parts_hold f T (all_binders k) (assignment (size T) C xs) (with_contracted k []) (conditions_of n) p in
    let two = All-left P (outside k ++ different k) (all_alike n) parts.1 in
    let one = All-left P (outside k) (different k) two in
    let diff = All-right P (outside k) (different k) two in
    let same = All-right P (outside k ++ different k) (all_alike n) parts.1 in
    let ind : IsIndependent f T C = (independent_says f T k C xs [] h).0 parts.0 in
    let c = h.count in
    record {
      C = C;
      xs = xs;
      is_set = h.is_set;
      is_independent = ind;
      count = c;
      are_elements = h.are_elements;
      outside =
          All-from_get_or (λ x. get_or C x false ≡ false) xs 0
          (λ i l. let li : i < k = omega (arith, l, c) in
          (outside_says f T k C xs i h li).0 (each_in_range P (λ i. Not (Member (element i) contracted)) 0 k one i (omega arith) (omega (arith, li))));
      different = λ i j l lj.
          let li : i < k = omega (arith, l, lj) in
          (different_says f T k C xs i j h li lj).0
          (each_in_range P (λ j. Not (SameElem (element i) (element j))) (i + 1) (k - (i + 1))
          (each_list_in_range P (different_from k) 0 k diff i (omega arith) (omega (arith, li))) j (omega (arith, l)) (omega (arith, l, lj)));
      alike =
          every_alike f T n C xs ind
          (λ s l ls. (alike_says f T n C xs s m h).0
          (each_in_range P (alike n) 1 (2 ^ k - 1) same s l (omega (arith, l, ls))));
    }

from_minor : (f : Field) (T : Tree) (n : MatrixValue) → IsMatrix n → (h : HasMinor f T n) → AreChosen (size T) n.cols h.C h.xs
    → HoldsWith f T n.cols h.C h.xs (conditions n)
from_minor f T n m r h =
    let k = n.cols in
    let C = r.C in
    let xs = r.xs in
    let P : Syntax → Type 0 = λ F. HoldsWith f T k C xs F in
    let c = r.count in
    let one =
    range_from_each P (λ i. Not (Member (element i) contracted)) 0 k
    (λ i la li. let lk : i < k = omega (arith, li) in
    (outside_says f T k C xs i h lk).1 (r.outside i 0 (omega (arith, lk, c)))) in
    let diff =
    range_from_each_list P (different_from k) 0 k
    (λ i la li. range_from_each P (λ j. Not (SameElem (element i) (element j))) (i + 1) (k - (i + 1))
    (λ j lj le. let lk : i < k = omega (arith, li) in
    let jk : j < k = omega (arith, lj, le, lk) in
    (different_says f T k C xs i j h lk jk).1 (r.different i j (omega (arith, lj)) jk))) in
    let same =
    range_from_each P (alike n) 1 (2 ^ k - 1) (λ s l ls. (alike_says f T n C xs s m h).1 (r.alike (subset k s) (length-subset k s))) in
    conjunction_holds f T (all_binders k) (assignment (size T) C xs) (with_contracted k []) (conditions_of n)
    ((independent_says f T k C xs [] h).1 r.is_independent)
    (All-append P (outside k ++ different k) (all_alike n) (All-append P (outside k) (different k) one diff) same)

-- ---- the law

pub minors_asked : MinorsAreAsked
unfolding minor_formula
minors_asked f T n m = (there, back)
  where
    there : Holds f (slotted [] (minor_formula n)) T (unmarked (size T)) → HasMinor f T n
    there p =
        let C = p.0 in
        let r = some_hold f T n.cols 0 (contracted ∷ []) (conditions n) (assign 0 C (unmarked (size T))) p.2 in
        let len : length (assign 0 C (unmarked (size T))) ≡ size T = length-assign 0 C (unmarked (size T)) ∙ length-replicate (size T) no_marks in
        minor_from f T n C r.xs m
        (record {
          is_set = p.1 ∙ length-replicate (size T) no_marks;
          count = r.count ∙ length-map-range_with_len element 0 n.cols;
          are_elements = subst (λ (k : ℕ). All (λ x. x < k) r.xs) len r.are_elements;
        })
        r.holds

    back : HasMinor f T n → Holds f (slotted [] (minor_formula n)) T (unmarked (size T))
    back h =
        let len : length (assign 0 h.C (unmarked (size T))) ≡ size T = length-assign 0 h.C (unmarked (size T)) ∙ length-replicate (size T) no_marks in (
          h.C,
          h.is_set ∙ sym (length-replicate (size T) no_marks),
          some_from f T n.cols 0 (contracted ∷ []) (conditions n) (assign 0 h.C (unmarked (size T))) h.xs h.count
              (subst (λ (k : ℕ). All (λ x. x < k) h.xs) (sym len) h.are_elements)
              (from_minor f T n m h (record { is_set = h.is_set; count = h.count; are_elements = h.are_elements })),
        )
