-- Whatever set is contracted, a basis of it does as well.
use Rattle.std.proofs.Common.{◌≡◌, ◌≢◌, ℕ, suc, ◌+◌, ◌<◌, ◌↔◌, Bool, true, false, ◌||◌, eqb, All, List, [], ◌∷◌, ◌++◌, map, length, get_or, refl, sym, ap, ap₂, ◌∙◌, subst, arith}
use Rattle.std.specs.List.{items_where_true}
use Rattle.std.proofs.lemmas.Bool.{ne_eqb}
use Rattle.std.proofs.lemmas.List.{length-map}
use Rattle.std.proofs.lemmas.List.Folds.{list_any_none}
use Rattle.std.proofs.lemmas.List.Elements.{All-head, All-tail, All-map, All-get_or, All-from_get_or}
use Rattle.mm_field.specs.declared.Field.{Field}
use Rattle.mm_field.specs.Vectors.{zeros, combination, IsVector, AreVectors}
use Rattle.mm_field.proofs.CombinationLemmas.{InSpan-within, IsWithin-itself}
use Rattle.mm_logic.specs.Tree.{Tree, size, boundary, IsValid}
use Rattle.mm_logic.specs.PresentMatrix.{internal, columns, column_of, chosen, IsIndependent}
use Rattle.mm_logic_laws.proofs.MatrixLemmas.{length-columns, columns_are}
use Rattle.mm_matrix.specs.MatrixValue.{MatrixValue}
use Rattle.mm_minor.specs.Minors.{with_elements, HasMinor}
use Rattle.mm_minor.specs.Contractions.{IsIndependentOver, IsMinorOver, AnySetMayBeContracted}
use Rattle.mm_minor.proofs.SubsetLemmas.{All-chosen, length-with_elements, in_with_elements}
use Rattle.mm_minor.proofs.FamilyLemmas.{AreAlike, alike_itself, alike_then, alike_more, put_in, IsBasisAmong, some_basis, beside_is_over, over_is_beside}

-- elements that are outside C and different
abbrev AreNew : List Bool → List ℕ → Type 0
AreNew C [] = Unit {0}
AreNew C (y ∷ ys) = (y < length C) × (get_or (with_elements C ys) y false ≡ false) × AreNew C ys

chosen_are_new : (C I : List Bool) (xs : List ℕ) → All (λ x. x < length C) xs → All (λ x. get_or C x false ≡ false) xs
    → ((i j : ℕ) → i < j → j < length xs → get_or xs i 0 ≢ get_or xs j 0) → AreNew C (items_where_true I xs)
chosen_are_new C [] xs small out apart = tt
chosen_are_new C (b ∷ I) [] small out apart = tt
chosen_are_new C (false ∷ I) (x ∷ xs) small out apart =
    chosen_are_new C I xs (All-tail (λ x. x < length C) x xs small) (All-tail (λ x. get_or C x false ≡ false) x xs out)
    (λ i j l lj. apart (suc i) (suc j) (omega (arith, l)) (omega (arith, lj)))
chosen_are_new C (true ∷ I) (x ∷ xs) small out apart =
    let smalls = All-tail (λ x. x < length C) x xs small in
    let ys = items_where_true I xs in
    let others : All (λ y. eqb x y ≡ false) xs =
    All-from_get_or (λ y. eqb x y ≡ false) xs 0 (λ i l. ne_eqb x (get_or xs i 0) (apart 0 (suc i) (omega arith) (omega (arith, l)))) in (
      All-head (λ x. x < length C) x xs small,
      in_with_elements C ys x (All-chosen (λ x. x < length C) I xs smalls)
          ∙ ap₂ (λ p q. p || q) (All-head (λ x. get_or C x false ≡ false) x xs out)
          (list_any_none (λ y. eqb x y) ys (All-chosen (λ y. eqb x y ≡ false) I xs others)),
      chosen_are_new C I xs smalls (All-tail (λ x. get_or C x false ≡ false) x xs out)
          (λ i j l lj. apart (suc i) (suc j) (omega (arith, l)) (omega (arith, lj))),
    )

-- C with some new elements has their columns, and those of C
with_new : (f : Field) (n : ℕ) (C : List Bool) (cs : List (List ℕ)) (ys : List ℕ) → AreVectors f n cs → length C ≡ length cs → AreNew C ys
    → AreAlike f n (items_where_true (with_elements C ys) cs) (map (λ y. get_or cs y []) ys ++ items_where_true C cs)
with_new f n C cs [] h l new = alike_itself f n (items_where_true C cs) (All-chosen (λ v. IsVector f n v) C cs h)
with_new f n C cs (y ∷ ys) h l new =
    let W = with_elements C ys in
    let c = get_or cs y [] in
    let lw : length W ≡ length cs = length-with_elements C ys ∙ l in
    let ly : y < length cs = subst (λ (k : ℕ). y < k) l new.0 in
    alike_then f n (items_where_true (with_elements C (y ∷ ys)) cs) (c ∷ items_where_true W cs) (c ∷ (map (λ y. get_or cs y []) ys ++ items_where_true C cs))
    (put_in f n W cs y h lw ly new.1)
    (alike_more f n c (items_where_true W cs) (map (λ y. get_or cs y []) ys ++ items_where_true C cs)
    (All-get_or (λ v. IsVector f n v) cs y [] ly h) (with_new f n C cs ys h l new.2))

columns_at : (f : Field) (n : ℕ) (cs : List (List ℕ)) (ys : List ℕ) → AreVectors f n cs → All (λ y. y < length cs) ys
    → AreVectors f n (map (λ y. get_or cs y []) ys)
columns_at f n cs ys h l =
    All-map (λ v. IsVector f n v) (λ y. get_or cs y []) ys
    (λ k d lk. All-get_or (λ v. IsVector f n v) cs (get_or ys k d) [] (l k d lk) h)

over_basis : (f : Field) (T : Tree) (D C : List Bool) (ys : List ℕ) → IsValid f T → length D ≡ size T → IsBasisAmong f (boundary T + internal T) (columns f T) D C
    → All (λ y. y < size T) ys → AreNew C ys → IsIndependent f T (with_elements C ys) ↔ IsIndependentOver f T D ys
over_basis f T D C ys ok l b small new =
    let n = boundary T + internal T in
    let cs = columns f T in
    let h = columns_are f T ok in
    let lc : length C ≡ length cs = b.len ∙ l ∙ sym (length-columns f T) in
    let A = map (column_of f T) ys in
    let B = items_where_true C cs in
    let hA : AreVectors f n A = columns_at f n cs ys h (subst (λ (k : ℕ). All (λ y. y < k) ys) (sym (length-columns f T)) small) in
    let hB = All-chosen (λ v. IsVector f n v) C cs h in
    let hD = All-chosen (λ v. IsVector f n v) D cs h in
    let alike = (with_new f n C cs ys h lc new).independent in
    let len : length A ≡ length ys = length-map ys (column_of f T) in (
      (λ i es he p.
          beside_is_over f n A B hA hB (alike.0 i) es (subst (λ (k : ℕ). IsVector f k es) (sym len) he)
          (InSpan-within f n (chosen f T D) B (combination f n es A) hB b.spans p)
          ∙ ap zeros len),
      (λ over. alike.1 (over_is_beside f n A B hA hB b.independent
          (λ es he p. over es (subst (λ (k : ℕ). IsVector f k es) len he) (InSpan-within f n B (chosen f T D) (combination f n es A) hD b.within p) ∙ ap zeros (sym len)))),
    )

from_any : (f : Field) (T : Tree) (n : MatrixValue) → IsValid f T → (D : List Bool) (xs : List ℕ) → IsMinorOver f T n D xs → HasMinor f T n
from_any f T n ok D xs h =
    let cs = columns f T in
    let r = some_basis f (boundary T + internal T) D cs (columns_are f T ok) (h.is_set ∙ sym (length-columns f T)) in
    let C = r.0 in
    let b = r.1 in
    let len : length C ≡ size T = b.len ∙ h.is_set in
    let out : All (λ x. get_or C x false ≡ false) xs = (λ k d l. b.inside (get_or xs k d) (h.outside k d l)) in
    let c = h.count in
    record {
      C = C;
      xs = xs;
      is_set = len;
      is_independent = b.independent;
      count = c;
      are_elements = h.are_elements;
      outside = out;
      different = h.different;
      alike = λ I l.
          let small = subst (λ (k : ℕ). All (λ x. x < k) xs) (sym len) h.are_elements in
          let new = chosen_are_new C I xs small out (λ i j li lj. h.different i j li (omega (arith, lj, c))) in
          let e = over_basis f T D C (items_where_true I xs) ok h.is_set b (All-chosen (λ x. x < size T) I xs h.are_elements) new in
          let g = h.alike I l in
          ((λ p. g.0 (e.0 p)), (λ q. e.1 (g.1 q)));
    }

to_any : (f : Field) (T : Tree) (n : MatrixValue) → IsValid f T → (h : HasMinor f T n) → IsMinorOver f T n h.C h.xs
to_any f T n ok h =
    let each = All-chosen (λ v. IsVector f (boundary T + internal T) v) h.C (columns f T) (columns_are f T ok) in
    let all = IsWithin-itself f (boundary T + internal T) (chosen f T h.C) each in
    let b : IsBasisAmong f (boundary T + internal T) (columns f T) h.C h.C = record {
      len = refl;
      inside = λ i e. e;
      independent = h.is_independent;
      spans = all;
      within = all;
    } in
    let c = h.count in
    let small = subst (λ (k : ℕ). All (λ x. x < k) h.xs) (sym h.is_set) h.are_elements in
    record {
      is_set = h.is_set;
      count = c;
      are_elements = h.are_elements;
      outside = h.outside;
      different = h.different;
      alike = λ I l.
          let new = chosen_are_new h.C I h.xs small h.outside (λ i j li lj. h.different i j li (omega (arith, lj, c))) in
          let e = over_basis f T h.C h.C (items_where_true I h.xs) ok h.is_set b (All-chosen (λ x. x < size T) I h.xs h.are_elements) new in
          let g = h.alike I l in
          ((λ p. g.0 (e.1 p)), (λ q. e.0 (g.1 q)));
    }

pub any_contracted : AnySetMayBeContracted
any_contracted f T n ok = ((λ p. from_any f T n ok p.0 p.1 p.2), (λ h. (h.C, h.xs, to_any f T n ok h)))
