-- One condition more, one quantifier more, and one variable more.
use Rattle.std.proofs.Common.{◌≡◌, ℕ, suc, ◌+◌, ◌-◌, ◌/◌, ◌%◌, ◌<◌, ◌≤◌, Bool, true, false, ◌||◌, eqb, cond, List, [], ◌∷◌, ◌++◌, map, refl, sym, ap, ap₂, ◌∙◌, arith, append-nil}
use Rattle.std.specs.Prelude.{flat_map}
use Rattle.std.specs.List.{range_with_len, items_where_true}
use Rattle.std.specs.Str.{bytes_eq}
use Rattle.std.proofs.lemmas.List.{flat_map_more}
use Rattle.std.proofs.lemmas.Bool.{or_parts, eq-eqb, ne_eqb}
use Rattle.std.proofs.lemmas.List.FromFn.{map-range_with_len_more, length-map-range_with_len, length-range_with_len}
use Rattle.mm_linear.proofs.BasisLemmas.{range_one_more}
use Rattle.mm_matrix.specs.MatrixValue.{MatrixValue}
use Rattle.mm_formula.specs.Repeats.{has}
use Rattle.mm_formula.specs.Syntax.{Syntax}
use Rattle.mm_formula.specs.Syntax.Syntax.{Member, SameElem, Not, Bin, Ex}
use Rattle.mm_formula.specs.declared.formula.Connective.TheVariants.{And}
use Rattle.mm_minor.specs.MinorFormula.{contracted, element, elements, subset, with_contracted, outside, different_from, different, alike, all_alike, conjunction, with_some, conditions, minor_formula}
use Rattle.mm_minor.proofs.NameLemmas.{element_not_before}
use Rattle.mm_minor.proofs.SubsetLemmas.{after_digits, after_one_more, chosen_more}

pub conjunction-append : (F : Syntax) (Gs Hs : List Syntax) → conjunction F (Gs ++ Hs) ≡ conjunction (conjunction F Gs) Hs
conjunction-append F [] Hs = refl
conjunction-append F (G ∷ Gs) Hs = conjunction-append (Bin And F G) Gs Hs

-- the conditions for the numbers from a on that are below i, and that for i
more_in_range : (F : Syntax) (g : ℕ → Syntax) (a m j : ℕ) → a + m ≡ j
    → conjunction F (map g (range_with_len a (m + 1))) ≡ Bin And (conjunction F (map g (range_with_len a m))) (g j)
more_in_range F g a m j e =
    ap (conjunction F) (map-range_with_len_more g a m j e) ∙ conjunction-append F (map g (range_with_len a m)) (g j ∷ [])

pub outside_more : (F : Syntax) (i : ℕ) → conjunction F (outside (i + 1)) ≡ Bin And (conjunction F (outside i)) (Not (Member (element i) contracted))
outside_more F i = more_in_range F (λ i. Not (Member (element i) contracted)) 0 i i (omega arith)

-- element i is none of those after it and before j
abbrev pub different_until : ℕ → ℕ → List Syntax
different_until i j = map (λ j. Not (SameElem (element i) (element j))) (range_with_len (i + 1) (j - (i + 1)))

pub different_until_more : (F : Syntax) (i j : ℕ) → i + 1 ≤ j
    → conjunction F (different_until i (j + 1)) ≡ Bin And (conjunction F (different_until i j)) (Not (SameElem (element i) (element j)))
different_until_more F i j l =
    let g : ℕ → Syntax = λ j. Not (SameElem (element i) (element j)) in
    let e : (j + 1) - (i + 1) ≡ (j - (i + 1)) + 1 = omega (arith, l) in
    let s : (i + 1) + (j - (i + 1)) ≡ j = omega (arith, l) in
    ap (λ (m : ℕ). conjunction F (map g (range_with_len (i + 1) m))) e ∙ more_in_range F g (i + 1) (j - (i + 1)) j s

-- the first i of k elements are different from those after them
abbrev pub different_before : ℕ → ℕ → List Syntax
different_before k i = flat_map (different_from k) (range_with_len 0 i)

pub different_more : (F : Syntax) (k i : ℕ) → conjunction F (different_before k (i + 1)) ≡ conjunction (conjunction F (different_before k i)) (different_from k i)
different_more F k i =
    ap (λ (is : List ℕ). conjunction F (flat_map (different_from k) is)) (range_one_more i)
    ∙ ap (conjunction F) (sym (flat_map_more (different_from k) [] (range_with_len 0 i) i))
    ∙ conjunction-append F (different_before k i) (different_from k i)

-- the subsets before subset s are alike
abbrev pub alike_until : MatrixValue → ℕ → List Syntax
alike_until n s = map (alike n) (range_with_len 1 (s - 1))

pub alike_more : (F : Syntax) (n : MatrixValue) (s : ℕ) → 1 ≤ s → conjunction F (alike_until n (s + 1)) ≡ Bin And (conjunction F (alike_until n s)) (alike n s)
alike_more F n s l =
    let e : (s + 1) - 1 ≡ (s - 1) + 1 = omega (arith, l) in
    let t : 1 + (s - 1) ≡ s = omega (arith, l) in
    ap (λ (m : ℕ). conjunction F (map (alike n) (range_with_len 1 m))) e ∙ more_in_range F (alike n) 1 (s - 1) s t

-- the elements from i on
abbrev pub elements_from : ℕ → ℕ → List (List ℕ)
elements_from k i = map element (range_with_len i (k - i))

pub some_more : (F : Syntax) (k i : ℕ) → i < k → with_some (elements_from k i) F ≡ Ex (element i) (with_some (elements_from k (i + 1)) F)
some_more F k i l =
    let e : k - i ≡ suc (k - (i + 1)) = omega (arith, l) in
    ap (λ (m : ℕ). with_some (map element (range_with_len i m)) F) e

-- ---- subsets, place by place

pub places_more : (i s : ℕ)
    → items_where_true (subset (i + 1) s) (range_with_len 0 (i + 1))
    ≡ items_where_true (subset i s) (range_with_len 0 i) ++ cond (eqb (after_digits i s % 2) 1) (i ∷ []) []
places_more i s =
    let e : i + 1 ≡ suc i = omega arith in
    ap (λ (xs : List ℕ). items_where_true (subset (i + 1) s) xs) (range_one_more i)
    ∙ ap (λ (m : ℕ). items_where_true (subset m s) (range_with_len 0 i ++ (i ∷ []))) e
    ∙ chosen_more i s (range_with_len 0 i) i (length-range_with_len 0 i)

pub variables_more : (i s : ℕ)
    → items_where_true (subset (i + 1) s) (elements (i + 1))
    ≡ items_where_true (subset i s) (elements i) ++ cond (eqb (after_digits i s % 2) 1) (element i ∷ []) []
variables_more i s =
    let e : i + 1 ≡ suc i = omega arith in
    ap (λ (xs : List (List ℕ)). items_where_true (subset (i + 1) s) xs) (map-range_with_len_more element 0 i i (omega arith))
    ∙ ap (λ (m : ℕ). items_where_true (subset m s) (elements i ++ (element i ∷ []))) e
    ∙ chosen_more i s (elements i) (element i) (length-map-range_with_len element 0 i)

-- the subset has place i, or it has not, as the rest of its number is odd or even
pub place_in : (i s rest : ℕ) → rest ≡ after_digits i s → rest % 2 ≡ 1
    → items_where_true (subset (i + 1) s) (range_with_len 0 (i + 1)) ≡ items_where_true (subset i s) (range_with_len 0 i) ++ (i ∷ [])
place_in i s rest e odd =
    places_more i s
    ∙ ap (λ (b : Bool). items_where_true (subset i s) (range_with_len 0 i) ++ cond b (i ∷ []) [])
    (eq-eqb (after_digits i s % 2) 1 (ap (λ (m : ℕ). m % 2) (sym e) ∙ odd))

pub place_not_in : (i s rest : ℕ) → rest ≡ after_digits i s → (rest % 2 ≡ 1 → ⊥)
    → items_where_true (subset (i + 1) s) (range_with_len 0 (i + 1)) ≡ items_where_true (subset i s) (range_with_len 0 i)
place_not_in i s rest e even =
    places_more i s
    ∙ ap (λ (b : Bool). items_where_true (subset i s) (range_with_len 0 i) ++ cond b (i ∷ []) [])
    (ne_eqb (after_digits i s % 2) 1 (λ q. even (ap (λ (m : ℕ). m % 2) e ∙ q)))
    ∙ append-nil (items_where_true (subset i s) (range_with_len 0 i))

-- and so with its variable
pub variable_in : (i s rest : ℕ) → rest ≡ after_digits i s → rest % 2 ≡ 1
    → items_where_true (subset (i + 1) s) (elements (i + 1)) ≡ items_where_true (subset i s) (elements i) ++ (element i ∷ [])
variable_in i s rest e odd =
    variables_more i s
    ∙ ap (λ (b : Bool). items_where_true (subset i s) (elements i) ++ cond b (element i ∷ []) [])
    (eq-eqb (after_digits i s % 2) 1 (ap (λ (m : ℕ). m % 2) (sym e) ∙ odd))

pub variable_not_in : (i s rest : ℕ) → rest ≡ after_digits i s → (rest % 2 ≡ 1 → ⊥)
    → items_where_true (subset (i + 1) s) (elements (i + 1)) ≡ items_where_true (subset i s) (elements i)
variable_not_in i s rest e even =
    variables_more i s
    ∙ ap (λ (b : Bool). items_where_true (subset i s) (elements i) ++ cond b (element i ∷ []) [])
    (ne_eqb (after_digits i s % 2) 1 (λ q. even (ap (λ (m : ℕ). m % 2) e ∙ q)))
    ∙ append-nil (items_where_true (subset i s) (elements i))

pub digits_more : (i s : ℕ) → after_digits (i + 1) s ≡ after_digits i s / 2
digits_more i s = let e : i + 1 ≡ suc i = omega arith in ap (λ (m : ℕ). after_digits m s) e ∙ after_one_more i s

-- a variable that is in no list is not among what is chosen
none_chosen : (v : List ℕ) (I : List Bool) (vs : List (List ℕ)) → has v vs ≡ false → has v (items_where_true I vs) ≡ false
none_chosen v [] vs h = refl
none_chosen v (b ∷ I) [] h = refl
none_chosen v (true ∷ I) (w ∷ vs) h =
    let p = or_parts (bytes_eq v w) (has v vs) h in
    ap₂ (λ x y. x || y) p.0 (none_chosen v I vs p.1)
none_chosen v (false ∷ I) (w ∷ vs) h = none_chosen v I vs (or_parts (bytes_eq v w) (has v vs) h).1

pub element_is_new : (i s : ℕ) → has (element i) (contracted ∷ items_where_true (subset i s) (elements i)) ≡ false
element_is_new i s = none_chosen (element i) (subset i s) (elements i) (element_not_before i 0 i (omega arith))

-- ---- the whole formula

pub conditions_are : (n : MatrixValue) (k : ℕ) (one two three four : Syntax) → k ≡ n.cols → one ≡ with_contracted n.cols [] → two ≡ conjunction one (outside k)
    → three ≡ conjunction two (different k) → four ≡ conjunction three (all_alike n) → four ≡ conditions n
conditions_are n k one two three four e a b c d =
    let m = n.cols in
    let F = with_contracted m [] in
    let two_is : two ≡ conjunction F (outside m) = b ∙ ap₂ (λ G j. conjunction G (outside j)) a e in
    let three_is : three ≡ conjunction (conjunction F (outside m)) (different m) = c ∙ ap₂ (λ G j. conjunction G (different j)) two_is e in
    d ∙ ap (λ G. conjunction G (all_alike n)) (three_is ∙ sym (conjunction-append F (outside m) (different m)))
    ∙ sym (conjunction-append F (outside m ++ different m) (all_alike n))

pub minor_formula_is : (n : MatrixValue) (k : ℕ) (v : List ℕ) (F bound whole : Syntax) → k ≡ n.cols → v ≡ contracted → F ≡ conditions n
    → bound ≡ with_some (elements k) F → whole ≡ Ex v bound → whole ≡ minor_formula n
unfolding minor_formula
minor_formula_is n k v F bound whole e c f b w =
    w ∙ ap₂ (λ x G. Ex x G) c (b ∙ ap₂ (λ j G. with_some (elements j) G) e f)
