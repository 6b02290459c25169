-- Subsets by number: each subset has a number, number 0 is empty, and what is chosen by one.
use Rattle.std.proofs.Common.{◌≡◌, ℕ, zero, suc, ◌+◌, ◌*◌, ◌/◌, ◌%◌, ◌^◌, ◌<◌, Bool, true, false, ◌||◌, eqb, cond, All, List, [], ◌∷◌, ◌++◌, length, get_or, set, refl, sym, ap, ap₂, ◌∙◌, subst, arith, inl, inr}
use Rattle.std.specs.List.{items_where_true, list_any}
use Rattle.std.proofs.lemmas.Bool.{eq-eqb, ne_eqb, cases_eq}
use Rattle.std.proofs.Math.Bool.{or-true, or-false}
use Rattle.std.proofs.lemmas.List.{get_or-set_same, get_or-set_other, length-set}
use Rattle.std.proofs.lemmas.List.Elements.{All-nil, All-cons, All-head, All-tail}
use Rattle.mm_logic.proofs.ChosenLemmas.{chosen-append}
use Rattle.mm_minor.specs.MinorFormula.{subset}
use Rattle.mm_minor.specs.Minors.{with_elements}

-- ---- numbers of subsets

abbrev pub number : List Bool → ℕ
number [] = 0
number (true ∷ I) = 1 + 2 * number I
number (false ∷ I) = 2 * number I

pub subset_of_number : (I : List Bool) → subset (length I) (number I) ≡ I
subset_of_number [] = refl
subset_of_number (true ∷ I) =
    let a : (1 + 2 * number I) % 2 ≡ 1 = omega arith in
    let b : (1 + 2 * number I) / 2 ≡ number I = omega arith in
    ap₂ (λ x y. x ∷ y) (ap (λ (m : ℕ). eqb m 1) a) (ap (subset (length I)) b ∙ subset_of_number I)
subset_of_number (false ∷ I) =
    let a : (2 * number I) % 2 ≡ 0 = omega arith in
    let b : (2 * number I) / 2 ≡ number I = omega arith in
    ap₂ (λ x y. x ∷ y) (ap (λ (m : ℕ). eqb m 1) a) (ap (subset (length I)) b ∙ subset_of_number I)

pub number_below : (I : List Bool) → number I < 2 ^ length I
number_below [] = omega arith
number_below (true ∷ I) = let h = number_below I in let e : 2 ^ suc (length I) ≡ 2 * 2 ^ length I = omega arith in omega (arith, h, e)
number_below (false ∷ I) = let h = number_below I in let e : 2 ^ suc (length I) ≡ 2 * 2 ^ length I = omega arith in omega (arith, h, e)

pub length-subset : (k s : ℕ) → length (subset k s) ≡ k
length-subset zero s = refl
length-subset (suc k) s = ap suc (length-subset k (s / 2))

-- the first subset has nothing
pub nothing_chosen : {X : Type 0} (k : ℕ) (xs : List X) → items_where_true (subset k 0) xs ≡ []
nothing_chosen zero xs = refl
nothing_chosen (suc k) [] = refl
nothing_chosen (suc k) (x ∷ xs) = nothing_chosen k xs

-- ---- one place more

-- what is left of a number after its first digits
abbrev pub after_digits : ℕ → ℕ → ℕ
after_digits zero s = s
after_digits (suc i) s = after_digits i (s / 2)

pub after_one_more : (i s : ℕ) → after_digits (suc i) s ≡ after_digits i s / 2
after_one_more zero s = refl
after_one_more (suc i) s = after_one_more i (s / 2)

pub subset_more : (i s : ℕ) → subset (suc i) s ≡ subset i s ++ (eqb (after_digits i s % 2) 1 ∷ [])
subset_more zero s = refl
subset_more (suc i) s = ap (λ (I : List Bool). eqb (s % 2) 1 ∷ I) (subset_more i (s / 2))

one_chosen : {X : Type 0} (b : Bool) (x : X) → items_where_true (b ∷ []) (x ∷ []) ≡ cond b (x ∷ []) []
one_chosen true x = refl
one_chosen false x = refl

-- what a subset chooses of one thing more
pub chosen_more : {X : Type 0} (i s : ℕ) (xs : List X) (x : X) → length xs ≡ i
    → items_where_true (subset (suc i) s) (xs ++ (x ∷ [])) ≡ items_where_true (subset i s) xs ++ cond (eqb (after_digits i s % 2) 1) (x ∷ []) []
chosen_more i s xs x l =
    ap (λ (I : List Bool). items_where_true I (xs ++ (x ∷ []))) (subset_more i s)
    ∙ chosen-append (subset i s) (eqb (after_digits i s % 2) 1 ∷ []) xs (x ∷ []) (length-subset i s ∙ sym l)
    ∙ ap (λ zs. items_where_true (subset i s) xs ++ zs) (one_chosen (eqb (after_digits i s % 2) 1) x)

-- ---- what is true of all is true of what is chosen

pub All-chosen : {X : Type 0} (P : X → Type 0) (I : List Bool) (xs : List X) → All P xs → All P (items_where_true I xs)
All-chosen P [] xs h = All-nil P
All-chosen P (b ∷ I) [] h = All-nil P
All-chosen P (true ∷ I) (x ∷ xs) h = All-cons P x (items_where_true I xs) (All-head P x xs h) (All-chosen P I xs (All-tail P x xs h))
All-chosen P (false ∷ I) (x ∷ xs) h = All-chosen P I xs (All-tail P x xs h)

-- two tests that agree place by place agree on what is chosen
pub same_any : {X Y : Type 0} (p : X → Bool) (q : Y → Bool) (I : List Bool) (xs : List X) (ys : List Y) (d : X) (e : Y) → length xs ≡ length ys
    → ((i : ℕ) → i < length xs → p (get_or xs i d) ≡ q (get_or ys i e))
    → list_any p (items_where_true I xs) ≡ list_any q (items_where_true I ys)
same_any p q [] xs ys d e l h = refl
same_any p q (b ∷ I) [] [] d e l h = refl
same_any p q (b ∷ I) [] (y ∷ ys) d e l h = absurd (omega (arith, l))
same_any p q (b ∷ I) (x ∷ xs) [] d e l h = absurd (omega (arith, l))
same_any p q (true ∷ I) (x ∷ xs) (y ∷ ys) d e l h =
    ap₂ (λ a b. a || b) (h zero (omega arith)) (same_any p q I xs ys d e (omega (arith, l)) (λ i li. h (suc i) (omega (arith, li))))
same_any p q (false ∷ I) (x ∷ xs) (y ∷ ys) d e l h = same_any p q I xs ys d e (omega (arith, l)) (λ i li. h (suc i) (omega (arith, li)))

-- ---- a set with some more elements

pub length-with_elements : (C : List Bool) (xs : List ℕ) → length (with_elements C xs) ≡ length C
length-with_elements C [] = refl
length-with_elements C (x ∷ xs) = length-set (with_elements C xs) x true ∙ length-with_elements C xs

pub in_with_elements : (C : List Bool) (xs : List ℕ) (e : ℕ) → All (λ x. x < length C) xs
    → get_or (with_elements C xs) e false ≡ (get_or C e false || list_any (λ x. eqb e x) xs)
in_with_elements C [] e h = sym (or-false (get_or C e false))
in_with_elements C (x ∷ xs) e h =
    let W = with_elements C xs in
    let rest = list_any (λ y. eqb e y) xs in
    let ih : get_or W e false ≡ (get_or C e false || rest) = in_with_elements C xs e (All-tail (λ y. y < length C) x xs h) in
    elim (cases_eq e x) [
      | inl q ↦
          let l : x < length W = subst (λ k. x < k) (sym (length-with_elements C xs)) (All-head (λ y. y < length C) x xs h) in
          ap (λ k. get_or (set W x true) k false) q ∙ get_or-set_same W x true false l
          ∙ sym (ap (λ b. get_or C e false || (b || rest)) (eq-eqb e x q) ∙ or-true (get_or C e false))
      | inr n ↦
          get_or-set_other W x e true false n ∙ ih
          ∙ sym (ap (λ b. get_or C e false || (b || rest)) (ne_eqb e x n))
    ]
