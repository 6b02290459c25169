-- The assignment under the quantifiers of the minor formula.
use Rattle.std.proofs.Common.{◌≡◌, ℕ, zero, suc, ◌+◌, ◌<◌, Bool, true, false, ◌||◌, eqb, All, List, [], ◌∷◌, map, length, get_or, refl, sym, ap, ◌∙◌, subst, arith, inl, inr}
use Rattle.std.specs.Prelude.{if◌then◌else◌}
use Rattle.std.specs.List.{items_where_true, list_any}
use Rattle.std.proofs.lemmas.Bool.{ne_eqb, eq-eqb, cases_eq}
use Rattle.std.proofs.lemmas.List.{length-map, get_or-map, length-replicate, ext_get_or}
use Rattle.std.proofs.lemmas.List.Elements.{All-head, All-tail}
use Rattle.std.proofs.lemmas.List.FromFn.{length-map-range_with_len, get_or-map-range_with_len}
use Rattle.mm_logic.specs.Formula.{Term}
use Rattle.mm_logic.specs.Marks.{Marks, no_marks, unmarked, assign, none, only, in_term}
use Rattle.mm_logic.specs.Meaning.{union}
use Rattle.mm_logic.proofs.SetLemmas.{list_any-map}
use Rattle.mm_formula.specs.Scope.{slot_in}
use Rattle.mm_minor.specs.MinorFormula.{contracted, element, elements}
use Rattle.mm_minor.specs.Minors.{with_elements}
use Rattle.mm_minor.proofs.SlotLemmas.{all_binders, contracted_slot, element_slot}
use Rattle.mm_minor.proofs.SubsetLemmas.{All-chosen, same_any, length-with_elements, in_with_elements}

-- the assignment with some elements as slots from s on
abbrev pub assigned : ℕ → List ℕ → List Marks → List Marks
assigned s [] ms = ms
assigned s (x ∷ xs) ms = assigned (suc s) xs (assign s (only (length ms) x) ms)

pub length-assign : (s : ℕ) (X : List Bool) (ms : List Marks) → length (assign s X ms) ≡ length ms
length-assign s X [] = refl
length-assign s [] (m ∷ ms) = ap suc (length-assign s [] ms)
length-assign s (b ∷ X) (m ∷ ms) = ap suc (length-assign s X ms)

neither : (b : Bool) → false ≡ (if b then false else false)
neither true = refl
neither false = refl

marks_of_assign : (s : ℕ) (X : List Bool) (ms : List Marks) (e j : ℕ) → length X ≡ length ms
    → get_or (assign s X ms) e no_marks j ≡ (if eqb j s then get_or X e false else get_or ms e no_marks j)
marks_of_assign s [] [] e j l = neither (eqb j s)
marks_of_assign s [] (m ∷ ms) e j l = absurd (omega (arith, l))
marks_of_assign s (b ∷ X) [] e j l = absurd (omega (arith, l))
marks_of_assign s (b ∷ X) (m ∷ ms) zero j l = refl
marks_of_assign s (b ∷ X) (m ∷ ms) (suc e) j l = marks_of_assign s X ms e j (omega (arith, l))

length-only : (n x : ℕ) → length (only n x) ≡ n
length-only zero x = refl
length-only (suc n) zero = ap suc (length-replicate n false)
length-only (suc n) (suc x) = ap suc (length-only n x)

not_in_none : (n e : ℕ) → get_or (none n) e false ≡ false
not_in_none zero e = refl
not_in_none (suc n) zero = refl
not_in_none (suc n) (suc e) = not_in_none n e

next_same : (a b : ℕ) → eqb a b ≡ eqb (suc a) (suc b)
next_same a b = elim (cases_eq a b) [
  | inl e ↦ eq-eqb a b e ∙ sym (eq-eqb (suc a) (suc b) (ap suc e))
  | inr n ↦ ne_eqb a b n ∙ sym (ne_eqb (suc a) (suc b) (λ q. n (omega (arith, q))))
]

in_only : (n x e : ℕ) → x < n → get_or (only n x) e false ≡ eqb e x
in_only zero x e l = absurd (omega arith)
in_only (suc n) zero zero l = refl
in_only (suc n) zero (suc e) l = not_in_none n e ∙ sym (ne_eqb (suc e) 0 (λ q. omega (arith, q)))
in_only (suc n) (suc x) zero l = sym (ne_eqb 0 (suc x) (λ q. omega (arith, q)))
in_only (suc n) (suc x) (suc e) l = in_only n x e (omega (arith, l)) ∙ next_same e x

length-assigned : (s : ℕ) (xs : List ℕ) (ms : List Marks) → length (assigned s xs ms) ≡ length ms
length-assigned s [] ms = refl
length-assigned s (x ∷ xs) ms =
    length-assigned (suc s) xs (assign s (only (length ms) x) ms) ∙ length-assign s (only (length ms) x) ms

marks_before : (s : ℕ) (xs : List ℕ) (ms : List Marks) (e j : ℕ) → j < s → get_or (assigned s xs ms) e no_marks j ≡ get_or ms e no_marks j
marks_before s [] ms e j l = refl
marks_before s (x ∷ xs) ms e j l =
    let X = only (length ms) x in
    marks_before (suc s) xs (assign s X ms) e j (omega (arith, l))
    ∙ marks_of_assign s X ms e j (length-only (length ms) x)
    ∙ ap (λ (b : Bool). if b then get_or X e false else get_or ms e no_marks j) (ne_eqb j s (λ q. omega (arith, q, l)))

marks_at : (s : ℕ) (xs : List ℕ) (ms : List Marks) (e i : ℕ) → i < length xs → All (λ x. x < length ms) xs
    → get_or (assigned s xs ms) e no_marks (s + i) ≡ eqb e (get_or xs i 0)
marks_at s [] ms e i l h = absurd (omega (arith, l))
marks_at s (x ∷ xs) ms e zero l h =
    let X = only (length ms) x in
    let z : s + zero ≡ s = omega arith in
    ap (λ (j : ℕ). get_or (assigned (suc s) xs (assign s X ms)) e no_marks j) z
    ∙ marks_before (suc s) xs (assign s X ms) e s (omega arith)
    ∙ marks_of_assign s X ms e s (length-only (length ms) x)
    ∙ ap (λ (b : Bool). if b then get_or X e false else get_or ms e no_marks s) (eq-eqb s s refl)
    ∙ in_only (length ms) x e (All-head (λ y. y < length ms) x xs h)
marks_at s (x ∷ xs) ms e (suc i) l h =
    let X = only (length ms) x in
    let z : s + suc i ≡ suc s + i = omega arith in
    ap (λ (j : ℕ). get_or (assigned (suc s) xs (assign s X ms)) e no_marks j) z
    ∙ marks_at (suc s) xs (assign s X ms) e i (omega (arith, l))
    (subst (λ (n : ℕ). All (λ y. y < n) xs) (sym (length-assign s X ms)) (All-tail (λ y. y < length ms) x xs h))

-- C and xs, one for each of k elements, are a set and elements of n elements
pub record AreChosen (n k : ℕ) (C : List Bool) (xs : List ℕ) : Type 0 where
  pub is_set : length C ≡ n
  pub count : length xs ≡ k
  pub are_elements : All (λ x. x < n) xs

-- the assignment that they are
abbrev pub assignment : ℕ → List Bool → List ℕ → List Marks
assignment n C xs = assigned 1 xs (assign 0 C (unmarked n))

pub length-assignment : (n : ℕ) (C : List Bool) (xs : List ℕ) → length (assignment n C xs) ≡ n
length-assignment n C xs = length-assigned 1 xs (assign 0 C (unmarked n)) ∙ length-assign 0 C (unmarked n) ∙ length-replicate n no_marks

pub contracted_marks : (n k : ℕ) (C : List Bool) (xs : List ℕ) (e : ℕ) → AreChosen n k C xs
    → get_or (assignment n C xs) e no_marks (slot_in (all_binders k) contracted) ≡ get_or C e false
contracted_marks n k C xs e h =
    ap (λ (s : ℕ). get_or (assignment n C xs) e no_marks s) (contracted_slot k)
    ∙ marks_before 1 xs (assign 0 C (unmarked n)) e 0 (omega arith)
    ∙ marks_of_assign 0 C (unmarked n) e 0 (h.is_set ∙ sym (length-replicate n no_marks))

pub element_marks : (n k : ℕ) (C : List Bool) (xs : List ℕ) (e i : ℕ) → AreChosen n k C xs → i < k
    → get_or (assignment n C xs) e no_marks (slot_in (all_binders k) (element i)) ≡ eqb e (get_or xs i 0)
element_marks n k C xs e i h l =
    let z : suc i ≡ 1 + i = omega arith in
    let c = h.count in
    let len : length (assign 0 C (unmarked n)) ≡ n = length-assign 0 C (unmarked n) ∙ length-replicate n no_marks in
    ap (λ (s : ℕ). get_or (assignment n C xs) e no_marks s) (element_slot k i l ∙ z)
    ∙ marks_at 1 xs (assign 0 C (unmarked n)) e i (omega (arith, l, c)) (subst (λ (m : ℕ). All (λ y. y < m) xs) (sym len) h.are_elements)

-- the term of C and of some elements
abbrev pub slots_of : ℕ → List Bool → Term
slots_of k I = record { whole = false; slots = map (slot_in (all_binders k)) (contracted ∷ items_where_true I (elements k)) }

-- its union is C with those elements
pub union_is : (n k : ℕ) (C : List Bool) (xs : List ℕ) (I : List Bool) → AreChosen n k C xs
    → union (slots_of k I) (assignment n C xs) ≡ with_elements C (items_where_true I xs)
union_is n k C xs I h =
    let M = assignment n C xs in
    let t = slots_of k I in
    let ys = items_where_true I xs in
    let bs = all_binders k in
    let len : length (union t M) ≡ n = length-map M (in_term t) ∙ length-assignment n C xs in
    ext_get_or false (union t M) (with_elements C ys) (len ∙ sym (length-with_elements C ys ∙ h.is_set))
    (λ e l.
    let m = get_or M e no_marks in
    let lM : e < length M = omega (arith, l, len, length-assignment n C xs) in
    get_or-map (in_term t) M e no_marks false lM
    ∙ ap (λ (b : Bool). m (slot_in bs contracted) || b)
    (list_any-map m (slot_in bs) (items_where_true I (elements k))
    ∙ same_any (λ v. m (slot_in bs v)) (λ x. eqb e x) I (elements k) xs [] 0
    (length-map-range_with_len element 0 k ∙ sym h.count)
    (λ i li.
    let lk : i < k = omega (arith, li, length-map-range_with_len element 0 k) in
    ap (λ (v : List ℕ). m (slot_in bs v)) (get_or-map-range_with_len element 0 k i i [] lk (omega arith))
    ∙ element_marks n k C xs e i h lk))
    ∙ ap (λ (b : Bool). b || list_any (λ x. eqb e x) ys) (contracted_marks n k C xs e h)
    ∙ sym (in_with_elements C ys e (All-chosen (λ x. x < length C) I xs (subst (λ (c : ℕ). All (λ x. x < c) xs) (sym h.is_set) h.are_elements))))
