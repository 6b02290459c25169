-- When the parts of the minor formula hold: quantifiers, conjunctions and lists of conditions.
use Rattle.std.proofs.Common.{◌≡◌, ℕ, zero, suc, ◌+◌, ◌-◌, ◌<◌, ◌≤◌, ◌↔◌, inl, inr, Bool, true, false, All, List, [], ◌∷◌, ◌++◌, map, length, refl, sym, ap, subst, arith}
use Rattle.std.specs.Prelude.{flat_map}
use Rattle.std.specs.List.{range_with_len}
use Rattle.std.proofs.lemmas.Bool.{cases_eq}
use Rattle.std.proofs.lemmas.List.{length-append, get_or_append_left, get_or-append-add}
use Rattle.std.proofs.lemmas.List.Elements.{All-nil, All-cons, All-head, All-tail, All-append}
use Rattle.std.proofs.lemmas.List.FromFn.{length-map-range_with_len, get_or-map-range_with_len}
use Rattle.mm_field.specs.declared.Field.{Field}
use Rattle.mm_logic.specs.Tree.{Tree}
use Rattle.mm_logic.specs.Marks.{Marks, assign, only}
use Rattle.mm_logic.specs.Meaning.{Holds}
use Rattle.mm_formula.specs.Syntax.{Syntax}
use Rattle.mm_formula.specs.Syntax.Syntax.{Bin}
use Rattle.mm_formula.specs.Scope.{slotted}
use Rattle.mm_formula.specs.declared.formula.Connective.TheVariants.{And}
use Rattle.mm_minor.specs.MinorFormula.{element, asserted, conjunction, with_some}
use Rattle.mm_minor.proofs.SlotLemmas.{under}
use Rattle.mm_minor.proofs.AssignmentLemmas.{assigned, length-assign}

-- ---- lists of conditions

pub All-left : {X : Type 0} (P : X → Type 0) (xs ys : List X) → All P (xs ++ ys) → All P xs
All-left P xs ys h = λ k d l. subst P (get_or_append_left xs ys d k l) (h k d (omega (arith, l, length-append xs ys)))

pub All-right : {X : Type 0} (P : X → Type 0) (xs ys : List X) → All P (xs ++ ys) → All P ys
All-right P xs ys h = λ k d l. subst P (get_or-append-add xs ys k d) (h (length xs + k) d (omega (arith, l, length-append xs ys)))

pub each_in_range : {X : Type 0} (P : X → Type 0) (g : ℕ → X) (a m : ℕ) → All P (map g (range_with_len a m)) → (i : ℕ) → a ≤ i → i < a + m → P (g i)
each_in_range P g a m h i la li =
    let e : a + (i - a) ≡ i = omega (arith, la) in
    let lm : i - a < m = omega (arith, la, li) in
    subst P (get_or-map-range_with_len g a m (i - a) i (g i) lm e) (h (i - a) (g i) (omega (arith, lm, length-map-range_with_len g a m)))

pub range_from_each : {X : Type 0} (P : X → Type 0) (g : ℕ → X) (a m : ℕ) → ((i : ℕ) → a ≤ i → i < a + m → P (g i)) → All P (map g (range_with_len a m))
range_from_each P g a m h = λ k d l.
    let lk : k < m = omega (arith, l, length-map-range_with_len g a m) in
    subst P (sym (get_or-map-range_with_len g a m k (a + k) d lk refl)) (h (a + k) (omega arith) (omega (arith, lk)))

pub each_list_in_range : {X : Type 0} (P : X → Type 0) (g : ℕ → List X) (a m : ℕ) → All P (flat_map g (range_with_len a m))
    → (i : ℕ) → a ≤ i → i < a + m → All P (g i)
each_list_in_range P g a zero h i la li = absurd (omega (arith, la, li))
each_list_in_range P g a (suc m) h i la li = elim (cases_eq i a) [
  | inl e ↦ subst (λ j. All P (g j)) (sym e) (All-left P (g a) (flat_map g (range_with_len (a + 1) m)) h)
  | inr n ↦
      let l : a + 1 ≤ i = above i a la n in
      each_list_in_range P g (a + 1) m (All-right P (g a) (flat_map g (range_with_len (a + 1) m)) h) i l (omega (arith, li))
]
  where
    above : (i a : ℕ) → a ≤ i → (i ≡ a → ⊥) → a + 1 ≤ i
    above i a l n = omega (arith, l, n)

pub range_from_each_list : {X : Type 0} (P : X → Type 0) (g : ℕ → List X) (a m : ℕ) → ((i : ℕ) → a ≤ i → i < a + m → All P (g i))
    → All P (flat_map g (range_with_len a m))
range_from_each_list P g a zero h = All-nil P
range_from_each_list P g a (suc m) h =
    All-append P (g a) (flat_map g (range_with_len (a + 1) m)) (h a (omega arith) (omega arith))
    (range_from_each_list P g (a + 1) m (λ i la li. h i (omega (arith, la)) (omega (arith, li))))

-- ---- conjunctions

pub parts_hold : (f : Field) (T : Tree) (bs : List (List ℕ)) (ms : List Marks) (F : Syntax) (Gs : List Syntax) → Holds f (slotted bs (conjunction F Gs)) T ms
    → Holds f (slotted bs F) T ms × All (λ G. Holds f (slotted bs G) T ms) Gs
parts_hold f T bs ms F [] h = (h, All-nil (λ G. Holds f (slotted bs G) T ms))
parts_hold f T bs ms F (G ∷ Gs) h =
    let r = parts_hold f T bs ms (Bin And F G) Gs h in
    (r.0.0, All-cons (λ G. Holds f (slotted bs G) T ms) G Gs r.0.1 r.1)

pub conjunction_holds : (f : Field) (T : Tree) (bs : List (List ℕ)) (ms : List Marks) (F : Syntax) (Gs : List Syntax) → Holds f (slotted bs F) T ms
    → All (λ G. Holds f (slotted bs G) T ms) Gs → Holds f (slotted bs (conjunction F Gs)) T ms
conjunction_holds f T bs ms F [] h g = h
conjunction_holds f T bs ms F (G ∷ Gs) h g =
    conjunction_holds f T bs ms (Bin And F G) Gs (h, All-head (λ G. Holds f (slotted bs G) T ms) G Gs g) (All-tail (λ G. Holds f (slotted bs G) T ms) G Gs g)

-- ---- a formula or its negation

pub asserted_says : (f : Field) (T : Tree) (bs : List (List ℕ)) (ms : List Marks) (b : Bool) (F : Syntax) → Holds f (slotted bs (asserted b F)) T ms
    → Holds f (slotted bs F) T ms ↔ (b ≡ true)
asserted_says f T bs ms true F h = ((λ p. refl), (λ e. h))
asserted_says f T bs ms false F h = ((λ p. absurd (h p)), (λ e. let q : false ≡ true = e in cc))

pub asserted_from : (f : Field) (T : Tree) (bs : List (List ℕ)) (ms : List Marks) (b : Bool) (F : Syntax) → Holds f (slotted bs F) T ms ↔ (b ≡ true)
    → Holds f (slotted bs (asserted b F)) T ms
asserted_from f T bs ms true F h = h.1 refl
asserted_from f T bs ms false F h = λ p. let q : false ≡ true = h.0 p in cc

-- ---- quantifiers over elements

-- there are elements with which a formula under these binders holds
pub record SomeHold (f : Field) (T : Tree) (vs bs : List (List ℕ)) (F : Syntax) (ms : List Marks) : Type 0 where
  pub xs : List ℕ
  pub count : length xs ≡ length vs
  pub are_elements : All (λ x. x < length ms) xs
  pub holds : Holds f (slotted (under vs bs) F) T (assigned (length bs) xs ms)

pub some_hold : (f : Field) (T : Tree) (m a : ℕ) (bs : List (List ℕ)) (F : Syntax) (ms : List Marks)
    → Holds f (slotted bs (with_some (map element (range_with_len a m)) F)) T ms → SomeHold f T (map element (range_with_len a m)) bs F ms
some_hold f T zero a bs F ms h = record { xs = []; count = refl; are_elements = All-nil (λ x. x < length ms); holds = h }
some_hold f T (suc m) a bs F ms h =
    let X = only (length ms) h.0 in
    let r = some_hold f T m (a + 1) (element a ∷ bs) F (assign (length bs) X ms) h.2 in
    record {
      xs = h.0 ∷ r.xs;
      count = ap suc r.count;
      are_elements =
          All-cons (λ x. x < length ms) h.0 r.xs h.1
          (subst (λ (n : ℕ). All (λ x. x < n) r.xs) (length-assign (length bs) X ms) r.are_elements);
      holds = r.holds;
    }

pub some_from : (f : Field) (T : Tree) (m a : ℕ) (bs : List (List ℕ)) (F : Syntax) (ms : List Marks) (xs : List ℕ)
    → length xs ≡ m → All (λ x. x < length ms) xs
    → Holds f (slotted (under (map element (range_with_len a m)) bs) F) T (assigned (length bs) xs ms)
    → Holds f (slotted bs (with_some (map element (range_with_len a m)) F)) T ms
some_from f T zero a bs F ms [] l i h = h
some_from f T zero a bs F ms (x ∷ xs) l i h = absurd (omega (arith, l))
some_from f T (suc m) a bs F ms [] l i h = absurd (omega (arith, l))
some_from f T (suc m) a bs F ms (x ∷ xs) l i h =
    let X = only (length ms) x in (
      x,
      All-head (λ y. y < length ms) x xs i,
      some_from f T m (a + 1) (element a ∷ bs) F (assign (length bs) X ms) xs (omega (arith, l))
          (subst (λ (n : ℕ). All (λ y. y < n) xs) (sym (length-assign (length bs) X ms)) (All-tail (λ y. y < length ms) x xs i)) h,
    )
