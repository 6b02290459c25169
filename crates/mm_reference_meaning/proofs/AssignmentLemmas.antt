-- Assignments and chosen columns, one element after the other.
use Rattle.std.proofs.Common.{◌≡◌, ◌<◌, ◌+◌, ℕ, suc, zero, Bool, true, false, ◌&&◌, ◌||◌, cond, All, List, [], ◌∷◌, ◌++◌, map, length, get_or, take, refl, sym, ap, ap₂, ◌∙◌, subst, arith, add-one, ◌≤◌}
use Rattle.std.specs.List.{items_where_true, list_any, list_all}
use Rattle.std.specs.declared.vec.Vec.{Vec}
use Rattle.std.proofs.Math.Seq.{take-suc}
use Rattle.std.proofs.Math.Bool.{or-true, and-false}
use Rattle.std.proofs.lemmas.List.{map-append, length-map, length-take-le, length-replicate, get_or-map, take_all}
use Rattle.std.proofs.lemmas.List.Elements.{All-nil, All-cons, All-map, All-append}
use Rattle.mm_logic.proofs.ChosenLemmas.{chosen-append}
use Rattle.mm_field.specs.declared.Field.{Field}
use Rattle.mm_field.specs.Vectors.{AreVectors}
use Rattle.mm_logic.specs.PresentMatrix.{internal, chosen}
use Rattle.mm_logic.specs.Tree.{Tree, IsValid, boundary}
use Rattle.mm_logic_laws.proofs.MatrixLemmas.{chosen_are}
use Rattle.mm_logic.specs.Marks.{mark, assign, none, singles}
use Rattle.mm_logic_laws.proofs.LeastLemmas.{assign-append}
use Rattle.mm_reference_meaning.specs.Rows.{rows_of}
use Rattle.mm_reference_meaning.specs.Formulas.{marks_of, tests_of}

pub take_next : {A : Type 0} (i : ℕ) (xs : List A) (d : A) → i < length xs → take (i + 1) xs ≡ take i xs ++ (get_or xs i d ∷ [])
take_next i xs d l = ap (λ n. take n xs) (add-one i) ∙ take-suc xs i d l

-- the assignment of one more element
pub assign_next : (k i : ℕ) (set : List Bool) (ms : List (List Bool)) (made : List Bool) → i < length ms → length set ≡ length ms →
    ((j : ℕ) → get_or made j false ≡ mark k (get_or set i false) (marks_of (get_or ms i [])) j) →
    assign k (take i set) (map marks_of (take i ms)) ++ (marks_of made ∷ []) ≡ assign k (take (i + 1) set) (map marks_of (take (i + 1) ms))
assign_next k i set ms made l e h =
    let f : marks_of made ≡ mark k (get_or set i false) (marks_of (get_or ms i [])) = λ t j. h j t in
    let n : length (take i set) ≡ length (map marks_of (take i ms)) =
    length-take-le i set (omega (arith, l, e)) ∙ sym (length-take-le i ms (omega (arith, l))) ∙ sym (length-map (take i ms) marks_of) in
    ap (λ m. assign k (take i set) (map marks_of (take i ms)) ++ (m ∷ [])) f
    ∙ sym (assign-append k (take i set) (get_or set i false ∷ []) (map marks_of (take i ms)) (marks_of (get_or ms i []) ∷ []) n)
    ∙ sym (ap₂ (λ X us. assign k X us) (take_next i set false (omega (arith, l, e)))
    (ap (map marks_of) (take_next i ms [] l) ∙ map-append marks_of (take i ms) (get_or ms i [] ∷ [])))

-- the chosen rows with one more row
pub chosen_next : {A : Type 0} (i : ℕ) (set : List Bool) (rows : List (Vec ℕ A)) (row : Vec ℕ A) → i < length rows → length set ≡ length rows →
    row ≡ get_or rows i row →
    items_where_true (take (i + 1) set) (rows_of (take (i + 1) rows))
    ≡ items_where_true (take i set) (rows_of (take i rows)) ++ cond (get_or set i false) (row.items ∷ []) []
chosen_next i set rows row l e is =
    let n : length (take i set) ≡ length (rows_of (take i rows)) =
    length-take-le i set (omega (arith, l, e)) ∙ sym (length-take-le i rows (omega (arith, l))) ∙ sym (length-map (take i rows) (λ v. v.items)) in
    ap₂ (λ X us. items_where_true X us) (take_next i set false (omega (arith, l, e)))
    (ap rows_of (take_next i rows row l) ∙ map-append (λ v. v.items) (take i rows) (get_or rows i row ∷ []))
    ∙ chosen-append (take i set) (get_or set i false ∷ []) (rows_of (take i rows)) ((get_or rows i row).items ∷ []) n
    ∙ ap (λ xs. items_where_true (take i set) (rows_of (take i rows)) ++ xs)
    (one (get_or set i false) (get_or rows i row).items ∙ ap (λ v. cond (get_or set i false) (v.items ∷ []) []) (sym is))
  where
    one : (b : Bool) (v : List ℕ) → items_where_true (b ∷ []) (v ∷ []) ≡ cond b (v ∷ []) []
    one true v = refl
    one false v = refl

-- a set of the list, by its place
pub test_at : {A : Type 0} (sets : List (Vec Bool A)) (i : ℕ) (set : Vec Bool A) (d : List Bool) → i < length sets → set ≡ get_or sets i set →
    get_or (tests_of sets) i d ≡ set.items
test_at sets i set d l e = get_or-map (λ v. v.items) sets i set d l ∙ ap (λ v. v.items) (sym e)

pub set_length : {A : Type 0} (n : ℕ) (sets : List (Vec Bool A)) (i : ℕ) (set : Vec Bool A) → All (λ X. length X ≡ n) (tests_of sets) →
    i < length sets → set ≡ get_or sets i set → length set.items ≡ n
set_length n sets i set h l e =
    ap length (sym (test_at sets i set set.items l e)) ∙ h i set.items (subst (λ k. i < k) (sym (length-map sets (λ v. v.items))) l)

pub some_passes : {X : Type 0} (p : X → Bool) (xs : List X) (i : ℕ) (d : X) → i < length xs → p (get_or xs i d) ≡ true → list_any p xs ≡ true
some_passes p [] i d l h = absurd (omega arith)
some_passes p (x ∷ xs) zero d l h = ap (λ b. b || list_any p xs) h
some_passes p (x ∷ xs) (suc i) d l h = ap (λ b. p x || b) (some_passes p xs i d (omega (arith, l)) h) ∙ or-true (p x)

pub one_fails : (p : List Bool → Bool) (xs : List (List Bool)) (i : ℕ) (d : List Bool) → i < length xs → p (get_or xs i d) ≡ false → list_all p xs ≡ false
one_fails p [] i d l h = absurd (omega arith)
one_fails p (x ∷ xs) zero d l h = ap (λ b. b && list_all p xs) h
one_fails p (x ∷ xs) (suc i) d l h = ap (λ b. p x && b) (one_fails p xs i d (omega (arith, l)) h) ∙ and-false (p x)

pub length-singles : (n : ℕ) → All (λ X. length X ≡ n) (singles n)
length-singles zero = All-nil (λ X. length X ≡ zero)
length-singles (suc n) =
    All-cons (λ X. length X ≡ suc n) (true ∷ none n) (map (λ X. false ∷ X) (singles n)) (ap suc (length-replicate n false))
    (All-map (λ X. length X ≡ suc n) (λ X. false ∷ X) (singles n) (λ k d l. ap suc (length-singles n k d l)))

-- a property of the values up to a place, and of the one there, is one of the values up to the next place
pub all_more : {A : Type 0} (P : A → Type 0) (xs : List A) (i : ℕ) (d : A) → i < length xs → All P (take i xs) → P (get_or xs i d) →
    All P (take (i + 1) xs)
all_more P xs i d l h p =
    subst (λ ys. All P ys) (sym (take_next i xs d l)) (All-append P (take i xs) (get_or xs i d ∷ []) h (All-cons P (get_or xs i d) [] p (All-nil P)))

-- and at the end it is one of all values
pub all_taken : {A : Type 0} (P : A → Type 0) (xs : List A) (i : ℕ) → length xs ≤ i → All P (take i xs) → All P xs
all_taken P xs i l h = subst (λ ys. All P ys) (take_all i xs l) h

-- the columns of a set, where their digits are counted
pub chosen_rows : (f : Field) (T : Tree) (X : List Bool) (rows : List (List ℕ)) (t m : ℕ) → IsValid f T → rows ≡ chosen f T X →
    t ≡ boundary T → m ≡ internal T → AreVectors f (t + m) rows
chosen_rows f T X rows t m ok is et em =
    subst (λ us. AreVectors f (t + m) us) (sym is) (subst (λ n. AreVectors f n (chosen f T X)) (sym (ap₂ (λ a b. a + b) et em)) (chosen_are f T X ok))
