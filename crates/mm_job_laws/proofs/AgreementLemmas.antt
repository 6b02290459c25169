-- Given rows and a tree are compared as the same exactly where they agree.
use Rattle.std.proofs.Common.{ℕ, ◌+◌, ◌<◌, ◌≤◌, ◌≡◌, ◌↔◌, Bool, true, false, cond, not, Option, Some, None, List, [], ◌∷◌, length, map, position, get_or, refl, sym, ap, ap₂, subst, ◌∙◌, arith}
use Rattle.std.specs.Prelude.{nat_lt}
use Rattle.std.specs.List.{position_or_len, range_with_len}
use Rattle.std.specs.Str.{bytes_eq}
use Rattle.std.proofs.lemmas.Bool.{ltb-false, not-false}
use Rattle.std.proofs.lemmas.List.{length-map}
use Rattle.std.proofs.lemmas.List.Elements.{All-nil, All-cons, All-head, All-tail}
use Rattle.std.proofs.lemmas.List.Sums.{fails_before_first}
use Rattle.std.proofs.lemmas.Simd.{map-map}
use Rattle.mm_field.specs.declared.Field.{Field}
use Rattle.mm_field.specs.Vectors.{IsVector, AreVectors, IsWithin, SameRowSpace}
use Rattle.mm_linear.specs.Decide.{is_in_span}
use Rattle.mm_linear.proofs.MeetTest.{is_in_span_decides}
use Rattle.mm_logic.specs.PresentMatrix.{internal, matrix_row}
use Rattle.mm_logic.specs.Tree as shapes
use Rattle.mm_logic.specs.Tree.{IsValid}
use Rattle.mm_present.specs.Comparing.{compared, compared_rows, digit_at, first_missing, first_outside, in_order, present_rows, verdict_of, verdict_of_rows}
use Rattle.mm_present.specs.declared.comparison.Verdict.{Verdict}
use Rattle.mm_present.specs.declared.comparison.Verdict.TheVariants as verdict
use Rattle.mm_tree.proofs.ElementLemmas.{count_elements}
use Rattle.mm_present.proofs.CompareLemmas.{as_many, placed_vector, position_none}
use Rattle.mm_present.proofs.TreeRows.{rows_are}
use Rattle.mm_tree.specs.NamedTree.{Tree, shape, element_names, is_one_of}
use Rattle.mm_job_laws.specs.Agreement.{AreAmong, Agrees, SameExactlyWhereTheyAgree}

-- ---- names

-- where no name is missing, each is among the others
pub none_missing : (names others : List (List ℕ)) → first_missing names others ≡ None → AreAmong names others
none_missing [] others e = All-nil (λ name. is_one_of name others ≡ true)
none_missing (name ∷ names) others e = go (is_one_of name others) refl (none_missing names others)
  where
    go : (b : Bool) → is_one_of name others ≡ b → (first_missing names others ≡ None → AreAmong names others) → AreAmong (name ∷ names) others
    go true p more =
        All-cons (λ name. is_one_of name others ≡ true) name names p
        (more (sym (ap (λ c. cond (not c) (Some name) (first_missing names others)) p) ∙ e))
    go false p more =
        let found : Some name ≡ None = sym (ap (λ c. cond (not c) (Some name) (first_missing names others)) p) ∙ e in cc

-- and where each is among the others, none is missing
pub none_is_missing : (names others : List (List ℕ)) → AreAmong names others → first_missing names others ≡ None
none_is_missing [] others h = refl
none_is_missing (name ∷ names) others h =
    ap (λ c. cond (not c) (Some name) (first_missing names others)) (All-head (λ name. is_one_of name others ≡ true) name names h)
    ∙ none_is_missing names others (All-tail (λ name. is_one_of name others ≡ true) name names h)

-- ---- rows outside a row space

fails_all : {X : Type 0} (p : X → Bool) (xs : List X) → position p xs ≡ None → (k : ℕ) (d : X) → k < length xs → p (get_or xs k d) ≡ false
fails_all p xs e k d l = go (nat_lt (position_or_len p xs) (length xs)) refl e
  where
    go : (b : Bool) → nat_lt (position_or_len p xs) (length xs) ≡ b → cond b (Some (position_or_len p xs)) None ≡ None → p (get_or xs k d) ≡ false
    go true q e = cc
    go false q e = let past : length xs ≤ position_or_len p xs = ltb-false _ _ q in fails_before_first p xs k d (omega arith)

-- no row is outside exactly where each is a combination of the others
pub all_inside : (f : Field) (n : ℕ) (rows others : List (List ℕ)) → AreVectors f n rows → AreVectors f n others → first_outside f n rows others ≡ None →
    IsWithin f n rows others
all_inside f n rows others hr ho e k d l =
    (is_in_span_decides f n others (get_or rows k d) ho (hr k d l)).0
    (not-false (is_in_span f n others (get_or rows k d)) (fails_all (λ row. not (is_in_span f n others row)) rows e k d l))

none_outside : (f : Field) (n : ℕ) (rows others : List (List ℕ)) → AreVectors f n rows → AreVectors f n others → IsWithin f n rows others →
    first_outside f n rows others ≡ None
none_outside f n rows others hr ho w =
    sym (position_none (λ row. not (is_in_span f n others row)) rows []
    (λ k l. ap not ((is_in_span_decides f n others (get_or rows k []) ho (hr k [] l)).1 (w k [] l))))

-- ---- the rows of a tree, and given rows in its order

pub tree_rows_are : (f : Field) (tree : Tree) → IsValid f (shape tree) → AreVectors f (length (element_names tree)) (present_rows f tree)
unfolding present_rows
tree_rows_are f tree ok =
    subst (λ n. AreVectors f n (map (matrix_row f (shape tree)) (range_with_len 0 (shapes.boundary (shape tree) + internal (shape tree)))))
    (sym (count_elements tree)) (rows_are f (shape tree) (λ i. i) 0 (shapes.boundary (shape tree) + internal (shape tree)) ok)

row_in_order : (f : Field) (n : ℕ) (names others : List (List ℕ)) (row : List ℕ) → IsVector f n row → IsVector f (length others) (in_order names others row)
row_in_order f n names others row h =
    let place : List ℕ → Option ℕ = λ name. position (bytes_eq name) names in
    subst (λ v. IsVector f (length others) v) (map-map (digit_at row) place others)
    (subst (λ m. IsVector f m (map (digit_at row) (map place others))) (length-map others place) (placed_vector f n row (map place others) h))

pub rows_in_order : (f : Field) (n : ℕ) (names others : List (List ℕ)) (rows : List (List ℕ)) → AreVectors f n rows →
    AreVectors f (length others) (map (in_order names others) rows)
rows_in_order f n names others [] h = All-nil (λ v. IsVector f (length others) v)
rows_in_order f n names others (row ∷ rows) h =
    All-cons (λ v. IsVector f (length others) v) _ _ (row_in_order f n names others row (All-head (λ v. IsVector f n v) row rows h))
    (rows_in_order f n names others rows (All-tail (λ v. IsVector f n v) row rows h))

-- ---- the verdict

verdict_parts : (o p : Option (List ℕ)) (rows : Verdict) → verdict_of o p rows ≡ verdict.Same → (o ≡ None) × (p ≡ None) × (rows ≡ verdict.Same)
verdict_parts (Some x) p rows e = cc
verdict_parts None (Some x) rows e = cc
verdict_parts None None rows e = (refl, refl, e)

row_verdict_parts : (i j : Option ℕ) → verdict_of_rows i j ≡ verdict.Same → (i ≡ None) × (j ≡ None)
row_verdict_parts (Some i) j e = cc
row_verdict_parts None (Some j) e = cc
row_verdict_parts None None e = (refl, refl)

same_rows : (f : Field) (n : ℕ) (given present : List (List ℕ)) → AreVectors f n given → AreVectors f n present →
    (compared_rows f n given present ≡ verdict.Same) ↔ SameRowSpace f n given present
same_rows f n given present hg hp = (
  (λ e.
      let p = row_verdict_parts (first_outside f n given present) (first_outside f n present given) e in
      (all_inside f n given present hg hp p.0, all_inside f n present given hp hg p.1)),
  (λ s. ap₂ verdict_of_rows (none_outside f n given present hg hp s.0) (none_outside f n present given hp hg s.1)),
)

pub same_exactly_where_they_agree : SameExactlyWhereTheyAgree
unfolding compared
same_exactly_where_they_agree f given tree ok de dg hg = (there, back)
  where
    elements : List (List ℕ)
    elements = element_names tree

    ordered : List (List ℕ)
    ordered = map (in_order given.names elements) given.rows

    rows : SameRowSpace f (length elements) ordered (present_rows f tree) ↔ (compared_rows f (length elements) ordered (present_rows f tree) ≡ verdict.Same)
    rows =
        let both = same_rows f (length elements) ordered (present_rows f tree) (rows_in_order f (length given.names) given.names elements given.rows hg)
        (tree_rows_are f tree ok) in
        (both.1, both.0)

    there : compared f given tree ≡ verdict.Same → Agrees f given tree
    there e =
        let p = verdict_parts (first_missing given.names elements) (first_missing elements given.names)
        (compared_rows f (length given.names) ordered (present_rows f tree)) e in
        let n = as_many given.names elements dg de p.0 p.1 in
        record {
          are_elements = none_missing given.names elements p.0;
          are_given = none_missing elements given.names p.1;
          same_space = rows.1 (sym (ap (λ m. compared_rows f m ordered (present_rows f tree)) n) ∙ p.2);
        }

    back : Agrees f given tree → compared f given tree ≡ verdict.Same
    back h =
        let all = none_is_missing given.names elements h.are_elements in
        let more = none_is_missing elements given.names h.are_given in
        let n = as_many given.names elements dg de all more in
        ap₂ (λ o p. verdict_of o p (compared_rows f (length given.names) ordered (present_rows f tree))) all more
        ∙ ap (λ m. compared_rows f m ordered (present_rows f tree)) n
        ∙ rows.0 h.same_space
