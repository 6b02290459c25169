-- Weights and leaf words, one element after the other; and the first of a list of sets.
use Rattle.std.proofs.Common.{◌≡◌, ◌<◌, ◌+◌, ℕ, suc, zero, Bool, true, false, if◌then◌else◌, ℤ, pos, ◌+ℤ◌, cond, List, [], ◌∷◌, length, get_or, take, drop, refl, ap, ap₂, ◌∙◌, arith, add-one, filter, sym}
use Rattle.std.proofs.lemmas.Int.{ints}
use Rattle.std.proofs.lemmas.List.{at_drop_more, length-replicate}
use Rattle.std.proofs.Math.IntN.{+ℤ_assoc}
use Rattle.std.specs.Cmp.Lexicographic.{slice_partial_cmp}
use Rattle.std.specs.Ordering.{partial_lt, as_partial_cmp, bool_cmp}
use Rattle.mm_field.specs.declared.Field.{Field}
use Rattle.mm_logic.specs.Formula.{Formula}
use Rattle.mm_logic.specs.Least.{weight, precedes, is_before, first_of, holds_of}
use Rattle.mm_logic.specs.Marks.{Marks, no_marks, unmarked, assign, sets}
use Rattle.mm_logic.specs.Meaning.{holds}
use Rattle.mm_logic.specs.Tree.{Tree, size}

pub add_nothing : (w : ℤ) → w +ℤ pos 0 ≡ w
add_nothing w = omega (arith, ints)

add_zero : (w : ℤ) → w +ℤ pos 0 ≡ pos 0 +ℤ w
add_zero w = omega (arith, ints)

more : (i : ℕ) (ws : List ℤ) (X : List Bool) → i < length ws → length X ≡ length ws →
    weight (take (suc i) ws) (take (suc i) X) ≡ weight (take i ws) (take i X) +ℤ cond (get_or X i false) (get_or ws i (pos 0)) (pos 0)
more i [] X l e = absurd (omega arith)
more i (w ∷ ws) [] l e = absurd (omega arith)
more zero (w ∷ ws) (true ∷ X) l e = add_zero w
more zero (w ∷ ws) (false ∷ X) l e = refl
more (suc i) (w ∷ ws) (true ∷ X) l e =
    ap (λ s. w +ℤ s) (more i ws X (omega arith) (omega arith))
    ∙ sym (+ℤ_assoc w (weight (take i ws) (take i X)) (cond (get_or X i false) (get_or ws i (pos 0)) (pos 0)))
more (suc i) (w ∷ ws) (false ∷ X) l e = more i ws X (omega arith) (omega arith)

-- the weight with one more element
pub weight_next : (i : ℕ) (ws : List ℤ) (X : List Bool) → i < length ws → length X ≡ length ws →
    weight (take (i + 1) ws) (take (i + 1) X) ≡ weight (take i ws) (take i X) +ℤ cond (get_or X i false) (get_or ws i (pos 0)) (pos 0)
weight_next i ws X l e = ap (λ n. weight (take n ws) (take n X)) (add-one i) ∙ more i ws X l e

-- The lexicographic order of two leaf words of one length is that of their sets.
pub leaf_words : (X Y : List Bool) → length X ≡ length Y → partial_lt (slice_partial_cmp (as_partial_cmp bool_cmp)) X Y ≡ precedes X Y
leaf_words [] [] e = refl
leaf_words [] (y ∷ Y) e = absurd (omega arith)
leaf_words (x ∷ X) [] e = absurd (omega arith)
leaf_words (false ∷ X) (true ∷ Y) e = refl
leaf_words (true ∷ X) (false ∷ Y) e = refl
leaf_words (false ∷ X) (false ∷ Y) e = leaf_words X Y (omega arith)
leaf_words (true ∷ X) (true ∷ Y) e = leaf_words X Y (omega arith)

-- the first of a set and the sets from a place on, by the set there
pub first_of_next : (ws : List ℤ) (X : List Bool) (i : ℕ) (Xs : List (List Bool)) → i < length Xs →
    first_of ws X (drop i Xs) ≡ first_of ws (if is_before ws (get_or Xs i []) X then get_or Xs i [] else X) (drop (i + 1) Xs)
first_of_next ws X i Xs l = at_drop_more (first_of ws X) Xs i [] l

pub marks_length : (n : ℕ) (ms : List Marks) → ms ≡ unmarked n → length ms ≡ n
marks_length n ms e = ap length e ∙ length-replicate n no_marks

-- the sets that satisfy a formula, by the marks of all elements
pub satisfying_is : (f : Field) (F : Formula) (T : Tree) (ms : List Marks) (Xs kept : List (List Bool)) → ms ≡ unmarked (size T) → Xs ≡ sets (length ms) →
    kept ≡ filter (λ X. holds f F T (assign 0 X ms)) Xs → kept ≡ filter (holds_of f F T) (sets (size T))
satisfying_is f F T ms Xs kept e all is =
    is ∙ ap₂ (λ us Ys. filter (λ X. holds f F T (assign 0 X us)) Ys) e (all ∙ ap sets (marks_length (size T) ms e))
