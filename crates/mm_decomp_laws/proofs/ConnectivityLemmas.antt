-- The boundary of a join is the connectivity of the columns below and outside it.
use Rattle.std.proofs.Common.{ℕ, ◌<◌, ◌≡◌, Bool, true, false, ◌==◌, ◌&&◌, List, [], ◌∷◌, ◌++◌, length, get_or, refl, sym, ap, ap₂, ◌∙◌, subst, arith}
use Rattle.std.specs.Prelude.{if◌then◌else◌}
use Rattle.std.specs.List.{list_all}
use Rattle.std.proofs.lemmas.List.{map-append}
use Rattle.std.proofs.lemmas.List.Elements.{All-nil, All-append}
use Rattle.mm_field.specs.declared.Field.{Field}
use Rattle.mm_field.specs.Vectors.{IsVector, AreVectors, InSpan, IsWithin}
use Rattle.mm_field.proofs.CombinationLemmas.{first_row, IsWithin-itself, IsWithin-within}
use Rattle.mm_linear.proofs.ReducedEchelonLemmas.{reduced_basis-same}
use Rattle.mm_decomp.specs.BuiltTree.{first_digit}
use Rattle.mm_decomp.specs.Shapes.{Shape, names}
use Rattle.mm_decomp.specs.Shapes.Shape.{Leaf, Join}
use Rattle.mm_decomp.specs.Spaces.{Given, boundaries, column_of, space}
use Rattle.mm_decomp.proofs.GivenLemmas.{AreColumns, columns_of, named_columns}
use Rattle.mm_decomp_laws.specs.Ranks.{IsOver, connectivities, connectivity, rank, rank_of, rank_of_column}
use Rattle.mm_decomp_laws.proofs.IndependenceLemmas.{in_front, in_back}
use Rattle.mm_decomp.proofs.LeafBasisLemmas.{leaf_basis}
use Rattle.mm_decomp_laws.proofs.RankSumLemmas.{dimension_of_sum}
use Rattle.mm_decomp_laws.proofs.SpaceLemmas.{both_columns, split_columns, in_both, in_space, space_independent, space_reduced}

pub fronts : (f : Field) (n : ℕ) (A B : List (List ℕ)) → AreVectors f n A → AreVectors f n B → IsWithin f n A (A ++ B)
fronts f n A B hA hB = λ k d l. in_front f n A B hA hB (get_or A k d) (IsWithin-itself f n A hA k d l)

pub backs : (f : Field) (n : ℕ) (A B : List (List ℕ)) → AreVectors f n A → AreVectors f n B → IsWithin f n B (A ++ B)
backs f n A B hA hB = λ k d l. in_back f n A B hA hB (get_or B k d) (IsWithin-itself f n B hB k d l)

-- the columns below and outside span what all columns span
pub record Splits (f : Field) (n : ℕ) (all below outside : List (List ℕ)) : Type 0 where
  pub each : AreVectors f n all
  pub below_in : IsWithin f n below all
  pub outside_in : IsWithin f n outside all
  pub all_in : IsWithin f n all (below ++ outside)

-- the part A of what lies below, where the other part B goes outside
split_left : (f : Field) (n : ℕ) (all A B O : List (List ℕ)) → AreVectors f n A → AreVectors f n B → AreVectors f n O → Splits f n all (A ++ B) O →
    Splits f n all A (O ++ B)
split_left f n all A B O hA hB hO s =
    let AB = A ++ B in
    let hAB = All-append (λ v. IsVector f n v) A B hA hB in
    let OB = O ++ B in
    let hOB = All-append (λ v. IsVector f n v) O B hO hB in
    let target = A ++ OB in
    let ht = All-append (λ v. IsVector f n v) A OB hA hOB in
    let ob_in = backs f n A OB hA hOB in
    let o_in = IsWithin-within f n O OB target ht (fronts f n O B hO hB) ob_in in
    let b_in = IsWithin-within f n B OB target ht (backs f n O B hO hB) ob_in in
    let ab_in = All-append (λ v. InSpan f n target v) A B (fronts f n A OB hA hOB) b_in in
    record {
      each = s.each;
      below_in = IsWithin-within f n A AB all s.each (fronts f n A B hA hB) s.below_in;
      outside_in = All-append (λ v. InSpan f n all v) O B s.outside_in (IsWithin-within f n B AB all s.each (backs f n A B hA hB) s.below_in);
      all_in = IsWithin-within f n all (AB ++ O) target ht s.all_in (All-append (λ v. InSpan f n target v) AB O ab_in o_in);
    }

split_swapped : (f : Field) (n : ℕ) (all A B O : List (List ℕ)) → AreVectors f n A → AreVectors f n B → AreVectors f n O → Splits f n all (A ++ B) O →
    Splits f n all (B ++ A) O
split_swapped f n all A B O hA hB hO s =
    let AB = A ++ B in
    let BA = B ++ A in
    let hAB = All-append (λ v. IsVector f n v) A B hA hB in
    let hBA = All-append (λ v. IsVector f n v) B A hB hA in
    let target = BA ++ O in
    let ht = All-append (λ v. IsVector f n v) BA O hBA hO in
    let ab_in = All-append (λ v. InSpan f n BA v) A B (backs f n B A hB hA) (fronts f n B A hB hA) in
    record {
      each = s.each;
      below_in = IsWithin-within f n BA AB all s.each (All-append (λ v. InSpan f n AB v) B A (backs f n A B hA hB) (fronts f n A B hA hB)) s.below_in;
      outside_in = s.outside_in;
      all_in =
          IsWithin-within f n all (AB ++ O) target ht s.all_in
          (All-append (λ v. InSpan f n target v) AB O (IsWithin-within f n AB BA target ht ab_in (fronts f n BA O hBA hO)) (backs f n BA O hBA hO));
    }

-- ---- the nodes

abbrev pub SplitsAt : Given → (all below outside : List (List ℕ)) → Type 0
SplitsAt given all below outside = Splits given.f (length given.rows) (columns_of given all) (columns_of given below) (columns_of given outside)

join_boundary : (given : Given) (all outside : List (List ℕ)) (left right : Shape) → AreColumns given (names left ++ names right) → AreColumns given outside →
    AreColumns given (names (Join left right)) → SplitsAt given all (names left ++ names right) outside →
    length (space given outside (Join left right)) ≡ connectivity given all (names left ++ names right) outside
unfolding names
join_boundary given all outside left right h ho hj s =
    let f = given.f in
    let g = length given.rows in
    let B = columns_of given (names left ++ names right) in
    let O = columns_of given outside in
    let S = space given outside (Join left right) in
    let hS = (space_reduced given outside (Join left right) hj).each in
    let inside = λ (i : ℕ) (d : List ℕ) (l : i < length S). in_both given outside left right (get_or S i d) h ho (IsWithin-itself f g S hS i d l) in
    let sum = dimension_of_sum f g S B O hS h ho (space_independent given outside (Join left right) hj) (λ i d l. (inside i d l).0) (λ i d l. (inside i d l).1)
    (λ v p q. in_space given outside (Join left right) v hj ho p q) in
    let both = All-append (λ v. IsVector f g v) B O h ho in
    let same : rank f g (B ++ O) ≡ rank_of given all =
    ap length (reduced_basis-same f g (B ++ O) (columns_of given all) both s.each
    (All-append (λ v. InSpan f g (columns_of given all) v) B O s.below_in s.outside_in, s.all_in)) in
    omega (arith, sum, same)

-- a column that is not zero has one first digit
count_first_digit : (column : List ℕ) → length (first_digit column) ≡ rank_of_column column
count_first_digit [] = refl
count_first_digit (d ∷ column) = go (d == 0) (count_first_digit column)
  where
    go : (b : Bool) → length (first_digit column) ≡ rank_of_column column →
        length (if b then first_digit column else d ∷ []) ≡ (if b && list_all (λ d. d == 0) column then 0 else 1)
    go true ih = ih
    go false ih = refl

pub boundaries_are : (given : Given) (all outside : List (List ℕ)) (s : Shape) → AreColumns given (names s) → AreColumns given outside →
    SplitsAt given all (names s) outside → boundaries given outside s ≡ connectivities given all outside s
unfolding names boundaries connectivities
boundaries_are given all outside (Leaf name weight) h ho s =
    ap (λ (n : ℕ). n ∷ [])
    ((leaf_basis given.f (length given.rows) (column_of given name) (first_row given.f (length given.rows) (column_of given name) [] h)).count
    ∙ count_first_digit (column_of given name))
boundaries_are given all outside (Join left right) h ho s =
    let f = given.f in
    let g = length given.rows in
    let parts = split_columns given (names left) (names right) h in
    let hl = parts.0 in
    let hr = parts.1 in
    let L = columns_of given (names left) in
    let R = columns_of given (names right) in
    let O = columns_of given outside in
    let c = column_of given in
    let apart : Splits f g (columns_of given all) (L ++ R) O =
    subst (λ vs. Splits f g (columns_of given all) vs O) (map-append c (names left) (names right)) s in
    let at_left : SplitsAt given all (names left) (outside ++ names right) =
    subst (λ vs. Splits f g (columns_of given all) L vs) (sym (map-append c outside (names right))) (split_left f g (columns_of given all) L R O hl hr ho apart) in
    let at_right : SplitsAt given all (names right) (outside ++ names left) =
    subst (λ vs. Splits f g (columns_of given all) R vs) (sym (map-append c outside (names left)))
    (split_left f g (columns_of given all) R L O hr hl ho (split_swapped f g (columns_of given all) L R O hl hr ho apart)) in
    ap₂ (λ xs ys. xs ++ ys) (boundaries_are given all (outside ++ names right) left hl (both_columns given outside (names right) ho hr) at_left)
    (ap₂ (λ xs (n : ℕ). xs ++ n ∷ []) (boundaries_are given all (outside ++ names left) right hr (both_columns given outside (names left) ho hl) at_right)
    (join_boundary given all outside left right h ho h s))

pub boundaries_law : (given : Given) (s : Shape) → IsOver given s → boundaries given [] s ≡ connectivities given (names s) [] s
boundaries_law given s over =
    let f = given.f in
    let g = length given.rows in
    let C = columns_of given (names s) in
    let h = named_columns given (names s) over.rows over.leaves in
    let none = All-nil (λ v. IsVector f g v) in
    boundaries_are given (names s) [] s h none (record {
      each = h;
      below_in = IsWithin-itself f g C h;
      outside_in = All-nil (λ v. InSpan f g C v);
      all_in = fronts f g C [] h none;
    })
