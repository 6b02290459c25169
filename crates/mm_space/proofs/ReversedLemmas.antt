-- Vectors turned round, and the echelon rows of a corner read from the left.
use Rattle.std.proofs.Common.{ℕ, zero, suc, ◌+◌, ◌<◌, ◌≤◌, ◌≡◌, ◌↔◌, Bool, true, false, cond, ◌==◌, List, [], ◌∷◌, length, map, reverse, get_or, take, sym, ap, ◌∙◌, subst, arith}
use Rattle.std.proofs.lemmas.Bool.{ne_eqb}
use Rattle.std.proofs.lemmas.List.{reverse-reverse, length-take-le, get_or-take, get_or-map}
use Rattle.mm_field.specs.declared.Field.{Field}
use Rattle.mm_field.specs.Vectors.{AreVectors, InSpan}
use Rattle.mm_linear.specs.Echelons.{entry, IsEchelon}
use Rattle.mm_linear.specs.Decide.{echelon_of}
use Rattle.mm_linear.specs.ReducedEchelon.{reversed_rows, reduced_basis}
use Rattle.mm_linear.proofs.DecideLemmas.{echelon_of_is}
use Rattle.mm_linear.proofs.EchelonLemmas.{echelon_unique}
use Rattle.mm_linear.proofs.ReducedEchelonLemmas.{reduced_basis_is, reduced_basis-same, AreVectors-reversed, reversed_twice, InSpan-reversed}
use Rattle.mm_space.specs.SpaceValue.{corner}

pub InSpan-reversed_back : (f : Field) (n : ℕ) (rows : List (List ℕ)) (v : List ℕ) → AreVectors f n rows →
    InSpan f n (map reverse rows) v ↔ InSpan f n rows (reverse v)
InSpan-reversed_back f n rows v h = (
  (λ p. subst (λ X. InSpan f n X (reverse v)) (reversed_twice rows) (InSpan-reversed f n (map reverse rows) v (AreVectors-reversed f n rows h) p)),
  (λ p. subst (λ u. InSpan f n (map reverse rows) u) (reverse-reverse v) (InSpan-reversed f n rows (reverse v) h p)),
)

-- the echelon rows of echelon rows are these
pub echelon_of-echelon : (f : Field) (n : ℕ) (rows : List (List ℕ)) → IsEchelon f n rows → echelon_of f n rows ≡ rows
echelon_of-echelon f n rows h =
    let r = echelon_of_is f n rows h.each in
    echelon_unique f n (echelon_of f n rows) rows r.echelon h (r.span.1, r.span.0)

-- the reduced echelon basis of echelon rows turned round
pub reduced_basis-reversed : (f : Field) (n : ℕ) (rows : List (List ℕ)) → IsEchelon f n rows →
    reduced_basis f n (map reverse rows) ≡ reversed_rows rows n
unfolding reduced_basis
reduced_basis-reversed f n rows h =
    ap (λ X. reversed_rows (echelon_of f n X) n) (reversed_twice rows) ∙ ap (λ E. reversed_rows E n) (echelon_of-echelon f n rows h)

-- a reduced echelon basis is its own
pub reduced_basis-twice : (f : Field) (n : ℕ) (rows : List (List ℕ)) → AreVectors f n rows →
    reduced_basis f n (reduced_basis f n rows) ≡ reduced_basis f n rows
reduced_basis-twice f n rows h =
    let b = reduced_basis_is f n rows h in
    sym (reduced_basis-same f n rows (reduced_basis f n rows) h b.each b.span)

pub reversed_rows-few : (rows : List (List ℕ)) (j : ℕ) → length (reversed_rows rows j) ≤ j
reversed_rows-few rows zero = omega arith
reversed_rows-few rows (suc j) = go (entry rows j j == 0) (reversed_rows-few rows j)
  where
    go : (b : Bool) → length (reversed_rows rows j) ≤ j → length (cond b (reversed_rows rows j) (reverse (get_or rows j []) ∷ reversed_rows rows j)) ≤ suc j
    go true l = omega arith
    go false l = omega arith

pub corner_row : (t : ℕ) (rows : List (List ℕ)) (i : ℕ) → i < t → t ≤ length rows → get_or (corner t rows) i [] ≡ take t (get_or rows i [])
corner_row t rows i l m =
    let lt : length (take t rows) ≡ t = length-take-le t rows m in
    get_or-map (take t) (take t rows) i [] [] (omega arith) ∙ ap (take t) (get_or-take t rows i [] l)

pub corner_entry : (t : ℕ) (rows : List (List ℕ)) (i j : ℕ) → i < t → j < t → t ≤ length rows → entry (corner t rows) i j ≡ entry rows i j
corner_entry t rows i j l k m = ap (λ v. get_or v j 0) (corner_row t rows i l m) ∙ get_or-take t (get_or rows i []) j 0 k

-- one row more, or none
pub reversed_rows-taken : (rows : List (List ℕ)) (j : ℕ) → (entry rows j j ≡ 0 → ⊥) → reversed_rows rows (j + 1) ≡ reverse (get_or rows j []) ∷ reversed_rows rows j
reversed_rows-taken rows j ne =
    let s : j + 1 ≡ suc j = omega arith in
    ap (reversed_rows rows) s ∙ ap (λ b. cond b (reversed_rows rows j) (reverse (get_or rows j []) ∷ reversed_rows rows j)) (ne_eqb (entry rows j j) 0 ne)

pub reversed_rows-left_out : (rows : List (List ℕ)) (j : ℕ) → entry rows j j ≡ 0 → reversed_rows rows (j + 1) ≡ reversed_rows rows j
reversed_rows-left_out rows j e =
    let s : j + 1 ≡ suc j = omega arith in
    ap (reversed_rows rows) s ∙ ap (λ x. cond (x == 0) (reversed_rows rows j) (reverse (get_or rows j []) ∷ reversed_rows rows j)) e
