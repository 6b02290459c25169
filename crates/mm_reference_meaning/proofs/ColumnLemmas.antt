-- Lists of rows, and the columns of a join.
use Rattle.std.proofs.Common.{◌≡◌, ◌<◌, ◌≤◌, ◌-◌, ℕ, suc, List, [], ◌∷◌, ◌++◌, map, length, get_or, take, drop, refl, sym, ap, ap₂, ◌∙◌, subst, arith, append-nil}
use Rattle.std.specs.declared.vec.Vec.{Vec}
use Rattle.std.proofs.lemmas.List.{take_all, map-append, length-drop, get_or-map, length-map, take_at, drop_at}
use Rattle.mm_field.specs.declared.Field.{Field}
use Rattle.mm_field.specs.Vectors.{AreDigits, AreVectors, zeros, times_matrix}
use Rattle.mm_linear.specs.Coordinates.{completed, coordinates, in_coordinates}
use Rattle.mm_field.proofs.CombinationLemmas.{IsVector-combination}
use Rattle.mm_logic.specs.PresentMatrix.{left_column, right_column}
use Rattle.mm_linear.proofs.BasisLemmas.{completed_is_basis}
use Rattle.mm_logic.specs.Operator as operator
use Rattle.mm_reference_meaning.specs.Rows.{rows_of}
use Rattle.mm_reference_meaning.specs.Trees.{joined_column, joined_columns}

-- a list of numbers is its first one and the others
pub digits_split : (ds : List ℕ) → 1 ≤ length ds → ds ≡ get_or ds 0 0 ∷ take (length ds - 1) (drop 1 ds)
digits_split [] l = absurd (omega arith)
digits_split (d ∷ ds) l = ap (λ xs. d ∷ xs) (sym (take_all (length (d ∷ ds) - 1) ds (omega arith)))

pub other_digits : (f : Field) (d : ℕ) (ds : List ℕ) → AreDigits f (d ∷ ds) → AreDigits f ds
other_digits f d ds h k e l = h (suc k) e (omega (arith, l))

-- rows cut off at their own length are as they were
pub cut_at_length : (f : Field) (r : ℕ) (rows : List (List ℕ)) → AreVectors f r rows → map (take r) rows ≡ rows
cut_at_length f r [] h = refl
cut_at_length f r (v ∷ rows) h =
    (λ i. take_all r v (let e = (h 0 v (omega arith)).len in omega arith) i ∷ cut_at_length f r rows (λ k d l. h (suc k) d (omega (arith, l))) i)

-- the part of a list from a place on
pub tail_part : {A : Type 0} (t : ℕ) (v : List A) → take (length v - t) (drop t v) ≡ drop t v
tail_part t v = take_all (length v - t) (drop t v) (let e = length-drop t v in omega (arith, e))

-- row i of the rows, as a row
pub row_at : {A : Type 0} (rows : List (Vec ℕ A)) (i : ℕ) (row : Vec ℕ A) (d : List ℕ) → i < length rows → row ≡ get_or rows i row →
    get_or (rows_of rows) i d ≡ row.items
row_at rows i row d l e = get_or-map (λ v. v.items) rows i row d l ∙ ap (λ v. v.items) (sym e)

-- ---- the columns of a join

in_parts : (f : Field) (r : ℕ) (basis g : List (List ℕ)) (b w : List ℕ) → AreVectors f r g →
    in_coordinates f r basis (times_matrix f r g b ++ w) ≡ coordinates f r basis (times_matrix f r g b) ++ w
in_parts f r basis g b w hg =
    let l = (IsVector-combination f r b g hg).len in
    ap₂ (λ x y. coordinates f r basis x ++ y) (take_at (times_matrix f r g b) w r l) (drop_at (times_matrix f r g b) w r l)

pub left_joined : (f : Field) (r t m2 : ℕ) (basis g ls : List (List ℕ)) → AreVectors f r g →
    map (in_coordinates f r basis) (map (left_column f t r g m2) ls) ≡ map (joined_column f r basis g t 0 m2) ls
left_joined f r t m2 basis g [] hg = refl
left_joined f r t m2 basis g (v ∷ ls) hg =
    ap₂ (λ x xs. x ∷ xs) (in_parts f r basis g (take t v) (drop t v ++ zeros m2) hg) (left_joined f r t m2 basis g ls hg)

pub right_joined : (f : Field) (r t m1 : ℕ) (basis g rs : List (List ℕ)) → AreVectors f r g →
    map (in_coordinates f r basis) (map (right_column f t r g m1) rs) ≡ map (joined_column f r basis g t m1 0) rs
right_joined f r t m1 basis g [] hg = refl
right_joined f r t m1 basis g (v ∷ rs) hg =
    ap₂ (λ x xs. x ∷ xs)
    (in_parts f r basis g (take t v) (zeros m1 ++ drop t v) hg
    ∙ ap (λ w. coordinates f r basis (times_matrix f r g (take t v)) ++ (zeros m1 ++ w)) (sym (append-nil (drop t v))))
    (right_joined f r t m1 basis g rs hg)

pub joined_parts : (f : Field) (op : operator.Op) (m1 m2 : ℕ) (ls rs : List (List ℕ)) → operator.IsValidOp f op →
    map (joined_column f (operator.row_length op) (completed f (operator.row_length op) op.g3) op.g1 op.t1 0 m2) ls
    ++ map (joined_column f (operator.row_length op) (completed f (operator.row_length op) op.g3) op.g2 op.t2 m1 0) rs
    ≡ joined_columns f op m1 m2 ls rs
joined_parts f op m1 m2 ls rs ok =
    let r = operator.row_length op in
    let basis = completed f r op.g3 in
    sym (map-append (in_coordinates f r basis) (map (left_column f op.t1 r op.g1 m2) ls) (map (right_column f op.t2 r op.g2 m1) rs)
    ∙ ap₂ (λ x y. x ++ y) (left_joined f r op.t1 m2 basis op.g1 ls ok.first.rows) (right_joined f r op.t2 m1 basis op.g2 rs ok.second.rows))

-- the completed basis of a valid operator
pub basis_known : {A : Type 0} (f : Field) (op : operator.Op) (basis : List (Vec ℕ A)) → operator.IsValidOp f op →
    rows_of basis ≡ completed f (operator.row_length op) op.g3 →
    (length basis ≡ operator.row_length op) × AreVectors f (length basis) (rows_of basis)
basis_known f op basis ok e =
    let b = completed_is_basis f (operator.row_length op) op.g3 ok.third.rows ok.third.independent in
    let l : length basis ≡ operator.row_length op = sym (length-map basis (λ v. v.items)) ∙ ap length e ∙ b.count in (
      l,
      subst (λ n. AreVectors f n (rows_of basis)) (sym l) (subst (λ xs. AreVectors f (operator.row_length op) xs) (sym e) b.each),
    )
