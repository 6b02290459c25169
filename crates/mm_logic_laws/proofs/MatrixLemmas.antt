-- The values of `ind` that are read from the matrix are made by the leaf rule and the join rule.
use Rattle.std.proofs.Common.{◌≡◌, ℕ, suc, zero, ◌+◌, Bool, true, false, not, ◌&&◌, ◌==◌, if◌then◌else◌, List, [], ◌∷◌, ◌++◌, length, map, take, drop, refl, sym, ap, ap₂, ◌∙◌, subst, arith, append-nil, add-zero, length-append, take-append-drop, eqb-true}
use Rattle.std.specs.List.{list_all, items_where_true}
use Rattle.std.proofs.lemmas.Bool.{and_parts, false≢true, false_from_ne_true}
use Rattle.std.proofs.lemmas.List.{length-map}
use Rattle.std.proofs.lemmas.List.Elements.{All-nil, All-cons, All-head, All-tail}
use Rattle.mm_field.specs.declared.Field.{Field}
use Rattle.mm_field.specs.Vectors.{zeros, combination, IsVector, AreVectors, AreIndependent}
use Rattle.mm_logic_laws.proofs.JoinLemmas.{Sides, AreSides}
use Rattle.mm_linear.proofs.IndependenceLemmas.{one_independent, zero_dependent}
use Rattle.mm_logic.proofs.ChosenLemmas.{chosen-append, chosen-map}
use Rattle.mm_field.proofs.CombinationLemmas.{combination-append}
use Rattle.mm_field.proofs.PartLemmas.{IsVector-take, IsVector-drop, IsVector-append}
use Rattle.mm_linear.specs.Decide.{is_independent, is_in_span, meets_in_zero}
use Rattle.mm_linear.specs.Coordinates.{unit, free_columns, completed, coordinates, in_coordinates}
use Rattle.mm_linear.specs.Subspaces.{head_of_span, preimage}
use Rattle.mm_linear.proofs.DecideLemmas.{is_independent_decides, no_rows_independent}
use Rattle.mm_linear.proofs.BasisLemmas.{completed_is_basis, AreVectors-free}
use Rattle.mm_linear.proofs.CoordinateLemmas.{IsVector-coordinates, coordinates_of, coordinates_unique}
use Rattle.mm_linear.proofs.SubspaceTests.{subspace_same, head_of_span_is, preimage_is}
use Rattle.mm_linear.proofs.LeftUnique.{basis_of_reduced}
use Rattle.mm_linear.proofs.ReducedEchelonLemmas.{reduced_basis_is, reduced_basis-same}
use Rattle.mm_logic_laws.specs.MatrixLaws.{MatrixHasItsSize, ColumnsSplitOnce}
use Rattle.mm_logic_laws.specs.SpaceLaws.{IndependenceIsDecided, BoundarySpaceIsMeant, PreimageIsMeant, BasisIsMeant}
use Rattle.mm_logic_laws.proofs.ThirdBoundary.{IsThird, join_columns, AreVectors-join, join_test, join_space}
use Rattle.mm_logic.specs.Value.{Value}
use Rattle.mm_logic.specs.Value.Value.{Dead, Span}
use Rattle.mm_logic.specs.Tree.Tree.{Elem, Void, Join}
use Rattle.mm_logic.specs.AtomValues.{is_alive}
use Rattle.mm_logic.specs.BoundarySpaces.{boundary_space, ind_type, ind_void, ind_value, span_of, ind_elem, images, ind_join}
use Rattle.mm_logic.specs.Operator.{Op, row_length, IsValidOp}
use Rattle.mm_logic.specs.PresentMatrix.{is_independent_set, internal, left_column, right_column, columns, chosen}
use Rattle.mm_logic.specs.Tree.{size, Tree, boundary, IsValid}

-- ---- the columns

-- both sets of columns of a join, with its operator
abbrev pub sides : Field → Op → Tree → Tree → List (List ℕ) → List (List ℕ) → Sides
sides f op l r cs ds = record {
  f = f;
  t1 = op.t1;
  t2 = op.t2;
  m1 = internal l;
  m2 = internal r;
  r = row_length op;
  g1 = op.g1;
  g2 = op.g2;
  columns1 = cs;
  columns2 = ds;
}

pub third_of : (f : Field) (op : Op) (l r : Tree) (cs ds : List (List ℕ)) → IsValidOp f op → IsThird (sides f op l r cs ds) op.t3 op.c op.g3
third_of f op l r cs ds h = record { size = refl; count = h.third.count; rows = h.third.rows; independent = h.third.independent }

pub sides_of : (f : Field) (op : Op) (l r : Tree) (cs ds : List (List ℕ)) → IsValid f (Join op l r) →
    AreVectors f (boundary l + internal l) cs → AreVectors f (boundary r + internal r) ds → AreSides (sides f op l r cs ds)
sides_of f op l r cs ds ok hc hd =
    let h = ok.0 in
    record {
      rows1 = h.first.rows;
      rows2 = h.second.rows;
      count1 = h.first.count;
      count2 = h.second.count;
      each1 = subst (λ t. AreVectors f (t + internal l) cs) ok.1 hc;
      each2 = subst (λ t. AreVectors f (t + internal r) ds) ok.2 hd;
    }

pub size_of_join : (op : Op) (m1 m2 : ℕ) → row_length op + (m1 + m2) ≡ op.t3 + (op.c + (m1 + m2))
size_of_join op m1 m2 = omega arith

pub length-columns : (f : Field) (T : Tree) → length (columns f T) ≡ size T
length-columns f (Elem vec) = refl
length-columns f (Void t) = refl
length-columns f (Join op l r) =
    let lc = left_column f op.t1 (row_length op) op.g1 (internal r) in
    let rc = right_column f op.t2 (row_length op) op.g2 (internal l) in
    length-map (map lc (columns f l) ++ map rc (columns f r)) (in_coordinates f (row_length op) (completed f (row_length op) op.g3))
    ∙ length-append (map lc (columns f l)) (map rc (columns f r))
    ∙ ap₂ (λ x y. x + y) (length-map (columns f l) lc ∙ length-columns f l) (length-map (columns f r) rc ∙ length-columns f r)

pub columns_are : (f : Field) (T : Tree) → IsValid f T → AreVectors f (boundary T + internal T) (columns f T)
columns_are f (Elem vec) ok =
    All-cons (λ v. IsVector f (length vec + 0) v) vec [] (record { len = sym (add-zero (length vec)); digits = ok.0 })
    (All-nil (λ v. IsVector f (length vec + 0) v))
columns_are f (Void t) ok = All-nil (λ v. IsVector f (t + 0) v)
columns_are f (Join op l r) ok =
    let h = sides_of f op l r (columns f l) (columns f r) ok (columns_are f l ok.3) (columns_are f r ok.4) in
    subst (λ n. AreVectors f n (columns f (Join op l r))) (size_of_join op (internal l) (internal r))
    (AreVectors-join (sides f op l r (columns f l) (columns f r)) h op.t3 op.c op.g3 (third_of f op l r (columns f l) (columns f r) ok.0))

chosen_vectors : (f : Field) (n : ℕ) (X : List Bool) (cs : List (List ℕ)) → AreVectors f n cs → AreVectors f n (items_where_true X cs)
chosen_vectors f n [] cs h = All-nil (λ v. IsVector f n v)
chosen_vectors f n (b ∷ X) [] h = All-nil (λ v. IsVector f n v)
chosen_vectors f n (true ∷ X) (c ∷ cs) h =
    All-cons (λ v. IsVector f n v) c (items_where_true X cs) (All-head (λ v. IsVector f n v) c cs h)
    (chosen_vectors f n X cs (All-tail (λ v. IsVector f n v) c cs h))
chosen_vectors f n (false ∷ X) (c ∷ cs) h = chosen_vectors f n X cs (All-tail (λ v. IsVector f n v) c cs h)

pub chosen_are : (f : Field) (T : Tree) (X : List Bool) → IsValid f T → AreVectors f (boundary T + internal T) (chosen f T X)
chosen_are f T X ok = chosen_vectors f (boundary T + internal T) X (columns f T) (columns_are f T ok)

-- the chosen columns of a join are those of its children, as columns of the join
pub chosen-join : (f : Field) (op : Op) (l r : Tree) (X Y : List Bool) → length X ≡ size l →
    chosen f (Join op l r) (X ++ Y) ≡ join_columns (sides f op l r (chosen f l X) (chosen f r Y)) op.g3
chosen-join f op l r X Y e =
    let lc = left_column f op.t1 (row_length op) op.g1 (internal r) in
    let rc = right_column f op.t2 (row_length op) op.g2 (internal l) in
    let ic = in_coordinates f (row_length op) (completed f (row_length op) op.g3) in
    chosen-map ic (X ++ Y) (map lc (columns f l) ++ map rc (columns f r))
    ∙ ap (map ic)
    (chosen-append X Y (map lc (columns f l)) (map rc (columns f r)) (e ∙ sym (length-columns f l) ∙ sym (length-map (columns f l) lc))
    ∙ ap₂ (λ x y. x ++ y) (chosen-map lc X (columns f l)) (chosen-map rc Y (columns f r)))

-- ---- the join

by_tests : (f : Field) (op : Op) (t u : ℕ) (k1 k2 : List (List ℕ)) (b1 b2 : Bool) →
    (if b1 && (b2 && meets_in_zero f (row_length op) (images f (row_length op) op.g1 k1) (images f (row_length op) op.g2 k2))
    then Span op.t3 (preimage f op.t3 (row_length op) op.g3 (images f (row_length op) op.g1 k1 ++ images f (row_length op) op.g2 k2))
    else Dead)
    ≡ ind_join f op (if b1 then Span t k1 else Dead) (if b2 then Span u k2 else Dead)
by_tests f op t u k1 k2 true true = refl
by_tests f op t u k1 k2 true false = refl
by_tests f op t u k1 k2 false b2 = refl

pub ind_at_join : (f : Field) (op : Op) (l r : Tree) (X Y : List Bool) → IsValid f (Join op l r) → length X ≡ size l → length Y ≡ size r →
    ind_type f (Join op l r) (X ++ Y) ≡ ind_join f op (ind_type f l X) (ind_type f r Y)
ind_at_join f op l r X Y ok e g =
    let cs = chosen f l X in
    let ds = chosen f r Y in
    let j = sides f op l r cs ds in
    let h = sides_of f op l r cs ds ok (chosen_are f l X ok.3) (chosen_are f r Y ok.4) in
    let third = third_of f op l r cs ds ok.0 in
    let v = ok.0 in
    let m = op.c + (internal l + internal r) in
    ap (ind_value f op.t3 m) (chosen-join f op l r X Y e)
    ∙ ap₂ (λ b k. if b then Span op.t3 k else Dead)
    (ap (λ n. is_independent f n (join_columns j op.g3)) (sym (size_of_join op (internal l) (internal r)))
    ∙ join_test j h op.t3 op.c op.g3 third v.first.independent v.second.independent)
    (join_space j h op.t3 op.c op.g3 third)
    ∙ by_tests f op op.t1 op.t2 (boundary_space f op.t1 (internal l) cs) (boundary_space f op.t2 (internal r) ds)
    (is_independent f (op.t1 + internal l) cs) (is_independent f (op.t2 + internal r) ds)
    ∙ ap₂ (λ t u. ind_join f op (ind_value f t (internal l) cs) (ind_value f u (internal r) ds)) (sym ok.1) (sym ok.2)

-- ---- the leaves

boundary_of_leaf : (f : Field) (t : ℕ) (cs : List (List ℕ)) → boundary_space f t 0 cs ≡ span_of f t cs
unfolding head_of_span
boundary_of_leaf f t cs =
    subspace_same f t (λ b. is_in_span f (t + 0) cs (b ++ zeros 0)) (λ b. is_in_span f t cs b)
    (λ b hb. ap₂ (λ n x. is_in_span f n cs x) (add-zero t) (append-nil b))

pub all_zero : (v : List ℕ) → list_all (λ d. d == 0) v ≡ true → v ≡ zeros (length v)
all_zero [] e = refl
all_zero (d ∷ v) e =
    let parts = and_parts (d == 0) (list_all (λ d. d == 0) v) e in
    ap₂ (λ x y. x ∷ y) (eqb-true d 0 parts.0) (all_zero v parts.1)

pub zeros_all : (n : ℕ) → list_all (λ d. d == 0) (zeros n) ≡ true
zeros_all zero = refl
zeros_all (suc n) = zeros_all n

one : (f : Field) (n : ℕ) (v : List ℕ) → IsVector f n v → AreVectors f n (v ∷ [])
one f n v h = All-cons (λ v. IsVector f n v) v [] h (All-nil (λ v. IsVector f n v))

one_alive : (f : Field) (vec : List ℕ) → IsVector f (length vec + 0) vec → (z : Bool) → list_all (λ d. d == 0) vec ≡ z →
    is_independent f (length vec + 0) (vec ∷ []) ≡ not z
one_alive f vec hv true e =
    let n = length vec + 0 in
    let same : vec ≡ zeros n = all_zero vec e ∙ ap zeros hv.len in
    false_from_ne_true (is_independent f n (vec ∷ []))
    (λ t. zero_dependent f n (subst (λ v. AreIndependent f n (v ∷ [])) same ((is_independent_decides f n (vec ∷ []) (one f n vec hv)).0 t)))
one_alive f vec hv false e =
    let n = length vec + 0 in
    (is_independent_decides f n (vec ∷ []) (one f n vec hv)).1
    (one_independent f n vec hv (λ q. false≢true (sym e ∙ ap (list_all (λ d. d == 0)) q ∙ zeros_all n)))

pub ind_at_elem : (f : Field) (vec : List ℕ) (b : Bool) → IsValid f (Elem vec) → ind_type f (Elem vec) (b ∷ []) ≡ ind_elem f vec b
ind_at_elem f vec true ok =
    let hv : IsVector f (length vec + 0) vec = record { len = sym (add-zero (length vec)); digits = ok.0 } in
    ap₂ (λ b k. if b then Span (length vec) k else Dead)
    (one_alive f vec hv (list_all (λ d. d == 0) vec) refl) (boundary_of_leaf f (length vec) (vec ∷ []))
    ∙ reversed (list_all (λ d. d == 0) vec) (Span (length vec) (span_of f (length vec) (vec ∷ [])))
  where
    reversed : (z : Bool) (v : Value) → (if not z then v else Dead) ≡ (if z then Dead else v)
    reversed true v = refl
    reversed false v = refl
ind_at_elem f vec false ok =
    ap₂ (λ b k. if b then Span (length vec) k else Dead) (no_rows_independent f (length vec + 0)) (boundary_of_leaf f (length vec) [])

pub ind_at_void : (f : Field) (t : ℕ) → ind_type f (Void t) [] ≡ ind_void f t
ind_at_void f t = ap₂ (λ b k. if b then Span t k else Dead) (no_rows_independent f (t + 0)) (boundary_of_leaf f t [])

alive_if : (b : Bool) (t : ℕ) (k : List (List ℕ)) → is_alive (if b then Span t k else Dead) ≡ b
alive_if true t k = refl
alive_if false t k = refl

pub alive : (f : Field) (T : Tree) (X : List Bool) → is_alive (ind_type f T X) ≡ is_independent_set f T X
alive f T X = alive_if (is_independent_set f T X) (boundary T) (boundary_space f (boundary T) (internal T) (chosen f T X))

-- ---- the laws

pub independence_decided : IndependenceIsDecided
independence_decided f T ok X = is_independent_decides f (boundary T + internal T) (chosen f T X) (chosen_are f T X ok)

-- ---- a column of a join, in one way

pub one_column : ColumnsSplitOnce
one_column f op ok x hx =
    let r = op.t3 + op.c in
    let us = map (unit r) (free_columns f r op.g3) in
    let rows = op.g3 ++ us in
    let hu = AreVectors-free f r op.g3 in
    let basis = completed_is_basis f r op.g3 ok.third.rows ok.third.independent in
    let cs = coordinates f r rows x in
    let hcs : IsVector f (op.t3 + op.c) cs = subst (λ k. IsVector f k cs) basis.count (IsVector-coordinates f r rows x) in
    let hb = IsVector-take f op.t3 op.c cs hcs in
    let hy = IsVector-drop f op.t3 op.c cs hcs in (
      record {
        boundary_digits = hb;
        internal_digits = hy;
        sum =
            sym (coordinates_of f r rows basis x hx)
            ∙ ap (λ z. combination f r z rows) (sym (take-append-drop op.t3 cs))
            ∙ combination-append f r (take op.t3 cs) (drop op.t3 cs) op.g3 us (hb.len ∙ sym ok.third.count) hu;
      },
      λ b y p.
          ap (coordinates f r rows) (p.sum ∙ sym (combination-append f r b y op.g3 us (p.boundary_digits.len ∙ sym ok.third.count) hu))
          ∙ coordinates_unique f r rows basis (b ++ y) (IsVector-append f op.t3 op.c b y p.boundary_digits p.internal_digits),
    )

pub boundary_meant : BoundarySpaceIsMeant
boundary_meant f T ok X b hb =
    (head_of_span_is f (boundary T) (internal T) (chosen f T X) (chosen_are f T X ok)).decides b hb

pub preimage_meant : PreimageIsMeant
preimage_meant f t r g rows hg h b hb = (preimage_is f t r g rows hg h).decides b hb

pub basis_meant : BasisIsMeant
basis_meant f n rows h = (reduced_basis_is f n rows h, λ sows hs same. reduced_basis-same f n rows sows h hs same, λ ks l c. basis_of_reduced f n rows ks h l c)

pub matrix_size : MatrixHasItsSize
matrix_size f T ok = (length-columns f T, columns_are f T ok)
