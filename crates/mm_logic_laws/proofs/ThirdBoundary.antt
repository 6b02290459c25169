-- The join rule for independence with a third boundary.
use Rattle.std.proofs.Common.{ℕ, ◌+◌, ◌≡◌, ◌↔◌, Bool, true, false, ◌&&◌, List, ◌++◌, length, map, refl, sym, ap, ap₂, ◌∙◌, subst, arith, length-append}
use Rattle.std.specs.Prelude.{IsTrue}
use Rattle.std.proofs.lemmas.List.{length-replicate, take_at, drop_at}
use Rattle.std.proofs.lemmas.List.Elements.{All-append}
use Rattle.std.proofs.lemmas.Bool.{false_from_ne_true, false≢true}
use Rattle.mm_field.specs.declared.Field.{Field}
use Rattle.mm_field.specs.Vectors.{zeros, vector_sum, combination, IsVector, AreVectors, InSpan, AreIndependent, times_matrix}
use Rattle.mm_linear.specs.Sums.{InSum, MeetTrivially}
use Rattle.mm_field.proofs.VectorLemmas.{vector_sum-zeros, IsVector-zeros}
use Rattle.mm_field.proofs.CombinationLemmas.{IsVector-combination, combination-append, combination-zeros}
use Rattle.mm_field.proofs.PartLemmas.{AreVectors-map, IsVector-append}
use Rattle.mm_logic_laws.proofs.JoinLemmas.{Sides, AreSides, placed_columns, width, InImage1, InImage2, AreVectors-joined, joined_independent, left_independent, right_independent, images_meet_in_zero, boundary_in_sum, sum_in_boundary}
use Rattle.mm_linear.proofs.SpanLemmas.{AreVectors-images, InSum-from_append, append_from_InSum}
use Rattle.mm_logic_laws.proofs.RepresentedLemmas.{Represents, boundary_space_represents, images1, images2, join_is_independent, boundary_target, InImage-represented, represented-InImage}
use Rattle.mm_linear.specs.Decide.{is_independent, is_in_span, meets_in_zero}
use Rattle.mm_linear.specs.Coordinates.{unit, free_columns, completed, in_coordinates}
use Rattle.mm_linear.specs.Subspaces.{head_of_span, preimage}
use Rattle.mm_logic.specs.BoundarySpaces.{boundary_space}
use Rattle.mm_linear.proofs.DecideLemmas.{is_independent_decides}
use Rattle.mm_linear.proofs.MeetTest.{is_in_span_decides, meets_in_zero_decides}
use Rattle.mm_linear.proofs.BasisLemmas.{completed_is_basis, AreVectors-free}
use Rattle.mm_linear.proofs.SubspaceTests.{subspace_same, same_test}
use Rattle.mm_linear.proofs.ChangeLemmas.{out_of, IsVector-in_coordinates, independent_in_coordinates, span_in_coordinates}

-- z followed by zeros is in the span of the join's columns exactly where z is in the sum of the images
pub sum_by_images : (j : Sides) → AreSides j → (k1 k2 : List (List ℕ)) →
    Represents j.f j.t1 j.m1 j.columns1 k1 → Represents j.f j.t2 j.m2 j.columns2 k2 → (z : List ℕ) → length z ≡ j.r →
    InSpan j.f (width j) (placed_columns j) (z ++ (zeros j.m1 ++ zeros j.m2)) ↔ InSpan j.f j.r (images1 j k1 ++ images2 j k2) z
sum_by_images j h k1 k2 rep1 rep2 z lz =
    let hs = AreVectors-images j.f j.r k2 j.g2 j.t2 rep2.each h.rows2 in (
      (λ p.
          let s = boundary_in_sum j h z lz p in
          append_from_InSum j.f j.r (images1 j k1) (images2 j k2) z hs
          (record {
            one = s.one;
            other = s.other;
            sum = s.sum;
            in_first = InImage-represented j.f j.t1 j.m1 j.r j.columns1 k1 j.g1 h.rows1 rep1 s.one s.in_first;
            in_second = InImage-represented j.f j.t2 j.m2 j.r j.columns2 k2 j.g2 h.rows2 rep2 s.other s.in_second;
          })),
      (λ p.
          let s = InSum-from_append j.f j.r (images1 j k1) (images2 j k2) z hs p in
          sum_in_boundary j h z
          (record {
            one = s.one;
            other = s.other;
            sum = s.sum;
            in_first = represented-InImage j.f j.t1 j.m1 j.r j.columns1 k1 j.g1 h.rows1 rep1 s.one s.in_first;
            in_second = represented-InImage j.f j.t2 j.m2 j.r j.columns2 k2 j.g2 h.rows2 rep2 s.other s.in_second;
          })),
    )

-- the third boundary of a join
pub record IsThird (j : Sides) (t3 c : ℕ) (g3 : List (List ℕ)) : Type 0 where
  pub size : j.r ≡ t3 + c
  pub count : length g3 ≡ t3
  pub rows : AreVectors j.f j.r g3
  pub independent : AreIndependent j.f j.r g3

-- the columns of the join, in the coordinates of the third boundary
abbrev pub join_columns : Sides → List (List ℕ) → List (List ℕ)
join_columns j g3 = map (in_coordinates j.f j.r (completed j.f j.r g3)) (placed_columns j)

pub AreVectors-join : (j : Sides) → AreSides j → (t3 c : ℕ) (g3 : List (List ℕ)) → IsThird j t3 c g3 →
    AreVectors j.f (width j) (join_columns j g3)
AreVectors-join j h t3 c g3 third =
    let b = completed_is_basis j.f j.r g3 third.rows third.independent in
    AreVectors-map j.f (width j) (width j) (in_coordinates j.f j.r (completed j.f j.r g3))
    (IsVector-in_coordinates j.f j.r (j.m1 + j.m2) (completed j.f j.r g3) b) (placed_columns j) (AreVectors-joined j h)

-- the union is independent exactly where both sides are and the images meet in zero alone
pub third_independent : (j : Sides) → AreSides j → (t3 c : ℕ) (g3 : List (List ℕ)) → IsThird j t3 c g3 → (k1 k2 : List (List ℕ)) →
    Represents j.f j.t1 j.m1 j.columns1 k1 → Represents j.f j.t2 j.m2 j.columns2 k2 →
    AreIndependent j.f j.r j.g1 → AreIndependent j.f j.r j.g2 →
    AreIndependent j.f (width j) (join_columns j g3)
    ↔ (AreIndependent j.f (j.t1 + j.m1) j.columns1 × AreIndependent j.f (j.t2 + j.m2) j.columns2
    × MeetTrivially j.r (InSpan j.f j.r (images1 j k1)) (InSpan j.f j.r (images2 j k2)))
third_independent j h t3 c g3 third k1 k2 rep1 rep2 i1 i2 =
    let b = completed_is_basis j.f j.r g3 third.rows third.independent in
    let moved = independent_in_coordinates j.f j.r (j.m1 + j.m2) (completed j.f j.r g3) (placed_columns j) b (AreVectors-joined j h) in
    let both = join_is_independent j h k1 k2 rep1 rep2 i1 i2 in (
      (λ p. both.0 (moved.0 p)),
      (λ p. moved.1 (both.1 p)),
    )

-- b followed by zeros stands for b times the third boundary
stands_for : (f : Field) (t3 c m1 m2 r : ℕ) (g us : List (List ℕ)) (b : List ℕ) → r ≡ t3 + c → length g ≡ t3 → AreVectors f r g →
    AreVectors f r us → length b ≡ t3 →
    out_of f r (g ++ us) (b ++ zeros (c + (m1 + m2))) ≡ times_matrix f r g b ++ (zeros m1 ++ zeros m2)
stands_for f t3 c m1 m2 r g us b er lg hg hu lb =
    let lz : length (b ++ zeros c) ≡ r = length-append b (zeros c) ∙ (let e : length (zeros c) ≡ c = length-replicate c 0 in omega arith) in
    ap (out_of f r (g ++ us)) (sym (boundary_target c m1 m2 b))
    ∙ ap₂ (λ x y. x ++ y)
    (ap (λ x. combination f r x (g ++ us)) (take_at (b ++ zeros c) (zeros m1 ++ zeros m2) r lz)
    ∙ combination-append f r b (zeros c) g us (lb ∙ sym lg) hu
    ∙ ap (λ x. vector_sum f (times_matrix f r g b) x) (combination-zeros f r c us hu)
    ∙ vector_sum-zeros f r (times_matrix f r g b) (IsVector-combination f r b g hg))
    (drop_at (b ++ zeros c) (zeros m1 ++ zeros m2) r lz)

-- b followed by zeros is in the span of the columns in those coordinates where b times the third boundary is in that of the columns
third_span : (j : Sides) → AreSides j → (t3 c : ℕ) (g3 : List (List ℕ)) → IsThird j t3 c g3 → (b : List ℕ) → IsVector j.f t3 b →
    InSpan j.f (width j) (join_columns j g3) (b ++ zeros (c + (j.m1 + j.m2)))
    ↔ InSpan j.f (width j) (placed_columns j) (times_matrix j.f j.r g3 b ++ (zeros j.m1 ++ zeros j.m2))
third_span j h t3 c g3 third b hb =
    let f = j.f in
    let er : j.r ≡ t3 + c = third.size in
    let w : t3 + (c + (j.m1 + j.m2)) ≡ j.r + (j.m1 + j.m2) = omega arith in
    let basis = completed_is_basis f j.r g3 third.rows third.independent in
    let hz = subst (λ n. IsVector f n (b ++ zeros (c + (j.m1 + j.m2)))) w
    (IsVector-append f t3 (c + (j.m1 + j.m2)) b (zeros (c + (j.m1 + j.m2))) hb (IsVector-zeros f (c + (j.m1 + j.m2)))) in
    let moved = span_in_coordinates f j.r (j.m1 + j.m2) (completed f j.r g3) (placed_columns j) basis (AreVectors-joined j h)
    (b ++ zeros (c + (j.m1 + j.m2))) hz in
    let stands = stands_for f t3 c j.m1 j.m2 j.r g3 (map (unit j.r) (free_columns f j.r g3)) b er third.count third.rows
    (AreVectors-free f j.r g3) hb.len in (
      (λ p. subst (λ v. InSpan f (width j) (placed_columns j) v) stands (moved.0 p)),
      (λ p. moved.1 (subst (λ v. InSpan f (width j) (placed_columns j) v) (sym stands) p)),
    )

-- its boundary space is all b such that b times the third boundary is in the sum of the images
pub third_boundary : (j : Sides) → AreSides j → (t3 c : ℕ) (g3 : List (List ℕ)) → IsThird j t3 c g3 → (k1 k2 : List (List ℕ)) →
    Represents j.f j.t1 j.m1 j.columns1 k1 → Represents j.f j.t2 j.m2 j.columns2 k2 → (b : List ℕ) → IsVector j.f t3 b →
    InSpan j.f (width j) (join_columns j g3) (b ++ zeros (c + (j.m1 + j.m2)))
    ↔ InSpan j.f j.r (images1 j k1 ++ images2 j k2) (times_matrix j.f j.r g3 b)
third_boundary j h t3 c g3 third k1 k2 rep1 rep2 b hb =
    let columns = third_span j h t3 c g3 third b hb in
    let images = sum_by_images j h k1 k2 rep1 rep2 (times_matrix j.f j.r g3 b) (IsVector-combination j.f j.r b g3 third.rows).len in (
      (λ p. images.0 (columns.0 p)),
      (λ p. columns.1 (images.1 p)),
    )

-- ---- the same by the images alone, without rows that span the boundary spaces

-- the union is independent exactly where both sides are and the images of their boundary spaces meet in zero alone
pub union_independent : (j : Sides) → AreSides j → (t3 c : ℕ) (g3 : List (List ℕ)) → IsThird j t3 c g3 →
    AreIndependent j.f j.r j.g1 → AreIndependent j.f j.r j.g2 →
    AreIndependent j.f (width j) (join_columns j g3)
    ↔ (AreIndependent j.f (j.t1 + j.m1) j.columns1 × AreIndependent j.f (j.t2 + j.m2) j.columns2
    × MeetTrivially j.r (InImage1 j) (InImage2 j))
union_independent j h t3 c g3 third i1 i2 =
    let b = completed_is_basis j.f j.r g3 third.rows third.independent in
    let moved = independent_in_coordinates j.f j.r (j.m1 + j.m2) (completed j.f j.r g3) (placed_columns j) b (AreVectors-joined j h) in (
      (λ p. let q = moved.0 p in (left_independent j h q, right_independent j h q, images_meet_in_zero j h q)),
      (λ p. moved.1 (joined_independent j h i1 i2 p.0 p.1 p.2)),
    )

-- b is in the boundary space of the union exactly where b times the third boundary is in the sum of the images
pub union_boundary : (j : Sides) → AreSides j → (t3 c : ℕ) (g3 : List (List ℕ)) → IsThird j t3 c g3 → (b : List ℕ) → IsVector j.f t3 b →
    InSpan j.f (width j) (join_columns j g3) (b ++ zeros (c + (j.m1 + j.m2)))
    ↔ InSum j.f (InImage1 j) (InImage2 j) (times_matrix j.f j.r g3 b)
union_boundary j h t3 c g3 third b hb =
    let columns = third_span j h t3 c g3 third b hb in
    let lz = (IsVector-combination j.f j.r b g3 third.rows).len in (
      (λ p. boundary_in_sum j h (times_matrix j.f j.r g3 b) lz (columns.0 p)),
      (λ p. columns.1 (sum_in_boundary j h (times_matrix j.f j.r g3 b) p)),
    )

-- ---- the tests and the spaces at a join

-- W1 and W2, by the boundary spaces that are read off the columns
abbrev pub own_images1 : Sides → List (List ℕ)
own_images1 j = images1 j (boundary_space j.f j.t1 j.m1 j.columns1)

abbrev pub own_images2 : Sides → List (List ℕ)
own_images2 j = images2 j (boundary_space j.f j.t2 j.m2 j.columns2)

three_tests : (P P1 P2 P3 : Type 0) (b b1 b2 b3 : Bool) → (IsTrue b ↔ P) → (IsTrue b1 ↔ P1) → (IsTrue b2 ↔ P2) → (IsTrue b3 ↔ P3) →
    (P ↔ (P1 × P2 × P3)) → b ≡ (b1 && (b2 && b3))
three_tests P P1 P2 P3 b true true true h h1 h2 h3 e = h.1 (e.1 (h1.0 refl, h2.0 refl, h3.0 refl))
three_tests P P1 P2 P3 b true true false h h1 h2 h3 e = false_from_ne_true b (λ t. false≢true (h3.1 (e.0 (h.0 t)).2))
three_tests P P1 P2 P3 b true false b3 h h1 h2 h3 e = false_from_ne_true b (λ t. false≢true (h2.1 (e.0 (h.0 t)).1))
three_tests P P1 P2 P3 b false b2 b3 h h1 h2 h3 e = false_from_ne_true b (λ t. false≢true (h1.1 (e.0 (h.0 t)).0))

-- the test of independence at a join is that of both sides and of the meet
pub join_test : (j : Sides) → AreSides j → (t3 c : ℕ) (g3 : List (List ℕ)) → IsThird j t3 c g3 →
    AreIndependent j.f j.r j.g1 → AreIndependent j.f j.r j.g2 →
    is_independent j.f (width j) (join_columns j g3)
    ≡ (is_independent j.f (j.t1 + j.m1) j.columns1
    && (is_independent j.f (j.t2 + j.m2) j.columns2 && meets_in_zero j.f j.r (own_images1 j) (own_images2 j)))
join_test j h t3 c g3 third i1 i2 =
    let f = j.f in
    let rep1 = boundary_space_represents f j.t1 j.m1 j.columns1 h.each1 in
    let rep2 = boundary_space_represents f j.t2 j.m2 j.columns2 h.each2 in
    let k1 = boundary_space f j.t1 j.m1 j.columns1 in
    let k2 = boundary_space f j.t2 j.m2 j.columns2 in
    three_tests (AreIndependent f (width j) (join_columns j g3)) (AreIndependent f (j.t1 + j.m1) j.columns1)
    (AreIndependent f (j.t2 + j.m2) j.columns2) (MeetTrivially j.r (InSpan f j.r (own_images1 j)) (InSpan f j.r (own_images2 j)))
    (is_independent f (width j) (join_columns j g3)) (is_independent f (j.t1 + j.m1) j.columns1) (is_independent f (j.t2 + j.m2) j.columns2)
    (meets_in_zero f j.r (own_images1 j) (own_images2 j))
    (is_independent_decides f (width j) (join_columns j g3) (AreVectors-join j h t3 c g3 third))
    (is_independent_decides f (j.t1 + j.m1) j.columns1 h.each1)
    (is_independent_decides f (j.t2 + j.m2) j.columns2 h.each2)
    (meets_in_zero_decides f j.r (own_images1 j) (own_images2 j)
    (AreVectors-images f j.r k1 j.g1 j.t1 rep1.each h.rows1) (AreVectors-images f j.r k2 j.g2 j.t2 rep2.each h.rows2))
    (third_independent j h t3 c g3 third k1 k2 rep1 rep2 i1 i2)

-- the boundary space at a join is the preimage of the sum of the images
pub join_space : (j : Sides) → AreSides j → (t3 c : ℕ) (g3 : List (List ℕ)) → IsThird j t3 c g3 →
    boundary_space j.f t3 (c + (j.m1 + j.m2)) (join_columns j g3) ≡ preimage j.f t3 j.r g3 (own_images1 j ++ own_images2 j)
unfolding head_of_span preimage
join_space j h t3 c g3 third =
    let f = j.f in
    let m = c + (j.m1 + j.m2) in
    let er : j.r ≡ t3 + c = third.size in
    let w : t3 + m ≡ width j = omega arith in
    let rep1 = boundary_space_represents f j.t1 j.m1 j.columns1 h.each1 in
    let rep2 = boundary_space_represents f j.t2 j.m2 j.columns2 h.each2 in
    let k1 = boundary_space f j.t1 j.m1 j.columns1 in
    let k2 = boundary_space f j.t2 j.m2 j.columns2 in
    let hW = All-append (λ v. IsVector f j.r v) (own_images1 j) (own_images2 j)
    (AreVectors-images f j.r k1 j.g1 j.t1 rep1.each h.rows1) (AreVectors-images f j.r k2 j.g2 j.t2 rep2.each h.rows2) in
    let hj = AreVectors-join j h t3 c g3 third in
    subspace_same f t3 (λ b. is_in_span f (t3 + m) (join_columns j g3) (b ++ zeros m)) (λ b. is_in_span f j.r (own_images1 j ++ own_images2 j) (times_matrix f j.r g3 b))
    (λ b hb.
    ap (λ n. is_in_span f n (join_columns j g3) (b ++ zeros m)) w
    ∙ same_test (InSpan f (width j) (join_columns j g3) (b ++ zeros m)) (InSpan f j.r (own_images1 j ++ own_images2 j) (times_matrix f j.r g3 b))
    (is_in_span f (width j) (join_columns j g3) (b ++ zeros m)) (is_in_span f j.r (own_images1 j ++ own_images2 j) (times_matrix f j.r g3 b))
    (is_in_span_decides f (width j) (join_columns j g3) (b ++ zeros m) hj
    (subst (λ n. IsVector f n (b ++ zeros m)) w (IsVector-append f t3 m b (zeros m) hb (IsVector-zeros f m))))
    (is_in_span_decides f j.r (own_images1 j ++ own_images2 j) (times_matrix f j.r g3 b) hW (IsVector-combination f j.r b g3 third.rows))
    (third_boundary j h t3 c g3 third k1 k2 rep1 rep2 b hb))
