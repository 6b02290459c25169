-- The join rule for independence, over rows that span the boundary spaces.
use Rattle.std.proofs.Common.{ℕ, ◌+◌, ◌≡◌, ◌↔◌, List, ◌++◌, map, ap, ◌∙◌, subst, append_assoc}
use Rattle.mm_field.specs.declared.Field.{Field}
use Rattle.mm_field.specs.Vectors.{zeros, AreVectors, IsVector, InSpan, AreIndependent, times_matrix}
use Rattle.mm_field.proofs.CombinationLemmas.{IsVector-combination}
use Rattle.mm_field.proofs.PartLemmas.{zeros-append}
use Rattle.mm_linear.specs.Sums.{InImage, MeetTrivially}
use Rattle.mm_linear.proofs.SpanLemmas.{span_of_images, image_of_span}
use Rattle.mm_linear.proofs.SubspaceTests.{head_of_span_is}
use Rattle.mm_logic.specs.BoundarySpaces.{InBoundary, boundary_space}
use Rattle.mm_logic_laws.proofs.JoinLemmas.{Sides, AreSides, placed_columns, width, joined_independent, left_independent, right_independent, images_meet_in_zero}

-- the rows span the boundary space of the columns
pub record Represents (f : Field) (t m : ℕ) (columns rows : List (List ℕ)) : Type 0 where
  pub each : AreVectors f t rows
  pub inside : (b : List ℕ) → InSpan f t rows b → InBoundary f t m columns b
  pub all : (b : List ℕ) → IsVector f t b → InBoundary f t m columns b → InSpan f t rows b

-- the rows that are read off span the boundary space
pub boundary_space_represents : (f : Field) (t m : ℕ) (columns : List (List ℕ)) → AreVectors f (t + m) columns →
    Represents f t m columns (boundary_space f t m columns)
boundary_space_represents f t m columns h =
    let s = head_of_span_is f t m columns h in
    record {
      each = s.each;
      inside = λ b p. (s.decides b (subst (λ x. IsVector f t x) p.sum (IsVector-combination f t p.coefficients (boundary_space f t m columns) s.each))).0 p;
      all = λ b hb p. (s.decides b hb).1 p;
    }

pub InImage-represented : (f : Field) (t m r : ℕ) (columns rows g : List (List ℕ)) → AreVectors f r g →
    Represents f t m columns rows → (z : List ℕ) →
    InImage f t r g (InBoundary f t m columns) z → InSpan f r (map (times_matrix f r g) rows) z
InImage-represented f t m r columns rows g hg rep z p =
    subst (λ x. InSpan f r (map (times_matrix f r g) rows) x) p.gives
    (image_of_span f t r rows g p.source rep.each hg (rep.all p.source p.vector p.inside))

pub represented-InImage : (f : Field) (t m r : ℕ) (columns rows g : List (List ℕ)) → AreVectors f r g →
    Represents f t m columns rows → (z : List ℕ) →
    InSpan f r (map (times_matrix f r g) rows) z → InImage f t r g (InBoundary f t m columns) z
represented-InImage f t m r columns rows g hg rep z p =
    let s = span_of_images f t r rows g z rep.each hg p in
    record { source = s.source; vector = s.vector; inside = rep.inside s.source s.inside; gives = s.gives }

-- W1 and W2 as spans of rows
abbrev pub images1 : Sides → List (List ℕ) → List (List ℕ)
images1 j rows = map (times_matrix j.f j.r j.g1) rows

abbrev pub images2 : Sides → List (List ℕ) → List (List ℕ)
images2 j rows = map (times_matrix j.f j.r j.g2) rows

-- The union is independent exactly where both sides are and the two spans of images meet in zero alone.
pub join_is_independent : (j : Sides) → AreSides j → (k1 k2 : List (List ℕ)) →
    Represents j.f j.t1 j.m1 j.columns1 k1 → Represents j.f j.t2 j.m2 j.columns2 k2 →
    AreIndependent j.f j.r j.g1 → AreIndependent j.f j.r j.g2 →
    AreIndependent j.f (width j) (placed_columns j)
    ↔ (AreIndependent j.f (j.t1 + j.m1) j.columns1 × AreIndependent j.f (j.t2 + j.m2) j.columns2
    × MeetTrivially j.r (InSpan j.f j.r (images1 j k1)) (InSpan j.f j.r (images2 j k2)))
join_is_independent j h k1 k2 rep1 rep2 ig1 ig2 = (
  (λ ind. (
    left_independent j h ind,
    right_independent j h ind,
    λ z p q. images_meet_in_zero j h ind z
        (represented-InImage j.f j.t1 j.m1 j.r j.columns1 k1 j.g1 h.rows1 rep1 z p)
        (represented-InImage j.f j.t2 j.m2 j.r j.columns2 k2 j.g2 h.rows2 rep2 z q),
  )),
  (λ all.
      joined_independent j h ig1 ig2 all.0 all.1
      (λ z p q. all.2 z
      (InImage-represented j.f j.t1 j.m1 j.r j.columns1 k1 j.g1 h.rows1 rep1 z p)
      (InImage-represented j.f j.t2 j.m2 j.r j.columns2 k2 j.g2 h.rows2 rep2 z q))),
)

-- the zeros after b: c of the boundary, and those of both sides
pub boundary_target : (c m1 m2 : ℕ) (b : List ℕ) → (b ++ zeros c) ++ (zeros m1 ++ zeros m2) ≡ b ++ zeros (c + (m1 + m2))
boundary_target c m1 m2 b =
    append_assoc b (zeros c) (zeros m1 ++ zeros m2)
    ∙ ap (λ x. b ++ (zeros c ++ x)) (zeros-append m1 m2)
    ∙ ap (λ x. b ++ x) (zeros-append c (m1 + m2))
