-- The join rule for independence, over columns.
use Rattle.std.proofs.Common.{ℕ, ◌+◌, ◌-◌, ◌≡◌, List, ◌++◌, length, map, take, drop, refl, sym, ap, ap₂, ◌∙◌, subst, arith, length-append, take-append-drop}
use Rattle.std.proofs.lemmas.List.{length-replicate, length-map, take_at, drop_at, take-replicate, drop-replicate}
use Rattle.std.proofs.lemmas.List.Elements.{All-append}
use Rattle.mm_field.specs.declared.Field.{Field}
use Rattle.mm_field.specs.Digits.{negative}
use Rattle.mm_field.specs.Vectors.{zeros, vector_sum, multiple, combination, IsVector, AreVectors, InSpan, AreIndependent, times_matrix}
use Rattle.mm_linear.specs.Sums.{InImage, InSum, MeetTrivially}
use Rattle.mm_logic.specs.PresentMatrix.{left_column, right_column}
use Rattle.mm_logic.specs.BoundarySpaces.{InBoundary}
use Rattle.mm_field.proofs.VectorLemmas.{vector_sum_assoc, multiple-zeros, vector_sum-zeros, zeros-vector_sum, opposite-vector_sum, IsVector-zeros, IsVector-vector_sum, IsVector-multiple}
use Rattle.mm_field.proofs.PartLemmas.{combination-map, IsVector-take, IsVector-drop, IsVector-append, AreVectors-map, zeros-append, append_parts}
use Rattle.mm_field.proofs.CombinationLemmas.{zeros_twice, combination-vector_sum, combination-multiple, IsVector-combination, combination-zeros, combination-append, take-vector_sum, take-multiple, drop-vector_sum, drop-multiple, vector_sum-append, multiple-append, InSpan-multiple}

-- Two sets of columns and the operator that joins them: the left ones have t1 boundary and m1 internal digits, the right
-- ones t2 and m2, and g1 and g2 have rows of r digits.
pub record Sides : Type 0 where
  pub f : Field
  pub t1 : ℕ
  pub t2 : ℕ
  pub m1 : ℕ
  pub m2 : ℕ
  pub r : ℕ
  pub g1 : List (List ℕ)
  pub g2 : List (List ℕ)
  pub columns1 : List (List ℕ)
  pub columns2 : List (List ℕ)

pub record AreSides (j : Sides) : Type 0 where
  pub rows1 : AreVectors j.f j.r j.g1
  pub rows2 : AreVectors j.f j.r j.g2
  pub count1 : length j.g1 ≡ j.t1
  pub count2 : length j.g2 ≡ j.t2
  pub each1 : AreVectors j.f (j.t1 + j.m1) j.columns1
  pub each2 : AreVectors j.f (j.t2 + j.m2) j.columns2

-- the columns of both sides, with their boundary digits as vectors of the space of the join
abbrev pub placed_columns : Sides → List (List ℕ)
placed_columns j =
    map (left_column j.f j.t1 j.r j.g1 j.m2) j.columns1 ++ map (right_column j.f j.t2 j.r j.g2 j.m1) j.columns2

abbrev pub width : Sides → ℕ
width j = j.r + (j.m1 + j.m2)

-- the images of the boundary spaces
abbrev pub InImage1 : Sides → List ℕ → Type 0
InImage1 j z = InImage j.f j.t1 j.r j.g1 (InBoundary j.f j.t1 j.m1 j.columns1) z

abbrev pub InImage2 : Sides → List ℕ → Type 0
InImage2 j z = InImage j.f j.t2 j.r j.g2 (InBoundary j.f j.t2 j.m2 j.columns2) z

-- the sum of a column of the left child and one of the right child, as columns of the join
pub columns_sum : (f : Field) (t1 t2 m1 m2 r : ℕ) (g1 g2 : List (List ℕ)) → AreVectors f r g1 → AreVectors f r g2 →
    (u w : List ℕ) → IsVector f (t1 + m1) u → IsVector f (t2 + m2) w →
    vector_sum f (left_column f t1 r g1 m2 u) (right_column f t2 r g2 m1 w)
    ≡ vector_sum f (times_matrix f r g1 (take t1 u)) (times_matrix f r g2 (take t2 w)) ++ (drop t1 u ++ drop t2 w)
columns_sum f t1 t2 m1 m2 r g1 g2 h1 h2 u w hu hw =
    let p = IsVector-combination f r (take t1 u) g1 h1 in
    let q = IsVector-combination f r (take t2 w) g2 h2 in
    let du = IsVector-drop f t1 m1 u hu in
    let dw = IsVector-drop f t2 m2 w hw in
    vector_sum-append f (times_matrix f r g1 (take t1 u)) (drop t1 u ++ zeros m2) (times_matrix f r g2 (take t2 w)) (zeros m1 ++ drop t2 w)
    (p.len ∙ sym q.len)
    ∙ ap (λ x. vector_sum f (times_matrix f r g1 (take t1 u)) (times_matrix f r g2 (take t2 w)) ++ x)
    (vector_sum-append f (drop t1 u) (zeros m2) (zeros m1) (drop t2 w) (du.len ∙ sym (length-replicate m1 0))
    ∙ ap₂ (λ x y. x ++ y) (vector_sum-zeros f m1 (drop t1 u) du) (zeros-vector_sum f m2 (drop t2 w) dw))

times_matrix-vector_sum : (f : Field) (t m r : ℕ) (g : List (List ℕ)) → AreVectors f r g →
    (u v : List ℕ) → IsVector f (t + m) u → IsVector f (t + m) v →
    times_matrix f r g (take t (vector_sum f u v)) ≡ vector_sum f (times_matrix f r g (take t u)) (times_matrix f r g (take t v))
times_matrix-vector_sum f t m r g h u v hu hv =
    ap (times_matrix f r g) (take-vector_sum f t u v)
    ∙ combination-vector_sum f r (take t u) (take t v) g ((IsVector-take f t m u hu).len ∙ sym (IsVector-take f t m v hv).len)

times_matrix-multiple : (f : Field) (t r c : ℕ) (g : List (List ℕ)) (u : List ℕ) →
    times_matrix f r g (take t (multiple f c u)) ≡ multiple f c (times_matrix f r g (take t u))
times_matrix-multiple f t r c g u =
    ap (times_matrix f r g) (take-multiple f c t u) ∙ combination-multiple f r c (take t u) g

take-zeros : (t m : ℕ) → take t (zeros (t + m)) ≡ zeros t
take-zeros t m = take-replicate t (t + m) 0 (omega arith)

drop-zeros : (t m : ℕ) → drop t (zeros (t + m)) ≡ zeros m
drop-zeros t m = drop-replicate t (t + m) 0 ∙ let e : t + m - t ≡ m = omega arith in ap zeros e

pub left-vector_sum : (f : Field) (t m r m2 : ℕ) (g : List (List ℕ)) → AreVectors f r g →
    (u v : List ℕ) → IsVector f (t + m) u → IsVector f (t + m) v →
    left_column f t r g m2 (vector_sum f u v) ≡ vector_sum f (left_column f t r g m2 u) (left_column f t r g m2 v)
left-vector_sum f t m r m2 g h u v hu hv =
    let p = IsVector-combination f r (take t u) g h in
    let q = IsVector-combination f r (take t v) g h in
    let du = IsVector-drop f t m u hu in
    let dv = IsVector-drop f t m v hv in
    ap₂ (λ x y. x ++ y) (times_matrix-vector_sum f t m r g h u v hu hv)
    (ap₂ (λ x y. x ++ y) (drop-vector_sum f t u v (hu.len ∙ sym hv.len)) (sym (zeros_twice f m2))
    ∙ sym (vector_sum-append f (drop t u) (zeros m2) (drop t v) (zeros m2) (du.len ∙ sym dv.len)))
    ∙ sym (vector_sum-append f (times_matrix f r g (take t u)) (drop t u ++ zeros m2) (times_matrix f r g (take t v)) (drop t v ++ zeros m2)
    (p.len ∙ sym q.len))

pub left-multiple : (f : Field) (t r m2 : ℕ) (g : List (List ℕ)) (c : ℕ) (u : List ℕ) →
    left_column f t r g m2 (multiple f c u) ≡ multiple f c (left_column f t r g m2 u)
left-multiple f t r m2 g c u =
    ap₂ (λ x y. x ++ y) (times_matrix-multiple f t r c g u)
    (ap₂ (λ x y. x ++ y) (drop-multiple f c t u) (sym (multiple-zeros f c m2))
    ∙ sym (multiple-append f c (drop t u) (zeros m2)))
    ∙ sym (multiple-append f c (times_matrix f r g (take t u)) (drop t u ++ zeros m2))

pub left-zeros : (f : Field) (t m r m2 : ℕ) (g : List (List ℕ)) → AreVectors f r g →
    left_column f t r g m2 (zeros (t + m)) ≡ zeros (r + (m + m2))
left-zeros f t m r m2 g h =
    ap₂ (λ x y. x ++ y)
    (ap (times_matrix f r g) (take-zeros t m) ∙ combination-zeros f r t g h)
    (ap (λ x. x ++ zeros m2) (drop-zeros t m) ∙ zeros-append m m2)
    ∙ zeros-append r (m + m2)

pub right-vector_sum : (f : Field) (t m r m1 : ℕ) (g : List (List ℕ)) → AreVectors f r g →
    (u v : List ℕ) → IsVector f (t + m) u → IsVector f (t + m) v →
    right_column f t r g m1 (vector_sum f u v) ≡ vector_sum f (right_column f t r g m1 u) (right_column f t r g m1 v)
right-vector_sum f t m r m1 g h u v hu hv =
    let p = IsVector-combination f r (take t u) g h in
    let q = IsVector-combination f r (take t v) g h in
    ap₂ (λ x y. x ++ y) (times_matrix-vector_sum f t m r g h u v hu hv)
    (ap₂ (λ x y. x ++ y) (sym (zeros_twice f m1)) (drop-vector_sum f t u v (hu.len ∙ sym hv.len))
    ∙ sym (vector_sum-append f (zeros m1) (drop t u) (zeros m1) (drop t v) refl))
    ∙ sym (vector_sum-append f (times_matrix f r g (take t u)) (zeros m1 ++ drop t u) (times_matrix f r g (take t v)) (zeros m1 ++ drop t v)
    (p.len ∙ sym q.len))

pub right-multiple : (f : Field) (t r m1 : ℕ) (g : List (List ℕ)) (c : ℕ) (u : List ℕ) →
    right_column f t r g m1 (multiple f c u) ≡ multiple f c (right_column f t r g m1 u)
right-multiple f t r m1 g c u =
    ap₂ (λ x y. x ++ y) (times_matrix-multiple f t r c g u)
    (ap₂ (λ x y. x ++ y) (sym (multiple-zeros f c m1)) (drop-multiple f c t u)
    ∙ sym (multiple-append f c (zeros m1) (drop t u)))
    ∙ sym (multiple-append f c (times_matrix f r g (take t u)) (zeros m1 ++ drop t u))

pub right-zeros : (f : Field) (t m r m1 : ℕ) (g : List (List ℕ)) → AreVectors f r g →
    right_column f t r g m1 (zeros (t + m)) ≡ zeros (r + (m1 + m))
right-zeros f t m r m1 g h =
    ap₂ (λ x y. x ++ y)
    (ap (times_matrix f r g) (take-zeros t m) ∙ combination-zeros f r t g h)
    (ap (λ x. zeros m1 ++ x) (drop-zeros t m) ∙ zeros-append m1 m)
    ∙ zeros-append r (m1 + m)

pub IsVector-left : (f : Field) (t m r m2 : ℕ) (g : List (List ℕ)) → AreVectors f r g →
    (u : List ℕ) → IsVector f (t + m) u → IsVector f (r + (m + m2)) (left_column f t r g m2 u)
IsVector-left f t m r m2 g h u hu =
    IsVector-append f r (m + m2) (times_matrix f r g (take t u)) (drop t u ++ zeros m2)
    (IsVector-combination f r (take t u) g h)
    (IsVector-append f m m2 (drop t u) (zeros m2) (IsVector-drop f t m u hu) (IsVector-zeros f m2))

pub IsVector-right : (f : Field) (t m r m1 : ℕ) (g : List (List ℕ)) → AreVectors f r g →
    (u : List ℕ) → IsVector f (t + m) u → IsVector f (r + (m1 + m)) (right_column f t r g m1 u)
IsVector-right f t m r m1 g h u hu =
    IsVector-append f r (m1 + m) (times_matrix f r g (take t u)) (zeros m1 ++ drop t u)
    (IsVector-combination f r (take t u) g h)
    (IsVector-append f m1 m (zeros m1) (drop t u) (IsVector-zeros f m1) (IsVector-drop f t m u hu))

-- the combination of the left columns, and that of the right ones
abbrev left_sum : Sides → List ℕ → List ℕ
left_sum j x = combination j.f (j.t1 + j.m1) x j.columns1

abbrev right_sum : Sides → List ℕ → List ℕ
right_sum j y = combination j.f (j.t2 + j.m2) y j.columns2

AreVectors-right : (j : Sides) → AreSides j → AreVectors j.f (width j) (map (right_column j.f j.t2 j.r j.g2 j.m1) j.columns2)
AreVectors-right j h =
    AreVectors-map j.f (j.t2 + j.m2) (width j) (right_column j.f j.t2 j.r j.g2 j.m1)
    (IsVector-right j.f j.t2 j.m2 j.r j.m1 j.g2 h.rows2) j.columns2 h.each2

AreVectors-left : (j : Sides) → AreSides j → AreVectors j.f (width j) (map (left_column j.f j.t1 j.r j.g1 j.m2) j.columns1)
AreVectors-left j h =
    AreVectors-map j.f (j.t1 + j.m1) (width j) (left_column j.f j.t1 j.r j.g1 j.m2)
    (IsVector-left j.f j.t1 j.m1 j.r j.m2 j.g1 h.rows1) j.columns1 h.each1

pub AreVectors-joined : (j : Sides) → AreSides j → AreVectors j.f (width j) (placed_columns j)
AreVectors-joined j h =
    All-append (λ v. IsVector j.f (width j) v) _ _ (AreVectors-left j h) (AreVectors-right j h)

-- a combination of all columns of the join, by its three parts
pub combination-joined : (j : Sides) → AreSides j → (x y : List ℕ) → length x ≡ length j.columns1 →
    combination j.f (width j) (x ++ y) (placed_columns j)
    ≡ vector_sum j.f (times_matrix j.f j.r j.g1 (take j.t1 (left_sum j x))) (times_matrix j.f j.r j.g2 (take j.t2 (right_sum j y)))
    ++ (drop j.t1 (left_sum j x) ++ drop j.t2 (right_sum j y))
combination-joined j h x y e =
    combination-append j.f (width j) x y _ _
    (e ∙ sym (length-map j.columns1 (left_column j.f j.t1 j.r j.g1 j.m2))) (AreVectors-right j h)
    ∙ ap₂ (λ p q. vector_sum j.f p q)
    (combination-map j.f (j.t1 + j.m1) (width j) (left_column j.f j.t1 j.r j.g1 j.m2)
    (left-vector_sum j.f j.t1 j.m1 j.r j.m2 j.g1 h.rows1)
    (λ c u hu. left-multiple j.f j.t1 j.r j.m2 j.g1 c u)
    (left-zeros j.f j.t1 j.m1 j.r j.m2 j.g1 h.rows1) x j.columns1 h.each1)
    (combination-map j.f (j.t2 + j.m2) (width j) (right_column j.f j.t2 j.r j.g2 j.m1)
    (right-vector_sum j.f j.t2 j.m2 j.r j.m1 j.g2 h.rows2)
    (λ c u hu. right-multiple j.f j.t2 j.r j.m1 j.g2 c u)
    (right-zeros j.f j.t2 j.m2 j.r j.m1 j.g2 h.rows2) y j.columns2 h.each2)
    ∙ columns_sum j.f j.t1 j.t2 j.m1 j.m2 j.r j.g1 j.g2 h.rows1 h.rows2 (left_sum j x) (right_sum j y)
    (IsVector-combination j.f (j.t1 + j.m1) x j.columns1 h.each1)
    (IsVector-combination j.f (j.t2 + j.m2) y j.columns2 h.each2)

-- x + w = 0 gives x = -w
pub opposite_from_zero : (f : Field) (n : ℕ) (u w : List ℕ) → IsVector f n u → IsVector f n w → vector_sum f u w ≡ zeros n →
    u ≡ multiple f (negative f 1) w
opposite_from_zero f n u w hu hw e =
    sym (vector_sum-zeros f n u hu)
    ∙ ap (λ x. vector_sum f u x) (sym (opposite-vector_sum f w ∙ ap zeros hw.len))
    ∙ sym (vector_sum_assoc f u w (multiple f (negative f 1) w))
    ∙ ap (λ x. vector_sum f x (multiple f (negative f 1) w)) e
    ∙ zeros-vector_sum f n (multiple f (negative f 1) w) (IsVector-multiple f n (negative f 1) w hw.len)

-- from the parts of a combination of the joined columns to the boundary spaces
in_left : (j : Sides) → AreSides j → (x : List ℕ) → IsVector j.f (length j.columns1) x →
    drop j.t1 (left_sum j x) ≡ zeros j.m1 → InImage1 j (times_matrix j.f j.r j.g1 (take j.t1 (left_sum j x)))
in_left j h x hx e =
    let hu = IsVector-combination j.f (j.t1 + j.m1) x j.columns1 h.each1 in
    record {
      source = take j.t1 (left_sum j x);
      vector = IsVector-take j.f j.t1 j.m1 (left_sum j x) hu;
      inside = record {
        coefficients = x;
        each = hx;
        sum = sym (take-append-drop j.t1 (left_sum j x)) ∙ ap (λ d. take j.t1 (left_sum j x) ++ d) e;
      };
      gives = refl;
    }

in_right : (j : Sides) → AreSides j → (y : List ℕ) → IsVector j.f (length j.columns2) y →
    drop j.t2 (right_sum j y) ≡ zeros j.m2 → InImage2 j (times_matrix j.f j.r j.g2 (take j.t2 (right_sum j y)))
in_right j h y hy e =
    let hw = IsVector-combination j.f (j.t2 + j.m2) y j.columns2 h.each2 in
    record {
      source = take j.t2 (right_sum j y);
      vector = IsVector-take j.f j.t2 j.m2 (right_sum j y) hw;
      inside = record {
        coefficients = y;
        each = hy;
        sum = sym (take-append-drop j.t2 (right_sum j y)) ∙ ap (λ d. take j.t2 (right_sum j y) ++ d) e;
      };
      gives = refl;
    }

-- an image under -1
InImage-multiple : (f : Field) (t m r c : ℕ) (columns g : List (List ℕ)) (z : List ℕ) →
    InImage f t r g (InBoundary f t m columns) z → InImage f t r g (InBoundary f t m columns) (multiple f c z)
InImage-multiple f t m r c columns g z p = record {
  source = multiple f c p.source;
  vector = IsVector-multiple f t c p.source p.vector.len;
  inside =
      subst (λ v. InSpan f (t + m) columns v)
      (multiple-append f c p.source (zeros m) ∙ ap (λ x. multiple f c p.source ++ x) (multiple-zeros f c m))
      (InSpan-multiple f (t + m) c columns (p.source ++ zeros m) p.inside);
  gives = combination-multiple f r c p.source g ∙ ap (multiple f c) p.gives;
}

-- a vector whose two parts are zero
zero_from_parts : (t m : ℕ) (u : List ℕ) → take t u ≡ zeros t → drop t u ≡ zeros m → u ≡ zeros (t + m)
zero_from_parts t m u p q = sym (take-append-drop t u) ∙ ap₂ (λ x y. x ++ y) p q ∙ zeros-append t m

-- what a combination of the joined columns that gives `z` and then zeros says
record Parts (j : Sides) (x y z : List ℕ) : Type 0 where
  top :
      vector_sum j.f (times_matrix j.f j.r j.g1 (take j.t1 (left_sum j x))) (times_matrix j.f j.r j.g2 (take j.t2 (right_sum j y))) ≡ z
  low1 : drop j.t1 (left_sum j x) ≡ zeros j.m1
  low2 : drop j.t2 (right_sum j y) ≡ zeros j.m2

parts : (j : Sides) → AreSides j → (x y z : List ℕ) → length x ≡ length j.columns1 → length z ≡ j.r →
    combination j.f (width j) (x ++ y) (placed_columns j) ≡ z ++ (zeros j.m1 ++ zeros j.m2) → Parts j x y z
parts j h x y z e lz s =
    let hu = IsVector-combination j.f (j.t1 + j.m1) x j.columns1 h.each1 in
    let p = IsVector-combination j.f j.r (take j.t1 (left_sum j x)) j.g1 h.rows1 in
    let q = IsVector-combination j.f j.r (take j.t2 (right_sum j y)) j.g2 h.rows2 in
    let pq = IsVector-vector_sum j.f j.r _ _ p.len q.len in
    let cut = append_parts _ z _ (zeros j.m1 ++ zeros j.m2) (pq.len ∙ sym lz) (sym (combination-joined j h x y e) ∙ s) in
    let low = append_parts _ (zeros j.m1) _ (zeros j.m2)
    ((IsVector-drop j.f j.t1 j.m1 (left_sum j x) hu).len ∙ sym (length-replicate j.m1 0)) cut.1 in
    record { top = cut.0; low1 = low.0; low2 = low.1 }

pub length-joined : (j : Sides) → length (placed_columns j) ≡ length j.columns1 + length j.columns2
length-joined j =
    length-append (map (left_column j.f j.t1 j.r j.g1 j.m2) j.columns1) (map (right_column j.f j.t2 j.r j.g2 j.m1) j.columns2)
    ∙ ap₂ (λ x y. x + y)
    (length-map j.columns1 (left_column j.f j.t1 j.r j.g1 j.m2))
    (length-map j.columns2 (right_column j.f j.t2 j.r j.g2 j.m1))

-- The union is independent where both sides are and the images meet in zero alone.
pub joined_independent : (j : Sides) → AreSides j →
    AreIndependent j.f j.r j.g1 → AreIndependent j.f j.r j.g2 →
    AreIndependent j.f (j.t1 + j.m1) j.columns1 → AreIndependent j.f (j.t2 + j.m2) j.columns2 →
    MeetTrivially j.r (InImage1 j) (InImage2 j) → AreIndependent j.f (width j) (placed_columns j)
joined_independent j h ig1 ig2 ic1 ic2 meet cs each s =
    let k1 = length j.columns1 in
    let k2 = length j.columns2 in
    let hcs : IsVector j.f (k1 + k2) cs = record { len = each.len ∙ length-joined j; digits = each.digits } in
    let x = take k1 cs in
    let y = drop k1 cs in
    let hx = IsVector-take j.f k1 k2 cs hcs in
    let hy = IsVector-drop j.f k1 k2 cs hcs in
    let u = left_sum j x in
    let w = right_sum j y in
    let hu = IsVector-combination j.f (j.t1 + j.m1) x j.columns1 h.each1 in
    let hw = IsVector-combination j.f (j.t2 + j.m2) y j.columns2 h.each2 in
    let z1 = times_matrix j.f j.r j.g1 (take j.t1 u) in
    let z2 = times_matrix j.f j.r j.g2 (take j.t2 w) in
    let hz1 = IsVector-combination j.f j.r (take j.t1 u) j.g1 h.rows1 in
    let hz2 = IsVector-combination j.f j.r (take j.t2 w) j.g2 h.rows2 in
    let target = ap (λ c. combination j.f (width j) c (placed_columns j)) (take-append-drop k1 cs) ∙ s
    ∙ sym (zeros-append j.r (j.m1 + j.m2)) ∙ ap (λ c. zeros j.r ++ c) (sym (zeros-append j.m1 j.m2)) in
    let ps = parts j h x y (zeros j.r) hx.len (length-replicate j.r 0) target in
    let i1 = in_left j h x hx ps.low1 in
    let i2 = in_right j h y hy ps.low2 in
    let opposite = opposite_from_zero j.f j.r z1 z2 hz1 hz2 ps.top in
    let i2' = InImage-multiple j.f j.t2 j.m2 j.r (negative j.f 1) j.columns2 j.g2 z2 i2 in
    let z1_zero = meet z1 i1 (subst (InImage2 j) (sym opposite) i2') in
    let z2_zero : z2 ≡ zeros j.r =
    sym (zeros-vector_sum j.f j.r z2 hz2) ∙ ap (λ c. vector_sum j.f c z2) (sym z1_zero) ∙ ps.top in
    let b1 = ig1 (take j.t1 u)
    (subst (λ n. IsVector j.f n (take j.t1 u)) (sym h.count1) (IsVector-take j.f j.t1 j.m1 u hu)) z1_zero in
    let b2 = ig2 (take j.t2 w)
    (subst (λ n. IsVector j.f n (take j.t2 w)) (sym h.count2) (IsVector-take j.f j.t2 j.m2 w hw)) z2_zero in
    let x_zero = ic1 x hx (zero_from_parts j.t1 j.m1 u (b1 ∙ ap zeros h.count1) ps.low1) in
    let y_zero = ic2 y hy (zero_from_parts j.t2 j.m2 w (b2 ∙ ap zeros h.count2) ps.low2) in
    sym (take-append-drop k1 cs) ∙ ap₂ (λ a b. a ++ b) x_zero y_zero ∙ zeros-append k1 k2 ∙ ap zeros (sym (length-joined j))

take-combined : (j : Sides) → AreSides j → (x y : List ℕ) (z1 z2 : List ℕ) → length x ≡ length j.columns1 →
    (b1 b2 : List ℕ) → IsVector j.f j.t1 b1 → IsVector j.f j.t2 b2 →
    left_sum j x ≡ b1 ++ zeros j.m1 → right_sum j y ≡ b2 ++ zeros j.m2 →
    times_matrix j.f j.r j.g1 b1 ≡ z1 → times_matrix j.f j.r j.g2 b2 ≡ z2 →
    combination j.f (width j) (x ++ y) (placed_columns j) ≡ vector_sum j.f z1 z2 ++ (zeros j.m1 ++ zeros j.m2)
take-combined j h x y z1 z2 e b1 b2 hb1 hb2 e1 e2 g1 g2 =
    combination-joined j h x y e
    ∙ ap₂ (λ p q. p ++ q)
    (ap₂ (λ p q. vector_sum j.f p q)
    (ap (times_matrix j.f j.r j.g1) (ap (take j.t1) e1 ∙ take_at b1 (zeros j.m1) j.t1 hb1.len) ∙ g1)
    (ap (times_matrix j.f j.r j.g2) (ap (take j.t2) e2 ∙ take_at b2 (zeros j.m2) j.t2 hb2.len) ∙ g2))
    (ap₂ (λ p q. p ++ q)
    (ap (drop j.t1) e1 ∙ drop_at b1 (zeros j.m1) j.t1 hb1.len)
    (ap (drop j.t2) e2 ∙ drop_at b2 (zeros j.m2) j.t2 hb2.len))

IsVector-joined : (j : Sides) (x y : List ℕ) → IsVector j.f (length j.columns1) x → IsVector j.f (length j.columns2) y →
    IsVector j.f (length (placed_columns j)) (x ++ y)
IsVector-joined j x y hx hy =
    subst (λ n. IsVector j.f n (x ++ y)) (sym (length-joined j))
    (IsVector-append j.f (length j.columns1) (length j.columns2) x y hx hy)

all_zero_width : (j : Sides) → zeros j.r ++ (zeros j.m1 ++ zeros j.m2) ≡ zeros (width j)
all_zero_width j = ap (λ c. zeros j.r ++ c) (zeros-append j.m1 j.m2) ∙ zeros-append j.r (j.m1 + j.m2)

-- the two parts of coefficients that are all zero
zero_coefficients : (j : Sides) (x y : List ℕ) → length x ≡ length j.columns1 →
    x ++ y ≡ zeros (length (placed_columns j)) → (x ≡ zeros (length j.columns1)) × (y ≡ zeros (length j.columns2))
zero_coefficients j x y e s =
    append_parts x (zeros (length j.columns1)) y (zeros (length j.columns2))
    (e ∙ sym (length-replicate (length j.columns1) 0))
    (s ∙ ap zeros (length-joined j) ∙ sym (zeros-append (length j.columns1) (length j.columns2)))

-- Where the union is independent, both sides are.
pub left_independent : (j : Sides) → AreSides j → AreIndependent j.f (width j) (placed_columns j) →
    AreIndependent j.f (j.t1 + j.m1) j.columns1
left_independent j h ind x hx s =
    let y = zeros (length j.columns2) in
    let hy = IsVector-zeros j.f (length j.columns2) in
    let e2 = combination-zeros j.f (j.t2 + j.m2) (length j.columns2) j.columns2 h.each2 in
    let c = take-combined j h x y (zeros j.r) (zeros j.r) hx.len (zeros j.t1) (zeros j.t2)
    (IsVector-zeros j.f j.t1) (IsVector-zeros j.f j.t2)
    (s ∙ sym (zeros-append j.t1 j.m1)) (e2 ∙ sym (zeros-append j.t2 j.m2))
    (combination-zeros j.f j.r j.t1 j.g1 h.rows1) (combination-zeros j.f j.r j.t2 j.g2 h.rows2) in
    let all = ind (x ++ y) (IsVector-joined j x y hx hy)
    (c ∙ ap (λ p. p ++ (zeros j.m1 ++ zeros j.m2)) (zeros_twice j.f j.r) ∙ all_zero_width j) in
    (zero_coefficients j x y hx.len all).0

pub right_independent : (j : Sides) → AreSides j → AreIndependent j.f (width j) (placed_columns j) →
    AreIndependent j.f (j.t2 + j.m2) j.columns2
right_independent j h ind y hy s =
    let x = zeros (length j.columns1) in
    let hx = IsVector-zeros j.f (length j.columns1) in
    let e1 = combination-zeros j.f (j.t1 + j.m1) (length j.columns1) j.columns1 h.each1 in
    let c = take-combined j h x y (zeros j.r) (zeros j.r) hx.len (zeros j.t1) (zeros j.t2)
    (IsVector-zeros j.f j.t1) (IsVector-zeros j.f j.t2)
    (e1 ∙ sym (zeros-append j.t1 j.m1)) (s ∙ sym (zeros-append j.t2 j.m2))
    (combination-zeros j.f j.r j.t1 j.g1 h.rows1) (combination-zeros j.f j.r j.t2 j.g2 h.rows2) in
    let all = ind (x ++ y) (IsVector-joined j x y hx hy)
    (c ∙ ap (λ p. p ++ (zeros j.m1 ++ zeros j.m2)) (zeros_twice j.f j.r) ∙ all_zero_width j) in
    (zero_coefficients j x y hx.len all).1

-- Where the union is independent, the images meet in zero alone.
pub images_meet_in_zero : (j : Sides) → AreSides j → AreIndependent j.f (width j) (placed_columns j) →
    MeetTrivially j.r (InImage1 j) (InImage2 j)
images_meet_in_zero j h ind z p q =
    let q' = InImage-multiple j.f j.t2 j.m2 j.r (negative j.f 1) j.columns2 j.g2 z q in
    let x = p.inside.coefficients in
    let y = q'.inside.coefficients in
    let hx = p.inside.each in
    let hz : IsVector j.f j.r z =
    subst (λ v. IsVector j.f j.r v) p.gives (IsVector-combination j.f j.r p.source j.g1 h.rows1) in
    let c = take-combined j h x y z (multiple j.f (negative j.f 1) z) hx.len p.source q'.source p.vector q'.vector
    p.inside.sum q'.inside.sum p.gives q'.gives in
    let all = ind (x ++ y) (IsVector-joined j x y hx q'.inside.each)
    (c ∙ ap (λ v. v ++ (zeros j.m1 ++ zeros j.m2)) (opposite-vector_sum j.f z ∙ ap zeros hz.len) ∙ all_zero_width j) in
    let x_zero = (zero_coefficients j x y hx.len all).0 in
    let whole : p.source ++ zeros j.m1 ≡ zeros j.t1 ++ zeros j.m1 =
    sym p.inside.sum
    ∙ ap (λ v. combination j.f (j.t1 + j.m1) v j.columns1) x_zero
    ∙ combination-zeros j.f (j.t1 + j.m1) (length j.columns1) j.columns1 h.each1
    ∙ sym (zeros-append j.t1 j.m1) in
    let b = append_parts p.source (zeros j.t1) (zeros j.m1) (zeros j.m1)
    (p.vector.len ∙ sym (length-replicate j.t1 0)) whole in
    sym p.gives ∙ ap (times_matrix j.f j.r j.g1) b.0 ∙ combination-zeros j.f j.r j.t1 j.g1 h.rows1

-- The boundary span of the union is what lies in the sum of the images.
pub boundary_in_sum : (j : Sides) → AreSides j → (z : List ℕ) → length z ≡ j.r →
    InSpan j.f (width j) (placed_columns j) (z ++ (zeros j.m1 ++ zeros j.m2)) →
    InSum j.f (InImage1 j) (InImage2 j) z
boundary_in_sum j h z lz p =
    let k1 = length j.columns1 in
    let k2 = length j.columns2 in
    let cs = p.coefficients in
    let hcs : IsVector j.f (k1 + k2) cs = record { len = p.each.len ∙ length-joined j; digits = p.each.digits } in
    let x = take k1 cs in
    let y = drop k1 cs in
    let hx = IsVector-take j.f k1 k2 cs hcs in
    let hy = IsVector-drop j.f k1 k2 cs hcs in
    let ps = parts j h x y z hx.len lz
    (ap (λ c. combination j.f (width j) c (placed_columns j)) (take-append-drop k1 cs) ∙ p.sum) in
    record {
      one = times_matrix j.f j.r j.g1 (take j.t1 (left_sum j x));
      other = times_matrix j.f j.r j.g2 (take j.t2 (right_sum j y));
      in_first = in_left j h x hx ps.low1;
      in_second = in_right j h y hy ps.low2;
      sum = ps.top;
    }

pub sum_in_boundary : (j : Sides) → AreSides j → (z : List ℕ) →
    InSum j.f (InImage1 j) (InImage2 j) z →
    InSpan j.f (width j) (placed_columns j) (z ++ (zeros j.m1 ++ zeros j.m2))
sum_in_boundary j h z s =
    let p = s.in_first in
    let q = s.in_second in
    record {
      coefficients = p.inside.coefficients ++ q.inside.coefficients;
      each = IsVector-joined j p.inside.coefficients q.inside.coefficients p.inside.each q.inside.each;
      sum =
          take-combined j h p.inside.coefficients q.inside.coefficients s.one s.other p.inside.each.len
          p.source q.source p.vector q.vector p.inside.sum q.inside.sum p.gives q.gives
          ∙ ap (λ v. v ++ (zeros j.m1 ++ zeros j.m2)) s.sum;
    }
