-- The spaces of a decomposition: what those of the children of a join have to do with that of the join.
use Rattle.std.proofs.Common.{ℕ, ◌≡◌, ◌&&◌, List, [], ◌∷◌, ◌++◌, length, filter, get_or, refl, sym, ◌∙◌, subst}
use Rattle.std.proofs.lemmas.List.{map-append, take_at, drop_at}
use Rattle.std.proofs.lemmas.List.Elements.{All-append, All-filter, All-take, All-drop}
use Rattle.mm_field.specs.declared.Field.{Field}
use Rattle.mm_field.specs.Digits.{negative}
use Rattle.mm_field.specs.Vectors.{vector_sum, multiple, IsVector, AreVectors, InSpan, IsWithin, AreIndependent}
use Rattle.mm_field.proofs.VectorLemmas.{vector_sum_comm}
use Rattle.mm_field.proofs.CombinationLemmas.{IsVector-combination, InSpan-multiple, InSpan-within, IsWithin-itself}
use Rattle.mm_linear.specs.Decide.{is_in_span}
use Rattle.mm_linear.specs.ReducedEchelon.{IsReducedBasis}
use Rattle.mm_linear.specs.Subspaces.{subspace, all_vectors}
use Rattle.mm_linear.proofs.ReducedEchelonLemmas.{reduced_basis_is, reduced_basis-twice}
use Rattle.mm_linear.proofs.SpanLemmas.{InSum-from_append, append_from_InSum}
use Rattle.mm_linear.proofs.SubspaceLemmas.{from_sum}
use Rattle.mm_linear.proofs.SubspaceTests.{all_vectors_are}
use Rattle.mm_decomp.specs.Meets.{meet}
use Rattle.mm_decomp.specs.Shapes.{Shape, names}
use Rattle.mm_decomp.specs.Shapes.Shape.{Leaf, Join}
use Rattle.mm_decomp.specs.Spaces.{Given, column_of, space}
use Rattle.mm_decomp.proofs.GivenLemmas.{AreColumns, columns_of}
use Rattle.mm_decomp.proofs.OperatorLemmas.{basis_independent}
use Rattle.mm_decomp_laws.proofs.IndependenceLemmas.{in_back}
use Rattle.mm_decomp.proofs.ClosedLemmas.{meet_is}

pub both_columns : (given : Given) (some others : List (List ℕ)) → AreColumns given some → AreColumns given others → AreColumns given (some ++ others)
both_columns given some others p q =
    subst (λ vs. AreVectors given.f (length given.rows) vs) (sym (map-append (column_of given) some others))
    (All-append (λ v. IsVector given.f (length given.rows) v) (columns_of given some) (columns_of given others) p q)

pub split_columns : (given : Given) (some others : List (List ℕ)) → AreColumns given (some ++ others) → AreColumns given some × AreColumns given others
split_columns given some others h =
    let f = given.f in
    let g = length given.rows in
    let A = columns_of given some in
    let B = columns_of given others in
    let all : AreVectors f g (A ++ B) = subst (λ vs. AreVectors f g vs) (map-append (column_of given) some others) h in (
      subst (λ vs. AreVectors f g vs) (take_at A B (length A) refl) (All-take (λ v. IsVector f g v) (length A) (A ++ B) all),
      subst (λ vs. AreVectors f g vs) (drop_at A B (length A) refl) (All-drop (λ v. IsVector f g v) (length A) (A ++ B) all),
    )

pub vector_in : (f : Field) (n : ℕ) (rows : List (List ℕ)) (v : List ℕ) → AreVectors f n rows → InSpan f n rows v → IsVector f n v
vector_in f n rows v h p = subst (λ u. IsVector f n u) p.sum (IsVector-combination f n p.coefficients rows h)

-- ---- the basis of a space

meet_reduced : (f : Field) (n : ℕ) (A B : List (List ℕ)) → IsReducedBasis f n (meet f n A B)
unfolding meet subspace
meet_reduced f n A B =
    reduced_basis-twice f n (filter (λ v. is_in_span f n A v && is_in_span f n B v) (all_vectors f n))
    (All-filter (λ v. is_in_span f n A v && is_in_span f n B v) (λ v. IsVector f n v) (all_vectors f n) (all_vectors_are f n))

pub space_reduced : (given : Given) (outside : List (List ℕ)) (s : Shape) → AreColumns given (names s) →
    IsReducedBasis given.f (length given.rows) (space given outside s)
unfolding names
space_reduced given outside (Leaf name weight) h = reduced_basis-twice given.f (length given.rows) (column_of given name ∷ []) h
space_reduced given outside (Join left right) h =
    meet_reduced given.f (length given.rows) (columns_of given (names left ++ names right)) (columns_of given outside)

pub space_independent : (given : Given) (outside : List (List ℕ)) (s : Shape) → AreColumns given (names s) →
    AreIndependent given.f (length given.rows) (space given outside s)
space_independent given outside s h = basis_independent given.f (length given.rows) (space given outside s) (space_reduced given outside s h)

-- ---- the vectors of a space

-- what is in both spans is in the space
pub in_space : (given : Given) (outside : List (List ℕ)) (s : Shape) (v : List ℕ) → AreColumns given (names s) → AreColumns given outside →
    InSpan given.f (length given.rows) (columns_of given (names s)) v → InSpan given.f (length given.rows) (columns_of given outside) v →
    InSpan given.f (length given.rows) (space given outside s) v
unfolding names
in_space given outside (Leaf name weight) v h ho p q =
    let b = reduced_basis_is given.f (length given.rows) (column_of given name ∷ []) h in
    InSpan-within given.f (length given.rows) (column_of given name ∷ []) (space given outside (Leaf name weight)) v b.each b.span.0 p
in_space given outside (Join left right) v h ho p q =
    (meet_is given.f (length given.rows) (columns_of given (names left ++ names right)) (columns_of given outside) h ho v
    (vector_in given.f (length given.rows) (columns_of given outside) v ho q)).1 (p, q)

-- the space of a join is in both spans
pub in_both : (given : Given) (outside : List (List ℕ)) (left right : Shape) (v : List ℕ) → AreColumns given (names left ++ names right) →
    AreColumns given outside → InSpan given.f (length given.rows) (space given outside (Join left right)) v →
    InSpan given.f (length given.rows) (columns_of given (names left ++ names right)) v × InSpan given.f (length given.rows) (columns_of given outside) v
in_both given outside left right v h ho p =
    let f = given.f in
    let g = length given.rows in
    let below = columns_of given (names left ++ names right) in
    let others = columns_of given outside in
    (meet_is f g below others h ho v (vector_in f g (meet f g below others) v (meet_reduced f g below others).each p)).0 p

-- a vector of the space of a join is the sum of one of the left child's and one of the right child's
module _ (given : Given) (outside : List (List ℕ)) (left right : Shape)
    (hl : AreColumns given (names left)) (hr : AreColumns given (names right)) (ho : AreColumns given outside) where
  abbrev f : Field
  f = given.f

  abbrev g : ℕ
  g = length given.rows

  abbrev L : List (List ℕ)
  L = columns_of given (names left)

  abbrev R : List (List ℕ)
  R = columns_of given (names right)

  abbrev O : List (List ℕ)
  O = columns_of given outside

  abbrev S1 : List (List ℕ)
  S1 = space given (outside ++ names right) left

  abbrev S2 : List (List ℕ)
  S2 = space given (outside ++ names left) right

  -- what is left of a vector outside when a vector of the other child is taken off
  rest_outside : (B : List (List ℕ)) (u w v : List ℕ) → AreVectors f g B → IsVector f g u → InSpan f g B w → InSpan f g O v → vector_sum f u w ≡ v →
      InSpan f g (O ++ B) u
  rest_outside B u w v hB hu p q e =
      append_from_InSum f g O B u hB (record {
        one = v;
        other = multiple f (negative f 1) w;
        in_first = q;
        in_second = InSpan-multiple f g (negative f 1) B w p;
        sum = from_sum f g u w v hu (vector_in f g B w hB p) e;
      })

  pub space_in_sum : (v : List ℕ) → InSpan f g (space given outside (Join left right)) v → InSpan f g (S1 ++ S2) v
  space_in_sum v p =
      let q = in_both given outside left right v (both_columns given (names left) (names right) hl hr) ho p in
      let s = InSum-from_append f g L R v hr (subst (λ vs. InSpan f g vs v) (map-append (column_of given) (names left) (names right)) q.0) in
      let h1 = vector_in f g L s.one hl s.in_first in
      let h2 = vector_in f g R s.other hr s.in_second in
      append_from_InSum f g S1 S2 v (space_reduced given (outside ++ names left) right hr).each (record {
        one = s.one;
        other = s.other;
        in_first =
            in_space given (outside ++ names right) left s.one hl (both_columns given outside (names right) ho hr) s.in_first
            (subst (λ vs. InSpan f g vs s.one) (sym (map-append (column_of given) outside (names right))) (rest_outside R s.one s.other v hr h1 s.in_second q.1 s.sum));
        in_second =
            in_space given (outside ++ names left) right s.other hr (both_columns given outside (names left) ho hl) s.in_second
            (subst (λ vs. InSpan f g vs s.other) (sym (map-append (column_of given) outside (names left)))
            (rest_outside L s.other s.one v hl h2 s.in_first q.1 (vector_sum_comm f s.other s.one ∙ s.sum)));
        sum = s.sum;
      })

  join_vectors : AreVectors f g (space given outside (Join left right))
  unfolding names
  join_vectors = (space_reduced given outside (Join left right) (both_columns given (names left) (names right) hl hr)).each

  pub space_within_sum : IsWithin f g (space given outside (Join left right)) (S1 ++ S2)
  space_within_sum = λ i d l.
      space_in_sum (get_or (space given outside (Join left right)) i d) (IsWithin-itself f g (space given outside (Join left right)) join_vectors i d l)

  -- what the columns of both children have in common is in the spaces of both
  pub children_meet : (v : List ℕ) → InSpan f g L v → InSpan f g R v → InSpan f g S1 v × InSpan f g S2 v
  children_meet v p q = (
    in_space given (outside ++ names right) left v hl (both_columns given outside (names right) ho hr) p
        (subst (λ vs. InSpan f g vs v) (sym (map-append (column_of given) outside (names right))) (in_back f g O R ho hr v q)),
    in_space given (outside ++ names left) right v hr (both_columns given outside (names left) ho hl) q
        (subst (λ vs. InSpan f g vs v) (sym (map-append (column_of given) outside (names left))) (in_back f g O L ho hl v p)),
  )
