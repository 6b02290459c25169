-- The subspace of the vectors that a linear map sends into a span.
use Rattle.std.proofs.Common.{ℕ, zero, suc, ◌+◌, ◌<◌, ◌≤◌, ◌≡◌, ◌↔◌, Bool, true, false, cond, List, [], ◌∷◌, ◌++◌, length, map, get_or, refl, sym, ap, ap₂, ◌∙◌, subst, arith, filter}
use Rattle.std.specs.Prelude.{IsTrue, flat_map}
use Rattle.std.specs.List.{range_with_len, Contains}
use Rattle.std.proofs.lemmas.List.{get_or-map, length-map}
use Rattle.std.proofs.lemmas.List.FromFn.{length-range_with_len, get_or-range_with_len}
use Rattle.std.proofs.lemmas.List.Elements.{All-nil, All-cons, All-append, All-map, All-filter, filter_passes, Contains-append_left, Contains-append_right}
use Rattle.mm_field.specs.declared.Field.{Field}
use Rattle.mm_field.specs.Digits.{order}
use Rattle.mm_field.specs.Vectors.{zeros, vector_sum, multiple, IsVector, AreVectors, InSpan, times_matrix}
use Rattle.mm_field.proofs.VectorLemmas.{multiple-zeros, IsVector-zeros}
use Rattle.mm_field.proofs.CombinationLemmas.{zeros_twice, combination-vector_sum, combination-multiple, combination-zeros, IsVector-combination, vector_sum-append, multiple-append, InSpan-combination, InSpan-within, IsWithin-itself}
use Rattle.mm_field.proofs.PartLemmas.{combination-map, AreVectors-map, IsVector-append, zeros-append}
use Rattle.mm_linear.specs.Decide.{is_in_span}
use Rattle.mm_linear.specs.ReducedEchelon.{reduced_basis, IsReducedBasis}
use Rattle.mm_linear.specs.Subspaces.{all_vectors, subspace, head_of_span, preimage}
use Rattle.mm_linear.proofs.SpaceLemmas.{false_true}
use Rattle.mm_linear.proofs.ReducedEchelonLemmas.{reduced_basis_is, reduced_basis-same, reduced_basis-twice}
use Rattle.mm_linear.proofs.MeetTest.{is_in_span_decides}
use Rattle.mm_linear.proofs.BasisLemmas.{IsVector-cons}

-- ---- all vectors

pub Contains-map : {X Y : Type 0} (h : X → Y) (xs : List X) (x : X) → Contains xs x → Contains (map h xs) (h x)
Contains-map h xs x c =
    (c.0, (let a : c.0 < length xs = c.1 in omega (arith, length-map xs h)), get_or-map h xs c.0 x (h x) c.1 ∙ ap h c.2)

Contains-more : {X : Type 0} (y : X) (xs : List X) (x : X) → Contains xs x → Contains (y ∷ xs) x
Contains-more y xs x c = (suc c.0, (let a : c.0 < length xs = c.1 in omega arith), c.2)

pub Contains-filter : {X : Type 0} (p : X → Bool) (xs : List X) (x : X) → Contains xs x → p x ≡ true → Contains (filter p xs) x
Contains-filter p [] x c t = absurd (let a : c.0 < 0 = c.1 in omega arith)
Contains-filter p (y ∷ xs) x c t = go (p y) refl c.0 c.1 c.2 (λ d. Contains-filter p xs x d t)
  where
    go : (b : Bool) → p y ≡ b → (k : ℕ) → k < suc (length xs) → get_or (y ∷ xs) k x ≡ x →
        (Contains xs x → Contains (filter p xs) x) → Contains (cond b (y ∷ filter p xs) (filter p xs)) x
    go true e zero l q ih = (0, omega arith, q)
    go true e (suc k) l q ih = Contains-more y (filter p xs) x (ih (k, omega arith, q))
    go false e zero l q ih = false_true _ (sym e ∙ ap p q ∙ t)
    go false e (suc k) l q ih = ih (k, omega arith, q)

Contains-flat_map : {X Y : Type 0} (h : X → List Y) (xs : List X) (x : X) (y : Y) → Contains xs x → Contains (h x) y →
    Contains (flat_map h xs) y
Contains-flat_map h [] x y c d = absurd (let a : c.0 < 0 = c.1 in omega arith)
Contains-flat_map h (z ∷ xs) x y c d = go c.0 c.1 c.2 (λ e. Contains-flat_map h xs x y e d)
  where
    go : (k : ℕ) → k < suc (length xs) → get_or (z ∷ xs) k x ≡ x → (Contains xs x → Contains (flat_map h xs) y) →
        Contains (h z ++ flat_map h xs) y
    go zero l q ih = Contains-append_left (h z) (flat_map h xs) y (subst (λ w. Contains (h w) y) (sym q) d)
    go (suc k) l q ih = Contains-append_right (h z) (flat_map h xs) y (ih (k, omega arith, q))

pub all_vectors_contain : (f : Field) (n : ℕ) (v : List ℕ) → IsVector f n v → Contains (all_vectors f n) v
unfolding all_vectors
all_vectors_contain f zero [] h = (0, omega arith, refl)
all_vectors_contain f zero (d ∷ v) h = absurd (let a = h.len in omega arith)
all_vectors_contain f (suc n) [] h = absurd (let a = h.len in omega arith)
all_vectors_contain f (suc n) (d ∷ v) h =
    let l : d < order f = h.digits 0 0 (omega arith) in
    let rest = all_vectors_contain f n v (record { len = (let a = h.len in omega arith); digits = λ k e lt. h.digits (suc k) e (omega arith) }) in
    Contains-flat_map (λ e. map (λ u. e ∷ u) (all_vectors f n)) (range_with_len 0 (order f)) d (d ∷ v)
    (d, omega (arith, length-range_with_len 0 (order f)), get_or-range_with_len 0 (order f) d d l ∙ omega arith)
    (Contains-map (λ u. d ∷ u) (all_vectors f n) v rest)

range_below : (n a k : ℕ) → a + n ≤ k → (i d : ℕ) → i < length (range_with_len a n) → get_or (range_with_len a n) i d < k
range_below zero a k l = All-nil (λ d. d < k)
range_below (suc n) a k l = All-cons (λ d. d < k) a (range_with_len (a + 1) n) (omega arith) (range_below n (a + 1) k (omega arith))

pub all_vectors_are : (f : Field) (n : ℕ) → AreVectors f n (all_vectors f n)
unfolding all_vectors
all_vectors_are f zero =
    All-cons (λ v. IsVector f 0 v) [] [] (record { len = refl; digits = All-nil (λ d. d < order f) }) (All-nil (λ v. IsVector f 0 v))
all_vectors_are f (suc n) = go (all_vectors_are f n) (range_with_len 0 (order f)) (range_below (order f) 0 (order f) (omega arith))
  where
    go : AreVectors f n (all_vectors f n) → (ds : List ℕ) → ((i d : ℕ) → i < length ds → get_or ds i d < order f) →
        AreVectors f (suc n) (flat_map (λ d. map (λ v. d ∷ v) (all_vectors f n)) ds)
    go ih [] h = All-nil (λ v. IsVector f (suc n) v)
    go ih (d ∷ ds) h =
        All-append (λ v. IsVector f (suc n) v) (map (λ v. d ∷ v) (all_vectors f n)) (flat_map (λ e. map (λ v. e ∷ v) (all_vectors f n)) ds)
        (AreVectors-map f n (suc n) (λ v. d ∷ v) (λ u hu. IsVector-cons f n d u (h 0 0 (omega arith)) hu) (all_vectors f n) ih)
        (go ih ds (λ i e l. h (suc i) e (omega arith)))

-- ---- linear maps

pub record IsLinear (f : Field) (t n : ℕ) (h : List ℕ → List ℕ) : Type 0 where
  pub vectors : (u : List ℕ) → IsVector f t u → IsVector f n (h u)
  pub sums : (u v : List ℕ) → IsVector f t u → IsVector f t v → h (vector_sum f u v) ≡ vector_sum f (h u) (h v)
  pub multiples : (c : ℕ) (u : List ℕ) → IsVector f t u → h (multiple f c u) ≡ multiple f c (h u)
  pub zero_kept : h (zeros t) ≡ zeros n

-- the rows span all vectors that h sends into the span
pub record SpansSource (f : Field) (t n : ℕ) (h : List ℕ → List ℕ) (rows found : List (List ℕ)) : Type 0 where
  pub each : AreVectors f t found
  pub decides : (b : List ℕ) → IsVector f t b → InSpan f t found b ↔ InSpan f n rows (h b)

pub subspace_spans : (f : Field) (t n : ℕ) (h : List ℕ → List ℕ) (rows : List (List ℕ)) → IsLinear f t n h → AreVectors f n rows →
    SpansSource f t n h rows (subspace f t (λ b. is_in_span f n rows (h b)))
unfolding subspace
subspace_spans f t n h rows lin hr =
    let test = λ (b : List ℕ). is_in_span f n rows (h b) in
    let kept = filter test (all_vectors f t) in
    let hk = All-filter test (λ v. IsVector f t v) (all_vectors f t) (all_vectors_are f t) in
    let e = reduced_basis_is f t kept hk in
    let within = λ (k : ℕ) (d : List ℕ) (l : k < length kept).
    (is_in_span_decides f n rows (h (get_or kept k d)) hr (lin.vectors (get_or kept k d) (hk k d l))).0
    (filter_passes test (all_vectors f t) k d l) in
    record {
      each = e.each;
      decides = λ b hb. (
        (λ p.
            let q = InSpan-within f t (reduced_basis f t kept) kept b hk e.span.1 p in
            subst (λ x. InSpan f n rows x)
            (combination-map f t n h lin.sums lin.multiples lin.zero_kept q.coefficients kept hk ∙ ap h q.sum)
            (InSpan-combination f n q.coefficients (map h kept) rows hr (All-map (λ x. InSpan f n rows x) h kept within))),
        (λ p.
            let c = Contains-filter test (all_vectors f t) b (all_vectors_contain f t b hb)
            ((is_in_span_decides f n rows (h b) hr (lin.vectors b hb)).1 p) in
            InSpan-within f t kept (reduced_basis f t kept) b e.each e.span.0
            (subst (λ x. InSpan f t kept x) c.2 (IsWithin-itself f t kept hk c.0 b c.1))),
      );
    }

filter_same : {X : Type 0} (p q : X → Bool) (xs : List X) →
    ((k : ℕ) (d : X) → k < length xs → p (get_or xs k d) ≡ q (get_or xs k d)) → filter p xs ≡ filter q xs
filter_same p q [] h = refl
filter_same p q (x ∷ xs) h =
    ap₂ (λ b r. cond b (x ∷ r) r) (h 0 x (omega arith)) (filter_same p q xs (λ k d l. h (suc k) d (omega arith)))

-- the rows of a space in which exactly the vectors that pass the test are have the basis of that subspace
pub subspace-of_rows : (f : Field) (t : ℕ) (test : List ℕ → Bool) (rows : List (List ℕ)) → AreVectors f t rows →
    ((b : List ℕ) → IsVector f t b → InSpan f t rows b ↔ (test b ≡ true)) → subspace f t test ≡ reduced_basis f t rows
unfolding subspace
subspace-of_rows f t test rows h both =
    let kept = filter test (all_vectors f t) in
    let hk = All-filter test (λ v. IsVector f t v) (all_vectors f t) (all_vectors_are f t) in
    reduced_basis-same f t kept rows hk h (
      (λ k d l. (both (get_or kept k d) (hk k d l)).1 (filter_passes test (all_vectors f t) k d l)),
      (λ k d l.
          let v = get_or rows k d in
          let c = Contains-filter test (all_vectors f t) v (all_vectors_contain f t v (h k d l))
          ((both v (h k d l)).0 (IsWithin-itself f t rows h k d l)) in
          subst (λ x. InSpan f t kept x) c.2 (IsWithin-itself f t kept hk c.0 v c.1)),
    )

-- a subspace is given by its reduced echelon basis
pub subspace_is_reduced : (f : Field) (t : ℕ) (test : List ℕ → Bool) → IsReducedBasis f t (subspace f t test)
unfolding subspace
subspace_is_reduced f t test =
    reduced_basis-twice f t (filter test (all_vectors f t)) (All-filter test (λ v. IsVector f t v) (all_vectors f t) (all_vectors_are f t))

-- tests that agree on vectors give one subspace
pub subspace_same : (f : Field) (t : ℕ) (p q : List ℕ → Bool) → ((b : List ℕ) → IsVector f t b → p b ≡ q b) →
    subspace f t p ≡ subspace f t q
unfolding subspace
subspace_same f t p q h =
    ap (reduced_basis f t) (filter_same p q (all_vectors f t) (λ k d l. h (get_or (all_vectors f t) k d) (all_vectors_are f t k d l)))

pub same_test : (P Q : Type 0) (b c : Bool) → (IsTrue b ↔ P) → (IsTrue c ↔ Q) → (P ↔ Q) → b ≡ c
same_test P Q true true hb hc h = refl
same_test P Q false false hb hc h = refl
same_test P Q true false hb hc h = sym (hc.1 (h.0 (hb.0 refl)))
same_test P Q false true hb hc h = hb.1 (h.1 (hc.0 refl))

-- ---- the two maps

IsLinear-pad : (f : Field) (t m : ℕ) → IsLinear f t (t + m) (λ b. b ++ zeros m)
IsLinear-pad f t m = record {
  vectors = λ u hu. IsVector-append f t m u (zeros m) hu (IsVector-zeros f m);
  sums = λ u v hu hv.
      ap (λ x. vector_sum f u v ++ x) (sym (zeros_twice f m)) ∙ sym (vector_sum-append f u (zeros m) v (zeros m) (hu.len ∙ sym hv.len));
  multiples = λ c u hu. ap (λ x. multiple f c u ++ x) (sym (multiple-zeros f c m)) ∙ sym (multiple-append f c u (zeros m));
  zero_kept = zeros-append t m;
}

pub IsLinear-times_matrix : (f : Field) (t r : ℕ) (g : List (List ℕ)) → AreVectors f r g → IsLinear f t r (times_matrix f r g)
IsLinear-times_matrix f t r g h = record {
  vectors = λ u hu. IsVector-combination f r u g h;
  sums = λ u v hu hv. combination-vector_sum f r u v g (hu.len ∙ sym hv.len);
  multiples = λ c u hu. combination-multiple f r c u g;
  zero_kept = combination-zeros f r t g h;
}

pub head_of_span_is : (f : Field) (t m : ℕ) (columns : List (List ℕ)) → AreVectors f (t + m) columns →
    SpansSource f t (t + m) (λ b. b ++ zeros m) columns (head_of_span f t m columns)
unfolding head_of_span
head_of_span_is f t m columns h = subspace_spans f t (t + m) (λ b. b ++ zeros m) columns (IsLinear-pad f t m) h

pub preimage_is : (f : Field) (t r : ℕ) (g rows : List (List ℕ)) → AreVectors f r g → AreVectors f r rows →
    SpansSource f t r (times_matrix f r g) rows (preimage f t r g rows)
unfolding preimage
preimage_is f t r g rows hg h = subspace_spans f t r (times_matrix f r g) rows (IsLinear-times_matrix f t r g hg) h
