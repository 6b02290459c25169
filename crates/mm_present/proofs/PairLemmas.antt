-- Pairs of boundary digits and given digits: they are linear in the coefficients; and those of a join.
use Rattle.std.proofs.Common.{ℕ, ◌+◌, ◌-◌, ◌≤◌, ◌≡◌, List, [], ◌∷◌, ◌++◌, length, map, take, drop, sym, ap, ap₂, subst, ◌∙◌, arith, take-append-drop}
use Rattle.std.specs.List.{range_with_len, All}
use Rattle.std.proofs.lemmas.List.{length-map, length-replicate, take_at, drop_at}
use Rattle.std.proofs.lemmas.List.Elements.{All-nil, All-head, All-tail}
use Rattle.std.proofs.lemmas.List.FromFn.{length-map-range_with_len}
use Rattle.mm_field.specs.declared.Field.{Field}
use Rattle.mm_field.specs.Vectors.{zeros, vector_sum, multiple, combination, times_matrix, IsVector, AreVectors, InSpan}
use Rattle.mm_field.proofs.VectorLemmas.{multiple-zeros, length-multiple, IsVector-vector_sum, IsVector-multiple, IsVector-zeros}
use Rattle.mm_field.proofs.CombinationLemmas.{zeros_twice, combination-vector_sum, combination-multiple, combination-zeros, combination-append, IsVector-combination, take-vector_sum, take-multiple, drop-vector_sum, drop-multiple, vector_sum-append, multiple-append}
use Rattle.mm_field.proofs.PartLemmas.{IsVector-take, IsVector-drop, IsVector-append, zeros-append, append_parts}
use Rattle.mm_linear.proofs.SubspaceTests.{IsLinear}
use Rattle.mm_logic.specs.Operator.{Op, row_length}
use Rattle.mm_logic.specs.PresentMatrix.{boundary_rows, internal}
use Rattle.mm_logic.specs.Tree.{Tree, size, boundary, IsValid}
use Rattle.mm_logic.specs.Tree.Tree.{Join}
use Rattle.mm_logic_laws.specs.MatrixLaws.{digits_at_join}
use Rattle.mm_matrix.specs.Orthogonal.{dot}
use Rattle.mm_present.specs.Dependencies.{products, pair_of, candidate, IsInner, IsPair}
use Rattle.mm_present.specs.Joining.{boundary_matrix, internal_rows, joined_row}
use Rattle.mm_present.proofs.ProductLemmas.{products-vector_sum, products-multiple, products-zeros, IsVector-products, digits_are, products_at_join, internal_at_join}
use Rattle.mm_present.proofs.TreeRows.{length-boundary_rows}

pub length-internal_rows : (f : Field) (T : Tree) → length (internal_rows f T) ≡ internal T
unfolding internal_rows
length-internal_rows f T = length-map-range_with_len _ 0 (internal T)

-- ---- pairs are linear

module _ (f : Field) (g : ℕ) (T : Tree) (given : List (List ℕ)) (hg : AreVectors f g given) where
  pub boundary_digits : (x : List ℕ) → IsVector f (boundary T) (products f (boundary_rows f T) x)
  boundary_digits x =
      subst (λ n. IsVector f n (products f (boundary_rows f T) x)) (length-boundary_rows f T) (IsVector-products f (boundary_rows f T) x)

  pub pair_vector : (x : List ℕ) → IsVector f (boundary T + g) (pair_of f g T given x)
  pair_vector x = IsVector-append f (boundary T) g _ _ (boundary_digits x) (IsVector-combination f g x given hg)

  pub pair_sum : (x y : List ℕ) → length x ≡ length y →
      pair_of f g T given (vector_sum f x y) ≡ vector_sum f (pair_of f g T given x) (pair_of f g T given y)
  pair_sum x y e =
      ap₂ (λ a b. a ++ b) (products-vector_sum f (boundary_rows f T) x y e) (combination-vector_sum f g x y given e)
      ∙ sym (vector_sum-append f _ _ _ _ ((boundary_digits x).len ∙ sym (boundary_digits y).len))

  pub pair_multiple : (c : ℕ) (x : List ℕ) → pair_of f g T given (multiple f c x) ≡ multiple f c (pair_of f g T given x)
  pair_multiple c x =
      ap₂ (λ a b. a ++ b) (products-multiple f (boundary_rows f T) c x) (combination-multiple f g c x given)
      ∙ sym (multiple-append f c _ _)

  pub pair_zeros : (n : ℕ) → pair_of f g T given (zeros n) ≡ zeros (boundary T + g)
  pair_zeros n =
      ap₂ (λ a b. a ++ b) (products-zeros f (boundary_rows f T) n ∙ ap zeros (length-boundary_rows f T)) (combination-zeros f g n given hg)
      ∙ zeros-append (boundary T) g

  pub inner_zeros : IsInner f T (zeros (size T))
  inner_zeros = record {
    vector = IsVector-zeros f (size T);
    inner = products-zeros f (internal_rows f T) (size T) ∙ ap zeros (length-internal_rows f T);
  }

  inner_sum : (x y : List ℕ) → IsInner f T x → IsInner f T y → IsInner f T (vector_sum f x y)
  inner_sum x y h k = record {
    vector = IsVector-vector_sum f (size T) x y h.vector.len k.vector.len;
    inner =
        products-vector_sum f (internal_rows f T) x y (h.vector.len ∙ sym k.vector.len)
        ∙ ap₂ (vector_sum f) h.inner k.inner ∙ zeros_twice f (internal T);
  }

  inner_multiple : (c : ℕ) (x : List ℕ) → IsInner f T x → IsInner f T (multiple f c x)
  inner_multiple c x h = record {
    vector = IsVector-multiple f (size T) c x h.vector.len;
    inner = products-multiple f (internal_rows f T) c x ∙ ap (multiple f c) h.inner ∙ multiple-zeros f c (internal T);
  }

  pub IsPair-zeros : IsPair f g T given (zeros (boundary T + g))
  IsPair-zeros = record { x = zeros (size T); inner = inner_zeros; gives = pair_zeros (size T) }

  IsPair-step : (c : ℕ) (u v : List ℕ) → IsPair f g T given u → IsPair f g T given v → IsPair f g T given (vector_sum f (multiple f c u) v)
  IsPair-step c u v p q = record {
    x = vector_sum f (multiple f c p.x) q.x;
    inner = inner_sum (multiple f c p.x) q.x (inner_multiple c p.x p.inner) q.inner;
    gives =
        pair_sum (multiple f c p.x) q.x (length-multiple f c p.x ∙ p.inner.vector.len ∙ sym q.inner.vector.len)
        ∙ ap₂ (vector_sum f) (pair_multiple c p.x ∙ ap (multiple f c) p.gives) q.gives;
  }

  pub IsPair-combination : (cs : List ℕ) (rows : List (List ℕ)) → All (IsPair f g T given) rows → IsPair f g T given (combination f (boundary T + g) cs rows)
  IsPair-combination [] rows h = IsPair-zeros
  IsPair-combination (c ∷ cs) [] h = IsPair-zeros
  IsPair-combination (c ∷ cs) (v ∷ vs) h =
      IsPair-step c v (combination f (boundary T + g) cs vs) (All-head (IsPair f g T given) v vs h)
      (IsPair-combination cs vs (All-tail (IsPair f g T given) v vs h))

  pub IsPair-span : (rows : List (List ℕ)) (z : List ℕ) → All (IsPair f g T given) rows → InSpan f (boundary T + g) rows z → IsPair f g T given z
  IsPair-span rows z h p = subst (IsPair f g T given) p.sum (IsPair-combination p.coefficients rows h)

-- ---- candidates

module _ (f : Field) (g c t t3 : ℕ) (digits : List (List ℕ)) (hd : AreVectors f (t3 + c) digits) where
  abbrev to_join : List ℕ → List ℕ
  to_join = candidate f (t3 + c) t t3 digits

  abbrev image : List ℕ → List ℕ
  image z = times_matrix f (t3 + c) digits (take t z)

  hi : (z : List ℕ) → IsVector f (t3 + c) (image z)
  hi z = IsVector-combination f (t3 + c) (take t z) digits hd

  pub candidate_vector : (z : List ℕ) → IsVector f (t + g) z → IsVector f (c + (t3 + g)) (to_join z)
  candidate_vector z h =
      IsVector-append f c (t3 + g) _ _ (IsVector-drop f t3 c (image z) (hi z))
      (IsVector-append f t3 g _ _ (IsVector-take f t3 c (image z) (hi z)) (IsVector-drop f t g z h))

  -- the parts of a sum
  pub parts_sum : (s1 s2 v1 v2 : List ℕ) → IsVector f (t3 + c) s1 → IsVector f (t3 + c) s2 →
      drop t3 (vector_sum f s1 s2) ++ (take t3 (vector_sum f s1 s2) ++ vector_sum f v1 v2)
      ≡ vector_sum f (drop t3 s1 ++ (take t3 s1 ++ v1)) (drop t3 s2 ++ (take t3 s2 ++ v2))
  parts_sum s1 s2 v1 v2 h1 h2 =
      ap₂ (λ a b. a ++ b) (drop-vector_sum f t3 s1 s2 (h1.len ∙ sym h2.len))
      (ap (λ a. a ++ vector_sum f v1 v2) (take-vector_sum f t3 s1 s2)
      ∙ sym (vector_sum-append f (take t3 s1) v1 (take t3 s2) v2
      ((IsVector-take f t3 c s1 h1).len ∙ sym (IsVector-take f t3 c s2 h2).len)))
      ∙ sym (vector_sum-append f (drop t3 s1) (take t3 s1 ++ v1) (drop t3 s2) (take t3 s2 ++ v2)
      ((IsVector-drop f t3 c s1 h1).len ∙ sym (IsVector-drop f t3 c s2 h2).len))

  candidate_sum : (u v : List ℕ) → IsVector f (t + g) u → IsVector f (t + g) v → to_join (vector_sum f u v) ≡ vector_sum f (to_join u) (to_join v)
  candidate_sum u v hu hv =
      let s : image (vector_sum f u v) ≡ vector_sum f (image u) (image v) =
      ap (times_matrix f (t3 + c) digits) (take-vector_sum f t u v)
      ∙ combination-vector_sum f (t3 + c) (take t u) (take t v) digits ((IsVector-take f t g u hu).len ∙ sym (IsVector-take f t g v hv).len) in
      ap₂ (λ a b. drop t3 a ++ (take t3 a ++ b)) s (drop-vector_sum f t u v (hu.len ∙ sym hv.len))
      ∙ parts_sum (image u) (image v) (drop t u) (drop t v) (hi u) (hi v)

  candidate_multiple : (a : ℕ) (u : List ℕ) → to_join (multiple f a u) ≡ multiple f a (to_join u)
  candidate_multiple a u =
      let s : image (multiple f a u) ≡ multiple f a (image u) =
      ap (times_matrix f (t3 + c) digits) (take-multiple f a t u) ∙ combination-multiple f (t3 + c) a (take t u) digits in
      ap₂ (λ x y. drop t3 x ++ (take t3 x ++ y)) s (drop-multiple f a t u)
      ∙ ap₂ (λ x y. x ++ y) (drop-multiple f a t3 (image u))
      (ap (λ x. x ++ multiple f a (drop t u)) (take-multiple f a t3 (image u)) ∙ sym (multiple-append f a (take t3 (image u)) (drop t u)))
      ∙ sym (multiple-append f a (drop t3 (image u)) (take t3 (image u) ++ drop t u))

  -- zero boundary digits stay zero
  pub candidate_zeros : (v : List ℕ) → to_join (zeros t ++ v) ≡ zeros c ++ (zeros t3 ++ v)
  candidate_zeros v =
      let s : image (zeros t ++ v) ≡ zeros t3 ++ zeros c =
      ap (times_matrix f (t3 + c) digits) (take_at (zeros t) v t (length-replicate t 0)) ∙ combination-zeros f (t3 + c) t digits hd
      ∙ sym (zeros-append t3 c) in
      ap₂ (λ x y. drop t3 x ++ (take t3 x ++ y)) s (drop_at (zeros t) v t (length-replicate t 0))
      ∙ ap₂ (λ x y. x ++ (y ++ v)) (drop_at (zeros t3) (zeros c) t3 (length-replicate t3 0)) (take_at (zeros t3) (zeros c) t3 (length-replicate t3 0))

  pub IsLinear-candidate : IsLinear f (t + g) (c + (t3 + g)) to_join
  IsLinear-candidate = record {
    vectors = candidate_vector;
    sums = candidate_sum;
    multiples = λ a u hu. candidate_multiple a u;
    zero_kept =
        ap to_join (sym (zeros-append t g)) ∙ candidate_zeros (zeros g) ∙ ap (λ x. zeros c ++ x) (zeros-append t3 g) ∙ zeros-append c (t3 + g);
  }

-- a candidate has its length
pub candidate_fits : (f : Field) (r t t3 n w : ℕ) (digits : List (List ℕ)) (z : List ℕ) → AreVectors f r digits → IsVector f n z → t ≤ n → t3 ≤ r → t + w ≡ r + n →
    IsVector f w (candidate f r t t3 digits z)
candidate_fits f r t t3 n w digits z hd hz lt l3 e =
    let g = n - t in
    let c = r - t3 in
    let en : n ≡ t + g = omega arith in
    let er : r ≡ t3 + c = omega arith in
    let ew : c + (t3 + g) ≡ w = omega arith in
    subst (λ k. IsVector f k (candidate f r t t3 digits z)) ew
    (subst (λ k. IsVector f (c + (t3 + g)) (candidate f k t t3 digits z)) (sym er)
    (candidate_vector f g c t t3 digits (subst (λ k. AreVectors f k digits) er hd) z (subst (λ k. IsVector f k z) en hz)))

-- ---- a join

-- the new internal digits of a combination of the columns of a join
abbrev pub new_digits : Field → Op → Tree → Tree → List ℕ → List ℕ
new_digits f op l r x =
    products f (map (joined_row (record { f = f; op = op }) (boundary_matrix f l) (boundary_matrix f r)) (range_with_len op.t3 op.c)) x

-- the parts of lists that are joined
back : (s a b : List ℕ) (n : ℕ) → s ≡ a ++ b → length a ≡ n → (take n s ≡ a) × (drop n s ≡ b)
back s a b n e l = (ap (take n) e ∙ take_at a b n l, ap (drop n) e ∙ drop_at a b n l)

pub pair_at_join : (f : Field) (g : ℕ) (op : Op) (l r : Tree) (gl gr : List (List ℕ)) (x y : List ℕ) → IsValid f (Join op l r) →
    AreVectors f g gl → AreVectors f g gr → length gl ≡ size l → length x ≡ size l → length y ≡ size r →
    vector_sum f (candidate f (row_length op) op.t1 op.t3 (digits_at_join f op op.g1) (pair_of f g l gl x))
    (candidate f (row_length op) op.t2 op.t3 (digits_at_join f op op.g2) (pair_of f g r gr y))
    ≡ new_digits f op l r (x ++ y) ++ pair_of f g (Join op l r) (gl ++ gr) (x ++ y)
pair_at_join f g op l r gl gr x y ok hl hr el ex ey =
    let n = row_length op in
    let d1 = digits_at_join f op op.g1 in
    let d2 = digits_at_join f op op.g2 in
    let h1 = digits_are f op op.g1 ok.0 ok.0.first.rows in
    let h2 = digits_are f op op.g2 ok.0 ok.0.second.rows in
    let p = products f (boundary_rows f l) x in
    let q = products f (boundary_rows f r) y in
    let vl = combination f g x gl in
    let vr = combination f g y gr in
    let lp : length p ≡ op.t1 = (boundary_digits f g l gl hl x).len ∙ ok.1 in
    let lq : length q ≡ op.t2 = (boundary_digits f g r gr hr y).len ∙ ok.2 in
    let s1 = times_matrix f n d1 p in
    let s2 = times_matrix f n d2 q in
    let v1 = IsVector-combination f n p d1 h1 in
    let v2 = IsVector-combination f n q d2 h2 in
    let T = Join op l r in
    let parts = back (vector_sum f s1 s2) (products f (boundary_rows f T) (x ++ y)) (new_digits f op l r (x ++ y)) op.t3
    (sym (products_at_join f op l r x y ok ex ey)) (boundary_digits f g T [] (All-nil (λ v. IsVector f g v)) (x ++ y)).len in
    ap₂ (vector_sum f)
    (ap₂ (λ a b. drop op.t3 (times_matrix f n d1 a) ++ (take op.t3 (times_matrix f n d1 a) ++ b)) (take_at p vl op.t1 lp) (drop_at p vl op.t1 lp))
    (ap₂ (λ a b. drop op.t3 (times_matrix f n d2 a) ++ (take op.t3 (times_matrix f n d2 a) ++ b)) (take_at q vr op.t2 lq) (drop_at q vr op.t2 lq))
    ∙ sym (parts_sum f g op.c op.t1 op.t3 d1 h1 s1 s2 vl vr v1 v2)
    ∙ ap₂ (λ a b. a ++ (b ++ vector_sum f vl vr)) parts.1 parts.0
    ∙ ap (λ v. new_digits f op l r (x ++ y) ++ (products f (boundary_rows f T) (x ++ y) ++ v))
    (sym (combination-append f g x y gl gr (ex ∙ sym el) hr))

-- inner coefficients of a join
pub inner_at_join : (f : Field) (op : Op) (l r : Tree) (x y : List ℕ) → IsValid f (Join op l r) → IsInner f l x → IsInner f r y →
    new_digits f op l r (x ++ y) ≡ zeros op.c → IsInner f (Join op l r) (x ++ y)
inner_at_join f op l r x y ok hx hy e = record {
  vector = IsVector-append f (size l) (size r) x y hx.vector hy.vector;
  inner =
      internal_at_join f op l r x y ok hx.vector.len hy.vector.len
      ∙ ap₂ (λ a b. a ++ b) e (ap₂ (λ a b. a ++ b) hx.inner hy.inner ∙ zeros-append (internal l) (internal r))
      ∙ zeros-append op.c (internal l + internal r);
}

pub record InnerParts (f : Field) (op : Op) (l r : Tree) (z : List ℕ) : Type 0 where
  pub x : List ℕ
  pub y : List ℕ
  pub whole : x ++ y ≡ z
  pub left : IsInner f l x
  pub right : IsInner f r y
  pub none : new_digits f op l r (x ++ y) ≡ zeros op.c

pub inner_parts : (f : Field) (op : Op) (l r : Tree) (z : List ℕ) → IsValid f (Join op l r) → IsInner f (Join op l r) z → InnerParts f op l r z
inner_parts f op l r z ok h =
    let x = take (size l) z in
    let y = drop (size l) z in
    let hx = IsVector-take f (size l) (size r) z h.vector in
    let hy = IsVector-drop f (size l) (size r) z h.vector in
    let e = take-append-drop (size l) z in
    let new = new_digits f op l r (x ++ y) in
    let pl = products f (internal_rows f l) x in
    let pr = products f (internal_rows f r) y in
    let all : new ++ (pl ++ pr) ≡ zeros op.c ++ (zeros (internal l) ++ zeros (internal r)) =
    sym (internal_at_join f op l r x y ok hx.len hy.len) ∙ ap (products f (internal_rows f (Join op l r))) e ∙ h.inner
    ∙ sym (ap (λ a. zeros op.c ++ a) (zeros-append (internal l) (internal r)) ∙ zeros-append op.c (internal l + internal r)) in
    let ln : length new ≡ length (zeros op.c) =
    length-map _ (dot f (x ++ y)) ∙ length-map-range_with_len _ op.t3 op.c ∙ sym (length-replicate op.c 0) in
    let ll : length pl ≡ length (zeros (internal l)) =
    length-map (internal_rows f l) (dot f x) ∙ length-internal_rows f l ∙ sym (length-replicate (internal l) 0) in
    let one = append_parts new (zeros op.c) (pl ++ pr) (zeros (internal l) ++ zeros (internal r)) ln all in
    let two = append_parts pl (zeros (internal l)) pr (zeros (internal r)) ll one.1 in
    record {
      x = x;
      y = y;
      whole = e;
      left = record { vector = hx; inner = two.0 };
      right = record { vector = hy; inner = two.1 };
      none = one.0;
    }
