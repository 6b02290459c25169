-- Pairs and faults account for a node: at a join, after faults are taken out, and at the root.
use Rattle.std.proofs.Common.{ℕ, ◌+◌, ◌≡◌, Bool, true, false, not, List, [], ◌∷◌, ◌++◌, length, map, filter, take, drop, get_or, refl, sym, ap, ap₂, subst, ◌∙◌, arith}
use Rattle.std.specs.List.{All}
use Rattle.std.proofs.lemmas.List.{map-append, length-map, length-replicate, take_at, drop_at, get_or_default}
use Rattle.std.proofs.lemmas.List.FromFn.{length-map-range_with_len}
use Rattle.std.proofs.lemmas.List.Elements.{All-nil, All-cons, All-head, All-tail, All-append, All-weaker, All-filter, All-map, All-take, All-drop}
use Rattle.mm_field.specs.declared.Field.{Field}
use Rattle.mm_field.specs.Vectors.{zeros, vector_sum, multiple, combination, IsVector, AreVectors, InSpan, IsWithin, SameRowSpace}
use Rattle.mm_field.proofs.VectorLemmas.{multiple-zeros, vector_sum-zeros, zeros-vector_sum, IsVector-zeros}
use Rattle.mm_field.proofs.CombinationLemmas.{zeros_twice, IsVector-combination, InSpan-vector_sum, InSpan-within, IsWithin-itself, IsWithin-within, take-vector_sum, drop-vector_sum, vector_sum-append, multiple-append}
use Rattle.mm_field.proofs.PartLemmas.{combination-map, AreVectors-map, IsVector-append, IsVector-take, zeros-append, append_parts}
use Rattle.mm_linear.proofs.SpanLemmas.{InSum-from_append, append_from_InSum, append_left_in, append_right_in}
use Rattle.mm_linear.proofs.SubspaceTests.{IsLinear, Contains-filter, Contains-map}
use Rattle.mm_logic.specs.Operator.{Op, row_length}
use Rattle.mm_logic.specs.PresentMatrix.{boundary_rows}
use Rattle.mm_logic.specs.Tree.{Tree, size, boundary, IsValid}
use Rattle.mm_logic.specs.Tree.Tree.{Join}
use Rattle.mm_logic_laws.specs.MatrixLaws.{digits_at_join}
use Rattle.mm_matrix.specs.Orthogonal.{dot}
use Rattle.mm_matrix.specs.Residues.{AreReduced}
use Rattle.mm_matrix.proofs.FreeLemmas.{member_in_span}
use Rattle.mm_present.specs.Dependencies.{products, pair_of, candidate, after_zeros, tails, with_boundary, is_zero_before, IsInner, IsPair, Account}
use Rattle.mm_present.proofs.ProductLemmas.{digits_are}
use Rattle.mm_present.proofs.PairLemmas.{pair_vector, IsPair-zeros, IsPair-span, IsLinear-candidate, candidate_zeros, pair_at_join, new_digits, inner_at_join, inner_parts}
use Rattle.mm_present.proofs.TailLemmas.{row_of_tail, tails_within, AreVectors-tails, tails_span}

-- ---- spans under linear maps

module _ (f : Field) (t n : ℕ) (h : List ℕ → List ℕ) (lin : IsLinear f t n h) where
  pub span_image : (rows : List (List ℕ)) (z : List ℕ) → AreVectors f t rows → InSpan f t rows z → InSpan f n (map h rows) (h z)
  span_image rows z hr p = record {
    coefficients = p.coefficients;
    each = record { len = p.each.len ∙ sym (length-map rows h); digits = p.each.digits };
    sum = combination-map f t n h lin.sums lin.multiples lin.zero_kept p.coefficients rows hr ∙ ap h p.sum;
  }

  pub span_source : (rows : List (List ℕ)) (w : List ℕ) → AreVectors f t rows → InSpan f n (map h rows) w → (z : List ℕ) × InSpan f t rows z × (h z ≡ w)
  span_source rows w hr p = (
    combination f t p.coefficients rows,
    record { coefficients = p.coefficients; each = record { len = p.each.len ∙ length-map rows h; digits = p.each.digits }; sum = refl },
    sym (combination-map f t n h lin.sums lin.multiples lin.zero_kept p.coefficients rows hr) ∙ p.sum,
  )

pub IsLinear-zeros : (f : Field) (c m : ℕ) → IsLinear f m (c + m) (λ v. zeros c ++ v)
IsLinear-zeros f c m = record {
  vectors = λ u hu. IsVector-append f c m (zeros c) u (IsVector-zeros f c) hu;
  sums = λ u v hu hv. ap (λ a. a ++ vector_sum f u v) (sym (zeros_twice f c)) ∙ sym (vector_sum-append f (zeros c) u (zeros c) v refl);
  multiples = λ a u hu. ap (λ x. x ++ multiple f a u) (sym (multiple-zeros f a c)) ∙ sym (multiple-append f a (zeros c) u);
  zero_kept = zeros-append c m;
}

pub after_zeros_are : (f : Field) (c m : ℕ) (rows : List (List ℕ)) → AreVectors f m rows → AreVectors f (c + m) (after_zeros c rows)
after_zeros_are f c m rows h = AreVectors-map f m (c + m) (λ v. zeros c ++ v) (IsLinear-zeros f c m).vectors rows h

-- ---- parts of a list of rows

pub All-left : {X : Type 0} (P : X → Type 0) (xs ys : List X) → All P (xs ++ ys) → All P xs
All-left P xs ys h = subst (All P) (take_at xs ys (length xs) refl) (All-take P (length xs) (xs ++ ys) h)

pub All-right : {X : Type 0} (P : X → Type 0) (xs ys : List X) → All P (xs ++ ys) → All P ys
All-right P xs ys h = subst (All P) (drop_at xs ys (length xs) refl) (All-drop P (length xs) (xs ++ ys) h)

within_left : (f : Field) (n : ℕ) (rows sows : List (List ℕ)) → AreVectors f n rows → AreVectors f n sows → IsWithin f n rows (rows ++ sows)
within_left f n rows sows hr hs =
    All-weaker (InSpan f n rows) (InSpan f n (rows ++ sows)) (λ v p. append_left_in f n rows sows v hr hs p) rows (IsWithin-itself f n rows hr)

within_right : (f : Field) (n : ℕ) (rows sows : List (List ℕ)) → AreVectors f n rows → AreVectors f n sows → IsWithin f n sows (rows ++ sows)
within_right f n rows sows hr hs =
    All-weaker (InSpan f n sows) (InSpan f n (rows ++ sows)) (λ v p. append_right_in f n rows sows v hr hs p) sows (IsWithin-itself f n sows hs)

pub both_within : (f : Field) (n : ℕ) (rows sows all : List (List ℕ)) → IsWithin f n rows all → IsWithin f n sows all → IsWithin f n (rows ++ sows) all
both_within f n rows sows all p q = All-append (InSpan f n all) rows sows p q

-- ---- tails

-- a vector with zeros before it that is in the span of reduced rows and of rows with zeros before them
pub tails_complete : (f : Field) (c m : ℕ) (rows : List (List ℕ)) (ks : List ℕ) (sows : List (List ℕ)) (z : List ℕ) → AreReduced f (c + m) rows ks →
    AreVectors f m sows → IsVector f m z → InSpan f (c + m) (rows ++ after_zeros c sows) (zeros c ++ z) → InSpan f m (tails c rows ++ sows) z
tails_complete f c m rows ks sows z h hs hz p =
    let lin = IsLinear-zeros f c m in
    let s = InSum-from_append f (c + m) rows (after_zeros c sows) (zeros c ++ z) (after_zeros_are f c m sows hs) p in
    let o = span_source f m (c + m) (λ v. zeros c ++ v) lin sows s.other hs s.in_second in
    let e = s.one in
    let he : IsVector f (c + m) e = subst (λ v. IsVector f (c + m) v) s.in_first.sum (IsVector-combination f (c + m) s.in_first.coefficients rows h.each) in
    let ho : IsVector f m o.0 = subst (λ v. IsVector f m v) o.1.sum (IsVector-combination f m o.1.coefficients sows hs) in
    let sum : vector_sum f e (zeros c ++ o.0) ≡ zeros c ++ z = ap (vector_sum f e) o.2 ∙ s.sum in
    let lz = length-replicate c 0 in
    let cut : take c e ≡ zeros c =
    sym (vector_sum-zeros f c (take c e) (IsVector-take f c m e he))
    ∙ ap (vector_sum f (take c e)) (sym (take_at (zeros c) o.0 c lz)) ∙ sym (take-vector_sum f c e (zeros c ++ o.0))
    ∙ ap (take c) sum ∙ take_at (zeros c) z c lz in
    append_from_InSum f m (tails c rows) sows z hs (record {
      one = drop c e;
      other = o.0;
      in_first = tails_span f c m 0 rows ks e h.leads_are h.each s.in_first cut;
      in_second = o.1;
      sum =
          ap (vector_sum f (drop c e)) (sym (drop_at (zeros c) o.0 c lz))
          ∙ sym (drop-vector_sum f c e (zeros c ++ o.0) (he.len ∙ sym (lin.vectors o.0 ho).len))
          ∙ ap (drop c) sum ∙ drop_at (zeros c) z c lz;
    })

-- ---- a node

module _ (f : Field) (g : ℕ) (T : Tree) (given : List (List ℕ)) (hg : AreVectors f g given) where
  pub pairs_are : (rows : List (List ℕ)) → All (IsPair f g T given) rows → AreVectors f (boundary T + g) rows
  pairs_are rows h =
      All-weaker (IsPair f g T given) (IsVector f (boundary T + g))
      (λ v p. subst (IsVector f (boundary T + g)) p.gives (pair_vector f g T given hg p.x)) rows h

  -- rows whose boundary digits are zero are faults
  pub split_account : (rows faults : List (List ℕ)) → Account f g T given rows faults →
      Account f g T given (with_boundary (boundary T) rows) (faults ++ tails (boundary T) rows)
  split_account rows faults a =
      let t = boundary T in
      let p = λ (row : List ℕ). not (is_zero_before t row) in
      let Z = after_zeros t faults in
      let Y = after_zeros t (tails t rows) in
      let both : after_zeros t (faults ++ tails t rows) ≡ Z ++ Y = map-append (λ v. zeros t ++ v) faults (tails t rows) in
      let sound_rows = All-left (IsPair f g T given) rows Z a.sound in
      let sound_faults = All-right (IsPair f g T given) rows Z a.sound in
      let sound_kept : All (IsPair f g T given) (filter p rows) = All-filter p (IsPair f g T given) rows sound_rows in
      let hr = pairs_are rows sound_rows in
      let sound_new : All (IsPair f g T given) Y =
      All-map (IsPair f g T given) (λ v. zeros t ++ v) (tails t rows)
      (All-weaker (λ row. InSpan f (t + g) rows (zeros t ++ row)) (λ row. IsPair f g T given (zeros t ++ row))
      (λ row q. IsPair-span f g T given hg rows (zeros t ++ row) sound_rows q) (tails t rows) (tails_within f t g rows hr)) in
      let sound : All (IsPair f g T given) (filter p rows ++ (Z ++ Y)) =
      All-append (IsPair f g T given) (filter p rows) (Z ++ Y) sound_kept (All-append (IsPair f g T given) Z Y sound_faults sound_new) in
      let hk = pairs_are (filter p rows) sound_kept in
      let hz = pairs_are Z sound_faults in
      let hy = pairs_are Y sound_new in
      let hzy = All-append (IsVector f (t + g)) Z Y hz hy in
      let hall = pairs_are (filter p rows ++ (Z ++ Y)) sound in
      let faults_in : IsWithin f (t + g) (Z ++ Y) (filter p rows ++ (Z ++ Y)) = within_right f (t + g) (filter p rows) (Z ++ Y) hk hzy in
      let old_in = IsWithin-within f (t + g) Z (Z ++ Y) (filter p rows ++ (Z ++ Y)) hall (within_left f (t + g) Z Y hz hy) faults_in in
      let rows_in : IsWithin f (t + g) rows (filter p rows ++ (Z ++ Y)) = (λ i d l.
      one (filter p rows ++ (Z ++ Y)) (get_or rows i d) (hr i d l) (is_zero_before t (get_or rows i d)) refl
      (λ e. append_left_in f (t + g) (filter p rows) (Z ++ Y) (get_or rows i d) hk hzy
      (member_in_span f (t + g) (filter p rows) (get_or rows i d) hk (Contains-filter p rows (get_or rows i d) (i, l, get_or_default rows i _ d l) (ap not e))))
      (λ e. append_right_in f (t + g) (filter p rows) (Z ++ Y) (zeros t ++ drop t (get_or rows i d)) hk hzy
      (append_right_in f (t + g) Z Y (zeros t ++ drop t (get_or rows i d)) hz hy
      (member_in_span f (t + g) Y (zeros t ++ drop t (get_or rows i d)) hy
      (Contains-map (λ v. zeros t ++ v) (tails t rows) (drop t (get_or rows i d))
      (Contains-map (drop t) (filter (is_zero_before t) rows) (get_or rows i d)
      (Contains-filter (is_zero_before t) rows (get_or rows i d) (i, l, get_or_default rows i _ d l) e))))))) in
      record {
        sound = subst (λ vs. All (IsPair f g T given) (filter p rows ++ vs)) (sym both) sound;
        complete = λ x hx.
            subst (λ vs. InSpan f (t + g) (filter p rows ++ vs) (pair_of f g T given x)) (sym both)
            (InSpan-within f (t + g) (rows ++ Z) (filter p rows ++ (Z ++ Y)) (pair_of f g T given x) hall
            (both_within f (t + g) rows Z (filter p rows ++ (Z ++ Y)) rows_in old_in) (a.complete x hx));
      }
    where
      one : (all : List (List ℕ)) (v : List ℕ) → IsVector f (boundary T + g) v → (b : Bool) → is_zero_before (boundary T) v ≡ b →
          (is_zero_before (boundary T) v ≡ false → InSpan f (boundary T + g) all v) →
          (is_zero_before (boundary T) v ≡ true → InSpan f (boundary T + g) all (zeros (boundary T) ++ drop (boundary T) v)) →
          InSpan f (boundary T + g) all v
      one all v hv false e off on = off e
      one all v hv true e off on = subst (InSpan f (boundary T + g) all) (sym (row_of_tail f (boundary T) g v hv e)) (on e)

-- ---- a join

module _ (f : Field) (g : ℕ) (op : Op) (l r : Tree) (gl gr : List (List ℕ)) (ok : IsValid f (Join op l r)) (hl : AreVectors f g gl) (hr : AreVectors f g gr)
    (el : length gl ≡ size l) where
  abbrev joined : Tree
  joined = Join op l r

  abbrev given : List (List ℕ)
  given = gl ++ gr

  abbrev width : ℕ
  width = op.c + (op.t3 + g)

  abbrev first : List ℕ → List ℕ
  first = candidate f (row_length op) op.t1 op.t3 (digits_at_join f op op.g1)

  abbrev second : List ℕ → List ℕ
  second = candidate f (row_length op) op.t2 op.t3 (digits_at_join f op op.g2)

  linear_first : IsLinear f (op.t1 + g) width first
  linear_first = IsLinear-candidate f g op.c op.t1 op.t3 (digits_at_join f op op.g1) (digits_are f op op.g1 ok.0 ok.0.first.rows)

  linear_second : IsLinear f (op.t2 + g) width second
  linear_second = IsLinear-candidate f g op.c op.t2 op.t3 (digits_at_join f op op.g2) (digits_are f op op.g2 ok.0 ok.0.second.rows)

  -- what two pairs make is a pair, where its new internal digits are zero
  pub joined_pair : (a b z : List ℕ) → IsPair f g l gl a → IsPair f g r gr b → vector_sum f (first a) (second b) ≡ zeros op.c ++ z → IsPair f g joined given z
  joined_pair a b z p q e =
      let x = p.x in
      let y = q.x in
      let new = new_digits f op l r (x ++ y) in
      let made : new ++ pair_of f g joined given (x ++ y) ≡ zeros op.c ++ z =
      sym (pair_at_join f g op l r gl gr x y ok hl hr el p.inner.vector.len q.inner.vector.len)
      ∙ ap₂ (λ u v. vector_sum f (first u) (second v)) p.gives q.gives ∙ e in
      let count : length new ≡ length (zeros op.c) =
      length-map _ (dot f (x ++ y)) ∙ length-map-range_with_len _ op.t3 op.c ∙ sym (length-replicate op.c 0) in
      let parts = append_parts new (zeros op.c) (pair_of f g joined given (x ++ y)) z count made in
      record { x = x ++ y; inner = inner_at_join f op l r x y ok p.inner q.inner parts.0; gives = parts.1 }

  left_are : (rows : List (List ℕ)) → All (IsPair f g l gl) rows → AreVectors f (op.t1 + g) rows
  left_are rows h = subst (λ t. AreVectors f (t + g) rows) ok.1 (pairs_are f g l gl hl rows h)

  right_are : (rows : List (List ℕ)) → All (IsPair f g r gr) rows → AreVectors f (op.t2 + g) rows
  right_are rows h = subst (λ t. AreVectors f (t + g) rows) ok.2 (pairs_are f g r gr hr rows h)

  zero_left : IsPair f g l gl (zeros (op.t1 + g))
  zero_left = subst (λ t. IsPair f g l gl (zeros (t + g))) ok.1 (IsPair-zeros f g l gl hl)

  zero_right : IsPair f g r gr (zeros (op.t2 + g))
  zero_right = subst (λ t. IsPair f g r gr (zeros (t + g))) ok.2 (IsPair-zeros f g r gr hr)

  -- a combination of candidates with zeros as new internal digits
  candidates_pair : (ps qs : List (List ℕ)) (z : List ℕ) → All (IsPair f g l gl) ps → All (IsPair f g r gr) qs →
      InSpan f width (map first ps ++ map second qs) (zeros op.c ++ z) → IsPair f g joined given z
  candidates_pair ps qs z hp hq p =
      let vp = left_are ps hp in
      let vq = right_are qs hq in
      let s = InSum-from_append f width (map first ps) (map second qs) (zeros op.c ++ z)
      (AreVectors-map f (op.t2 + g) width second linear_second.vectors qs vq) p in
      let a = span_source f (op.t1 + g) width first linear_first ps s.one vp s.in_first in
      let b = span_source f (op.t2 + g) width second linear_second qs s.other vq s.in_second in
      let pa = subst (λ t. InSpan f (t + g) ps a.0) (sym ok.1) a.1 in
      let pb = subst (λ t. InSpan f (t + g) qs b.0) (sym ok.2) b.1 in
      joined_pair a.0 b.0 z (IsPair-span f g l gl hl ps a.0 hp pa) (IsPair-span f g r gr hr qs b.0 hq pb)
      (ap₂ (vector_sum f) a.2 b.2 ∙ s.sum)

  fault_left : (v : List ℕ) → IsPair f g l gl (zeros (boundary l) ++ v) → IsPair f g joined given (zeros op.t3 ++ v)
  fault_left v p =
      let q = subst (λ t. IsPair f g l gl (zeros t ++ v)) ok.1 p in
      let hv : IsVector f (op.t1 + g) (zeros op.t1 ++ v) = left_are ((zeros op.t1 ++ v) ∷ []) (All-cons (IsPair f g l gl) (zeros op.t1 ++ v) [] q (All-nil (IsPair f g l gl))) 0 [] (omega arith) in
      let lv = linear_first.vectors (zeros op.t1 ++ v) hv in
      joined_pair (zeros op.t1 ++ v) (zeros (op.t2 + g)) (zeros op.t3 ++ v) q zero_right
      (ap (vector_sum f (first (zeros op.t1 ++ v))) linear_second.zero_kept ∙ vector_sum-zeros f width _ lv
      ∙ candidate_zeros f g op.c op.t1 op.t3 (digits_at_join f op op.g1) (digits_are f op op.g1 ok.0 ok.0.first.rows) v)

  fault_right : (v : List ℕ) → IsPair f g r gr (zeros (boundary r) ++ v) → IsPair f g joined given (zeros op.t3 ++ v)
  fault_right v p =
      let q = subst (λ t. IsPair f g r gr (zeros t ++ v)) ok.2 p in
      let hv : IsVector f (op.t2 + g) (zeros op.t2 ++ v) = right_are ((zeros op.t2 ++ v) ∷ []) (All-cons (IsPair f g r gr) (zeros op.t2 ++ v) [] q (All-nil (IsPair f g r gr))) 0 [] (omega arith) in
      let lv = linear_second.vectors (zeros op.t2 ++ v) hv in
      joined_pair (zeros (op.t1 + g)) (zeros op.t2 ++ v) (zeros op.t3 ++ v) zero_left q
      (ap (λ u. vector_sum f u (second (zeros op.t2 ++ v))) linear_first.zero_kept ∙ zeros-vector_sum f width _ lv
      ∙ candidate_zeros f g op.c op.t2 op.t3 (digits_at_join f op op.g2) (digits_are f op op.g2 ok.0 ok.0.second.rows) v)

  faults_joined : (T : Tree) (gT : List (List ℕ)) (t : ℕ) (faults : List (List ℕ)) → ((v : List ℕ) → IsPair f g T gT (zeros t ++ v) → IsPair f g joined given (zeros op.t3 ++ v)) →
      All (IsPair f g T gT) (after_zeros t faults) → All (IsPair f g joined given) (after_zeros op.t3 faults)
  faults_joined T gT t [] go h = All-nil (IsPair f g joined given)
  faults_joined T gT t (v ∷ vs) go h =
      All-cons (IsPair f g joined given) _ _ (go v (All-head (IsPair f g T gT) _ _ h)) (faults_joined T gT t vs go (All-tail (IsPair f g T gT) _ _ h))

  -- faults as candidates
  moved : (h : List ℕ → List ℕ) (t : ℕ) (faults : List (List ℕ)) → ((v : List ℕ) → h (zeros t ++ v) ≡ zeros op.c ++ (zeros op.t3 ++ v)) →
      map h (after_zeros t faults) ≡ after_zeros op.c (after_zeros op.t3 faults)
  moved h t [] e = refl
  moved h t (v ∷ vs) e = ap₂ (λ x xs. x ∷ xs) (e v) (moved h t vs e)

  pub join_account : (ps qs fl fr rows : List (List ℕ)) (ks : List ℕ) → Account f g l gl ps fl → Account f g r gr qs fr → AreReduced f width rows ks →
      SameRowSpace f width (map first ps ++ map second qs) rows → Account f g joined given (tails op.c rows) (fl ++ fr)
  join_account ps qs fl fr rows ks a b red same =
      let t3 = op.t3 in
      let c = op.c in
      let m = t3 + g in
      let d1 = digits_at_join f op op.g1 in
      let d2 = digits_at_join f op op.g2 in
      let zl = after_zeros (boundary l) fl in
      let zr = after_zeros (boundary r) fr in
      let hp = All-left (IsPair f g l gl) ps zl a.sound in
      let hq = All-left (IsPair f g r gr) qs zr b.sound in
      let hfl = All-right (IsPair f g l gl) ps zl a.sound in
      let hfr = All-right (IsPair f g r gr) qs zr b.sound in
      let vp = left_are ps hp in
      let vq = right_are qs hq in
      let cands = map first ps ++ map second qs in
      let hc1 = AreVectors-map f (op.t1 + g) width first linear_first.vectors ps vp in
      let hc2 = AreVectors-map f (op.t2 + g) width second linear_second.vectors qs vq in
      let hc = All-append (IsVector f width) (map first ps) (map second qs) hc1 hc2 in
      let Z = after_zeros t3 (fl ++ fr) in
      let Zl = after_zeros t3 fl in
      let Zr = after_zeros t3 fr in
      let both : Z ≡ Zl ++ Zr = map-append (λ v. zeros t3 ++ v) fl fr in
      let sl = faults_joined l gl (boundary l) fl fault_left hfl in
      let sr = faults_joined r gr (boundary r) fr fault_right hfr in
      let sZ : All (IsPair f g joined given) Z = subst (All (IsPair f g joined given)) (sym both) (All-append (IsPair f g joined given) Zl Zr sl sr) in
      let hg = All-append (IsVector f g) gl gr hl hr in
      let vZ = pairs_are f g joined given hg Z sZ in
      let vZl = pairs_are f g joined given hg Zl sl in
      let vZr = pairs_are f g joined given hg Zr sr in
      let tails_sound : All (IsPair f g joined given) (tails c rows) =
      All-weaker (λ row. InSpan f width rows (zeros c ++ row)) (IsPair f g joined given)
      (λ row p. candidates_pair ps qs row hp hq (InSpan-within f width rows cands (zeros c ++ row) hc same.1 p)) (tails c rows) (tails_within f c m rows red.each) in
      let W = rows ++ after_zeros c Z in
      let vcZ = after_zeros_are f c m Z vZ in
      let vW = All-append (IsVector f width) rows (after_zeros c Z) red.each vcZ in
      let rows_in = within_left f width rows (after_zeros c Z) red.each vcZ in
      let cands_in = IsWithin-within f width cands rows W vW same.0 rows_in in
      let first_in = All-left (InSpan f width W) (map first ps) (map second qs) cands_in in
      let second_in = All-right (InSpan f width W) (map first ps) (map second qs) cands_in in
      let Z_in = within_right f width rows (after_zeros c Z) red.each vcZ in
      let split : after_zeros c Z ≡ after_zeros c Zl ++ after_zeros c Zr = ap (after_zeros c) both ∙ map-append (λ v. zeros c ++ v) Zl Zr in
      let Z_parts = subst (λ vs. IsWithin f width vs W) split Z_in in
      let Zl_in = All-left (InSpan f width W) (after_zeros c Zl) (after_zeros c Zr) Z_parts in
      let Zr_in = All-right (InSpan f width W) (after_zeros c Zl) (after_zeros c Zr) Z_parts in
      let one : map first (ps ++ after_zeros op.t1 fl) ≡ map first ps ++ after_zeros c Zl =
      map-append first ps (after_zeros op.t1 fl)
      ∙ ap (λ vs. map first ps ++ vs) (moved first op.t1 fl (candidate_zeros f g c op.t1 t3 d1 (digits_are f op op.g1 ok.0 ok.0.first.rows))) in
      let two : map second (qs ++ after_zeros op.t2 fr) ≡ map second qs ++ after_zeros c Zr =
      map-append second qs (after_zeros op.t2 fr)
      ∙ ap (λ vs. map second qs ++ vs) (moved second op.t2 fr (candidate_zeros f g c op.t2 t3 d2 (digits_are f op op.g2 ok.0 ok.0.second.rows))) in
      let all1 = subst (λ vs. IsWithin f width vs W) (sym one) (both_within f width (map first ps) (after_zeros c Zl) W first_in Zl_in) in
      let all2 = subst (λ vs. IsWithin f width vs W) (sym two) (both_within f width (map second qs) (after_zeros c Zr) W second_in Zr_in) in
      let ca : (x : List ℕ) → IsInner f l x → InSpan f (op.t1 + g) (ps ++ after_zeros op.t1 fl) (pair_of f g l gl x) =
      subst (λ t. (x : List ℕ) → IsInner f l x → InSpan f (t + g) (ps ++ after_zeros t fl) (pair_of f g l gl x)) ok.1 a.complete in
      let cb : (x : List ℕ) → IsInner f r x → InSpan f (op.t2 + g) (qs ++ after_zeros op.t2 fr) (pair_of f g r gr x) =
      subst (λ t. (x : List ℕ) → IsInner f r x → InSpan f (t + g) (qs ++ after_zeros t fr) (pair_of f g r gr x)) ok.2 b.complete in
      let va = left_are (ps ++ after_zeros op.t1 fl) (subst (λ t. All (IsPair f g l gl) (ps ++ after_zeros t fl)) ok.1 a.sound) in
      let vb = right_are (qs ++ after_zeros op.t2 fr) (subst (λ t. All (IsPair f g r gr) (qs ++ after_zeros t fr)) ok.2 b.sound) in
      record {
        sound = All-append (IsPair f g joined given) (tails c rows) Z tails_sound sZ;
        complete = λ z hz.
            let k = inner_parts f op l r z ok hz in
            let u = InSpan-within f width _ W _ vW all1 (span_image f (op.t1 + g) width first linear_first _ _ va (ca k.x k.left)) in
            let v = InSpan-within f width _ W _ vW all2 (span_image f (op.t2 + g) width second linear_second _ _ vb (cb k.y k.right)) in
            let made : vector_sum f (first (pair_of f g l gl k.x)) (second (pair_of f g r gr k.y)) ≡ zeros c ++ pair_of f g joined given z =
            pair_at_join f g op l r gl gr k.x k.y ok hl hr el k.left.vector.len k.right.vector.len
            ∙ ap₂ (λ d x. d ++ pair_of f g joined given x) k.none k.whole in
            tails_complete f c m rows ks Z (pair_of f g joined given z) red vZ (pair_vector f g joined given hg z)
            (subst (InSpan f width W) made (InSpan-vector_sum f width W _ _ u v));
      }

-- ---- the root

-- Faults account for the whole tree: they are what dependencies make of the given columns, and span all of it.
pub record AllFaults (f : Field) (g : ℕ) (T : Tree) (given faults : List (List ℕ)) : Type 0 where
  pub sound : All (λ v. IsPair f g T given (zeros (boundary T) ++ v)) faults
  pub complete : (x : List ℕ) → IsInner f T x → products f (boundary_rows f T) x ≡ zeros (boundary T) → InSpan f g faults (combination f g x given)

pub root_account : (f : Field) (g : ℕ) (T : Tree) (given pairs faults rows : List (List ℕ)) (ks : List ℕ) → AreVectors f g given → AreVectors f g faults →
    Account f g T given pairs faults → AreReduced f (boundary T + g) rows ks → SameRowSpace f (boundary T + g) pairs rows →
    AllFaults f g T given (faults ++ tails (boundary T) rows)
root_account f g T given pairs faults rows ks hg hf a red same =
    let t = boundary T in
    let P = IsPair f g T given in
    let Z = after_zeros t faults in
    let hp = All-left P pairs Z a.sound in
    let vp = pairs_are f g T given hg pairs hp in
    let vZ = after_zeros_are f t g faults hf in
    let vW = All-append (IsVector f (t + g)) rows Z red.each vZ in
    let old = subst (λ vs. All P vs) refl (All-right P pairs Z a.sound) in
    let new : All (λ v. P (zeros t ++ v)) (tails t rows) =
    All-weaker (λ row. InSpan f (t + g) rows (zeros t ++ row)) (λ v. P (zeros t ++ v))
    (λ row p. IsPair-span f g T given hg pairs (zeros t ++ row) hp (InSpan-within f (t + g) rows pairs (zeros t ++ row) vp same.1 p))
    (tails t rows) (tails_within f t g rows red.each) in
    let vt = AreVectors-tails f t g rows red.each in
    let pairs_in = IsWithin-within f (t + g) pairs rows (rows ++ Z) vW same.0 (within_left f (t + g) rows Z red.each vZ) in
    let Z_in = within_right f (t + g) rows Z red.each vZ in
    record {
      sound = All-append (λ v. P (zeros t ++ v)) faults (tails t rows) (each_of P (λ v. zeros t ++ v) faults old) new;
      complete = λ x hx zero.
          let p = InSpan-within f (t + g) (pairs ++ Z) (rows ++ Z) (pair_of f g T given x) vW (both_within f (t + g) pairs Z (rows ++ Z) pairs_in Z_in) (a.complete x hx) in
          let q = tails_complete f t g rows ks faults (combination f g x given) red hf (IsVector-combination f g x given hg)
          (subst (InSpan f (t + g) (rows ++ Z)) (ap (λ b. b ++ combination f g x given) zero) p) in
          InSpan-within f g (tails t rows ++ faults) (faults ++ tails t rows) (combination f g x given) (All-append (IsVector f g) faults (tails t rows) hf vt)
          (both_within f g (tails t rows) faults (faults ++ tails t rows) (within_right f g faults (tails t rows) hf vt) (within_left f g faults (tails t rows) hf vt)) q;
    }
  where
    each_of : (P : List ℕ → Type 0) (h : List ℕ → List ℕ) (rows : List (List ℕ)) → All P (map h rows) → All (λ v. P (h v)) rows
    each_of P h [] k = All-nil (λ v. P (h v))
    each_of P h (v ∷ vs) k = All-cons (λ v. P (h v)) v vs (All-head P (h v) (map h vs) k) (each_of P h vs (All-tail P (h v) (map h vs) k))
