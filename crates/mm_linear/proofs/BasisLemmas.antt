-- Independent rows, completed by the unit vectors at their free columns, are a basis.
use Rattle.std.proofs.Common.{ℕ, zero, suc, ◌+◌, ◌-◌, ◌<◌, ◌≤◌, ◌≡◌, ◌≢◌, inl, inr, Bool, true, false, not, cond, List, [], ◌∷◌, ◌++◌, length, map, get_or, take, drop, refl, sym, ap, ap₂, ◌∙◌, subst, arith, length-append, append_assoc, filter, take_all, take-append-drop, replicate}
use Rattle.std.specs.Prelude.{is_some, Option, Some, None}
use Rattle.std.specs.List.{range_with_len}
use Rattle.std.proofs.lemmas.Bool.{cases_eq, and_parts}
use Rattle.std.proofs.lemmas.List.{length-replicate, length-map, length-take-le, take_at, take-replicate, get_or-replicate, get_or-take, get_or_push, map-append}
use Rattle.std.proofs.Math.Seq.{take-suc}
use Rattle.std.proofs.lemmas.List.Elements.{All-nil, All-cons, All-append, All-take, filter-append}
use Rattle.std.proofs.lemmas.List.FromFn.{map-range_with_len_more}
use Rattle.mm_field.specs.declared.Field.{Field}
use Rattle.mm_field.specs.Digits.{order, times, negative}
use Rattle.mm_field.specs.Vectors.{zeros, vector_sum, multiple, combination, IsVector, AreVectors, InSpan, AreIndependent}
use Rattle.mm_field.proofs.Tables.{one_digit, times-zero, plus-negative, plus_comm, times_one_digit, negative_below}
use Rattle.mm_field.proofs.VectorLemmas.{vector_sum_comm, vector_sum_assoc, vector_sum-zeros, zeros-vector_sum, multiple-plus, multiple-zeros, zero-multiple, IsVector-zeros, IsVector-vector_sum, IsVector-multiple}
use Rattle.mm_field.proofs.CombinationLemmas.{first_row, other_rows, InSpan-within, zeros_twice, take-vector_sum, take-multiple, vector_sum-append, multiple-append, IsVector-combination, combination-append, InSpan-zeros, InSpan-first, InSpan-one_more, InSpan-vector_sum, InSpan-multiple}
use Rattle.mm_field.proofs.PartLemmas.{combination-map, IsVector-take, IsVector-drop, IsVector-append, AreVectors-map, zeros-append, append_parts}
use Rattle.mm_linear.proofs.SpanLemmas.{InSum-from_append, append_from_InSum, append_left_in, append_right_in}
use Rattle.mm_linear.specs.Decide.{row_for, put_at, new_place, echelon_of, is_independent}
use Rattle.mm_linear.specs.Echelons.{entry}
use Rattle.mm_linear.specs.Coordinates.{unit, is_pivot, free_columns, completed, IsBasis}
use Rattle.mm_linear.proofs.SpaceLemmas.{false_true, zeros_within}
use Rattle.mm_linear.proofs.EchelonLemmas.{zero-times, zero_not_one, combination_entry, span_is_fixed}
use Rattle.mm_linear.proofs.InsertLemmas.{new_row}
use Rattle.mm_linear.proofs.SumLemmas.{one_row}
use Rattle.mm_linear.proofs.RankLemmas.{rank_to, rank_inserted}
use Rattle.mm_linear.proofs.DecideLemmas.{IsRowsOf, echelon_of_is, new_place-some, is_independent_decides}
use Rattle.mm_linear.proofs.IndependenceLemmas.{independent_more}
use Rattle.mm_linear.proofs.MeetTest.{is_in_span_decides}

-- ---- unit vectors

pub IsVector-cons : (f : Field) (n d : ℕ) (v : List ℕ) → d < order f → IsVector f n v → IsVector f (suc n) (d ∷ v)
IsVector-cons f n d v l h = record { len = ap suc h.len; digits = All-cons (λ a. a < order f) d v l h.digits }

pub IsVector-unit : (f : Field) (r k : ℕ) → k < r → IsVector f r (unit r k)
IsVector-unit f r k l =
    let w : k + suc (r - suc k) ≡ r = omega arith in
    subst (λ n. IsVector f n (unit r k)) w
    (IsVector-append f k (suc (r - suc k)) (zeros k) (1 ∷ zeros (r - suc k)) (IsVector-zeros f k)
    (IsVector-cons f (r - suc k) 1 (zeros (r - suc k)) (one_digit f) (IsVector-zeros f (r - suc k))))

-- k zeros and then a
abbrev pub ended : ℕ → ℕ → List ℕ
ended k a = zeros k ++ (a ∷ [])

pub length-ended : (k a : ℕ) → length (ended k a) ≡ suc k
length-ended k a = length-append (zeros k) (a ∷ []) ∙ (let e : length (zeros k) ≡ k = length-replicate k 0 in omega arith)

pub IsVector-ended : (f : Field) (k a : ℕ) → a < order f → IsVector f (suc k) (ended k a)
IsVector-ended f k a l = record {
  len = length-ended k a;
  digits = All-append (λ d. d < order f) (zeros k) (a ∷ []) (IsVector-zeros f k).digits
      (All-cons (λ d. d < order f) a [] l (All-nil (λ d. d < order f)));
}

pub take-unit : (r k : ℕ) → take (suc k) (unit r k) ≡ ended k 1
take-unit r k =
    ap (take (suc k)) (sym (append_assoc (zeros k) (1 ∷ []) (zeros (r - suc k))))
    ∙ take_at (ended k 1) (zeros (r - suc k)) (suc k) (length-ended k 1)

take-late_unit : (r k m : ℕ) → m ≤ k → take m (unit r k) ≡ zeros m
take-late_unit r k m l =
    let e : m + (k - m) ≡ k = omega arith in
    ap (λ x. take m (x ++ (1 ∷ zeros (r - suc k)))) (sym (zeros-append m (k - m) ∙ ap zeros e))
    ∙ ap (take m) (append_assoc (zeros m) (zeros (k - m)) (1 ∷ zeros (r - suc k)))
    ∙ take_at (zeros m) (zeros (k - m) ++ (1 ∷ zeros (r - suc k))) m (length-replicate m 0)

pub IsVector-cut : (f : Field) (r m : ℕ) (v : List ℕ) → m ≤ r → IsVector f r v → IsVector f m (take m v)
IsVector-cut f r m v l h = record {
  len = let e : length v ≡ r = h.len in length-take-le m v (omega arith);
  digits = All-take (λ d. d < order f) m v h.digits;
}

pub combination_cut : (f : Field) (r m : ℕ) (cs : List ℕ) (rows : List (List ℕ)) → m ≤ r → AreVectors f r rows →
    combination f m cs (map (take m) rows) ≡ take m (combination f r cs rows)
combination_cut f r m cs rows l h =
    combination-map f r m (take m) (λ u v hu hv. take-vector_sum f m u v) (λ c u hu. take-multiple f c m u)
    (take-replicate m r 0 l) cs rows h

pub combination_late : (f : Field) (r m : ℕ) (cs : List ℕ) (rows : List (List ℕ)) → m ≤ r →
    ((k : ℕ) (d : List ℕ) → k < length rows → take m (get_or rows k d) ≡ zeros m) →
    take m (combination f r cs rows) ≡ zeros m
combination_late f r m [] rows l h = take-replicate m r 0 l
combination_late f r m (c ∷ cs) [] l h = take-replicate m r 0 l
combination_late f r m (c ∷ cs) (v ∷ vs) l h =
    take-vector_sum f m (multiple f c v) (combination f r cs vs)
    ∙ ap₂ (λ x y. vector_sum f x y)
    (take-multiple f c m v ∙ ap (multiple f c) (h 0 [] (omega arith)) ∙ multiple-zeros f c m)
    (combination_late f r m cs vs l (λ k d lt. h (suc k) d (omega arith)))
    ∙ zeros_twice f m

-- ---- unit vectors at the columns that pass a test

abbrev pub units : ℕ → (ℕ → Bool) → ℕ → ℕ → List (List ℕ)
units r p k n = map (unit r) (filter p (range_with_len k n))

pub All-units : (P : List ℕ → Type 0) (r : ℕ) (p : ℕ → Bool) (n k : ℕ) →
    ((j : ℕ) → k ≤ j → j < k + n → P (unit r j)) →
    (i : ℕ) (d : List ℕ) → i < length (units r p k n) → P (get_or (units r p k n) i d)
All-units P r p zero k h = All-nil P
All-units P r p (suc n) k h = go (p k) (All-units P r p n (k + 1) (λ j l m. h j (omega arith) (omega arith)))
  where
    rest : List ℕ
    rest = filter p (range_with_len (k + 1) n)

    go : (b : Bool) → ((i : ℕ) (d : List ℕ) → i < length (units r p (k + 1) n) → P (get_or (units r p (k + 1) n) i d)) →
        (i : ℕ) (d : List ℕ) → i < length (map (unit r) (cond b (k ∷ filter p (range_with_len (k + 1) n)) (filter p (range_with_len (k + 1) n))))
        → P (get_or (map (unit r) (cond b (k ∷ filter p (range_with_len (k + 1) n)) (filter p (range_with_len (k + 1) n)))) i d)
    go true ih = All-cons P (unit r k) (units r p (k + 1) n) (h k (omega arith) (omega arith)) ih
    go false ih = ih

AreVectors-units : (f : Field) (r : ℕ) (p : ℕ → Bool) (k n : ℕ) → k + n ≤ r → AreVectors f r (units r p k n)
AreVectors-units f r p k n l = All-units (λ v. IsVector f r v) r p n k (λ j lj mj. IsVector-unit f r j (omega arith))

unit_in : (f : Field) (r : ℕ) (p : ℕ → Bool) (j : ℕ) → p j ≡ true → (n k : ℕ) → k + n ≤ r → k ≤ j → j < k + n →
    InSpan f r (units r p k n) (unit r j)
unit_in f r p j t zero k l lj mj = absurd (omega arith)
unit_in f r p j t (suc n) k l lj mj = go (p k) refl (λ ne. unit_in f r p j t n (k + 1) (omega arith) (omega arith) (omega arith))
  where
    go : (b : Bool) → p k ≡ b → (k ≢ j → InSpan f r (units r p (k + 1) n) (unit r j)) →
        InSpan f r (map (unit r) (cond b (k ∷ filter p (range_with_len (k + 1) n)) (filter p (range_with_len (k + 1) n)))) (unit r j)
    go true e ih = elim (cases_eq k j) [
      | inl q ↦ subst (λ i. InSpan f r (unit r k ∷ units r p (k + 1) n) (unit r i)) q
          (InSpan-first f r (unit r k) (units r p (k + 1) n) (IsVector-unit f r k (omega arith))
          (AreVectors-units f r p (k + 1) n (omega arith)))
      | inr ne ↦ InSpan-one_more f r (unit r k) (units r p (k + 1) n) (unit r j) (IsVector-unit f r k (omega arith))
          (AreVectors-units f r p (k + 1) n (omega arith)) (ih ne)
    ]
    go false e ih = elim (cases_eq k j) [
      | inl q ↦ false_true _ (sym e ∙ ap p q ∙ t)
      | inr ne ↦ ih ne
    ]

-- ---- a unit vector that is a combination of later ones and of the rows stands at a pivot column

pub AreVectors-cut : (f : Field) (r m : ℕ) (g : List (List ℕ)) → m ≤ r → AreVectors f r g → AreVectors f m (map (take m) g)
AreVectors-cut f r m g l h = AreVectors-map f r m (take m) (λ u hu. IsVector-cut f r m u l hu) g h

pub pivot_from_span : (f : Field) (r k : ℕ) (g : List (List ℕ)) (w : List ℕ) → k < r → AreVectors f r g → InSpan f r g w →
    take (suc k) w ≡ ended k 1 → is_pivot f g k ≡ true
unfolding is_pivot
pivot_from_span f r k g w l h p e =
    (is_in_span_decides f (suc k) (map (take (suc k)) g) (ended k 1) (AreVectors-cut f r (suc k) g (omega arith) h)
    (IsVector-ended f k 1 (one_digit f))).1
    (record {
      coefficients = p.coefficients;
      each = record { len = p.each.len ∙ sym (length-map g (take (suc k))); digits = p.each.digits };
      sum = combination_cut f r (suc k) p.coefficients g (omega arith) h ∙ ap (take (suc k)) p.sum ∙ e;
    })

pivot_from_later : (f : Field) (r k : ℕ) (us g : List (List ℕ)) → k < r → AreVectors f r us → AreVectors f r g →
    ((i : ℕ) (d : List ℕ) → i < length us → take (suc k) (get_or us i d) ≡ zeros (suc k)) →
    InSpan f r (us ++ g) (unit r k) → is_pivot f g k ≡ true
pivot_from_later f r k us g l hu hg late p =
    let s = InSum-from_append f r us g (unit r k) hg p in
    let low : take (suc k) s.one ≡ zeros (suc k) =
    ap (take (suc k)) (sym s.in_first.sum) ∙ combination_late f r (suc k) s.in_first.coefficients us (omega arith) late in
    let ho : IsVector f r s.other =
    subst (λ x. IsVector f r x) s.in_second.sum (IsVector-combination f r s.in_second.coefficients g hg) in
    pivot_from_span f r k g s.other l hg s.in_second
    (sym (zeros-vector_sum f (suc k) (take (suc k) s.other) (IsVector-cut f r (suc k) s.other (omega arith) ho))
    ∙ ap (λ x. vector_sum f x (take (suc k) s.other)) (sym low)
    ∙ sym (take-vector_sum f (suc k) s.one s.other)
    ∙ ap (take (suc k)) s.sum
    ∙ take-unit r k)

abbrev pub is_free : Field → List (List ℕ) → ℕ → Bool
is_free f g k = not (is_pivot f g k)

units_independent : (f : Field) (r : ℕ) (g : List (List ℕ)) → AreVectors f r g → AreIndependent f r g →
    (n k : ℕ) → k + n ≡ r → AreIndependent f r (units r (is_free f g) k n ++ g)
units_independent f r g h ind zero k e = ind
units_independent f r g h ind (suc n) k e =
    go (is_pivot f g k) refl (units_independent f r g h ind n (k + 1) (omega arith))
  where
    go : (b : Bool) → is_pivot f g k ≡ b → AreIndependent f r (units r (is_free f g) (k + 1) n ++ g) →
        AreIndependent f r (map (unit r) (cond (not b) (k ∷ filter (is_free f g) (range_with_len (k + 1) n)) (filter (is_free f g) (range_with_len (k + 1) n))) ++ g)
    go true t ih = ih
    go false t ih =
        let hu = AreVectors-units f r (is_free f g) (k + 1) n (omega arith) in
        independent_more f r (unit r k) (units r (is_free f g) (k + 1) n ++ g) (IsVector-unit f r k (omega arith))
        (All-append (λ v. IsVector f r v) (units r (is_free f g) (k + 1) n) g hu h) ih
        (λ s. false_true _ (sym t ∙ pivot_from_later f r k (units r (is_free f g) (k + 1) n) g (omega arith) hu h
        (All-units (λ v. take (suc k) v ≡ zeros (suc k)) r (is_free f g) n (k + 1) (λ j lj mj. take-late_unit r j (suc k) (omega arith))) s))

-- ---- every vector is a combination

-- a vector of the span with zeros before place k and 1 at it
record Lead (f : Field) (r : ℕ) (rows : List (List ℕ)) (k : ℕ) : Type 0 where
  pub lead : List ℕ
  pub vector : IsVector f r lead
  pub inside : InSpan f r rows lead
  pub cut : take (suc k) lead ≡ ended k 1

lead_at : (f : Field) (r : ℕ) (g : List (List ℕ)) → AreVectors f r g → (k : ℕ) → k < r → Lead f r (units r (is_free f g) 0 r ++ g) k
unfolding is_pivot
lead_at f r g h k l = go (is_pivot f g k) refl
  where
    go : (b : Bool) → is_pivot f g k ≡ b → Lead f r (units r (is_free f g) 0 r ++ g) k
    go true t =
        let p = (is_in_span_decides f (suc k) (map (take (suc k)) g) (ended k 1) (AreVectors-cut f r (suc k) g (omega arith) h)
        (IsVector-ended f k 1 (one_digit f))).0 t in
        record {
          lead = combination f r p.coefficients g;
          vector = IsVector-combination f r p.coefficients g h;
          inside = append_right_in f r (units r (is_free f g) 0 r) g (combination f r p.coefficients g)
              (AreVectors-units f r (is_free f g) 0 r (omega arith)) h
              (record {
                coefficients = p.coefficients;
                each = record { len = p.each.len ∙ length-map g (take (suc k)); digits = p.each.digits };
                sum = refl;
              });
          cut = sym (combination_cut f r (suc k) p.coefficients g (omega arith) h) ∙ p.sum;
        }
    go false t = record {
      lead = unit r k;
      vector = IsVector-unit f r k l;
      inside = append_left_in f r (units r (is_free f g) 0 r) g (unit r k)
          (AreVectors-units f r (is_free f g) 0 r (omega arith)) h
          (unit_in f r (is_free f g) k (ap not t) r 0 (omega arith) (omega arith) (omega arith));
      cut = take-unit r k;
    }

-- v less its part along w, and back
pub minus_and_plus : (f : Field) (n c : ℕ) (v w : List ℕ) → IsVector f n v → length w ≡ n →
    vector_sum f (vector_sum f v (multiple f (negative f c) w)) (multiple f c w) ≡ v
minus_and_plus f n c v w hv lw =
    vector_sum_assoc f v (multiple f (negative f c) w) (multiple f c w)
    ∙ ap (λ x. vector_sum f v x)
    (sym (multiple-plus f (negative f c) c w) ∙ ap (λ a. multiple f a w) (plus_comm f (negative f c) c ∙ plus-negative f c)
    ∙ zero-multiple f w ∙ ap zeros lw)
    ∙ vector_sum-zeros f n v hv

spans_from : (f : Field) (r : ℕ) (rows : List (List ℕ)) → AreVectors f r rows → ((k : ℕ) → k < r → Lead f r rows k) →
    (d k : ℕ) → k + d ≡ r → (v : List ℕ) → IsVector f r v → take k v ≡ zeros k → InSpan f r rows v
spans_from f r rows h leads zero k e v hv z =
    let lv : length v ≡ r = hv.len in
    let same : take k v ≡ v = take_all k v (omega arith) in
    let same_r : k ≡ r = omega arith in
    subst (λ x. InSpan f r rows x) (ap zeros (sym same_r) ∙ sym z ∙ same) (InSpan-zeros f r rows h)
spans_from f r rows h leads (suc d) k e v hv z =
    let w = leads k (omega arith) in
    let lv : length v ≡ r = hv.len in
    let a = get_or v k 0 in
    let v' = vector_sum f v (multiple f (negative f a) w.lead) in
    let hw = IsVector-multiple f r (negative f a) w.lead w.vector.len in
    let hv' = IsVector-vector_sum f r v (multiple f (negative f a) w.lead) lv hw.len in
    let first : take (suc k) v ≡ ended k a = take-suc v k 0 (omega arith) ∙ ap (λ x. x ++ (a ∷ [])) z in
    let second : take (suc k) (multiple f (negative f a) w.lead) ≡ ended k (negative f a) =
    take-multiple f (negative f a) (suc k) w.lead ∙ ap (multiple f (negative f a)) w.cut
    ∙ multiple-append f (negative f a) (zeros k) (1 ∷ [])
    ∙ ap₂ (λ x y. x ++ (y ∷ [])) (multiple-zeros f (negative f a) k) (times_one_digit f (negative f a) (negative_below f a)) in
    let cut : take (suc k) v' ≡ zeros (suc k) =
    take-vector_sum f (suc k) v (multiple f (negative f a) w.lead)
    ∙ ap₂ (λ x y. vector_sum f x y) first second
    ∙ vector_sum-append f (zeros k) (a ∷ []) (zeros k) (negative f a ∷ []) refl
    ∙ ap₂ (λ x y. x ++ (y ∷ [])) (zeros_twice f k) (plus-negative f a)
    ∙ (zeros-append k 1 ∙ ap zeros (let s : k + 1 ≡ suc k = omega arith in s)) in
    let rest = spans_from f r rows h leads d (suc k) (omega arith) v' hv' cut in
    subst (λ x. InSpan f r rows x) (minus_and_plus f r a v w.lead hv w.vector.len)
    (InSpan-vector_sum f r rows v' (multiple f a w.lead) rest (InSpan-multiple f r a rows w.lead w.inside))

-- ---- the other order

swapped_independent : (f : Field) (n : ℕ) (rows sows : List (List ℕ)) → AreVectors f n rows → AreVectors f n sows →
    AreIndependent f n (rows ++ sows) → AreIndependent f n (sows ++ rows)
swapped_independent f n rows sows hr hs ind cs each e =
    let k = length sows in
    let m = length rows in
    let hcs : IsVector f (k + m) cs = record { len = each.len ∙ length-append sows rows; digits = each.digits } in
    let hx = IsVector-take f k m cs hcs in
    let hy = IsVector-drop f k m cs hcs in
    let x = take k cs in
    let y = drop k cs in
    let all : y ++ x ≡ zeros (length (rows ++ sows)) =
    ind (y ++ x)
    (subst (λ j. IsVector f j (y ++ x)) (sym (length-append rows sows)) (IsVector-append f m k y x hy hx))
    (combination-append f n y x rows sows hy.len hs
    ∙ vector_sum_comm f (combination f n y rows) (combination f n x sows)
    ∙ sym (combination-append f n x y sows rows hx.len hr)
    ∙ ap (λ z. combination f n z (sows ++ rows)) (take-append-drop k cs)
    ∙ e) in
    let parts = append_parts y (zeros m) x (zeros k) (hy.len ∙ sym (length-replicate m 0))
    (all ∙ ap zeros (length-append rows sows) ∙ sym (zeros-append m k)) in
    sym (take-append-drop k cs)
    ∙ ap₂ (λ u v. u ++ v) parts.1 parts.0
    ∙ zeros-append k m
    ∙ ap zeros (sym (length-append sows rows))

swapped_span : (f : Field) (n : ℕ) (rows sows : List (List ℕ)) (x : List ℕ) → AreVectors f n rows → AreVectors f n sows →
    InSpan f n (rows ++ sows) x → InSpan f n (sows ++ rows) x
swapped_span f n rows sows x hr hs p =
    let s = InSum-from_append f n rows sows x hs p in
    append_from_InSum f n sows rows x hr
    (record {
      one = s.other;
      other = s.one;
      in_first = s.in_second;
      in_second = s.in_first;
      sum = vector_sum_comm f s.other s.one ∙ s.sum;
    })

-- ---- how many rows a basis has

pub rank_of_independent : (f : Field) (n : ℕ) (vs : List (List ℕ)) → AreVectors f n vs → is_independent f n vs ≡ true →
    rank_to n (echelon_of f n vs) ≡ length vs
unfolding echelon_of is_independent
rank_of_independent f n [] h t = no_rank n n (omega arith)
  where
    no_rank : (k n : ℕ) → k ≤ n → rank_to k (replicate n (zeros n)) ≡ 0
    no_rank zero n l = refl
    no_rank (suc k) n l =
        let a : entry (replicate n (zeros n)) k k ≡ 0 = zeros_within n 0 k k (omega arith) (omega arith) (omega arith) in
        let b : rank_to k (replicate n (zeros n)) ≡ 0 = no_rank k n (omega arith) in
        omega arith
rank_of_independent f n (v ∷ vs) h t =
    let hv = first_row f n v vs h in
    let hs = other_rows f n v vs h in
    let parts = and_parts (is_independent f n vs) (is_some (new_place f n v (echelon_of f n vs))) t in
    let r = echelon_of_is f n vs hs in
    go hv r (rank_of_independent f n vs hs parts.0) parts.1 (new_place f n v (echelon_of f n vs)) refl
  where
    go : IsVector f n v → IsRowsOf f n vs (echelon_of f n vs) → rank_to n (echelon_of f n vs) ≡ length vs →
        is_some (new_place f n v (echelon_of f n vs)) ≡ true → (o : Option ℕ) → new_place f n v (echelon_of f n vs) ≡ o →
        rank_to n (put_at f n v (echelon_of f n vs) (new_place f n v (echelon_of f n vs))) ≡ suc (length vs)
    go hv r ih some None e = false_true _ (sym (ap is_some e) ∙ some)
    go hv r ih some (Some p) e =
        let last = new_place-some f n v (echelon_of f n vs) p e in
        let new = new_row f n p v (echelon_of f n vs) r.echelon hv last.place last.nonzero last.late in
        ap (λ o. rank_to n (put_at f n v (echelon_of f n vs) o)) e
        ∙ rank_inserted f n p (row_for f n p v (echelon_of f n vs)) (echelon_of f n vs) r.echelon new
        ∙ ap suc ih

rank_of_all : (n k : ℕ) (E : List (List ℕ)) → k ≤ n → ((i : ℕ) → i < n → entry E i i ≡ 1) → rank_to k E ≡ k
rank_of_all n zero E l h = refl
rank_of_all n (suc k) E l h =
    let a : entry E k k ≡ 1 = h k (omega arith) in
    let b : rank_to k E ≡ k = rank_of_all n k E (omega arith) h in
    omega arith

pub get_or-unit : (r k : ℕ) → k < r → get_or (unit r k) k 0 ≡ 1
get_or-unit r k l =
    sym (get_or-take (suc k) (unit r k) k 0 (omega arith))
    ∙ ap (λ u. get_or u k 0) (take-unit r k)
    ∙ (let e : length (zeros k) ≡ k = length-replicate k 0 in get_or_push (zeros k) 1 0 k (omega arith))

pub get_or-unit_other : (i m k : ℕ) → k ≢ i → k < suc (i + m) → get_or (zeros i ++ (1 ∷ zeros m)) k 0 ≡ 0
get_or-unit_other zero m zero ne l = absurd (ne refl)
get_or-unit_other zero m (suc k) ne l = get_or-replicate m k 0 0 (omega arith)
get_or-unit_other (suc i) m zero ne l = refl
get_or-unit_other (suc i) m (suc k) ne l = get_or-unit_other i m k (λ e. ne (ap suc e)) (omega arith)

-- independent rows that span all have as many rows as digits
pub basis_count : (f : Field) (n : ℕ) (rows : List (List ℕ)) → AreVectors f n rows → AreIndependent f n rows →
    ((x : List ℕ) → IsVector f n x → InSpan f n rows x) → length rows ≡ n
basis_count f n rows h ind all =
    let r = echelon_of_is f n rows h in
    let E = echelon_of f n rows in
    sym (rank_of_independent f n rows h ((is_independent_decides f n rows h).1 ind))
    ∙ rank_of_all n n E (omega arith)
    (λ i l. one_row f n E r.echelon i l
    (λ z.
    let hu = IsVector-unit f n i l in
    let fixed = span_is_fixed f n E r.echelon (unit n i)
    (InSpan-within f n rows E (unit n i) r.echelon.each r.span.0 (all (unit n i) hu)) in
    zero_not_one (get_or (unit n i) i 0)
    (ap (λ u. get_or u i 0) (sym fixed)
    ∙ combination_entry f n (unit n i) E i i r.echelon.each l
    (λ k lk ne. ap (λ a. times f a (entry E k i)) (get_or-unit_other i (n - suc i) k ne (let c : length E ≡ n = r.echelon.count in omega arith)) ∙ zero-times f (entry E k i))
    ∙ ap (times f (get_or (unit n i) i 0)) z
    ∙ times-zero f (get_or (unit n i) i 0))
    (get_or-unit n i l)))

-- the completed rows are a basis
pub completed_is_basis : (f : Field) (r : ℕ) (g : List (List ℕ)) → AreVectors f r g → AreIndependent f r g →
    IsBasis f r (completed f r g)
completed_is_basis f r g h ind =
    let us = units r (is_free f g) 0 r in
    let hu = AreVectors-units f r (is_free f g) 0 r (omega arith) in
    let each = All-append (λ v. IsVector f r v) g us h hu in
    let both = All-append (λ v. IsVector f r v) us g hu h in
    let independent = swapped_independent f r us g hu h (units_independent f r g h ind r 0 (omega arith)) in
    let all = λ (x : List ℕ) (hx : IsVector f r x). swapped_span f r us g x hu h
    (spans_from f r (us ++ g) both (lead_at f r g h) r 0 (omega arith) x hx refl) in
    record { count = basis_count f r (g ++ us) each independent all; each = each; independent = independent; all = all }

-- there are as many free columns as digits beyond the rows
pub free_count : (f : Field) (t c : ℕ) (g : List (List ℕ)) → length g ≡ t → AreVectors f (t + c) g → AreIndependent f (t + c) g →
    length (free_columns f (t + c) g) ≡ c
free_count f t c g e h ind =
    let b : length (completed f (t + c) g) ≡ t + c = (completed_is_basis f (t + c) g h ind).count in
    let a : length (completed f (t + c) g) ≡ length g + length (map (unit (t + c)) (free_columns f (t + c) g)) =
    length-append g (map (unit (t + c)) (free_columns f (t + c) g)) in
    let m : length (map (unit (t + c)) (free_columns f (t + c) g)) ≡ length (free_columns f (t + c) g) =
    length-map (free_columns f (t + c) g) (unit (t + c)) in
    omega arith

pub AreVectors-free : (f : Field) (r : ℕ) (g : List (List ℕ)) → AreVectors f r (map (unit r) (free_columns f r g))
AreVectors-free f r g = AreVectors-units f r (is_free f g) 0 r (omega arith)

pub range_one_more : (k : ℕ) → range_with_len 0 (k + 1) ≡ range_with_len 0 k ++ (k ∷ [])
range_one_more k = sym (same (range_with_len 0 (k + 1))) ∙ map-range_with_len_more (λ x. x) 0 k k (omega arith) ∙ ap (λ xs. xs ++ (k ∷ [])) (same (range_with_len 0 k))
  where
    same : (xs : List ℕ) → map (λ x. x) xs ≡ xs
    same [] = refl
    same (x ∷ xs) = ap (λ ys. x ∷ ys) (same xs)

-- the unit vectors at the free columns up to k + 1 are those up to k, and perhaps one more
pub free_next : (f : Field) (r k : ℕ) (g : List (List ℕ)) (b : Bool) → b ≡ is_pivot f g k →
    map (unit r) (filter (λ j. not (is_pivot f g j)) (range_with_len 0 (k + 1)))
    ≡ map (unit r) (filter (λ j. not (is_pivot f g j)) (range_with_len 0 k)) ++ cond (not b) (unit r k ∷ []) []
free_next f r k g b e =
    ap (λ xs. map (unit r) (filter q xs)) (range_one_more k)
    ∙ ap (map (unit r)) (filter-append q (range_with_len 0 k) (k ∷ []))
    ∙ map-append (unit r) (filter q (range_with_len 0 k)) (filter q (k ∷ []))
    ∙ ap (λ xs. map (unit r) (filter q (range_with_len 0 k)) ++ xs) (by (is_pivot f g k) ∙ ap (λ c. cond (not c) (unit r k ∷ []) []) (sym e))
  where
    q : ℕ → Bool
    q = λ j. not (is_pivot f g j)

    by : (c : Bool) → map (unit r) (cond (not c) (k ∷ []) []) ≡ cond (not c) (unit r k ∷ []) []
    by true = refl
    by false = refl
