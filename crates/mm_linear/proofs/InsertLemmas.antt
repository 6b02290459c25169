-- One more vector in the span of echelon rows.
use Rattle.std.proofs.Common.{ℕ, ◌<◌, ◌≡◌, ◌≢◌, ◌⊎◌, inl, inr, List, [], ◌∷◌, length, map, get_or, refl, sym, ap, ap₂, ◌∙◌, subst, arith}
use Rattle.std.proofs.lemmas.Bool.{cases_eq, cases_lt}
use Rattle.std.proofs.lemmas.List.{get_or-replicate, length-map, length-set, get_or-map, get_or-set_same, get_or-set_other}
use Rattle.std.proofs.lemmas.List.Elements.{All-cons, All-weaker, All-from_get_or}
use Rattle.mm_field.specs.declared.Field.{Field}
use Rattle.mm_field.specs.Digits.{order, plus, times, negative, inverse}
use Rattle.mm_field.specs.Vectors.{zeros, vector_sum, multiple, combination, IsVector, AreVectors, InSpan, IsWithin, SameRowSpace}
use Rattle.mm_field.proofs.Tables.{plus_comm, times_comm, times-zero, negative_below, plus-negative, negative-times, plus_zero_digit, times_one_digit, times-inverse, zero_digit, one_digit}
use Rattle.mm_field.proofs.VectorLemmas.{get_or-multiple, length-multiple, vector_sum_comm, vector_sum_assoc, opposite-vector_sum, vector_sum-zeros, zeros-vector_sum, zero-multiple, one-multiple, multiple-times, multiple-plus, IsVector-vector_sum, IsVector-multiple, sum_entry}
use Rattle.mm_field.proofs.CombinationLemmas.{zeros_twice, IsVector-combination, IsWithin-itself, InSpan-vector_sum, InSpan-multiple, InSpan-zeros, InSpan-first, InSpan-one_more, InSpan-combination}
use Rattle.mm_linear.specs.Echelons.{entry, IsEchelon}
use Rattle.mm_linear.specs.Eliminate.{residue, cleared, inserted}
use Rattle.mm_linear.proofs.EchelonLemmas.{zero-times, combination_entry, row_at, span_is_fixed, zero_not_one, negative-zero}

pub IsVector-residue : (f : Field) (n : ℕ) (v : List ℕ) (rows : List (List ℕ)) → AreVectors f n rows → IsVector f n v →
    IsVector f n (residue f n v rows)
IsVector-residue f n v rows h hv =
    IsVector-vector_sum f n v (multiple f (negative f 1) (combination f n v rows)) hv.len
    (length-multiple f (negative f 1) (combination f n v rows) ∙ (IsVector-combination f n v rows h).len)

-- an entry of the residue
pub residue_entry : (f : Field) (n : ℕ) (v : List ℕ) (rows : List (List ℕ)) → AreVectors f n rows → IsVector f n v → (j : ℕ) → j < n →
    get_or (residue f n v rows) j 0 ≡ plus f (get_or v j 0) (times f (negative f 1) (get_or (combination f n v rows) j 0))
residue_entry f n v rows h hv j l = sum_entry f n (negative f 1) v (combination f n v rows) j hv.len (IsVector-combination f n v rows h).len l

-- the residue is zero where a row ends
pub residue_at_pivot : (f : Field) (n : ℕ) (v : List ℕ) (rows : List (List ℕ)) → IsEchelon f n rows → IsVector f n v →
    (k : ℕ) → k < n → entry rows k k ≡ 1 → get_or (residue f n v rows) k 0 ≡ 0
residue_at_pivot f n v rows h hv k l one =
    let lv : length v ≡ n = hv.len in
    let dv : get_or v k 0 < order f = hv.digits k 0 (omega arith) in
    residue_entry f n v rows h.each hv k l
    ∙ ap (λ x. plus f (get_or v k 0) x)
    (ap (times f (negative f 1))
    (combination_entry f n v rows k k h.each l
    (λ i li ne. ap (λ x. times f (get_or v i 0) x)
    (h.clear i k (let e : length rows ≡ n = h.count in omega arith) l ne one) ∙ times-zero f (get_or v i 0))
    ∙ ap (times f (get_or v k 0)) one
    ∙ times_one_digit f (get_or v k 0) dv)
    ∙ sym (negative-times f (get_or v k 0)))
    ∙ plus-negative f (get_or v k 0)

-- the residue and the part along the rows add up to v
pub residue_and_part : (f : Field) (n : ℕ) (v : List ℕ) (rows : List (List ℕ)) → AreVectors f n rows → IsVector f n v →
    vector_sum f (residue f n v rows) (combination f n v rows) ≡ v
residue_and_part f n v rows h hv =
    let c = combination f n v rows in
    vector_sum_assoc f v (multiple f (negative f 1) c) c
    ∙ ap (λ x. vector_sum f v x)
    (vector_sum_comm f (multiple f (negative f 1) c) c ∙ opposite-vector_sum f c ∙ ap zeros (IsVector-combination f n v rows h).len)
    ∙ vector_sum-zeros f n v hv

-- no residue is left exactly where v is in the span
pub no_residue : (f : Field) (n : ℕ) (v : List ℕ) (rows : List (List ℕ)) → IsEchelon f n rows → IsVector f n v →
    InSpan f n rows v → residue f n v rows ≡ zeros n
no_residue f n v rows h hv p =
    ap (λ x. vector_sum f v (multiple f (negative f 1) x)) (span_is_fixed f n rows h v p) ∙ opposite-vector_sum f v ∙ ap zeros hv.len

pub in_span_with_no_residue : (f : Field) (n : ℕ) (v : List ℕ) (rows : List (List ℕ)) → IsEchelon f n rows → IsVector f n v →
    residue f n v rows ≡ zeros n → InSpan f n rows v
in_span_with_no_residue f n v rows h hv e = record {
  coefficients = v;
  each = record { len = hv.len ∙ sym h.count; digits = hv.digits };
  sum =
      sym (zeros-vector_sum f n (combination f n v rows) (IsVector-combination f n v rows h.each))
      ∙ ap (λ x. vector_sum f x (combination f n v rows)) (sym e)
      ∙ residue_and_part f n v rows h.each hv;
}

-- w ends with a 1 at p, and is zero where a row ends
pub record IsNewRow (f : Field) (n : ℕ) (rows : List (List ℕ)) (p : ℕ) (w : List ℕ) : Type 0 where
  pub vector : IsVector f n w
  pub place : p < n
  pub one : get_or w p 0 ≡ 1
  pub late : (j : ℕ) → p < j → j < n → get_or w j 0 ≡ 0
  pub clean : (k : ℕ) → k < n → entry rows k k ≡ 1 → get_or w k 0 ≡ 0

pub cleared_entry : (f : Field) (n p : ℕ) (w row : List ℕ) → IsVector f n w → IsVector f n row → (j : ℕ) → j < n →
    get_or (cleared f p w row) j 0 ≡ plus f (get_or row j 0) (times f (negative f (get_or row p 0)) (get_or w j 0))
cleared_entry f n p w row hw hr j l = sum_entry f n (negative f (get_or row p 0)) row w j hr.len hw.len l

pub IsVector-cleared : (f : Field) (n p : ℕ) (w row : List ℕ) → IsVector f n w → IsVector f n row →
    IsVector f n (cleared f p w row)
IsVector-cleared f n p w row hw hr =
    IsVector-vector_sum f n row (multiple f (negative f (get_or row p 0)) w) hr.len
    (length-multiple f (negative f (get_or row p 0)) w ∙ hw.len)

cleared_zero : (f : Field) (n p : ℕ) (w : List ℕ) → IsVector f n w → p < n → cleared f p w (zeros n) ≡ zeros n
cleared_zero f n p w hw l =
    ap (λ a. vector_sum f (zeros n) (multiple f (negative f a) w)) (get_or-replicate n p 0 0 l)
    ∙ ap (λ a. vector_sum f (zeros n) (multiple f a w)) (negative-zero f)
    ∙ ap (λ x. vector_sum f (zeros n) x) (zero-multiple f w ∙ ap zeros hw.len)
    ∙ zeros_twice f n

pub inserted_new : (f : Field) (n p : ℕ) (w : List ℕ) (rows : List (List ℕ)) → length rows ≡ n → p < n →
    get_or (inserted f p w rows) p [] ≡ w
inserted_new f n p w rows e l =
    get_or-set_same (map (cleared f p w) rows) p w []
    (let q : length (map (cleared f p w) rows) ≡ length rows = length-map rows (cleared f p w) in omega arith)

inserted_other : (f : Field) (n p : ℕ) (w : List ℕ) (rows : List (List ℕ)) → length rows ≡ n → (i : ℕ) → i < n → i ≢ p →
    get_or (inserted f p w rows) i [] ≡ cleared f p w (get_or rows i [])
inserted_other f n p w rows e i l ne =
    get_or-set_other (map (cleared f p w) rows) p i w [] ne
    ∙ get_or-map (cleared f p w) rows i [] [] (omega arith)

pub inserted_entry : (f : Field) (n p : ℕ) (w : List ℕ) (rows : List (List ℕ)) → IsEchelon f n rows → IsVector f n w →
    (i j : ℕ) → i < n → j < n → i ≢ p →
    entry (inserted f p w rows) i j ≡ plus f (entry rows i j) (times f (negative f (entry rows i p)) (get_or w j 0))
inserted_entry f n p w rows h hw i j li lj ne =
    ap (λ r. get_or r j 0) (inserted_other f n p w rows h.count i li ne)
    ∙ cleared_entry f n p w (get_or rows i []) hw (row_at f n rows h i li) j lj

pub sum_of_zeros : (f : Field) (a b : ℕ) → a ≡ 0 → b ≡ 0 → plus f a b ≡ 0
sum_of_zeros f a b p q = ap₂ (λ x y. plus f x y) p q ∙ plus_zero_digit f 0 (zero_digit f)

-- the entry of a row of which the digit at p is zero
pub kept_where_zero : (f : Field) (a b : ℕ) → a ≡ 0 → times f (negative f a) b ≡ 0
kept_where_zero f a b e = ap (λ x. times f (negative f x) b) e ∙ ap (λ x. times f x b) (negative-zero f) ∙ zero-times f b

inserted_after : (f : Field) (n p : ℕ) (w : List ℕ) (rows : List (List ℕ)) → IsEchelon f n rows → IsNewRow f n rows p w →
    (i j : ℕ) → i < j → j < n → entry (inserted f p w rows) i j ≡ 0
inserted_after f n p w rows h new i j lt l =
    elim (cases_eq i p) [
      | inl e ↦
          ap (λ m. get_or (get_or (inserted f p w rows) m []) j 0) e
          ∙ ap (λ r. get_or r j 0) (inserted_new f n p w rows h.count new.place)
          ∙ new.late j (omega arith) l
      | inr ne ↦
          inserted_entry f n p w rows h new.vector i j (omega arith) l ne
          ∙ sum_of_zeros f (entry rows i j) _ (h.after i j lt l)
          (elim (cases_lt p j) [
            | inl pj ↦ ap (times f (negative f (entry rows i p))) (new.late j pj l) ∙ times-zero f (negative f (entry rows i p))
            | inr jp ↦ kept_where_zero f (entry rows i p) (get_or w j 0) (h.after i p (omega arith) new.place)
          ])
    ]

inserted_pivot : (f : Field) (n p : ℕ) (w : List ℕ) (rows : List (List ℕ)) → IsEchelon f n rows → IsNewRow f n rows p w →
    (i : ℕ) → i < n → (get_or (inserted f p w rows) i [] ≡ zeros n) ⊎ (entry (inserted f p w rows) i i ≡ 1)
inserted_pivot f n p w rows h new i l =
    elim (cases_eq i p) [
      | inl e ↦ inr
          (ap (λ m. entry (inserted f p w rows) m m) e
          ∙ ap (λ r. get_or r p 0) (inserted_new f n p w rows h.count new.place)
          ∙ new.one)
      | inr ne ↦ elim (h.pivot i l) [
        | inl z ↦ inl
            (inserted_other f n p w rows h.count i l ne ∙ ap (cleared f p w) z ∙ cleared_zero f n p w new.vector new.place)
        | inr one ↦ inr
            (inserted_entry f n p w rows h new.vector i i l l ne
            ∙ ap₂ (λ x y. plus f x y) one
            (ap (times f (negative f (entry rows i p))) (new.clean i l one) ∙ times-zero f (negative f (entry rows i p)))
            ∙ plus_zero_digit f 1 (one_digit f))
      ]
    ]

-- the digit of a cleared row at p
pub cleared_at : (f : Field) (a : ℕ) (b : ℕ) → b ≡ 1 → plus f a (times f (negative f a) b) ≡ 0
cleared_at f a b e =
    ap (λ x. plus f a (times f (negative f a) x)) e
    ∙ ap (λ x. plus f a x) (times_one_digit f (negative f a) (negative_below f a))
    ∙ plus-negative f a

inserted_clear : (f : Field) (n p : ℕ) (w : List ℕ) (rows : List (List ℕ)) → IsEchelon f n rows → IsNewRow f n rows p w →
    (i k : ℕ) → i < n → k < n → i ≢ k → entry (inserted f p w rows) k k ≡ 1 → entry (inserted f p w rows) i k ≡ 0
inserted_clear f n p w rows h new i k li lk ne one =
    elim (cases_eq k p) [
      | inl e ↦
          inserted_entry f n p w rows h new.vector i k li lk (λ q. ne (q ∙ sym e))
          ∙ ap (λ m. plus f (entry rows i m) (times f (negative f (entry rows i p)) (get_or w m 0))) e
          ∙ cleared_at f (entry rows i p) (get_or w p 0) new.one
      | inr nk ↦ elim (h.pivot k lk) [
        | inl z ↦
            absurd (zero_not_one (entry (inserted f p w rows) k k)
            (ap (λ r. get_or r k 0)
            (inserted_other f n p w rows h.count k lk nk ∙ ap (cleared f p w) z
            ∙ cleared_zero f n p w new.vector new.place)
            ∙ get_or-replicate n k 0 0 lk)
            one)
        | inr was ↦ elim (cases_eq i p) [
          | inl e ↦
              ap (λ m. entry (inserted f p w rows) m k) e
              ∙ ap (λ r. get_or r k 0) (inserted_new f n p w rows h.count new.place)
              ∙ new.clean k lk was
          | inr ni ↦
              inserted_entry f n p w rows h new.vector i k li lk ni
              ∙ sum_of_zeros f (entry rows i k) _ (h.clear i k li lk ne was)
              (ap (times f (negative f (entry rows i p))) (new.clean k lk was) ∙ times-zero f (negative f (entry rows i p)))
        ]
      ]
    ]

inserted_each : (f : Field) (n p : ℕ) (w : List ℕ) (rows : List (List ℕ)) → IsEchelon f n rows → IsNewRow f n rows p w →
    AreVectors f n (inserted f p w rows)
inserted_each f n p w rows h new =
    All-from_get_or (λ v. IsVector f n v) (inserted f p w rows) []
    (λ i l.
    let q : length (inserted f p w rows) ≡ length rows =
    length-set (map (cleared f p w) rows) p w ∙ length-map rows (cleared f p w) in
    let c : length rows ≡ n = h.count in
    let li : i < n = omega arith in
    elim (cases_eq i p) [
      | inl e ↦
          subst (λ r. IsVector f n r)
          (sym (ap (λ m. get_or (inserted f p w rows) m []) e ∙ inserted_new f n p w rows h.count new.place)) new.vector
      | inr ne ↦
          subst (λ r. IsVector f n r) (sym (inserted_other f n p w rows h.count i li ne))
          (IsVector-cleared f n p w (get_or rows i []) new.vector (row_at f n rows h i li))
    ])

-- The rows stay in echelon form.
pub IsEchelon-inserted : (f : Field) (n p : ℕ) (w : List ℕ) (rows : List (List ℕ)) → IsEchelon f n rows → IsNewRow f n rows p w →
    IsEchelon f n (inserted f p w rows)
IsEchelon-inserted f n p w rows h new = record {
  count = length-set (map (cleared f p w) rows) p w ∙ length-map rows (cleared f p w) ∙ h.count;
  each = inserted_each f n p w rows h new;
  after = inserted_after f n p w rows h new;
  pivot = inserted_pivot f n p w rows h new;
  clear = inserted_clear f n p w rows h new;
}

-- The span afterwards: that of the rows with v.
each_row : (f : Field) (n : ℕ) (rows sows : List (List ℕ)) → length rows ≡ n →
    ((i : ℕ) → i < n → InSpan f n sows (get_or rows i [])) → IsWithin f n rows sows
each_row f n rows sows e h =
    All-from_get_or (λ v. InSpan f n sows v) rows [] (λ i l. h i (omega arith))

own_row : (f : Field) (n : ℕ) (rows : List (List ℕ)) → IsEchelon f n rows → (i : ℕ) → i < n → InSpan f n rows (get_or rows i [])
own_row f n rows h i l =
    IsWithin-itself f n rows h.each i [] (let e : length rows ≡ n = h.count in omega arith)

-- a row is its cleared row and what was taken off
cleared_back : (f : Field) (n p : ℕ) (w row : List ℕ) → IsVector f n w → IsVector f n row →
    vector_sum f (cleared f p w row) (multiple f (get_or row p 0) w) ≡ row
cleared_back f n p w row hw hr =
    let a = get_or row p 0 in
    vector_sum_assoc f row (multiple f (negative f a) w) (multiple f a w)
    ∙ ap (λ x. vector_sum f row x)
    (sym (multiple-plus f (negative f a) a w)
    ∙ ap (λ b. multiple f b w) (plus_comm f (negative f a) a ∙ plus-negative f a)
    ∙ zero-multiple f w ∙ ap zeros hw.len)
    ∙ vector_sum-zeros f n row hr

-- the place p has no row yet
pub place_is_free : (f : Field) (n p : ℕ) (w : List ℕ) (rows : List (List ℕ)) → IsEchelon f n rows → IsNewRow f n rows p w →
    get_or rows p [] ≡ zeros n
place_is_free f n p w rows h new =
    elim (h.pivot p new.place) [
      | inl z ↦ z
      | inr one ↦ absurd (zero_not_one (get_or w p 0) (new.clean p new.place one) new.one)
    ]

rows_within_inserted : (f : Field) (n p : ℕ) (w : List ℕ) (rows : List (List ℕ)) → IsEchelon f n rows → IsNewRow f n rows p w →
    IsWithin f n rows (inserted f p w rows)
rows_within_inserted f n p w rows h new =
    let h' = IsEchelon-inserted f n p w rows h new in
    let w_in = subst (λ r. InSpan f n (inserted f p w rows) r) (inserted_new f n p w rows h.count new.place)
    (own_row f n (inserted f p w rows) h' p new.place) in
    each_row f n rows (inserted f p w rows) h.count
    (λ i l.
    elim (cases_eq i p) [
      | inl e ↦
          subst (λ r. InSpan f n (inserted f p w rows) r)
          (sym (ap (λ m. get_or rows m []) e ∙ place_is_free f n p w rows h new))
          (InSpan-zeros f n (inserted f p w rows) h'.each)
      | inr ne ↦
          subst (λ r. InSpan f n (inserted f p w rows) r)
          (cleared_back f n p w (get_or rows i []) new.vector (row_at f n rows h i l))
          (InSpan-vector_sum f n (inserted f p w rows) (cleared f p w (get_or rows i [])) (multiple f (get_or (get_or rows i []) p 0) w)
          (subst (λ r. InSpan f n (inserted f p w rows) r) (inserted_other f n p w rows h.count i l ne)
          (own_row f n (inserted f p w rows) h' i l))
          (InSpan-multiple f n (get_or (get_or rows i []) p 0) (inserted f p w rows) w w_in))
    ])

-- w is a multiple of the residue of v, and the residue one of w
pub record IsScaledResidue (f : Field) (n : ℕ) (v : List ℕ) (rows : List (List ℕ)) (w : List ℕ) : Type 0 where
  pub factor : ℕ
  pub back : ℕ
  pub down : w ≡ multiple f factor (residue f n v rows)
  pub up : residue f n v rows ≡ multiple f back w

vector_within_inserted : (f : Field) (n p : ℕ) (v w : List ℕ) (rows : List (List ℕ)) → IsEchelon f n rows → IsVector f n v →
    IsNewRow f n rows p w → IsScaledResidue f n v rows w → InSpan f n (inserted f p w rows) v
vector_within_inserted f n p v w rows h hv new s =
    let h' = IsEchelon-inserted f n p w rows h new in
    let w_in = subst (λ r. InSpan f n (inserted f p w rows) r) (inserted_new f n p w rows h.count new.place)
    (own_row f n (inserted f p w rows) h' p new.place) in
    subst (λ r. InSpan f n (inserted f p w rows) r) (residue_and_part f n v rows h.each hv)
    (InSpan-vector_sum f n (inserted f p w rows) (residue f n v rows) (combination f n v rows)
    (subst (λ r. InSpan f n (inserted f p w rows) r) (sym s.up)
    (InSpan-multiple f n s.back (inserted f p w rows) w w_in))
    (InSpan-combination f n v rows (inserted f p w rows) h'.each (rows_within_inserted f n p w rows h new)))

inserted_within_rows : (f : Field) (n p : ℕ) (v w : List ℕ) (rows : List (List ℕ)) → IsEchelon f n rows → IsVector f n v →
    IsNewRow f n rows p w → IsScaledResidue f n v rows w → IsWithin f n (inserted f p w rows) (v ∷ rows)
inserted_within_rows f n p v w rows h hv new s =
    let h' = IsEchelon-inserted f n p w rows h new in
    let hs : AreVectors f n (v ∷ rows) = All-cons (λ u. IsVector f n u) v rows hv h.each in
    let v_in = InSpan-first f n v rows hv h.each in
    let rows_in : IsWithin f n rows (v ∷ rows) =
    All-weaker (λ u. InSpan f n rows u) (λ u. InSpan f n (v ∷ rows) u)
    (λ u q. InSpan-one_more f n v rows u hv h.each q) rows (IsWithin-itself f n rows h.each) in
    let part_in = InSpan-combination f n v rows (v ∷ rows) hs rows_in in
    let w_in = subst (λ r. InSpan f n (v ∷ rows) r) (sym s.down)
    (InSpan-multiple f n s.factor (v ∷ rows) (residue f n v rows)
    (InSpan-vector_sum f n (v ∷ rows) v (multiple f (negative f 1) (combination f n v rows)) v_in
    (InSpan-multiple f n (negative f 1) (v ∷ rows) (combination f n v rows) part_in))) in
    each_row f n (inserted f p w rows) (v ∷ rows) h'.count
    (λ i l.
    elim (cases_eq i p) [
      | inl e ↦
          subst (λ r. InSpan f n (v ∷ rows) r)
          (sym (ap (λ m. get_or (inserted f p w rows) m []) e ∙ inserted_new f n p w rows h.count new.place)) w_in
      | inr ne ↦
          subst (λ r. InSpan f n (v ∷ rows) r) (sym (inserted_other f n p w rows h.count i l ne))
          (InSpan-vector_sum f n (v ∷ rows) (get_or rows i []) (multiple f (negative f (get_or (get_or rows i []) p 0)) w)
          (rows_in i [] (let e : length rows ≡ n = h.count in omega arith))
          (InSpan-multiple f n (negative f (get_or (get_or rows i []) p 0)) (v ∷ rows) w w_in))
    ])

pub inserted_span : (f : Field) (n p : ℕ) (v w : List ℕ) (rows : List (List ℕ)) → IsEchelon f n rows → IsVector f n v →
    IsNewRow f n rows p w → IsScaledResidue f n v rows w → SameRowSpace f n (v ∷ rows) (inserted f p w rows)
inserted_span f n p v w rows h hv new s = (
  All-cons (λ u. InSpan f n (inserted f p w rows) u) v rows
      (vector_within_inserted f n p v w rows h hv new s) (rows_within_inserted f n p w rows h new),
  inserted_within_rows f n p v w rows h hv new s,
)

-- the residue, divided by its last digit other than 0, is such a row
pub new_row : (f : Field) (n p : ℕ) (v : List ℕ) (rows : List (List ℕ)) → IsEchelon f n rows → IsVector f n v → p < n →
    get_or (residue f n v rows) p 0 ≢ 0 → ((j : ℕ) → p < j → j < n → get_or (residue f n v rows) j 0 ≡ 0) →
    IsNewRow f n rows p (multiple f (inverse f (get_or (residue f n v rows) p 0)) (residue f n v rows))
new_row f n p v rows h hv l ne late =
    let u = residue f n v rows in
    let a = get_or u p 0 in
    let hu = IsVector-residue f n v rows h.each hv in
    let lu : length u ≡ n = hu.len in
    let da : a < order f = hu.digits p 0 (omega arith) in
    let zero_at = λ (j : ℕ) (lj : j < n) (e : get_or u j 0 ≡ 0).
    get_or-multiple f (inverse f a) u j (omega arith) ∙ ap (times f (inverse f a)) e ∙ times-zero f (inverse f a) in
    record {
      vector = IsVector-multiple f n (inverse f a) u hu.len;
      place = l;
      one = get_or-multiple f (inverse f a) u p (omega arith) ∙ times_comm f (inverse f a) a ∙ times-inverse f a da ne;
      late = λ j lj l'. zero_at j l' (late j lj l');
      clean = λ k lk one. zero_at k lk (residue_at_pivot f n v rows h hv k lk one);
    }

pub scaled_residue : (f : Field) (n p : ℕ) (v : List ℕ) (rows : List (List ℕ)) → IsEchelon f n rows → IsVector f n v → p < n →
    get_or (residue f n v rows) p 0 ≢ 0 →
    IsScaledResidue f n v rows (multiple f (inverse f (get_or (residue f n v rows) p 0)) (residue f n v rows))
scaled_residue f n p v rows h hv l ne =
    let u = residue f n v rows in
    let a = get_or u p 0 in
    let hu = IsVector-residue f n v rows h.each hv in
    let lu : length u ≡ n = hu.len in
    let da : a < order f = hu.digits p 0 (omega arith) in
    record {
      factor = inverse f a;
      back = a;
      down = refl;
      up =
          sym (one-multiple f u hu.digits)
          ∙ ap (λ b. multiple f b u) (sym (times-inverse f a da ne))
          ∙ multiple-times f a (inverse f a) u;
    }
