-- A vector is in the span of echelon rows where it is its own combination of them, and the form is unique.
use Rattle.std.proofs.Common.{ℕ, zero, suc, ◌<◌, ◌≡◌, ◌≢◌, inl, inr, List, [], ◌∷◌, length, map, get_or, refl, sym, ap, ap₂, ◌∙◌, arith}
use Rattle.std.proofs.lemmas.Bool.{cases_order}
use Rattle.std.proofs.lemmas.List.{get_or-replicate, ext_get_or}
use Rattle.mm_field.specs.declared.Field.{Field}
use Rattle.mm_field.specs.Digits.{order, plus, times, negative}
use Rattle.mm_field.specs.Vectors.{zeros, combination, IsVector, AreVectors, InSpan, IsWithin, SameRowSpace, times_matrix}
use Rattle.mm_field.proofs.Tables.{plus_comm, times_comm, times-zero, times_below, plus_zero_digit, times_one_digit, zero_digit, negative-times}
use Rattle.mm_field.proofs.VectorLemmas.{step_entry}
use Rattle.mm_field.proofs.CombinationLemmas.{first_row, other_rows, IsVector-combination, combination-zeros, combination-times_matrix}
use Rattle.mm_linear.specs.Echelons.{entry, IsEchelon}

pub zero-times : (f : Field) (a : ℕ) → times f 0 a ≡ 0
zero-times f a = times_comm f 0 a ∙ times-zero f a

pub negative-zero : (f : Field) → negative f 0 ≡ 0
negative-zero f = negative-times f 0 ∙ times-zero f (negative f 1)

pub zero_plus_digit : (f : Field) (a : ℕ) → a < order f → plus f 0 a ≡ a
zero_plus_digit f a l = plus_comm f 0 a ∙ plus_zero_digit f a l

-- an entry of a combination whose terms are all zero there
pub combination_entry_zero : (f : Field) (n : ℕ) (cs : List ℕ) (rows : List (List ℕ)) (j : ℕ) → AreVectors f n rows → j < n →
    ((i : ℕ) → i < length rows → times f (get_or cs i 0) (entry rows i j) ≡ 0) →
    get_or (combination f n cs rows) j 0 ≡ 0
combination_entry_zero f n [] rows j h l all = get_or-replicate n j 0 0 l
combination_entry_zero f n (c ∷ cs) [] j h l all = get_or-replicate n j 0 0 l
combination_entry_zero f n (c ∷ cs) (v ∷ vs) j h l all =
    step_entry f n c v (combination f n cs vs) j (first_row f n v vs h).len
    (IsVector-combination f n cs vs (other_rows f n v vs h)).len l
    ∙ ap₂ (λ x y. plus f x y) (all 0 (omega arith))
    (combination_entry_zero f n cs vs j (other_rows f n v vs h) l (λ i m. all (suc i) (omega arith)))
    ∙ plus_zero_digit f 0 (zero_digit f)

-- an entry of a combination of which one term alone is not zero there
pub combination_entry : (f : Field) (n : ℕ) (cs : List ℕ) (rows : List (List ℕ)) (j k : ℕ) → AreVectors f n rows → j < n →
    ((i : ℕ) → i < length rows → i ≢ k → times f (get_or cs i 0) (entry rows i j) ≡ 0) →
    get_or (combination f n cs rows) j 0 ≡ times f (get_or cs k 0) (entry rows k j)
combination_entry f n [] rows j k h l all = get_or-replicate n j 0 0 l ∙ sym (zero-times f (entry rows k j))
combination_entry f n (c ∷ cs) [] j k h l all = get_or-replicate n j 0 0 l ∙ sym (times-zero f (get_or (c ∷ cs) k 0))
combination_entry f n (c ∷ cs) (v ∷ vs) j zero h l all =
    step_entry f n c v (combination f n cs vs) j (first_row f n v vs h).len
    (IsVector-combination f n cs vs (other_rows f n v vs h)).len l
    ∙ ap (λ y. plus f (times f c (get_or v j 0)) y)
    (combination_entry_zero f n cs vs j (other_rows f n v vs h) l (λ i m. all (suc i) (omega arith) (λ e. absurd (omega arith))))
    ∙ plus_zero_digit f (times f c (get_or v j 0)) (times_below f c (get_or v j 0))
combination_entry f n (c ∷ cs) (v ∷ vs) j (suc k) h l all =
    step_entry f n c v (combination f n cs vs) j (first_row f n v vs h).len
    (IsVector-combination f n cs vs (other_rows f n v vs h)).len l
    ∙ ap₂ (λ x y. plus f x y)
    (all 0 (omega arith) (λ e. absurd (omega arith)))
    (combination_entry f n cs vs j k (other_rows f n v vs h) l
    (λ i m ne. all (suc i) (omega arith) (λ e. ne (omega arith))))
    ∙ zero_plus_digit f _ (times_below f (get_or cs k 0) (entry vs k j))

-- two vectors that agree in each entry
pub same_vector : (f : Field) (n : ℕ) (u v : List ℕ) → IsVector f n u → IsVector f n v →
    ((j : ℕ) → j < n → get_or u j 0 ≡ get_or v j 0) → u ≡ v
same_vector f n u v p q h =
    ext_get_or 0 u v (p.len ∙ sym q.len) (λ j l. h j (let e : length u ≡ n = p.len in omega arith))

pub row_at : (f : Field) (n : ℕ) (rows : List (List ℕ)) → IsEchelon f n rows → (i : ℕ) → i < n →
    IsVector f n (get_or rows i [])
row_at f n rows h i l = h.each i [] (let e : length rows ≡ n = h.count in omega arith)

pub entry_digit : (f : Field) (n : ℕ) (rows : List (List ℕ)) → IsEchelon f n rows → (i j : ℕ) → i < n → j < n →
    entry rows i j < order f
entry_digit f n rows h i j l m =
    let r = row_at f n rows h i l in
    r.digits j 0 (let e : length (get_or rows i []) ≡ n = r.len in omega arith)

pub entry_of_zero_row : (n : ℕ) (rows : List (List ℕ)) (i j : ℕ) → j < n → get_or rows i [] ≡ zeros n → entry rows i j ≡ 0
entry_of_zero_row n rows i j l e = ap (λ r. get_or r j 0) e ∙ get_or-replicate n j 0 0 l

-- a term of a row's combination of the rows, other than its own, is zero
other_term : (f : Field) (n : ℕ) (rows : List (List ℕ)) → IsEchelon f n rows → (i k j : ℕ) → i < n → k < n → j < n → k ≢ i →
    times f (entry rows i k) (entry rows k j) ≡ 0
other_term f n rows h i k j li lk lj ne =
    elim (h.pivot k lk) [
      | inl z ↦ ap (λ x. times f (entry rows i k) x) (entry_of_zero_row n rows k j lj z) ∙ times-zero f (entry rows i k)
      | inr one ↦ ap (λ x. times f x (entry rows k j)) (h.clear i k li lk (λ e. ne (sym e)) one) ∙ zero-times f (entry rows k j)
    ]

-- each row is its own combination of the rows
pub row_is_fixed : (f : Field) (n : ℕ) (rows : List (List ℕ)) → IsEchelon f n rows → (i : ℕ) → i < n →
    combination f n (get_or rows i []) rows ≡ get_or rows i []
row_is_fixed f n rows h i l =
    elim (h.pivot i l) [
      | inl z ↦ ap (λ r. combination f n r rows) z ∙ combination-zeros f n n rows h.each ∙ sym z
      | inr one ↦
          same_vector f n _ (get_or rows i []) (IsVector-combination f n (get_or rows i []) rows h.each) (row_at f n rows h i l)
          (λ j lj.
          combination_entry f n (get_or rows i []) rows j i h.each lj
          (λ k lk ne. other_term f n rows h i k j l (let e : length rows ≡ n = h.count in omega arith) lj ne)
          ∙ ap (λ x. times f x (entry rows i j)) one
          ∙ times_comm f 1 (entry rows i j)
          ∙ times_one_digit f (entry rows i j) (entry_digit f n rows h i j l lj))
    ]

map_fixed : (h : List ℕ → List ℕ) (rows : List (List ℕ)) →
    ((i : ℕ) → i < length rows → h (get_or rows i []) ≡ get_or rows i []) → map h rows ≡ rows
map_fixed h [] all = refl
map_fixed h (v ∷ vs) all =
    ap₂ (λ x y. x ∷ y) (all 0 (omega arith)) (map_fixed h vs (λ i l. all (suc i) (omega arith)))

-- What is in the span is its own combination of the rows.
pub span_is_fixed : (f : Field) (n : ℕ) (rows : List (List ℕ)) → IsEchelon f n rows → (v : List ℕ) →
    InSpan f n rows v → combination f n v rows ≡ v
span_is_fixed f n rows h v p =
    ap (λ x. combination f n x rows) (sym p.sum)
    ∙ sym (combination-times_matrix f n n p.coefficients rows rows h.each h.each)
    ∙ ap (combination f n p.coefficients)
    (map_fixed (times_matrix f n rows) rows
    (λ i l. row_is_fixed f n rows h i (let e : length rows ≡ n = h.count in omega arith)))
    ∙ p.sum

-- What is its own combination of the rows is in the span.
pub fixed_is_in_span : (f : Field) (n : ℕ) (rows : List (List ℕ)) → IsEchelon f n rows → (v : List ℕ) →
    IsVector f n v → combination f n v rows ≡ v → InSpan f n rows v
fixed_is_in_span f n rows h v hv e = record {
  coefficients = v;
  each = record { len = hv.len ∙ sym h.count; digits = hv.digits };
  sum = e;
}

pub row_in_span : (f : Field) (n : ℕ) (rows sows : List (List ℕ)) → IsEchelon f n rows → IsWithin f n rows sows → (i : ℕ) → i < n →
    InSpan f n sows (get_or rows i [])
row_in_span f n rows sows h w i l = w i [] (let e : length rows ≡ n = h.count in omega arith)

pub zero_not_one : (x : ℕ) → x ≡ 0 → x ≡ 1 → ⊥
zero_not_one x p q = omega arith

-- a place at which a row of the one ends is a place at which a row of the other ends
pub pivot_kept : (f : Field) (n : ℕ) (A B : List (List ℕ)) → IsEchelon f n A → IsEchelon f n B → IsWithin f n A B →
    (i : ℕ) → i < n → entry A i i ≡ 1 → entry B i i ≡ 1
pivot_kept f n A B a b w i l one =
    elim (b.pivot i l) [
      | inr q ↦ q
      | inl z ↦
          let fixed = span_is_fixed f n B b (get_or A i []) (row_in_span f n A B a w i l) in
          let none = combination_entry_zero f n (get_or A i []) B i b.each l
          (λ k lk.
          let lk' : k < n = (let e : length B ≡ n = b.count in omega arith) in
          elim (cases_order k i) [
            | inl e ↦ ap (λ x. times f (entry A i k) x) (ap (λ m. entry B m i) e ∙ entry_of_zero_row n B i i l z)
                ∙ times-zero f (entry A i k)
            | inr o ↦ elim o [
              | inl lt ↦ ap (λ x. times f (entry A i k) x) (b.after k i lt l) ∙ times-zero f (entry A i k)
              | inr gt ↦ ap (λ x. times f x (entry B k i)) (a.after i k gt lk') ∙ zero-times f (entry B k i)
            ]
          ]) in
          absurd (zero_not_one _ none (ap (λ r. get_or r i 0) fixed ∙ one))
    ]

same_row : (f : Field) (n : ℕ) (A B : List (List ℕ)) → IsEchelon f n A → IsEchelon f n B → IsWithin f n A B → IsWithin f n B A →
    (i : ℕ) → i < n → get_or A i [] ≡ get_or B i []
same_row f n A B a b ab ba i l =
    elim (a.pivot i l) [
      | inl z ↦ elim (b.pivot i l) [
        | inl y ↦ z ∙ sym y
        | inr one ↦
            absurd (zero_not_one _ (entry_of_zero_row n A i i l z) (pivot_kept f n B A b a ba i l one))
      ]
      | inr one ↦
          same_vector f n (get_or A i []) (get_or B i []) (row_at f n A a i l) (row_at f n B b i l)
          (λ j lj.
          ap (λ r. get_or r j 0) (sym (span_is_fixed f n B b (get_or A i []) (row_in_span f n A B a ab i l)))
          ∙ combination_entry f n (get_or A i []) B j i b.each lj
          (λ k lk ne.
          let lk' : k < n = (let e : length B ≡ n = b.count in omega arith) in
          elim (b.pivot k lk') [
            | inl z ↦ ap (λ x. times f (entry A i k) x) (entry_of_zero_row n B k j lj z) ∙ times-zero f (entry A i k)
            | inr q ↦
                ap (λ x. times f x (entry B k j))
                (a.clear i k l lk' (λ e. ne (sym e)) (pivot_kept f n B A b a ba k lk' q))
                ∙ zero-times f (entry B k j)
          ])
          ∙ ap (λ x. times f x (entry B i j)) one
          ∙ times_comm f 1 (entry B i j)
          ∙ times_one_digit f (entry B i j) (entry_digit f n B b i j l lj))
    ]

-- Echelon rows with one span are the same rows.
pub echelon_unique : (f : Field) (n : ℕ) (A B : List (List ℕ)) → IsEchelon f n A → IsEchelon f n B → SameRowSpace f n A B → A ≡ B
echelon_unique f n A B a b s =
    ext_get_or [] A B (a.count ∙ sym b.count)
    (λ i l. same_row f n A B a b s.0 s.1 i (let e : length A ≡ n = a.count in omega arith))
