-- A vector is in the span of rows exactly where it is orthogonal to all vectors that are orthogonal to the rows.
use Rattle.std.proofs.Common.{ℕ, suc, ◌<◌, ◌≡◌, ◌-◌, Bool, true, false, not, cond, List, [], ◌∷◌, length, map, filter, get_or, refl, sym, ap, ap₂, subst, ◌∙◌, arith, ext_get_or}
use Rattle.std.specs.List.{range_with_len, All}
use Rattle.std.proofs.lemmas.List.{length-replicate, get_or-replicate}
use Rattle.std.proofs.lemmas.List.Elements.{All-nil, All-cons, All-head, All-tail}
use Rattle.mm_field.specs.declared.Field.{Field}
use Rattle.mm_field.specs.Digits.{plus}
use Rattle.mm_field.specs.Vectors.{zeros, vector_sum, combination, IsVector, AreVectors, InSpan}
use Rattle.mm_field.proofs.Tables.{plus_comm, plus_zero_digit}
use Rattle.mm_field.proofs.VectorLemmas.{vector_sum-zeros}
use Rattle.mm_field.proofs.CombinationLemmas.{IsVector-combination, InSpan-within}
use Rattle.mm_linear.specs.Coordinates.{unit, is_pivot, free_columns}
use Rattle.mm_linear.specs.ReducedEchelon.{reduced_basis}
use Rattle.mm_linear.proofs.BasisLemmas.{completed_is_basis, IsVector-unit, get_or-unit_other}
use Rattle.mm_linear.proofs.ReducedEchelonLemmas.{reduced_basis_is}
use Rattle.mm_linear.proofs.SpanLemmas.{InSum-from_append}
use Rattle.mm_matrix.specs.Orthogonal.{dot, IsOrthogonal}
use Rattle.mm_matrix.specs.Projections.{units, kernel_vector}
use Rattle.mm_matrix.specs.Residues.{AreReduced}
use Rattle.mm_matrix.proofs.DotLemmas.{dot-comm, dot-unit, dot-vector_sum, dot-combination, dot_below, orthogonal_to_combination, orthogonal_within}
use Rattle.mm_matrix.proofs.FreeLemmas.{free_inside, reduced_independent, entry_off_leads, not_a_lead, zero_in_span}
use Rattle.mm_matrix.proofs.NullLemmas.{AreVectors-units, IsVector-projected, projected_orthogonal, leads_inside, map_twice}
use Rattle.mm_present.proofs.RankLemmas.{reduced_are}

free_are : (f : Field) (rows : List (List ℕ)) (xs : List ℕ) → All (λ k. is_pivot f rows k ≡ false) (filter (λ k. not (is_pivot f rows k)) xs)
free_are f rows [] = All-nil (λ k. is_pivot f rows k ≡ false)
free_are f rows (x ∷ xs) = go (is_pivot f rows x) refl (free_are f rows xs)
  where
    go : (b : Bool) → is_pivot f rows x ≡ b → All (λ k. is_pivot f rows k ≡ false) (filter (λ k. not (is_pivot f rows k)) xs) →
        All (λ k. is_pivot f rows k ≡ false) (cond (not b) (x ∷ filter (λ k. not (is_pivot f rows k)) xs) (filter (λ k. not (is_pivot f rows k)) xs))
    go true e h = h
    go false e h = All-cons (λ k. is_pivot f rows k ≡ false) x _ e h

-- a combination of unit vectors at free columns is zero where it is orthogonal to all kernel vectors
module _ (f : Field) (n : ℕ) (rows : List (List ℕ)) (ks : List ℕ) (h : AreReduced f n rows ks) where
  abbrev free : List ℕ
  free = free_columns f n rows

  hk : All (λ k. k < n) ks
  hk = leads_inside f n rows ks h

  hf : All (λ k. k < n) free
  hf = free_inside f n rows

  same_entries : (j : ℕ) → j < n → (js : List ℕ) → All (λ k. k < n) js → All (λ k. is_pivot f rows k ≡ false) js →
      map (λ k. get_or (kernel_vector f n rows ks j) k 0) js ≡ map (λ k. get_or (unit n j) k 0) js
  same_entries j lj [] hj hp = refl
  same_entries j lj (a ∷ js) hj hp =
      let la = All-head (λ k. k < n) a js hj in
      ap₂ (λ x xs. x ∷ xs)
      (entry_off_leads f n a j rows ks hk (not_a_lead f n a rows ks h la (All-head (λ k. is_pivot f rows k ≡ false) a js hp)) la lj)
      (same_entries j lj js (All-tail (λ k. k < n) a js hj) (All-tail (λ k. is_pivot f rows k ≡ false) a js hp))

  -- such a combination has at a free column its product with the kernel vector
  at_free : (cs : List ℕ) (j : ℕ) → j < n → dot f (kernel_vector f n rows ks j) (combination f n cs (units n free)) ≡ get_or (combination f n cs (units n free)) j 0
  at_free cs j lj =
      let hu = AreVectors-units f n free hf in
      let k = kernel_vector f n rows ks j in
      let hj = IsVector-unit f n j lj in
      let w = combination f n cs (units n free) in
      let hw = IsVector-combination f n cs (units n free) hu in
      dot-combination f n k cs (units n free) hu
      ∙ ap (dot f cs)
      (map_twice n k free f (IsVector-projected f n rows ks (unit n j) hk hj) hf
      ∙ same_entries j lj free hf (free_are f rows (range_with_len 0 n)) ∙ sym (map_twice n (unit n j) free f hj hf))
      ∙ sym (dot-combination f n (unit n j) cs (units n free) hu)
      ∙ dot-comm f (unit n j) w ∙ dot-unit f n j w hw lj

  zero_at_pivot : (k : ℕ) → k < n → is_pivot f rows k ≡ true → (js : List ℕ) → All (λ k. k < n) js → All (λ k. is_pivot f rows k ≡ false) js →
      All (λ (u : List ℕ). get_or u k 0 ≡ 0) (units n js)
  zero_at_pivot k lk e [] hj hp = All-nil (λ (u : List ℕ). get_or u k 0 ≡ 0)
  zero_at_pivot k lk e (j ∷ js) hj hp =
      let free_j = All-head (λ k. is_pivot f rows k ≡ false) j js hp in
      let lj = All-head (λ k. k < n) j js hj in
      All-cons (λ (u : List ℕ). get_or u k 0 ≡ 0) _ _
      (get_or-unit_other j (n - suc j) k (λ q. let bad : true ≡ false = sym e ∙ ap (is_pivot f rows) q ∙ free_j in cc) (omega arith))
      (zero_at_pivot k lk e js (All-tail (λ k. k < n) j js hj) (All-tail (λ k. is_pivot f rows k ≡ false) j js hp))

  pub inside_reduced : (w : List ℕ) → IsVector f n w → ((x : List ℕ) → IsVector f n x → IsOrthogonal f rows x → dot f w x ≡ 0) → InSpan f n rows w
  inside_reduced w hw orth =
      let hu = AreVectors-units f n free hf in
      let p = (completed_is_basis f n rows h.each (reduced_independent f n rows ks h)).all w hw in
      let s = InSum-from_append f n rows (units n free) w hu p in
      let cs = s.in_second.coefficients in
      let one = s.one in
      let other = combination f n cs (units n free) in
      let ho = IsVector-combination f n cs (units n free) hu in
      let sum : vector_sum f one other ≡ w = ap (vector_sum f one) s.in_second.sum ∙ s.sum in
      let h1 : IsVector f n one = subst (λ v. IsVector f n v) s.in_first.sum (IsVector-combination f n s.in_first.coefficients rows h.each) in
      let zero_other : other ≡ zeros n =
      ext_get_or 0 other (zeros n) (ho.len ∙ sym (length-replicate n 0)) (λ j l.
      let lj : j < n = (let e = ho.len in omega arith) in
      at cs one s.in_second.each h1 s.in_first sum j lj (is_pivot f rows j) refl ∙ sym (get_or-replicate n j 0 0 lj)) in
      subst (λ v. InSpan f n rows v) (sym (vector_sum-zeros f n one h1) ∙ ap (vector_sum f one) (sym zero_other) ∙ sum) s.in_first
    where
      at : (cs one : List ℕ) → IsVector f (length (units n free)) cs → IsVector f n one → InSpan f n rows one → vector_sum f one (combination f n cs (units n free)) ≡ w →
          (j : ℕ) → j < n → (b : Bool) → is_pivot f rows j ≡ b → get_or (combination f n cs (units n free)) j 0 ≡ 0
      at cs one hcs h1 p sum j lj true e =
          let hu = AreVectors-units f n free hf in
          let u = combination f n cs (units n free) in
          zero_in_span f n j (units n free) u hu lj (zero_at_pivot j lj e free hf (free_are f rows (range_with_len 0 n)))
          (record { coefficients = cs; each = hcs; sum = refl })
      at cs one hcs h1 p sum j lj false e =
          let hu = AreVectors-units f n free hf in
          let u = combination f n cs (units n free) in
          let hw2 = IsVector-combination f n cs (units n free) hu in
          let k = kernel_vector f n rows ks j in
          let hkv = IsVector-projected f n rows ks (unit n j) hk (IsVector-unit f n j lj) in
          let orth_k = projected_orthogonal f n rows ks (unit n j) h (IsVector-unit f n j lj) in
          let zero_one : dot f k one ≡ 0 =
          dot-comm f k one ∙ ap (λ (v : List ℕ). dot f v k) (sym p.sum) ∙ orthogonal_to_combination f n p.coefficients rows k h.each orth_k in
          let zero_w : dot f k w ≡ 0 = dot-comm f k w ∙ orth k hkv orth_k in
          sym (at_free cs j lj)
          ∙ sym (plus_zero_digit f (dot f k u) (dot_below f k u)) ∙ plus_comm f (dot f k u) 0
          ∙ ap (λ (a : ℕ). plus f a (dot f k u)) (sym zero_one) ∙ sym (dot-vector_sum f k one u (h1.len ∙ sym hw2.len))
          ∙ ap (dot f k) sum ∙ zero_w

pub inside_by_kernel : (f : Field) (n : ℕ) (rows : List (List ℕ)) (w : List ℕ) → AreVectors f n rows → IsVector f n w →
    ((x : List ℕ) → IsVector f n x → IsOrthogonal f rows x → dot f w x ≡ 0) → InSpan f n rows w
inside_by_kernel f n rows w h hw orth =
    let b = reduced_basis_is f n rows h in
    let basis = reduced_basis f n rows in
    InSpan-within f n basis rows w h b.span.1
    (inside_reduced f n basis b.leads (reduced_are f n rows h) w hw
    (λ x hx o. orth x hx (orthogonal_within f n rows basis x b.each b.span.0 o)))
