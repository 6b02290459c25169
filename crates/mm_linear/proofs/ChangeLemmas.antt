-- Columns in other coordinates: independence and spans stay.
use Rattle.std.proofs.Common.{ℕ, suc, ◌+◌, ◌-◌, ◌<◌, ◌≡◌, ◌↔◌, List, [], ◌∷◌, ◌++◌, length, map, get_or, take, drop, refl, sym, ap, ap₂, ◌∙◌, subst, arith, take-append-drop}
use Rattle.std.proofs.lemmas.List.{length-map, take_at, drop_at, take-replicate, drop-replicate}
use Rattle.mm_field.specs.declared.Field.{Field}
use Rattle.mm_field.specs.Vectors.{zeros, combination, IsVector, AreVectors, InSpan, AreIndependent}
use Rattle.mm_field.proofs.CombinationLemmas.{IsVector-combination, take-vector_sum, take-multiple, drop-vector_sum, drop-multiple, vector_sum-append, multiple-append}
use Rattle.mm_field.proofs.PartLemmas.{combination-map, AreVectors-map, IsVector-take, IsVector-drop, IsVector-append, zeros-append}
use Rattle.mm_linear.specs.Coordinates.{coordinates, in_coordinates, IsBasis}
use Rattle.mm_linear.proofs.CoordinateLemmas.{IsVector-coordinates, coordinates_unique, coordinates_of}
use Rattle.mm_linear.proofs.SubspaceTests.{IsLinear, IsLinear-times_matrix}

-- ---- under a linear map with a way back

-- back undoes h
pub record IsUndone (f : Field) (n : ℕ) (h back : List ℕ → List ℕ) : Type 0 where
  pub linear : IsLinear f n n h
  pub undone : (z : List ℕ) → IsVector f n z → back (h z) ≡ z

times_matrix_map : (f : Field) (n : ℕ) (h : List ℕ → List ℕ) → IsLinear f n n h → (cs : List ℕ) (rows : List (List ℕ)) → AreVectors f n rows →
    combination f n cs (map h rows) ≡ h (combination f n cs rows)
times_matrix_map f n h lin cs rows hr = combination-map f n n h lin.sums lin.multiples lin.zero_kept cs rows hr

same_before : (f : Field) (n : ℕ) (h back : List ℕ → List ℕ) → IsUndone f n h back → (u v : List ℕ) → IsVector f n u → IsVector f n v →
    h u ≡ h v → u ≡ v
same_before f n h back un u v hu hv e = sym (un.undone u hu) ∙ ap back e ∙ un.undone v hv

pub independent_changed : (f : Field) (n : ℕ) (h back : List ℕ → List ℕ) → IsUndone f n h back → (rows : List (List ℕ)) → AreVectors f n rows →
    AreIndependent f n (map h rows) ↔ AreIndependent f n rows
independent_changed f n h back un rows hr = (
  (λ ind cs each e.
      ind cs (subst (λ k. IsVector f k cs) (sym (length-map rows h)) each)
      (times_matrix_map f n h un.linear cs rows hr ∙ ap h e ∙ un.linear.zero_kept)
      ∙ ap zeros (length-map rows h)),
  (λ ind cs each e.
      ind cs (subst (λ k. IsVector f k cs) (length-map rows h) each)
      (same_before f n h back un (combination f n cs rows) (zeros n) (IsVector-combination f n cs rows hr) (IsVector-combination f n [] rows hr)
      (sym (times_matrix_map f n h un.linear cs rows hr) ∙ e ∙ sym un.linear.zero_kept))
      ∙ ap zeros (sym (length-map rows h))),
)

pub span_changed : (f : Field) (n : ℕ) (h back : List ℕ → List ℕ) → IsUndone f n h back → (rows : List (List ℕ)) → AreVectors f n rows →
    (z : List ℕ) → IsVector f n z → InSpan f n (map h rows) (h z) ↔ InSpan f n rows z
span_changed f n h back un rows hr z hz = (
  (λ p. record {
    coefficients = p.coefficients;
    each = subst (λ k. IsVector f k p.coefficients) (length-map rows h) p.each;
    sum = same_before f n h back un (combination f n p.coefficients rows) z (IsVector-combination f n p.coefficients rows hr) hz
        (sym (times_matrix_map f n h un.linear p.coefficients rows hr) ∙ p.sum);
  }),
  (λ p. record {
    coefficients = p.coefficients;
    each = subst (λ k. IsVector f k p.coefficients) (sym (length-map rows h)) p.each;
    sum = times_matrix_map f n h un.linear p.coefficients rows hr ∙ ap h p.sum;
  }),
)

-- ---- a linear map of the first digits

pub IsLinear-front : (f : Field) (r k m : ℕ) (h : List ℕ → List ℕ) → IsLinear f r k h →
    IsLinear f (r + m) (k + m) (λ z. h (take r z) ++ drop r z)
IsLinear-front f r k m h lin = record {
  vectors = λ u hu. IsVector-append f k m (h (take r u)) (drop r u) (lin.vectors (take r u) (IsVector-take f r m u hu)) (IsVector-drop f r m u hu);
  sums = λ u v hu hv.
      let tu = IsVector-take f r m u hu in
      let tv = IsVector-take f r m v hv in
      ap₂ (λ x y. x ++ y) (ap h (take-vector_sum f r u v) ∙ lin.sums (take r u) (take r v) tu tv) (drop-vector_sum f r u v (hu.len ∙ sym hv.len))
      ∙ sym (vector_sum-append f (h (take r u)) (drop r u) (h (take r v)) (drop r v) ((lin.vectors (take r u) tu).len ∙ sym (lin.vectors (take r v) tv).len));
  multiples = λ c u hu.
      ap₂ (λ x y. x ++ y) (ap h (take-multiple f c r u) ∙ lin.multiples c (take r u) (IsVector-take f r m u hu)) (drop-multiple f c r u)
      ∙ sym (multiple-append f c (h (take r u)) (drop r u));
  zero_kept =
      ap₂ (λ x y. x ++ y) (ap h (take-replicate r (r + m) 0 (omega arith)) ∙ lin.zero_kept)
      (drop-replicate r (r + m) 0 ∙ (let e : r + m - r ≡ m = omega arith in ap zeros e))
      ∙ zeros-append k m;
}

-- a column in coordinates, read back
abbrev pub out_of : Field → ℕ → List (List ℕ) → List ℕ → List ℕ
out_of f r rows z = combination f r (take r z) rows ++ drop r z

pub into_and_out : (f : Field) (r m : ℕ) (rows : List (List ℕ)) → IsBasis f r rows → (u : List ℕ) → IsVector f (r + m) u →
    out_of f r rows (in_coordinates f r rows u) ≡ u
into_and_out f r m rows b u hu =
    let cs = coordinates f r rows (take r u) in
    let lc : length cs ≡ r = (IsVector-coordinates f r rows (take r u)).len ∙ b.count in
    ap₂ (λ x y. x ++ y)
    (ap (λ x. combination f r x rows) (take_at cs (drop r u) r lc) ∙ coordinates_of f r rows b (take r u) (IsVector-take f r m u hu))
    (drop_at cs (drop r u) r lc)
    ∙ take-append-drop r u

pub out_and_into : (f : Field) (r m : ℕ) (rows : List (List ℕ)) → IsBasis f r rows → (z : List ℕ) → IsVector f (r + m) z →
    in_coordinates f r rows (out_of f r rows z) ≡ z
out_and_into f r m rows b z hz =
    let x = combination f r (take r z) rows in
    let lx : length x ≡ r = (IsVector-combination f r (take r z) rows b.each).len in
    ap₂ (λ x y. x ++ y)
    (ap (coordinates f r rows) (take_at x (drop r z) r lx) ∙ coordinates_unique f r rows b (take r z) (IsVector-take f r m z hz))
    (drop_at x (drop r z) r lx)
    ∙ take-append-drop r z

pub out_is_undone : (f : Field) (r m : ℕ) (rows : List (List ℕ)) → IsBasis f r rows →
    IsUndone f (r + m) (out_of f r rows) (in_coordinates f r rows)
out_is_undone f r m rows b = record {
  linear = IsLinear-front f r r m (λ z. combination f r z rows) (IsLinear-times_matrix f r r rows b.each);
  undone = λ z hz. out_and_into f r m rows b z hz;
}

pub IsVector-in_coordinates : (f : Field) (r m : ℕ) (rows : List (List ℕ)) → IsBasis f r rows → (u : List ℕ) → IsVector f (r + m) u →
    IsVector f (r + m) (in_coordinates f r rows u)
IsVector-in_coordinates f r m rows b u hu =
    IsVector-append f r m (coordinates f r rows (take r u)) (drop r u)
    (subst (λ k. IsVector f k (coordinates f r rows (take r u))) b.count (IsVector-coordinates f r rows (take r u)))
    (IsVector-drop f r m u hu)

map_back : (f : Field) (n : ℕ) (h g : List ℕ → List ℕ) → ((u : List ℕ) → IsVector f n u → h (g u) ≡ u) →
    (rows : List (List ℕ)) → ((k : ℕ) (d : List ℕ) → k < length rows → IsVector f n (get_or rows k d)) → map h (map g rows) ≡ rows
map_back f n h g e [] hr = refl
map_back f n h g e (v ∷ vs) hr =
    ap₂ (λ x y. x ∷ y) (e v (hr 0 [] (omega arith))) (map_back f n h g e vs (λ k d l. hr (suc k) d (omega arith)))

-- columns are independent in coordinates exactly where they are
pub independent_in_coordinates : (f : Field) (r m : ℕ) (rows columns : List (List ℕ)) → IsBasis f r rows → AreVectors f (r + m) columns →
    AreIndependent f (r + m) (map (in_coordinates f r rows) columns) ↔ AreIndependent f (r + m) columns
independent_in_coordinates f r m rows columns b h =
    let moved = map (in_coordinates f r rows) columns in
    let hm = AreVectors-map f (r + m) (r + m) (in_coordinates f r rows) (IsVector-in_coordinates f r m rows b) columns h in
    let both = independent_changed f (r + m) (out_of f r rows) (in_coordinates f r rows) (out_is_undone f r m rows b) moved hm in
    let same = map_back f (r + m) (out_of f r rows) (in_coordinates f r rows) (into_and_out f r m rows b) columns h in (
      (λ p. subst (λ cs. AreIndependent f (r + m) cs) same (both.1 p)),
      (λ p. both.0 (subst (λ cs. AreIndependent f (r + m) cs) (sym same) p)),
    )

-- z is in the span of the columns in coordinates exactly where what it stands for is in their span
pub span_in_coordinates : (f : Field) (r m : ℕ) (rows columns : List (List ℕ)) → IsBasis f r rows → AreVectors f (r + m) columns →
    (z : List ℕ) → IsVector f (r + m) z →
    InSpan f (r + m) (map (in_coordinates f r rows) columns) z ↔ InSpan f (r + m) columns (out_of f r rows z)
span_in_coordinates f r m rows columns b h z hz =
    let moved = map (in_coordinates f r rows) columns in
    let hm = AreVectors-map f (r + m) (r + m) (in_coordinates f r rows) (IsVector-in_coordinates f r m rows b) columns h in
    let both = span_changed f (r + m) (out_of f r rows) (in_coordinates f r rows) (out_is_undone f r m rows b) moved hm z hz in
    let same = map_back f (r + m) (out_of f r rows) (in_coordinates f r rows) (into_and_out f r m rows b) columns h in (
      (λ p. subst (λ cs. InSpan f (r + m) cs (out_of f r rows z)) same (both.1 p)),
      (λ p. both.0 (subst (λ cs. InSpan f (r + m) cs (out_of f r rows z)) (sym same) p)),
    )
