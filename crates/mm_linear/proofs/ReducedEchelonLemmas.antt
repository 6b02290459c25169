-- The reduced echelon basis from the left: its span, its leads, and that a space has one.
use Rattle.std.proofs.Common.{ℕ, zero, suc, ◌+◌, ◌-◌, ◌<◌, ◌≤◌, ◌≡◌, ◌≢◌, ◌↔◌, inl, inr, Bool, true, false, cond, ◌==◌, List, [], ◌∷◌, ◌++◌, length, map, reverse, get_or, take, drop, refl, sym, ap, ap₂, ◌∙◌, subst, arith, take-append-drop, eqb-true, Contains}
use Rattle.std.proofs.lemmas.Bool.{cases_eq, eqb-false}
use Rattle.std.proofs.lemmas.List.{length-map, length-reverse, reverse-append, reverse-reverse, take_at, get_or-reverse, get_or_default}
use Rattle.std.proofs.lemmas.List.Elements.{All-nil, All-cons, All-append, All-map}
use Rattle.mm_field.specs.declared.Field.{Field}
use Rattle.mm_field.specs.Digits.{order, plus, times}
use Rattle.mm_field.specs.Vectors.{zeros, vector_sum, multiple, combination, AreDigits, IsVector, AreVectors, InSpan, IsWithin, SameRowSpace}
use Rattle.mm_field.proofs.CombinationLemmas.{vector_sum-append, multiple-append, IsVector-combination, InSpan-zeros, InSpan-first, InSpan-one_more, IsWithin-itself, IsWithin-within}
use Rattle.mm_field.proofs.PartLemmas.{AreVectors-map, zeros-append}
use Rattle.mm_field.proofs.VectorLemmas.{length-multiple}
use Rattle.mm_linear.specs.Echelons.{entry, IsEchelon}
use Rattle.mm_linear.specs.Decide.{echelon_of}
use Rattle.mm_linear.specs.ReducedEchelon.{Leads, Clear, reversed_rows, reduced_basis, IsLeftBasis, IsReducedBasis}
use Rattle.mm_linear.specs.Coordinates.{is_pivot}
use Rattle.mm_linear.proofs.EchelonLemmas.{echelon_unique, row_at}
use Rattle.mm_linear.proofs.SubspaceLemmas.{drop_of_end}
use Rattle.mm_linear.proofs.SumLemmas.{zero_row, one_row}
use Rattle.mm_linear.proofs.DecideLemmas.{echelon_of_is}
use Rattle.mm_linear.proofs.BasisLemmas.{ended, length-ended}
use Rattle.mm_linear.proofs.PivotLemmas.{pivots_are_leads}

-- ---- turning vectors round

pub reverse-cons : {X : Type 0} (x : X) (xs : List X) → reverse (x ∷ xs) ≡ reverse xs ++ (x ∷ [])
reverse-cons x xs = reverse-append (x ∷ []) xs

pub reverse-zeros : (n : ℕ) → reverse (zeros n) ≡ zeros n
reverse-zeros zero = refl
reverse-zeros (suc n) =
    reverse-cons 0 (zeros n) ∙ ap (λ x. x ++ (0 ∷ [])) (reverse-zeros n) ∙ zeros-append n 1
    ∙ ap zeros (let s : n + 1 ≡ suc n = omega arith in s)

reverse-vector_sum : (f : Field) (u v : List ℕ) → length u ≡ length v → reverse (vector_sum f u v) ≡ vector_sum f (reverse u) (reverse v)
reverse-vector_sum f [] [] e = refl
reverse-vector_sum f [] (y ∷ v) e = absurd (omega arith)
reverse-vector_sum f (x ∷ u) [] e = absurd (omega arith)
reverse-vector_sum f (x ∷ u) (y ∷ v) e =
    let l : length u ≡ length v = omega arith in
    reverse-cons (plus f x y) (vector_sum f u v)
    ∙ ap (λ z. z ++ (plus f x y ∷ [])) (reverse-vector_sum f u v l)
    ∙ sym (vector_sum-append f (reverse u) (x ∷ []) (reverse v) (y ∷ []) (length-reverse u ∙ l ∙ sym (length-reverse v)))
    ∙ ap₂ (λ a b. vector_sum f a b) (sym (reverse-cons x u)) (sym (reverse-cons y v))

reverse-multiple : (f : Field) (c : ℕ) (u : List ℕ) → reverse (multiple f c u) ≡ multiple f c (reverse u)
reverse-multiple f c [] = refl
reverse-multiple f c (x ∷ u) =
    reverse-cons (times f c x) (multiple f c u)
    ∙ ap (λ z. z ++ (times f c x ∷ [])) (reverse-multiple f c u)
    ∙ sym (multiple-append f c (reverse u) (x ∷ []))
    ∙ ap (multiple f c) (sym (reverse-cons x u))

digits-reverse : (f : Field) (u : List ℕ) → AreDigits f u → AreDigits f (reverse u)
digits-reverse f [] h = All-nil (λ d. d < order f)
digits-reverse f (x ∷ u) h =
    subst (λ z. AreDigits f z) (sym (reverse-cons x u))
    (All-append (λ d. d < order f) (reverse u) (x ∷ []) (digits-reverse f u (λ k d l. h (suc k) d (omega arith)))
    (All-cons (λ d. d < order f) x [] (h 0 0 (omega arith)) (All-nil (λ d. d < order f))))

pub IsVector-reverse : (f : Field) (n : ℕ) (u : List ℕ) → IsVector f n u → IsVector f n (reverse u)
IsVector-reverse f n u h = record { len = length-reverse u ∙ h.len; digits = digits-reverse f u h.digits }

pub AreVectors-reversed : (f : Field) (n : ℕ) (rows : List (List ℕ)) → AreVectors f n rows → AreVectors f n (map reverse rows)
AreVectors-reversed f n rows h = AreVectors-map f n n reverse (IsVector-reverse f n) rows h

pub reversed_twice : (rows : List (List ℕ)) → map reverse (map reverse rows) ≡ rows
reversed_twice [] = refl
reversed_twice (v ∷ vs) = ap₂ (λ x y. x ∷ y) (reverse-reverse v) (reversed_twice vs)

pub combination-reversed : (f : Field) (n : ℕ) (cs : List ℕ) (rows : List (List ℕ)) → AreVectors f n rows →
    combination f n cs (map reverse rows) ≡ reverse (combination f n cs rows)
combination-reversed f n [] rows h = sym (reverse-zeros n)
combination-reversed f n (c ∷ cs) [] h = sym (reverse-zeros n)
combination-reversed f n (c ∷ cs) (v ∷ vs) h =
    let hs : AreVectors f n vs = λ k d l. h (suc k) d (omega arith) in
    let hv : IsVector f n v = h 0 [] (omega arith) in
    ap₂ (λ x y. vector_sum f x y) (sym (reverse-multiple f c v)) (combination-reversed f n cs vs hs)
    ∙ sym (reverse-vector_sum f (multiple f c v) (combination f n cs vs) (length-multiple f c v ∙ hv.len ∙ sym (IsVector-combination f n cs vs hs).len))

pub InSpan-reversed : (f : Field) (n : ℕ) (rows : List (List ℕ)) (v : List ℕ) → AreVectors f n rows → InSpan f n rows v →
    InSpan f n (map reverse rows) (reverse v)
InSpan-reversed f n rows v h p = record {
  coefficients = p.coefficients;
  each = record { len = p.each.len ∙ sym (length-map rows reverse); digits = p.each.digits };
  sum = combination-reversed f n p.coefficients rows h ∙ ap reverse p.sum;
}

IsWithin-reversed : (f : Field) (n : ℕ) (rows sows : List (List ℕ)) → AreVectors f n sows → IsWithin f n rows sows →
    IsWithin f n (map reverse rows) (map reverse sows)
IsWithin-reversed f n rows sows h w =
    All-map (λ v. InSpan f n (map reverse sows) v) reverse rows
    (λ k d l. InSpan-reversed f n sows (get_or rows k d) h (w k d l))

-- ---- the rows that are not zero

reversed_within : (f : Field) (n : ℕ) (E : List (List ℕ)) → IsEchelon f n E → (j : ℕ) → j ≤ n → IsWithin f n (reversed_rows E j) (map reverse E)
reversed_within f n E h zero l = All-nil (λ v. InSpan f n (map reverse E) v)
reversed_within f n E h (suc j) l = go (entry E j j == 0) (reversed_within f n E h j (omega arith))
  where
    go : (b : Bool) → IsWithin f n (reversed_rows E j) (map reverse E) →
        IsWithin f n (cond b (reversed_rows E j) (reverse (get_or E j []) ∷ reversed_rows E j)) (map reverse E)
    go true ih = ih
    go false ih =
        All-cons (λ v. InSpan f n (map reverse E) v) (reverse (get_or E j [])) (reversed_rows E j)
        (InSpan-reversed f n E (get_or E j []) h.each (IsWithin-itself f n E h.each j [] (let c : length E ≡ n = h.count in omega arith))) ih

reversed_vectors : (f : Field) (n : ℕ) (E : List (List ℕ)) → IsEchelon f n E → (j : ℕ) → j ≤ n → AreVectors f n (reversed_rows E j)
reversed_vectors f n E h zero l = All-nil (λ v. IsVector f n v)
reversed_vectors f n E h (suc j) l = go (entry E j j == 0) (reversed_vectors f n E h j (omega arith))
  where
    go : (b : Bool) → AreVectors f n (reversed_rows E j) → AreVectors f n (cond b (reversed_rows E j) (reverse (get_or E j []) ∷ reversed_rows E j))
    go true ih = ih
    go false ih =
        All-cons (λ v. IsVector f n v) (reverse (get_or E j [])) (reversed_rows E j)
        (IsVector-reverse f n (get_or E j []) (row_at f n E h j (omega arith))) ih

row_in_reversed : (f : Field) (n : ℕ) (E : List (List ℕ)) → IsEchelon f n E → (j : ℕ) → j ≤ n → (i : ℕ) → i < j →
    InSpan f n (reversed_rows E j) (reverse (get_or E i []))
row_in_reversed f n E h zero l i m = absurd (omega arith)
row_in_reversed f n E h (suc j) l i m =
    go (entry E j j == 0) refl (λ lt. row_in_reversed f n E h j (omega arith) i lt)
  where
    hv : IsVector f n (reverse (get_or E j []))
    hv = IsVector-reverse f n (get_or E j []) (row_at f n E h j (omega arith))

    hs : AreVectors f n (reversed_rows E j)
    hs = reversed_vectors f n E h j (omega arith)

    go : (b : Bool) → (entry E j j == 0) ≡ b → (i < j → InSpan f n (reversed_rows E j) (reverse (get_or E i []))) →
        InSpan f n (cond b (reversed_rows E j) (reverse (get_or E j []) ∷ reversed_rows E j)) (reverse (get_or E i []))
    go true e ih = elim (cases_eq i j) [
      | inl q ↦
          let z = zero_row f n E h j (omega arith) (eqb-true _ _ e) in
          subst (λ v. InSpan f n (reversed_rows E j) v) (sym (ap (λ k. reverse (get_or E k [])) q ∙ ap reverse z ∙ reverse-zeros n))
          (InSpan-zeros f n (reversed_rows E j) hs)
      | inr ne ↦ ih (omega arith)
    ]
    go false e ih = elim (cases_eq i j) [
      | inl q ↦ subst (λ k. InSpan f n (reverse (get_or E j []) ∷ reversed_rows E j) (reverse (get_or E k []))) (sym q)
          (InSpan-first f n (reverse (get_or E j [])) (reversed_rows E j) hv hs)
      | inr ne ↦ InSpan-one_more f n (reverse (get_or E j [])) (reversed_rows E j) (reverse (get_or E i [])) hv hs (ih (omega arith))
    ]

-- ---- the leads

abbrev pub reversed_leads : ℕ → List (List ℕ) → ℕ → List ℕ
reversed_leads n rows zero = []
reversed_leads n rows (suc j) = cond (entry rows j j == 0) (reversed_leads n rows j) ((n - suc j) ∷ reversed_leads n rows j)

pub Leads-from : (n a b : ℕ) (rows : List (List ℕ)) (ks : List ℕ) → a ≤ b → Leads n b rows ks → Leads n a rows ks
Leads-from n a b [] [] l h = tt
Leads-from n a b [] (x ∷ ks) l h = absurd h
Leads-from n a b (v ∷ vs) [] l h = absurd h
Leads-from n a b (v ∷ vs) (x ∷ ks) l h = ((let m : b ≤ x = h.0 in omega arith), h.1, h.2, h.3)

drop-next : (v : List ℕ) (j : ℕ) → j < length v → drop j v ≡ get_or v j 0 ∷ drop (suc j) v
drop-next [] j l = absurd (omega arith)
drop-next (x ∷ v) zero l = refl
drop-next (x ∷ v) (suc j) l = drop-next v j (omega arith)

reversed_row_leads : (f : Field) (n : ℕ) (E : List (List ℕ)) → IsEchelon f n E → (j : ℕ) → j < n → entry E j j ≡ 1 →
    take (suc (n - suc j)) (reverse (get_or E j [])) ≡ ended (n - suc j) 1
reversed_row_leads f n E h j l one =
    let v = get_or E j [] in
    let hv = row_at f n E h j l in
    let lv : length v ≡ n = hv.len in
    let m = n - suc j in
    let tail : drop (suc j) v ≡ zeros m = drop_of_end n (suc j) v lv (λ i li mi. h.after j i (omega arith) mi) in
    let parts : v ≡ take j v ++ (1 ∷ zeros m) =
    sym (take-append-drop j v)
    ∙ ap (λ x. take j v ++ x) (drop-next v j (omega arith) ∙ ap₂ (λ x y. x ∷ y) one tail) in
    ap (take (suc m)) (ap reverse parts ∙ reverse-append (take j v) (1 ∷ zeros m)
    ∙ ap (λ x. x ++ reverse (take j v)) (reverse-cons 1 (zeros m) ∙ ap (λ x. x ++ (1 ∷ [])) (reverse-zeros m)))
    ∙ take_at (ended m 1) (reverse (take j v)) (suc m) (length-ended m 1)

reversed_have_leads : (f : Field) (n : ℕ) (E : List (List ℕ)) → IsEchelon f n E → (j : ℕ) → j ≤ n →
    Leads n (n - j) (reversed_rows E j) (reversed_leads n E j)
reversed_have_leads f n E h zero l = tt
reversed_have_leads f n E h (suc j) l = go (entry E j j == 0) refl (reversed_have_leads f n E h j (omega arith))
  where
    go : (b : Bool) → (entry E j j == 0) ≡ b → Leads n (n - j) (reversed_rows E j) (reversed_leads n E j) →
        Leads n (n - suc j) (cond b (reversed_rows E j) (reverse (get_or E j []) ∷ reversed_rows E j))
        (cond b (reversed_leads n E j) ((n - suc j) ∷ reversed_leads n E j))
    go true e ih = Leads-from n (n - suc j) (n - j) (reversed_rows E j) (reversed_leads n E j) (omega arith) ih
    go false e ih =
        let ne : entry E j j ≢ 0 = eqb-false _ _ e in (
          omega arith,
          omega arith,
          reversed_row_leads f n E h j (omega arith) (one_row f n E h j (omega arith) ne),
          Leads-from n (suc (n - suc j)) (n - j) (reversed_rows E j) (reversed_leads n E j) (omega arith) ih,
        )

reversed_row_clear : (f : Field) (n : ℕ) (E : List (List ℕ)) → IsEchelon f n E → (j : ℕ) → j < n → (i : ℕ) → i ≤ j →
    (k d : ℕ) → k < length (reversed_leads n E i) → get_or (reverse (get_or E j [])) (get_or (reversed_leads n E i) k d) 0 ≡ 0
reversed_row_clear f n E h j l zero m = All-nil (λ x. get_or (reverse (get_or E j [])) x 0 ≡ 0)
reversed_row_clear f n E h j l (suc i) m = go (entry E i i == 0) refl (reversed_row_clear f n E h j l i (omega arith))
  where
    v : List ℕ
    v = get_or E j []

    go : (b : Bool) → (entry E i i == 0) ≡ b →
        ((k d : ℕ) → k < length (reversed_leads n E i) → get_or (reverse (get_or E j [])) (get_or (reversed_leads n E i) k d) 0 ≡ 0) →
        (k d : ℕ) → k < length (cond b (reversed_leads n E i) ((n - suc i) ∷ reversed_leads n E i)) →
        get_or (reverse (get_or E j [])) (get_or (cond b (reversed_leads n E i) ((n - suc i) ∷ reversed_leads n E i)) k d) 0 ≡ 0
    go true e ih = ih
    go false e ih =
        let ne : entry E i i ≢ 0 = eqb-false _ _ e in
        let lv : length (get_or E j []) ≡ n = (row_at f n E h j l).len in
        let place : length (get_or E j []) - 1 - (n - suc i) ≡ i = omega arith in
        All-cons (λ x. get_or (reverse (get_or E j [])) x 0 ≡ 0) (n - suc i) (reversed_leads n E i)
        (get_or-reverse (get_or E j []) (n - suc i) 0 (omega arith)
        ∙ ap (λ k. get_or (get_or E j []) k 0) place
        ∙ h.clear j i l (omega arith) (λ q. absurd (omega arith)) (one_row f n E h i (omega arith) ne))
        ih

reversed_clear : (f : Field) (n : ℕ) (E : List (List ℕ)) → IsEchelon f n E → (j : ℕ) → j ≤ n → Clear (reversed_rows E j) (reversed_leads n E j)
reversed_clear f n E h zero l = tt
reversed_clear f n E h (suc j) l = go (entry E j j == 0) (reversed_clear f n E h j (omega arith))
  where
    go : (b : Bool) → Clear (reversed_rows E j) (reversed_leads n E j) →
        Clear (cond b (reversed_rows E j) (reverse (get_or E j []) ∷ reversed_rows E j)) (cond b (reversed_leads n E j) ((n - suc j) ∷ reversed_leads n E j))
    go true ih = ih
    go false ih = (reversed_row_clear f n E h j (omega arith) j (omega arith), ih)

-- ---- the basis

pub reduced_basis_is : (f : Field) (n : ℕ) (rows : List (List ℕ)) → AreVectors f n rows → IsLeftBasis f n rows (reduced_basis f n rows)
unfolding reduced_basis
reduced_basis_is f n rows h =
    let ht = AreVectors-reversed f n rows h in
    let E = echelon_of f n (map reverse rows) in
    let r = echelon_of_is f n (map reverse rows) ht in
    let c : length E ≡ n = r.echelon.count in
    let B = reversed_rows E n in
    let hB = reversed_vectors f n E r.echelon n (omega arith) in
    let hE = AreVectors-reversed f n E r.echelon.each in
    let back : IsWithin f n rows (map reverse E) =
    subst (λ rs. IsWithin f n rs (map reverse E)) (reversed_twice rows) (IsWithin-reversed f n (map reverse rows) E r.echelon.each r.span.0) in
    let forth : IsWithin f n (map reverse E) rows =
    subst (λ rs. IsWithin f n (map reverse E) rs) (reversed_twice rows) (IsWithin-reversed f n E (map reverse rows) ht r.span.1) in
    let all : IsWithin f n (map reverse E) B =
    All-map (λ v. InSpan f n B v) reverse E
    (λ k d l. subst (λ v. InSpan f n B (reverse v)) (get_or_default E k [] d l) (row_in_reversed f n E r.echelon n (omega arith) k (omega arith))) in
    let none : n - n ≡ 0 = omega arith in
    record {
      each = hB;
      span = (
        IsWithin-within f n rows (map reverse E) B hB back all,
        IsWithin-within f n B (map reverse E) rows h (reversed_within f n E r.echelon n (omega arith)) forth,
      );
      leads = reversed_leads n E n;
      echelon = subst (λ a. Leads n a B (reversed_leads n E n)) none (reversed_have_leads f n E r.echelon n (omega arith));
      reduced = reversed_clear f n E r.echelon n (omega arith);
    }

-- spaces with the same vectors have the same basis
pub reduced_basis-same : (f : Field) (n : ℕ) (rows sows : List (List ℕ)) → AreVectors f n rows → AreVectors f n sows →
    SameRowSpace f n rows sows → reduced_basis f n rows ≡ reduced_basis f n sows
unfolding reduced_basis
reduced_basis-same f n rows sows hr hs same =
    let a = echelon_of_is f n (map reverse rows) (AreVectors-reversed f n rows hr) in
    let b = echelon_of_is f n (map reverse sows) (AreVectors-reversed f n sows hs) in
    ap (λ E. reversed_rows E n)
    (echelon_unique f n (echelon_of f n (map reverse rows)) (echelon_of f n (map reverse sows)) a.echelon b.echelon (
      IsWithin-within f n (echelon_of f n (map reverse rows)) (map reverse rows) (echelon_of f n (map reverse sows)) b.echelon.each a.span.1
          (IsWithin-within f n (map reverse rows) (map reverse sows) (echelon_of f n (map reverse sows)) b.echelon.each
          (IsWithin-reversed f n rows sows hs same.0) b.span.0),
      IsWithin-within f n (echelon_of f n (map reverse sows)) (map reverse sows) (echelon_of f n (map reverse rows)) a.echelon.each b.span.1
          (IsWithin-within f n (map reverse sows) (map reverse rows) (echelon_of f n (map reverse rows)) a.echelon.each
          (IsWithin-reversed f n sows rows hr same.1) a.span.0),
    ))

-- the pivot columns are those at which a row of the reduced basis has its first digit other than 0
pub pivots_of_basis : (f : Field) (n : ℕ) (g : List (List ℕ)) (h : AreVectors f n g) → (k : ℕ) → k < n →
    (is_pivot f g k ≡ true) ↔ Contains (reduced_basis_is f n g h).leads k
pivots_of_basis f n g h k l =
    let b = reduced_basis_is f n g h in
    pivots_are_leads f n 0 g (reduced_basis f n g) b.leads h b.each b.span b.echelon k l

-- a reduced echelon basis is its own
pub reduced_basis-twice : (f : Field) (n : ℕ) (rows : List (List ℕ)) → AreVectors f n rows → IsReducedBasis f n (reduced_basis f n rows)
reduced_basis-twice f n rows h =
    let b = reduced_basis_is f n rows h in
    record { each = b.each; own = sym (reduced_basis-same f n rows (reduced_basis f n rows) h b.each b.span) }
