-- The rows of the reduced echelon basis of a listed space, one after the other.
use Rattle.std.proofs.Common.{◌≡◌, ◌<◌, ◌≤◌, ◌+◌, ◌==◌, true, ℕ, zero, suc, inl, inr, List, [], ◌∷◌, ◌++◌, length, filter, get_or, take, refl, sym, ap, ap₂, ◌∙◌, subst, arith, Contains}
use Rattle.std.proofs.lemmas.Bool.{cases_eq, cases_lt}
use Rattle.std.proofs.lemmas.List.{get_or-replicate, get_or_default, length-take-le, take_all}
use Rattle.std.specs.List.{list_all}
use Rattle.mm_logic_laws.proofs.MatrixLemmas.{all_zero, zeros_all}
use Rattle.std.proofs.Math.Seq.{take-suc}
use Rattle.mm_field.specs.declared.Field.{Field}
use Rattle.mm_field.specs.Digits.{plus, times, negative}
use Rattle.mm_field.specs.Vectors.{zeros, vector_sum, multiple, IsVector, AreVectors, InSpan}
use Rattle.mm_field.proofs.Tables.{times-zero}
use Rattle.mm_field.proofs.VectorLemmas.{zeros-vector_sum, one-multiple, sum_entry}
use Rattle.mm_field.proofs.CombinationLemmas.{InSpan-vector_sum, InSpan-multiple, IsWithin-itself}
use Rattle.mm_linear.specs.ReducedEchelon.{Leads, Clear, IsLeftBasis}
use Rattle.mm_linear.proofs.BasisLemmas.{ended, minus_and_plus}
use Rattle.mm_linear.proofs.PivotLemmas.{cut-ended, last-ended, take-shorter, lead_of_combination, entry_of_cut, count_leads}
use Rattle.mm_linear.proofs.LeftUnique.{zero_at_leads, leads_above}
use Rattle.std.specs.declared.vec.Vec.{Vec}
use Rattle.std.proofs.lemmas.List.{length-map, length-append, length-replicate}
use Rattle.std.proofs.lemmas.List.Elements.{All-filter, All-append}
use Rattle.mm_field.specs.Digits.{order}
use Rattle.mm_field.proofs.VectorLemmas.{IsVector-zeros}
use Rattle.mm_field.proofs.CombinationLemmas.{InSpan-within}
use Rattle.mm_linear.specs.Decide.{is_in_span}
use Rattle.mm_linear.specs.Subspaces.{all_vectors, subspace, head_of_span}
use Rattle.mm_logic.specs.BoundarySpaces.{boundary_space}
use Rattle.mm_linear.proofs.ReducedEchelonLemmas.{reduced_basis_is}
use Rattle.mm_linear.proofs.MeetTest.{is_in_span_decides}
use Rattle.mm_linear.proofs.SubspaceLemmas.{IsVector-in_span}
use Rattle.mm_linear.proofs.SubspaceTests.{Contains-filter, all_vectors_contain, all_vectors_are, head_of_span_is}
use Rattle.mm_linear.proofs.InsertLemmas.{sum_of_zeros, cleared_at}
use Rattle.mm_reference_meaning.specs.Rows.{rows_of}
use Rattle.mm_reference.specs.Spaces.{IsSpace, HasLead, IsReducedRow}

-- ---- leads

-- a vector with its lead at k has 1 there, and 0 before
pub at_lead : (k : ℕ) (v : List ℕ) → HasLead k v → get_or v k 0 ≡ 1
at_lead k v h = entry_of_cut k v (ended k 1) h ∙ last-ended k 1

before_lead : (k x : ℕ) (v : List ℕ) → x < k → HasLead k v → get_or v x 0 ≡ 0
before_lead k x v l h =
    entry_of_cut x v (zeros (suc x))
    (sym (take-shorter (suc x) (suc k) v (omega arith)) ∙ ap (take (suc x)) h ∙ cut-ended k (suc x) (omega arith))
    ∙ get_or-replicate (suc x) x 0 0 (omega arith)

-- zeros up to place k and a 1 there are a lead
pub lead_from : (k : ℕ) (v : List ℕ) → k < length v → list_all (λ d. d == 0) (take k v) ≡ true → get_or v k 0 ≡ 1 → HasLead k v
lead_from k v l z one =
    take-suc v k 0 l
    ∙ ap₂ (λ xs d. xs ++ (d ∷ [])) (all_zero (take k v) z ∙ ap zeros (length-take-le k v (omega arith))) one

pub lead_zeros : (k : ℕ) (v : List ℕ) → HasLead k v → list_all (λ d. d == 0) (take k v) ≡ true
lead_zeros k v h =
    ap (list_all (λ d. d == 0)) (sym (take-shorter k (suc k) v (omega arith)) ∙ ap (take k) h ∙ cut-ended k k (omega arith)) ∙ zeros_all k

lead_of_row : (n from : ℕ) (rows : List (List ℕ)) (ks : List ℕ) → Leads n from rows ks → (i : ℕ) → i < length ks →
    HasLead (get_or ks i 0) (get_or rows i [])
lead_of_row n from [] [] h i l = absurd (omega arith)
lead_of_row n from [] (x ∷ ks) h i l = absurd h
lead_of_row n from (v ∷ rows) [] h i l = absurd h
lead_of_row n from (v ∷ rows) (x ∷ ks) h zero l = h.2
lead_of_row n from (v ∷ rows) (x ∷ ks) h (suc i) l = lead_of_row n (suc x) rows ks h.3 i (omega arith)

-- leads rise
leads_rise : (n from : ℕ) (rows : List (List ℕ)) (ks : List ℕ) → Leads n from rows ks → (i j : ℕ) → i < j → j < length ks →
    get_or ks i 0 < get_or ks j 0
leads_rise n from [] [] h i j l m = absurd (omega arith)
leads_rise n from [] (x ∷ ks) h i j l m = absurd h
leads_rise n from (v ∷ rows) [] h i j l m = absurd h
leads_rise n from (v ∷ rows) (x ∷ ks) h i zero l m = absurd (omega arith)
leads_rise n from (v ∷ rows) (x ∷ ks) h zero (suc j) l m =
    let a : suc x ≤ get_or ks j 0 = (leads_above n (suc x) rows ks h.3 j 0 (omega arith)).0 in
    omega arith
leads_rise n from (v ∷ rows) (x ∷ ks) h (suc i) (suc j) l m = leads_rise n (suc x) rows ks h.3 i j (omega arith) (omega arith)

-- a reduced row has 0 at the leads of the rows after it
clear_later : (rows : List (List ℕ)) (ks : List ℕ) → Clear rows ks → (i j : ℕ) → i < j → i < length rows → j < length ks →
    get_or (get_or rows i []) (get_or ks j 0) 0 ≡ 0
clear_later [] ks h i j l m k = absurd (omega arith)
clear_later (v ∷ rows) [] h i j l m k = absurd (omega arith)
clear_later (v ∷ rows) (x ∷ ks) h i zero l m k = absurd (omega arith)
clear_later (v ∷ rows) (x ∷ ks) h zero (suc j) l m k = h.0 j 0 (omega arith)
clear_later (v ∷ rows) (x ∷ ks) h (suc i) (suc j) l m k = clear_later rows ks h.1 i j (omega arith) (omega arith) (omega arith)

-- ---- one row

-- ---- differences

abbrev pub difference : Field → List ℕ → List ℕ → List ℕ
difference f v w = vector_sum f v (multiple f (negative f 1) w)

both_zero : (f : Field) (t x : ℕ) (v w : List ℕ) → IsVector f t v → IsVector f t w → x < t → get_or v x 0 ≡ 0 → get_or w x 0 ≡ 0 →
    get_or (difference f v w) x 0 ≡ 0
both_zero f t x v w hv hw l a b =
    sum_entry f t (negative f 1) v w x hv.len hw.len l
    ∙ sum_of_zeros f (get_or v x 0) _ a (ap (times f (negative f 1)) b ∙ times-zero f (negative f 1))

both_one : (f : Field) (t x : ℕ) (v w : List ℕ) → IsVector f t v → IsVector f t w → x < t → get_or v x 0 ≡ 1 → get_or w x 0 ≡ 1 →
    get_or (difference f v w) x 0 ≡ 0
both_one f t x v w hv hw l a b =
    sum_entry f t (negative f 1) v w x hv.len hw.len l
    ∙ ap (λ s. plus f s (times f (negative f 1) (get_or w x 0))) a ∙ cleared_at f 1 (get_or w x 0) b

no_difference : (f : Field) (t : ℕ) (v w : List ℕ) → IsVector f t v → IsVector f t w → difference f v w ≡ zeros t → v ≡ w
no_difference f t v w hv hw e =
    sym (minus_and_plus f t 1 v w hv hw.len)
    ∙ ap₂ (λ s d. vector_sum f s d) e (one-multiple f w hw.digits)
    ∙ zeros-vector_sum f t w hw

-- what a row and its lead are, in the basis of the listed space
module _ (f : Field) (t : ℕ) (vs rows : List (List ℕ)) (sp : IsSpace f t vs) (known : IsLeftBasis f t vs rows) where
  count_is : length rows ≡ length known.leads
  count_is = count_leads t 0 rows known.leads known.echelon

  -- a vector of the space is in the span of the basis, and a row of the basis is in the space
  inside : (i : ℕ) → i < length vs → InSpan f t rows (get_or vs i [])
  inside i l = known.span.0 i [] l

  row_listed : (j : ℕ) → j < length rows → Contains vs (get_or rows j [])
  row_listed j l = sp.closed (get_or rows j []) (known.span.1 j [] l)

  row_lead : (j : ℕ) → j < length rows → HasLead (get_or known.leads j 0) (get_or rows j [])
  row_lead j l = lead_of_row t 0 rows known.leads known.echelon j (omega (arith, count_is))

  lead_below : (j : ℕ) → j < length rows → get_or known.leads j 0 < t
  lead_below j l = (leads_above t 0 rows known.leads known.echelon j 0 (omega (arith, count_is))).1

  rising : (i j : ℕ) → i < j → j < length rows → get_or known.leads i 0 < get_or known.leads j 0
  rising i j l m = leads_rise t 0 rows known.leads known.echelon i j l (omega (arith, count_is))

  clear_row : (i j : ℕ) → i < j → j < length rows → get_or (get_or rows i []) (get_or known.leads j 0) 0 ≡ 0
  clear_row i j l m = clear_later rows known.leads known.reduced i j l (omega arith) (omega (arith, count_is))

  -- the lead of a vector of the space is that of a row
  lead_found : (v : List ℕ) (k : ℕ) → InSpan f t rows v → k < t → HasLead k v → (j : ℕ) × (j < length rows) × (get_or known.leads j 0 ≡ k)
  lead_found v k p l h =
      let c = lead_of_combination f t 0 rows known.leads known.echelon known.each v k l p h in
      let a : c.0 < length known.leads = c.1 in
      (c.0, omega (arith, count_is), get_or_default known.leads c.0 0 k a ∙ c.2)

  -- a vector of the space that has the lead of row j, and 0 at all later leads, is row j
  row_is : (v : List ℕ) (j : ℕ) → IsVector f t v → InSpan f t rows v → j < length rows → HasLead (get_or known.leads j 0) v →
      ((i : ℕ) → j < i → i < length rows → get_or v (get_or known.leads i 0) 0 ≡ 0) → v ≡ get_or rows j []
  row_is v j hv p l h clear = no_difference f t v w hv hw z_zero
    where
      w : List ℕ
      w = get_or rows j []

      hw : IsVector f t w
      hw = known.each j [] l

      z_all : InSpan f t rows (difference f v w)
      z_all =
          InSpan-vector_sum f t rows v (multiple f (negative f 1) w) p
          (InSpan-multiple f t (negative f 1) rows w (IsWithin-itself f t rows known.each j [] l))

      at : (i : ℕ) → i < length rows → get_or (difference f v w) (get_or known.leads i 0) 0 ≡ 0
      at i m = elim (cases_lt i j) [
        | inl before ↦
            let lower : get_or known.leads i 0 < get_or known.leads j 0 = rising i j before l in
            both_zero f t (get_or known.leads i 0) v w hv hw (lead_below i m)
            (before_lead (get_or known.leads j 0) (get_or known.leads i 0) v lower h)
            (before_lead (get_or known.leads j 0) (get_or known.leads i 0) w lower (row_lead j l))
        | inr later ↦ elim (cases_eq i j) [
          | inl same ↦
              subst (λ k. get_or (difference f v w) (get_or known.leads k 0) 0 ≡ 0) (sym same)
              (both_one f t (get_or known.leads j 0) v w hv hw (lead_below j l)
              (at_lead (get_or known.leads j 0) v h) (at_lead (get_or known.leads j 0) w (row_lead j l)))
          | inr other ↦
              both_zero f t (get_or known.leads i 0) v w hv hw (lead_below i m)
              (clear i (omega arith) m) (clear_row j i (omega arith) m)
        ]
      ]

      z_zero : difference f v w ≡ zeros t
      z_zero =
          zero_at_leads f t 0 rows known.leads known.echelon known.each (difference f v w) z_all
          (λ i d m.
          let n : i < length rows = omega (arith, count_is) in
          ap (λ k. get_or (difference f v w) k 0) (get_or_default known.leads i d 0 m) ∙ at i n)

  -- ---- the rows with leads before place k

  pub record IsBefore (k : ℕ) (found : List (List ℕ)) : Type 0 where
    pub count : ℕ
    pub few : count ≤ length rows
    pub taken : found ≡ take count rows
    pub earlier : (i : ℕ) → i < count → get_or known.leads i 0 < k
    pub later : (i : ℕ) → count ≤ i → i < length rows → k ≤ get_or known.leads i 0

  pub none_before : IsBefore 0 []
  none_before = record {
    count = 0;
    few = omega arith;
    taken = refl;
    earlier = λ i l. absurd (omega arith);
    later = λ i l m. omega arith;
  }

  -- a reduced row at place k is the next row
  pub one_more_row : (k i : ℕ) (found : List (List ℕ)) → k < t → i < length vs → IsReducedRow k vs (get_or vs i []) → IsBefore k found →
      IsBefore (k + 1) (found ++ (get_or vs i [] ∷ []))
  one_more_row k i found l m r b =
      let v = get_or vs i [] in
      let hv : IsVector f t v = sp.each i [] m in
      let at = lead_found v k (inside i m) l r.lead in
      let j = at.0 in
      let lj : j < length rows = at.1 in
      let kj : get_or known.leads j 0 ≡ k = at.2 in
      let clear = λ (n : ℕ) (later : j < n) (ln : n < length rows).
      let c = row_listed n ln in
      let lead_n : get_or known.leads n 0 < length v = omega (arith, lead_below n ln, hv.len) in
      r.clear c.0 c.1 (get_or known.leads n 0) (subst (λ x. x < get_or known.leads n 0) kj (rising j n later ln)) lead_n
      (subst (λ u. HasLead (get_or known.leads n 0) u) (sym (get_or_default vs c.0 [] (get_or rows n []) c.1 ∙ c.2)) (row_lead n ln)) in
      let is : v ≡ get_or rows j [] = row_is v j hv (inside i m) lj (subst (λ x. HasLead x v) (sym kj) r.lead) clear in
      let next : j ≡ b.count = elim (cases_lt j b.count) [
        | inl low ↦ absurd (let x : get_or known.leads j 0 < k = b.earlier j low in omega arith)
        | inr high ↦ elim (cases_eq j b.count) [
          | inl same ↦ same
          | inr other ↦
              absurd (let x : get_or known.leads b.count 0 < get_or known.leads j 0 = rising b.count j (omega arith) lj in
              let y : k ≤ get_or known.leads b.count 0 = b.later b.count (omega arith) (omega arith) in omega arith)
        ]
      ] in
      record {
        count = suc b.count;
        few = omega arith;
        taken =
            ap₂ (λ xs x. xs ++ (x ∷ [])) b.taken (is ∙ ap (λ n. get_or rows n []) next)
            ∙ sym (take-suc rows b.count [] (omega arith));
        earlier = λ n low. elim (cases_lt n b.count) [
          | inl minus_multiple ↦ let x : get_or known.leads n 0 < k = b.earlier n minus_multiple in omega arith
          | inr more ↦
              let same : n ≡ j = omega arith in
              let x : get_or known.leads n 0 ≡ k = ap (λ y. get_or known.leads y 0) same ∙ kj in
              omega arith
        ];
        later = λ n high ln.
            let x : get_or known.leads j 0 < get_or known.leads n 0 = rising j n (omega arith) ln in omega arith;
      }

  -- where the space has no reduced row at place k, no row has its lead there
  pub no_more_rows : (k : ℕ) (found : List (List ℕ)) → k < t → ((i : ℕ) → i < length vs → IsReducedRow k vs (get_or vs i []) → ⊥) →
      IsBefore k found → IsBefore (k + 1) found
  no_more_rows k found l none b = record {
    count = b.count;
    few = b.few;
    taken = b.taken;
    earlier = λ n low. let x : get_or known.leads n 0 < k = b.earlier n low in omega arith;
    later = λ n high ln.
        let x : k ≤ get_or known.leads n 0 = b.later n high ln in
        elim (cases_eq (get_or known.leads n 0) k) [ inl same ↦ absurd (there n ln same) | inr other ↦ omega arith ];
  }
    where
      there : (n : ℕ) → n < length rows → get_or known.leads n 0 ≡ k → ⊥
      there n ln same =
          let c = row_listed n ln in
          let is : get_or vs c.0 [] ≡ get_or rows n [] = get_or_default vs c.0 [] (get_or rows n []) c.1 ∙ c.2 in
          none c.0 c.1 (subst (λ v. IsReducedRow k vs v) (sym is) (record {
            lead = subst (λ x. HasLead x (get_or rows n [])) same (row_lead n ln);
            clear = λ i m x after short lead.
                let low : x < t = omega (arith, (known.each n [] ln).len) in
                let at = lead_found (get_or vs i []) x (inside i m) low lead in
                let lj : at.0 < length rows = at.1 in
                let xj : get_or known.leads at.0 0 ≡ x = at.2 in
                let order : n < at.0 = elim (cases_lt n at.0) [
                  | inl minus_multiple ↦ minus_multiple
                  | inr more ↦ elim (cases_eq n at.0) [
                    | inl eq ↦ absurd (let y : get_or known.leads n 0 ≡ x = ap (λ z. get_or known.leads z 0) eq ∙ xj in omega arith)
                    | inr ne ↦ absurd (let y : get_or known.leads at.0 0 < get_or known.leads n 0 = rising at.0 n (omega arith) ln in omega arith)
                  ]
                ] in
                ap (λ y. get_or (get_or rows n []) y 0) (sym xj) ∙ clear_row n at.0 order lj;
          }))

  -- before place t are all rows
  pub all_before : (k : ℕ) (found : List (List ℕ)) → t ≤ k → IsBefore k found → found ≡ rows
  all_before k found l b =
      b.taken
      ∙ take_all b.count rows (elim (cases_lt b.count (length rows)) [
        | inl minus_multiple ↦ absurd (let x : k ≤ get_or known.leads b.count 0 = b.later b.count (omega arith) minus_multiple in
            let y : get_or known.leads b.count 0 < t = lead_below b.count minus_multiple in omega arith)
        | inr all ↦ omega arith
      ])

-- ---- the boundary space of columns

-- vector i of the list of all
pub listed_vector : {A : Type 0} (f : Field) (t : ℕ) (all : List (Vec ℕ A)) (i : ℕ) (v : List ℕ) → rows_of all ≡ all_vectors f t → i < length all →
    get_or (rows_of all) i [] ≡ v → IsVector f t v
listed_vector f t all i v e l is =
    let many = length-map all (λ u. u.items) in
    subst (λ u. IsVector f t u) (ap (λ us. get_or us i []) (sym e) ∙ is)
    (all_vectors_are f t i [] (subst (λ us. i < length us) e (omega arith)))

-- the vectors that the columns show at the boundary
abbrev pub shown : Field → ℕ → ℕ → List (List ℕ) → List (List ℕ)
shown f t m columns = filter (λ b. is_in_span f (t + m) columns (b ++ zeros m)) (all_vectors f t)

pub shown_vectors : (f : Field) (t m : ℕ) (columns : List (List ℕ)) → AreVectors f t (shown f t m columns)
shown_vectors f t m columns =
    All-filter (λ b. is_in_span f (t + m) columns (b ++ zeros m)) (λ v. IsVector f t v) (all_vectors f t) (all_vectors_are f t)

pub shown_basis : (f : Field) (t m : ℕ) (columns : List (List ℕ)) → IsLeftBasis f t (shown f t m columns) (boundary_space f t m columns)
unfolding head_of_span subspace
shown_basis f t m columns = reduced_basis_is f t (shown f t m columns) (shown_vectors f t m columns)

pub shown_space : (f : Field) (t m : ℕ) (columns : List (List ℕ)) → AreVectors f (t + m) columns → IsSpace f t (shown f t m columns)
shown_space f t m columns h = record {
  each = shown_vectors f t m columns;
  closed = λ v p.
      let hv = IsVector-in_span f t (shown f t m columns) v (shown_vectors f t m columns) p in
      let b = shown_basis f t m columns in
      let q = InSpan-within f t (shown f t m columns) (boundary_space f t m columns) v b.each b.span.0 p in
      let r = ((head_of_span_is f t m columns h).decides v hv).0 q in
      Contains-filter (λ u. is_in_span f (t + m) columns (u ++ zeros m)) (all_vectors f t) v (all_vectors_contain f t v hv)
      ((is_in_span_decides f (t + m) columns (v ++ zeros m) h (padded_vector f t m v hv)).1 r);
}
  where
    padded_vector : (f : Field) (t m : ℕ) (v : List ℕ) → IsVector f t v → IsVector f (t + m) (v ++ zeros m)
    padded_vector f t m v hv = record {
      len = length-append v (zeros m) ∙ ap₂ (λ a b. a + b) hv.len (length-replicate m 0);
      digits = All-append (λ d. d < order f) v (zeros m) hv.digits (IsVector-zeros f m).digits;
    }
