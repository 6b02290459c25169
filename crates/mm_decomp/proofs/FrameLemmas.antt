-- The vectors of a list that are no combinations of those before them, and the coordinates of all in these, by the reduced rows of
-- the matrix that has the vectors as its columns.
use Rattle.std.proofs.Common.{ℕ, zero, suc, ◌+◌, ◌-◌, ◌<◌, ◌≤◌, ◌≡◌, ◌≢◌, ◌↔◌, inl, inr, Bool, true, false, List, [], ◌∷◌, ◌++◌, length, map, drop, take, get_or, refl, sym, ap, ap₂, ◌∙◌, subst, arith, append_assoc, append-nil, length-append}
use Rattle.std.specs.Prelude.{if◌then◌else◌}
use Rattle.std.specs.List.{All}
use Rattle.std.proofs.Math.Seq.{drop-cons}
use Rattle.std.proofs.lemmas.Bool.{cases_eq}
use Rattle.std.proofs.lemmas.List.{length-map, get_or-map, get_or-replicate, length-replicate, drop_all, get_or-append_right}
use Rattle.std.proofs.lemmas.List.Elements.{All-nil, All-cons, All-append, All-head, All-tail}
use Rattle.mm_field.specs.declared.Field.{Field}
use Rattle.mm_field.specs.Digits.{order, plus, negative}
use Rattle.mm_field.specs.Vectors.{zeros, vector_sum, multiple, combination, times_matrix, IsVector, AreVectors, InSpan, IsWithin, AreIndependent}
use Rattle.mm_field.proofs.Tables.{negative-times, negative_below, plus-negative, plus_zero_digit, one_digit}
use Rattle.mm_field.proofs.VectorLemmas.{vector_sum-zeros, opposite-vector_sum, IsVector-zeros, IsVector-multiple}
use Rattle.mm_field.proofs.CombinationLemmas.{first_row, other_rows, combination-append, combination-multiple, combination-vector_sum, combination-zeros, combination-times_matrix, IsVector-combination, InSpan-within}
use Rattle.mm_linear.specs.Coordinates.{unit, coordinates}
use Rattle.mm_linear.specs.Decide.{is_in_span}
use Rattle.mm_linear.specs.ReducedEchelon.{Leads}
use Rattle.mm_linear.proofs.BasisLemmas.{IsVector-unit}
use Rattle.mm_linear.proofs.CoordinateLemmas.{IsVector-coordinates, coordinates_combine, one_combination}
use Rattle.mm_linear.proofs.LeftUnique.{zero_at_leads}
use Rattle.mm_linear.proofs.MeetTest.{is_in_span_decides}
use Rattle.mm_linear.proofs.PivotLemmas.{count_leads, late_rows, entry_of_cut}
use Rattle.mm_linear.proofs.SubspaceLemmas.{from_sum}
use Rattle.mm_matrix.specs.Columns.{column}
use Rattle.mm_matrix.specs.Orthogonal.{dot, IsOrthogonal}
use Rattle.mm_matrix.specs.Projections.{units, shares, projected}
use Rattle.mm_matrix.specs.Residues.{AreReduced}
use Rattle.mm_matrix.proofs.ColumnLemmas.{digit_of_combination, IsVector-column}
use Rattle.mm_matrix.proofs.DotLemmas.{dot-comm, dot-unit, orthogonal_within}
use Rattle.mm_matrix.proofs.FreeLemmas.{combination-unit}
use Rattle.mm_matrix.proofs.NullLemmas.{AreVectors-units, IsVector-projected, projected_orthogonal, leads_inside}
use Rattle.mm_decomp.specs.Meets.{extended}
use Rattle.mm_decomp.proofs.LeadLemmas.{map_dots_of_units, AreVectors-columns}

-- some of the vectors
abbrev pub picked : List (List ℕ) → List ℕ → List (List ℕ)
picked all ks = map (λ k. get_or all k []) ks

-- the vectors have the dependencies that the rows say
abbrev pub HasDependencies : Field → ℕ → (all rows : List (List ℕ)) → Type 0
HasDependencies f g all rows = (x : List ℕ) → IsVector f (length all) x → (combination f g x all ≡ zeros g) ↔ IsOrthogonal f rows x

-- ---- picked vectors

AreVectors-picked : (f : Field) (g : ℕ) (all : List (List ℕ)) (ks : List ℕ) → AreVectors f g all → All (λ k. k < length all) ks →
    AreVectors f g (picked all ks)
AreVectors-picked f g all [] h hk = All-nil (λ v. IsVector f g v)
AreVectors-picked f g all (k ∷ ks) h hk =
    All-cons (λ v. IsVector f g v) (get_or all k []) (picked all ks) (h k [] (All-head (λ k. k < length all) k ks hk))
    (AreVectors-picked f g all ks h (All-tail (λ k. k < length all) k ks hk))

units_pick : (f : Field) (g : ℕ) (all : List (List ℕ)) (ks : List ℕ) → AreVectors f g all → All (λ k. k < length all) ks →
    map (times_matrix f g all) (units (length all) ks) ≡ picked all ks
units_pick f g all [] h hk = refl
units_pick f g all (k ∷ ks) h hk =
    ap₂ (λ v vs. v ∷ vs) (combination-unit f g k all h (All-head (λ k. k < length all) k ks hk))
    (units_pick f g all ks h (All-tail (λ k. k < length all) k ks hk))

-- a combination of picked vectors as one of all
combination_of_picked : (f : Field) (g : ℕ) (all : List (List ℕ)) (ks cs : List ℕ) → AreVectors f g all → All (λ k. k < length all) ks →
    combination f g (combination f (length all) cs (units (length all) ks)) all ≡ combination f g cs (picked all ks)
combination_of_picked f g all ks cs h hk =
    sym (combination-times_matrix f g (length all) cs (units (length all) ks) all (AreVectors-units f (length all) ks hk) h)
    ∙ ap (combination f g cs) (units_pick f g all ks h hk)

shares_of_unit : (f : Field) (n k : ℕ) (rows : List (List ℕ)) → AreVectors f n rows → k < n →
    shares f rows (unit n k) ≡ multiple f (negative f 1) (column rows k)
shares_of_unit f n k [] h l = refl
shares_of_unit f n k (v ∷ rows) h l =
    ap₂ (λ a b. a ∷ b) (ap (negative f) (dot-unit f n k v (first_row f n v rows h) l) ∙ negative-times f (get_or v k 0))
    (shares_of_unit f n k rows (other_rows f n v rows h) l)

-- each vector is the combination of the picked ones with its column of the rows
pub vector_by_column : (f : Field) (g : ℕ) (all rows : List (List ℕ)) (ks : List ℕ) (j : ℕ) → AreVectors f g all → AreReduced f (length all) rows ks →
    HasDependencies f g all rows → j < length all → combination f g (column rows j) (picked all ks) ≡ get_or all j []
vector_by_column f g all rows ks j h red dep l =
    let m = length all in
    let hk = leads_inside f m rows ks red in
    let hu = AreVectors-units f m ks hk in
    let e = unit m j in
    let he = IsVector-unit f m j l in
    let x = projected f m rows ks e in
    let hx = IsVector-projected f m rows ks e hk he in
    let none = (dep x hx).1 (projected_orthogonal f m rows ks e red he) in
    let sh = shares f rows e in
    let y = combination f m sh (units m ks) in
    let hy = IsVector-combination f m sh (units m ks) hu in
    let v = get_or all j [] in
    let hv : IsVector f g v = h j [] l in
    let hp = AreVectors-picked f g all ks h hk in
    let w = combination f g (column rows j) (picked all ks) in
    let hw = IsVector-combination f g (column rows j) (picked all ks) hp in
    let o = multiple f (negative f 1) w in
    let ho = IsVector-multiple f g (negative f 1) w hw.len in
    let part : combination f g y all ≡ o =
    combination_of_picked f g all ks sh h hk
    ∙ ap (λ (cs : List ℕ). combination f g cs (picked all ks)) (shares_of_unit f m j rows red.each l)
    ∙ combination-multiple f g (negative f 1) (column rows j) (picked all ks) in
    let first : vector_sum f v o ≡ zeros g =
    ap₂ (λ a b. vector_sum f a b) (sym (combination-unit f g j all h l)) (sym part)
    ∙ sym (combination-vector_sum f g e y all (he.len ∙ sym hy.len)) ∙ none in
    let second : vector_sum f w o ≡ zeros g = opposite-vector_sum f w ∙ ap zeros hw.len in
    sym (from_sum f g w o (zeros g) hw ho second) ∙ from_sum f g v o (zeros g) hv ho first

-- the picked vectors are independent
pub picked_independent : (f : Field) (g : ℕ) (all rows : List (List ℕ)) (ks : List ℕ) → AreVectors f g all → AreReduced f (length all) rows ks →
    HasDependencies f g all rows → AreIndependent f g (picked all ks)
picked_independent f g all rows ks h red dep cs hc none =
    let m = length all in
    let hk = leads_inside f m rows ks red in
    let c = count_leads m 0 rows ks red.leads_are in
    let lp = length-map ks (λ k. get_or all k []) in
    let er : length (picked all ks) ≡ length rows = lp ∙ sym c in
    let hcr : IsVector f (length rows) cs = subst (λ n. IsVector f n cs) er hc in
    let x = combination f m cs (units m ks) in
    let hx = IsVector-combination f m cs (units m ks) (AreVectors-units f m ks hk) in
    let o = (dep x hx).0 (combination_of_picked f g all ks cs h hk ∙ none) in
    sym (map_dots_of_units f m rows ks cs red hcr) ∙ all_zero rows x o ∙ ap zeros (sym er)
  where
    all_zero : (rows : List (List ℕ)) (x : List ℕ) → IsOrthogonal f rows x → map (dot f x) rows ≡ zeros (length rows)
    all_zero [] x o = refl
    all_zero (v ∷ rows) x o =
        ap₂ (λ d ds. d ∷ ds) (dot-comm f x v ∙ All-head (λ v. dot f v x ≡ 0) v rows o) (all_zero rows x (All-tail (λ v. dot f v x ≡ 0) v rows o))

-- ---- which vectors are picked

-- after independent vectors comes none of their combinations
pub none_of_before : (f : Field) (g : ℕ) (base : List (List ℕ)) (v : List ℕ) (vs : List (List ℕ)) → AreVectors f g base → AreVectors f g (v ∷ vs) →
    AreIndependent f g (base ++ v ∷ vs) → InSpan f g base v → ⊥
none_of_before f g base v vs hb hvs ind p =
    let cs = p.coefficients in
    let hv = first_row f g v vs hvs in
    let hr = other_rows f g v vs hvs in
    let n = length vs in
    let d = negative f 1 in
    let tail = d ∷ zeros n in
    let ds = cs ++ tail in
    let lb = p.each.len in
    let htail : All (λ x. x < order f) tail = All-cons (λ x. x < order f) d (zeros n) (negative_below f 1) (IsVector-zeros f n).digits in
    let size : length ds ≡ length (base ++ v ∷ vs) =
    (let a = length-append cs tail in let b = length-append base (v ∷ vs) in let c : length (zeros n) ≡ n = length-replicate n 0 in omega (arith, a, b, c, lb)) in
    let none : combination f g ds (base ++ v ∷ vs) ≡ zeros g =
    combination-append f g cs tail base (v ∷ vs) lb hvs
    ∙ ap₂ (λ a b. vector_sum f a b) p.sum
    (ap (vector_sum f (multiple f d v)) (combination-zeros f g n vs hr) ∙ vector_sum-zeros f g (multiple f d v) (IsVector-multiple f g d v hv.len))
    ∙ opposite-vector_sum f v ∙ ap zeros hv.len in
    let all = ind ds (record { len = size; digits = All-append (λ x. x < order f) cs tail p.each.digits htail }) none in
    let at : d ≡ 0 =
    sym (get_or-append_right cs tail (length cs) (length cs) 0 refl (omega arith) ∙ first_of tail (length cs))
    ∙ ap (λ (xs : List ℕ). get_or xs (length cs) 0) all
    ∙ get_or-replicate (length (base ++ v ∷ vs)) (length cs) 0 0 (let b = length-append base (v ∷ vs) in omega (arith, b, lb)) in
    nonzero at
  where
    first_of : (xs : List ℕ) (k : ℕ) → get_or xs (k - k) 0 ≡ get_or xs 0 0
    first_of xs k = ap (λ i. get_or xs i 0) (let e : k - k ≡ 0 = omega arith in e)

    nonzero : negative f 1 ≡ 0 → ⊥
    nonzero e =
        let one : 1 ≡ 0 = sym (plus_zero_digit f 1 (one_digit f)) ∙ ap (λ x. plus f 1 x) (sym e) ∙ plus-negative f 1 in
        absurd (omega (arith, one))

-- v is a combination of some vectors and of picked ones, these with the given coefficients
record IsShown (f : Field) (g : ℕ) (base more : List (List ℕ)) (tail v : List ℕ) : Type 0 where
  front : List ℕ
  vector : IsVector f (length base) front
  sum : combination f g (front ++ tail) (base ++ more) ≡ v

-- with zeros as these coefficients it is a combination of the first alone
shown_by_base : (f : Field) (g : ℕ) (base more : List (List ℕ)) (tail v : List ℕ) → AreVectors f g base → AreVectors f g more → (k : ℕ) →
    tail ≡ zeros k → IsShown f g base more tail v → InSpan f g base v
shown_by_base f g base more tail v hb hm k z s = record {
  coefficients = s.front;
  each = s.vector;
  sum =
      sym (vector_sum-zeros f g (combination f g s.front base) (IsVector-combination f g s.front base hb))
      ∙ ap (vector_sum f (combination f g s.front base)) (sym (combination-zeros f g k more hm))
      ∙ sym (combination-append f g s.front (zeros k) base more s.vector.len hm)
      ∙ ap (λ (t : List ℕ). combination f g (s.front ++ t) (base ++ more)) (sym z) ∙ s.sum;
}

-- before the first lead all digits are zero
column_before_leads : (m j : ℕ) (rows : List (List ℕ)) (ks : List ℕ) → Leads m (suc j) rows ks → column rows j ≡ zeros (length rows)
column_before_leads m j rows ks h = go rows (λ i l. late_rows m (suc j) rows ks h i [] l)
  where
    go : (rows : List (List ℕ)) → ((i : ℕ) → i < length rows → take (suc j) (get_or rows i []) ≡ zeros (suc j)) → column rows j ≡ zeros (length rows)
    go [] h = refl
    go (v ∷ rows) h =
        ap₂ (λ d ds. d ∷ ds) (entry_of_cut j v (zeros (suc j)) (h 0 (omega arith)) ∙ get_or-replicate (suc j) j 0 0 (omega arith))
        (go rows (λ i l. h (suc i) (omega arith)))

extended_inside : (f : Field) (g : ℕ) (base : List (List ℕ)) (v : List ℕ) (vs : List (List ℕ)) → AreVectors f g base → IsVector f g v →
    InSpan f g base v → extended f g base (v ∷ vs) ≡ extended f g base vs
extended_inside f g base v vs hb hv p =
    ap (λ (b : Bool). extended f g (if b then base else base ++ v ∷ []) vs) ((is_in_span_decides f g base v hb hv).1 p)

extended_outside : (f : Field) (g : ℕ) (base : List (List ℕ)) (v : List ℕ) (vs : List (List ℕ)) → AreVectors f g base → IsVector f g v →
    (InSpan f g base v → ⊥) → extended f g base (v ∷ vs) ≡ extended f g (base ++ v ∷ []) vs
extended_outside f g base v vs hb hv out = go (is_in_span f g base v) refl
  where
    go : (b : Bool) → is_in_span f g base v ≡ b → extended f g base (v ∷ vs) ≡ extended f g (base ++ v ∷ []) vs
    go true e = absurd (out ((is_in_span_decides f g base v hb hv).0 e))
    go false e = ap (λ (b : Bool). extended f g (if b then base else base ++ v ∷ []) vs) e

sieve : (f : Field) (g : ℕ) (all base : List (List ℕ)) (from n : ℕ) (rows : List (List ℕ)) (ks : List ℕ) → AreVectors f g all →
    AreVectors f g base → AreVectors f (length all) rows → from + n ≡ length all → Leads (length all) from rows ks →
    All (λ k. k < length all) ks → AreIndependent f g (base ++ picked all ks) →
    ((j : ℕ) → from ≤ j → j < length all → IsShown f g base (picked all ks) (column rows j) (get_or all j [])) →
    extended f g base (drop from all) ≡ base ++ picked all ks
sieve f g all base from zero [] [] h hb hr e leads hk ind shown =
    ap (extended f g base) (drop_all from all (omega arith)) ∙ sym (append-nil base)
sieve f g all base from zero [] (k ∷ ks) h hb hr e leads hk ind shown = absurd leads
sieve f g all base from zero (r ∷ rows) [] h hb hr e leads hk ind shown = absurd leads
sieve f g all base from zero (r ∷ rows) (k ∷ ks) h hb hr e leads hk ind shown =
    absurd (let a : from ≤ k = leads.0 in let b : k < length all = leads.1 in omega arith)
sieve f g all base from (suc n) [] [] h hb hr e leads hk ind shown =
    let l : from < length all = omega arith in
    let v = get_or all from [] in
    let hv : IsVector f g v = h from [] l in
    let none = All-nil (λ v. IsVector f g v) in
    ap (extended f g base) (drop-cons all from [] l)
    ∙ extended_inside f g base v (drop (suc from) all) hb hv (shown_by_base f g base [] [] v hb none 0 refl (shown from (omega arith) l))
    ∙ sieve f g all base (suc from) n [] [] h hb hr (omega arith) tt hk ind (λ j a b. shown j (omega arith) b)
sieve f g all base from (suc n) [] (k ∷ ks) h hb hr e leads hk ind shown = absurd leads
sieve f g all base from (suc n) (r ∷ rows) [] h hb hr e leads hk ind shown = absurd leads
sieve f g all base from (suc n) (r ∷ rows) (k ∷ ks) h hb hr e leads hk ind shown = elim (cases_eq k from) [
  | inl same ↦
      here same (λ b hb' up ind' shown'.
      sieve f g all b (suc from) n rows ks h hb' (other_rows f (length all) r rows hr) (omega arith) up (All-tail (λ k. k < length all) k ks hk) ind' shown')
  | inr other ↦
      later other (λ up. sieve f g all base (suc from) n (r ∷ rows) (k ∷ ks) h hb hr (omega arith) up hk ind (λ j a b. shown j (omega arith) b))
]
  where
    l : from < length all
    l = omega arith

    v : List ℕ
    v = get_or all from []

    hv : IsVector f g v
    hv = h from [] l

    hs : All (λ k. k < length all) ks
    hs = All-tail (λ k. k < length all) k ks hk

    more : List (List ℕ)
    more = picked all ks

    hmore : AreVectors f g more
    hmore = AreVectors-picked f g all ks h hs

    one : AreVectors f g (v ∷ [])
    one = All-cons (λ v. IsVector f g v) v [] hv (All-nil (λ v. IsVector f g v))

    start : extended f g base (drop from all) ≡ extended f g base (v ∷ drop (suc from) all)
    start = ap (extended f g base) (drop-cons all from [] l)

    here : k ≡ from →
        ((b : List (List ℕ)) → AreVectors f g b → Leads (length all) (suc from) rows ks → AreIndependent f g (b ++ more) →
        ((j : ℕ) → suc from ≤ j → j < length all → IsShown f g b more (column rows j) (get_or all j [])) →
        extended f g b (drop (suc from) all) ≡ b ++ more) →
        extended f g base (drop from all) ≡ base ++ picked all (k ∷ ks)
    here same go =
        let at : picked all (k ∷ ks) ≡ v ∷ more = ap (λ (i : ℕ). get_or all i [] ∷ more) same in
        let ind2 : AreIndependent f g (base ++ v ∷ more) = subst (λ (vs : List (List ℕ)). AreIndependent f g (base ++ vs)) at ind in
        let assoc : (base ++ v ∷ []) ++ more ≡ base ++ v ∷ more = append_assoc base (v ∷ []) more in
        let hbig = All-append (λ v. IsVector f g v) base (v ∷ []) hb one in
        let rest : Leads (length all) (suc from) rows ks = subst (λ (i : ℕ). Leads (length all) (suc i) rows ks) same leads.3 in
        start
        ∙ extended_outside f g base v (drop (suc from) all) hb hv
        (none_of_before f g base v more hb (All-cons (λ v. IsVector f g v) v more hv hmore) ind2)
        ∙ go (base ++ v ∷ []) hbig rest
        (subst (λ (vs : List (List ℕ)). AreIndependent f g vs) (sym assoc) ind2)
        (λ j a b.
        let s = shown j (omega arith) b in
        let hd : get_or r j 0 < order f = (let hr1 = first_row f (length all) r rows hr in hr1.digits j 0 (omega (arith, hr1.len))) in
        record {
          front = s.front ++ get_or r j 0 ∷ [];
          vector = record {
            len =
                let x = length-append s.front (get_or r j 0 ∷ []) in
                let y = length-append base (v ∷ []) in
                let z = s.vector.len in
                omega (arith, x, y, z);
            digits = All-append (λ d. d < order f) s.front (get_or r j 0 ∷ []) s.vector.digits (All-cons (λ d. d < order f) (get_or r j 0) [] hd (All-nil (λ d. d < order f)));
          };
          sum =
              ap₂ (λ (cs : List ℕ) (vs : List (List ℕ)). combination f g cs vs) (append_assoc s.front (get_or r j 0 ∷ []) (column rows j))
              (assoc ∙ ap (λ (vs : List (List ℕ)). base ++ vs) (sym at))
              ∙ s.sum;
        })
        ∙ assoc ∙ ap (λ (vs : List (List ℕ)). base ++ vs) (sym at)

    later : k ≢ from →
        (Leads (length all) (suc from) (r ∷ rows) (k ∷ ks) → extended f g base (drop (suc from) all) ≡ base ++ picked all (k ∷ ks)) →
        extended f g base (drop from all) ≡ base ++ picked all (k ∷ ks)
    later other go =
        let a : from ≤ k = leads.0 in
        let up : Leads (length all) (suc from) (r ∷ rows) (k ∷ ks) = (omega (arith, a, other), leads.1, leads.2, leads.3) in
        let hall = AreVectors-picked f g all (k ∷ ks) h hk in
        start
        ∙ extended_inside f g base v (drop (suc from) all) hb hv
        (shown_by_base f g base (picked all (k ∷ ks)) (column (r ∷ rows) from) v hb hall (length (r ∷ rows))
        (column_before_leads (length all) from (r ∷ rows) (k ∷ ks) up) (shown from (omega arith) l))
        ∙ go up

-- the picked vectors are those that are no combinations of the ones before
pub picked_is_extended : (f : Field) (g : ℕ) (all rows : List (List ℕ)) (ks : List ℕ) → AreVectors f g all → AreReduced f (length all) rows ks →
    HasDependencies f g all rows → extended f g [] all ≡ picked all ks
picked_is_extended f g all rows ks h red dep =
    sieve f g all [] 0 (length all) rows ks h (All-nil (λ v. IsVector f g v)) red.each (omega arith) red.leads_are (leads_inside f (length all) rows ks red)
    (picked_independent f g all rows ks h red dep)
    (λ j a b. record {
      front = [];
      vector = record { len = refl; digits = All-nil (λ d. d < order f) };
      sum = vector_by_column f g all rows ks j h red dep b;
    })

-- independent vectors at the front are all kept
pub extended_front : (f : Field) (g : ℕ) (base front rest : List (List ℕ)) → AreVectors f g base → AreVectors f g front →
    AreIndependent f g (base ++ front) → extended f g base (front ++ rest) ≡ extended f g (base ++ front) rest
extended_front f g base [] rest hb hf ind = ap (λ (b : List (List ℕ)). extended f g b rest) (sym (append-nil base))
extended_front f g base (v ∷ front) rest hb hf ind =
    let hv = first_row f g v front hf in
    let hs = other_rows f g v front hf in
    let assoc : (base ++ v ∷ []) ++ front ≡ base ++ v ∷ front = append_assoc base (v ∷ []) front in
    let one = All-cons (λ v. IsVector f g v) v [] hv (All-nil (λ v. IsVector f g v)) in
    extended_outside f g base v (front ++ rest) hb hv (none_of_before f g base v front hb hf ind)
    ∙ extended_front f g (base ++ v ∷ []) front rest (All-append (λ v. IsVector f g v) base (v ∷ []) hb one) hs
    (subst (λ (vs : List (List ℕ)). AreIndependent f g vs) (sym assoc) ind)
    ∙ ap (λ (b : List (List ℕ)). extended f g b rest) assoc

pub extended_is_picked : (f : Field) (g : ℕ) (basis others rows : List (List ℕ)) (ks : List ℕ) → AreVectors f g (basis ++ others) → AreVectors f g basis →
    AreIndependent f g basis → AreReduced f (length (basis ++ others)) rows ks → HasDependencies f g (basis ++ others) rows →
    extended f g basis others ≡ picked (basis ++ others) ks
extended_is_picked f g basis others rows ks h hb ind red dep =
    sym (extended_front f g [] basis others (All-nil (λ v. IsVector f g v)) hb ind)
    ∙ picked_is_extended f g (basis ++ others) rows ks h red dep

-- the coordinates of each vector in the picked ones
pub coordinates_are_column : (f : Field) (g : ℕ) (all rows : List (List ℕ)) (ks : List ℕ) (j : ℕ) → AreVectors f g all → AreReduced f (length all) rows ks →
    HasDependencies f g all rows → j < length all → coordinates f g (picked all ks) (get_or all j []) ≡ column rows j
coordinates_are_column f g all rows ks j h red dep l =
    let m = length all in
    let hk = leads_inside f m rows ks red in
    let list = picked all ks in
    let hl = AreVectors-picked f g all ks h hk in
    let v = get_or all j [] in
    let hv : IsVector f g v = h j [] l in
    let c = count_leads m 0 rows ks red.leads_are in
    let er : length list ≡ length rows = length-map ks (λ k. get_or all k []) ∙ sym c in
    let hc : IsVector f (length list) (column rows j) = subst (λ n. IsVector f n (column rows j)) (sym er) (IsVector-column f m j rows red.each l) in
    let sum = vector_by_column f g all rows ks j h red dep l in
    one_combination f g list hl (picked_independent f g all rows ks h red dep) (coordinates f g list v) (column rows j) (IsVector-coordinates f g list v) hc
    (coordinates_combine f g list v hl hv (record { coefficients = column rows j; each = hc; sum = sum }) ∙ sym sum)

-- ---- the dependencies, by the digits of the vectors at the leads of their span

pub dependencies_at_leads : (f : Field) (g : ℕ) (all span rows : List (List ℕ)) (ls : List ℕ) → AreVectors f g all → AreReduced f g span ls →
    IsWithin f g all span → AreVectors f (length all) rows →
    IsWithin f (length all) (map (column all) ls) rows → IsWithin f (length all) rows (map (column all) ls) → HasDependencies f g all rows
dependencies_at_leads f g all span rows ls h red within hr there back = λ x hx.
    let m = length all in
    let hl = leads_inside f g span ls red in
    let D = map (column all) ls in
    let hD = AreVectors-columns f g all ls h hl in
    let v = combination f g x all in
    let lD = length-map ls (column all) in (
      λ z. orthogonal_within f m rows D x hD back (λ i d l.
          let li : i < length ls = omega arith in
          let k = get_or ls i 0 in
          let lk : k < g = hl i 0 li in
          ap (λ (u : List ℕ). dot f u x) (get_or-map (column all) ls i 0 d li)
          ∙ sym (digit_of_combination f g k x all h hx.len lk) ∙ ap (λ (u : List ℕ). get_or u k 0) z ∙ get_or-replicate g k 0 0 lk),
      λ o.
          let od = orthogonal_within f m D rows x hr there o in
          let inside : InSpan f g span v = InSpan-within f g all span v red.each within (record { coefficients = x; each = hx; sum = refl }) in
          zero_at_leads f g 0 span ls red.leads_are red.each v inside (λ i d l.
          let k = get_or ls i d in
          let lk : k < g = hl i d l in
          digit_of_combination f g k x all h hx.len lk
          ∙ sym (ap (λ (u : List ℕ). dot f u x) (get_or-map (column all) ls i d [] l))
          ∙ od i [] (omega arith)),
    )
