-- Digits at the leads of reduced rows are coordinates, and combinations of columns are products.
use Rattle.std.proofs.Common.{ℕ, ◌<◌, ◌≡◌, List, [], ◌∷◌, length, map, get_or, refl, sym, ap, ap₂, ◌∙◌, subst, arith, ext_get_or}
use Rattle.std.proofs.lemmas.List.{length-map, get_or-map}
use Rattle.std.specs.List.{All}
use Rattle.mm_field.specs.declared.Field.{Field}
use Rattle.mm_field.specs.Vectors.{combination, IsVector, AreVectors, InSpan}
use Rattle.mm_field.proofs.CombinationLemmas.{IsVector-combination}
use Rattle.mm_linear.specs.Coordinates.{unit}
use Rattle.mm_linear.proofs.PivotLemmas.{count_leads}
use Rattle.mm_matrix.specs.Columns.{column}
use Rattle.mm_matrix.specs.Orthogonal.{dot}
use Rattle.mm_matrix.specs.Residues.{AreReduced}
use Rattle.mm_matrix.specs.Projections.{units}
use Rattle.mm_matrix.proofs.ColumnLemmas.{digit_of_combination, IsVector-column}
use Rattle.mm_matrix.proofs.DotLemmas.{dot-comm, dot-unit, dot-combination}
use Rattle.mm_matrix.proofs.FreeLemmas.{column_at_lead}
use Rattle.mm_matrix.proofs.NullLemmas.{leads_inside, at_leads, map_twice, AreVectors-units}

-- the digits of a vector at some places
abbrev pub digits_at : List ℕ → List ℕ → List ℕ
digits_at ks v = map (λ k. get_or v k 0) ks

pub digits_of_combination : (f : Field) (n : ℕ) (rows : List (List ℕ)) (ks cs : List ℕ) → AreReduced f n rows ks → IsVector f (length rows) cs →
    digits_at ks (combination f n cs rows) ≡ cs
digits_of_combination f n rows ks cs h hc =
    let c = count_leads n 0 rows ks h.leads_are in
    let v = combination f n cs rows in
    let g : ℕ → ℕ = λ k. get_or v k 0 in
    let lm = length-map ks g in
    let lc = hc.len in
    ext_get_or 0 (digits_at ks v) cs (omega arith) (λ i l.
    let lk : i < length ks = omega arith in
    let lr : i < length rows = omega arith in
    get_or-map g ks i 0 0 lk
    ∙ digit_of_combination f n (get_or ks i 0) cs rows h.each lc (leads_inside f n rows ks h i 0 lk)
    ∙ ap (λ u. dot f u cs) (column_at_lead f n i rows ks h lk)
    ∙ dot-comm f (unit (length rows) i) cs ∙ dot-unit f (length rows) i cs hc lr)

-- a vector of the span is the combination of the rows with its digits at the leads
pub combination_by_leads : (f : Field) (n : ℕ) (rows : List (List ℕ)) (ks v : List ℕ) → AreReduced f n rows ks → InSpan f n rows v →
    combination f n (digits_at ks v) rows ≡ v
combination_by_leads f n rows ks v h p =
    ap (λ cs. combination f n cs rows) (ap (digits_at ks) (sym p.sum) ∙ digits_of_combination f n rows ks p.coefficients h p.each) ∙ p.sum

-- ---- columns

column_of_columns : (rows : List (List ℕ)) (ks : List ℕ) (i : ℕ) → i < length rows → column (map (column rows) ks) i ≡ digits_at ks (get_or rows i [])
column_of_columns rows [] i l = refl
column_of_columns rows (k ∷ ks) i l =
    ap₂ (λ a b. a ∷ b) (get_or-map (λ v. get_or v k 0) rows i [] 0 l) (column_of_columns rows ks i l)

pub AreVectors-columns : (f : Field) (n : ℕ) (rows : List (List ℕ)) (ks : List ℕ) → AreVectors f n rows → All (λ k. k < n) ks →
    AreVectors f (length rows) (map (column rows) ks)
AreVectors-columns f n rows ks h hk = λ i d l.
    let li : i < length ks = (let e = length-map ks (column rows) in omega arith) in
    subst (λ v. IsVector f (length rows) v) (sym (get_or-map (column rows) ks i 0 d li))
    (IsVector-column f n (get_or ks i 0) rows h (hk i 0 li))

-- a combination of columns has the products with the rows' digits there as its digits
pub combination_of_columns : (f : Field) (n : ℕ) (rows : List (List ℕ)) (ks cs : List ℕ) → AreVectors f n rows → All (λ k. k < n) ks →
    length cs ≡ length ks →
    combination f (length rows) cs (map (column rows) ks) ≡ map (λ v. dot f cs (digits_at ks v)) rows
combination_of_columns f n rows ks cs h hk lc =
    let t = length rows in
    let columns = map (column rows) ks in
    let hc = AreVectors-columns f n rows ks h hk in
    let v = combination f t cs columns in
    let p : List ℕ → ℕ = λ v. dot f cs (digits_at ks v) in
    let lv = (IsVector-combination f t cs columns hc).len in
    let lp = length-map rows p in
    let lk = length-map ks (column rows) in
    ext_get_or 0 v (map p rows) (lv ∙ sym lp) (λ i l.
    let li : i < t = omega arith in
    digit_of_combination f t i cs columns hc (omega arith) li
    ∙ ap (λ u. dot f u cs) (column_of_columns rows ks i li)
    ∙ dot-comm f (digits_at ks (get_or rows i [])) cs
    ∙ sym (get_or-map p rows i [] 0 li))

-- ---- every list of digits is that of the products with some vector

pub map_dots_of_units : (f : Field) (n : ℕ) (rows : List (List ℕ)) (ks cs : List ℕ) → AreReduced f n rows ks → IsVector f (length rows) cs →
    map (dot f (combination f n cs (units n ks))) rows ≡ cs
map_dots_of_units f n rows ks cs h hc =
    let c = count_leads n 0 rows ks h.leads_are in
    let hk = leads_inside f n rows ks h in
    let hu = AreVectors-units f n ks hk in
    let a = combination f n cs (units n ks) in
    let lm = length-map rows (dot f a) in
    let lc = hc.len in
    ext_get_or 0 (map (dot f a) rows) cs (omega arith) (λ i l.
    let lr : i < length rows = omega arith in
    let lk : i < length ks = omega arith in
    let v = get_or rows i [] in
    let hv : IsVector f n v = h.each i [] lr in
    get_or-map (dot f a) rows i [] 0 lr
    ∙ dot-comm f a v
    ∙ dot-combination f n v cs (units n ks) hu
    ∙ ap (dot f cs) (map_twice n v ks f hv hk ∙ at_leads f n i rows ks h lk)
    ∙ dot-unit f (length ks) i cs (subst (λ k. IsVector f k cs) c hc) lk)
