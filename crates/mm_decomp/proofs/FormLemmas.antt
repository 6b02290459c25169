-- The boundary space of a join by the sum of products below it.
use Rattle.std.proofs.Common.{ℕ, zero, suc, ◌<◌, ◌≡◌, ◌↔◌, List, [], ◌∷◌, length, map, get_or, refl, sym, ap, ap₂, ◌∙◌, subst, arith, ext_get_or, zero-add}
use Rattle.std.specs.List.{range_with_len}
use Rattle.std.proofs.lemmas.List.{length-map, get_or-map, length-replicate, get_or-replicate}
use Rattle.std.proofs.lemmas.List.FromFn.{get_or-range_with_len, length-range_with_len}
use Rattle.mm_field.specs.declared.Field.{Field}
use Rattle.mm_field.specs.Vectors.{zeros, vector_sum, combination, times_matrix, IsVector, AreVectors, InSpan, IsWithin}
use Rattle.mm_field.proofs.VectorLemmas.{vector_sum-zeros, IsVector-zeros}
use Rattle.mm_field.proofs.CombinationLemmas.{first_row, other_rows, combination-none, combination-times_matrix, IsVector-combination}
use Rattle.mm_linear.specs.Coordinates.{unit}
use Rattle.mm_linear.specs.ReducedEchelon.{reduced_basis, IsLeftBasis}
use Rattle.mm_linear.proofs.BasisLemmas.{IsVector-unit}
use Rattle.mm_linear.proofs.PivotLemmas.{count_leads}
use Rattle.mm_linear.proofs.ReducedEchelonLemmas.{reduced_basis_is, reduced_basis-same}
use Rattle.mm_matrix.specs.Columns.{column}
use Rattle.mm_matrix.specs.Orthogonal.{dot, IsOrthogonal}
use Rattle.mm_matrix.specs.Residues.{AreReduced}
use Rattle.mm_matrix.specs.Projections.{units}
use Rattle.mm_matrix.proofs.ColumnLemmas.{digit_of_combination}
use Rattle.mm_matrix.proofs.DotLemmas.{dot-comm, orthogonal_within}
use Rattle.mm_matrix.proofs.FreeLemmas.{combination-unit, range_inside}
use Rattle.mm_matrix.proofs.NullLemmas.{leads_inside, AreVectors-units}
use Rattle.mm_decomp.specs.Meets.{meet}
use Rattle.mm_decomp.proofs.LeadLemmas.{digits_at, combination_of_columns, AreVectors-columns, map_dots_of_units}
use Rattle.mm_matrix.specs.MatrixValue.{MatrixValue}
use Rattle.mm_decomp.specs.Forms.{gathered, sums, all_columns, products, IsBasisOfDependencies}
use Rattle.mm_decomp.proofs.CutLemmas.{dots_below, IsCut, space_is_form}
use Rattle.mm_decomp.proofs.PairLemmas.{gathered-first_reduced}
use Rattle.mm_decomp.proofs.MeetLemmas.{meet_of_rows}

-- ---- rows whose combinations are the gathered sums

pub digits_at_all : (n : ℕ) (v : List ℕ) → length v ≡ n → digits_at (range_with_len 0 n) v ≡ v
digits_at_all n v e =
    let h : ℕ → ℕ = λ j. get_or v j 0 in
    let lm = length-map (range_with_len 0 n) h in
    let lr = length-range_with_len 0 n in
    ext_get_or 0 (map h (range_with_len 0 n)) v (omega arith) (λ i l.
    let li : i < n = omega arith in
    get_or-map h (range_with_len 0 n) i 0 0 (omega arith)
    ∙ ap h (get_or-range_with_len 0 n i 0 li ∙ zero-add i))

dots_at_all : (f : Field) (n : ℕ) (a : List ℕ) (vs : List (List ℕ)) → AreVectors f n vs →
    map (λ v. dot f a (digits_at (range_with_len 0 n) v)) vs ≡ map (dot f a) vs
dots_at_all f n a [] h = refl
dots_at_all f n a (v ∷ vs) h =
    ap₂ (λ x xs. x ∷ xs) (ap (dot f a) (digits_at_all n v (first_row f n v vs h).len)) (dots_at_all f n a vs (other_rows f n v vs h))

-- a combination of all columns
pub combination_of_all_columns : (f : Field) (n : ℕ) (rows : List (List ℕ)) (a : List ℕ) → AreVectors f n rows → length a ≡ n →
    combination f (length rows) a (all_columns n rows) ≡ map (dot f a) rows
combination_of_all_columns f n rows a h e =
    combination_of_columns f n rows (range_with_len 0 n) a h (range_inside n) (e ∙ sym (length-range_with_len 0 n))
    ∙ dots_at_all f n a rows h

pub combination_of_products : (f : Field) (k g : ℕ) (hs ms : List (List ℕ)) (a : List ℕ) → AreVectors f k hs → AreVectors f g ms →
    length a ≡ k → combination f g a (products f k g hs ms) ≡ gathered f g hs ms a
combination_of_products f k g hs ms a hh hm e =
    combination-times_matrix f g (length hs) a (all_columns k hs) ms (AreVectors-columns f k hs (range_with_len 0 k) hh (range_inside k)) hm
    ∙ ap (λ (cs : List ℕ). combination f g cs ms) (combination_of_all_columns f k hs a hh e)

pub AreVectors-images : (f : Field) (g : ℕ) (ms bs : List (List ℕ)) → AreVectors f g ms → AreVectors f g (map (times_matrix f g ms) bs)
AreVectors-images f g ms bs hm = λ i d l.
    let li : i < length bs = (let e = length-map bs (times_matrix f g ms) in omega arith) in
    subst (λ v. IsVector f g v) (sym (get_or-map (times_matrix f g ms) bs i [] d li)) (IsVector-combination f g (get_or bs i []) ms hm)

pub length-all_columns : (n : ℕ) (rows : List (List ℕ)) → length (all_columns n rows) ≡ n
length-all_columns n rows = length-map (range_with_len 0 n) (column rows) ∙ length-range_with_len 0 n

pub length-products : (f : Field) (k g : ℕ) (hs ms : List (List ℕ)) → length (products f k g hs ms) ≡ k
length-products f k g hs ms = length-map (all_columns k hs) (times_matrix f g ms) ∙ length-all_columns k hs

-- ---- the space of a join, as it is found

pub basis_of_sums : (f : Field) (k g : ℕ) (hs ms firsts seconds rows : List (List ℕ)) (ks : List ℕ) → AreVectors f k hs → AreVectors f g ms →
    AreVectors f k firsts → AreVectors f g seconds → AreReduced f k rows ks → IsWithin f k firsts rows →
    ((a : List ℕ) → IsVector f k a → gathered f g firsts seconds a ≡ gathered f g hs ms a) →
    reduced_basis f g (sums f g ks firsts seconds) ≡ reduced_basis f g (products f k g hs ms)
basis_of_sums f k g hs ms firsts seconds rows ks hh hm hf hs2 red w same =
    let S = sums f g ks firsts seconds in
    let P = products f k g hs ms in
    let hS = AreVectors-images f g seconds (map (column firsts) ks) hs2 in
    let hP = AreVectors-images f g ms (all_columns k hs) hm in
    let c = count_leads k 0 rows ks red.leads_are in
    let lS : length S ≡ length ks = length-map (map (column firsts) ks) (times_matrix f g seconds) ∙ length-map ks (column firsts) in
    let lP = length-products f k g hs ms in
    let hu = AreVectors-units f k ks (leads_inside f k rows ks red) in
    let value : (a : List ℕ) → IsVector f k a → gathered f g rows S a ≡ gathered f g hs ms a =
    λ a ha. gathered-first_reduced f k g firsts seconds rows ks a hf hs2 red w ∙ same a ha in
    reduced_basis-same f g S P hS hP (
      (λ j d l.
          let lj : j < length rows = omega arith in
          let cs = unit (length rows) j in
          let hc : IsVector f (length rows) cs = IsVector-unit f (length rows) j lj in
          let a = combination f k cs (units k ks) in
          let ha = IsVector-combination f k cs (units k ks) hu in
          let at : get_or S j [] ≡ gathered f g rows S a =
          sym (combination-unit f g j S hS l)
          ∙ ap (λ (n : ℕ). combination f g (unit n j) S) (lS ∙ sym c)
          ∙ ap (λ (xs : List ℕ). combination f g xs S) (sym (map_dots_of_units f k rows ks cs red hc)) in
          record {
            coefficients = a;
            each = subst (λ n. IsVector f n a) (sym lP) ha;
            sum = combination_of_products f k g hs ms a hh hm ha.len ∙ sym (value a ha) ∙ sym at ∙ same_default S j d l;
          }),
      (λ i d l.
          let li : i < k = omega arith in
          let a = unit k i in
          let ha = IsVector-unit f k i li in
          let at : get_or P i [] ≡ gathered f g rows S a =
          sym (combination-unit f g i P hP l)
          ∙ ap (λ (n : ℕ). combination f g (unit n i) P) lP
          ∙ combination_of_products f k g hs ms a hh hm ha.len ∙ sym (value a ha) in
          record {
            coefficients = map (dot f a) rows;
            each = record { len = length-map rows (dot f a) ∙ c ∙ sym lS; digits = dots_below f a rows };
            sum = sym at ∙ same_default P i d l;
          }),
    )
  where
    same_default : (vs : List (List ℕ)) (i : ℕ) (d : List ℕ) → i < length vs → get_or vs i [] ≡ get_or vs i d
    same_default [] i d l = absurd (omega arith)
    same_default (v ∷ vs) zero d l = refl
    same_default (v ∷ vs) (suc i) d l = same_default vs i d (omega arith)

-- the space of a join, as it is meant
pub meet_of_cut : (f : Field) (k g : ℕ) (hs ms ho mo : List (List ℕ)) → AreVectors f k hs → AreVectors f g ms → AreVectors f g mo →
    IsCut f k g hs ms ho mo → meet f g ms mo ≡ reduced_basis f g (products f k g hs ms)
meet_of_cut f k g hs ms ho mo hh hm hmo cut =
    let P = products f k g hs ms in
    let hP = AreVectors-images f g ms (all_columns k hs) hm in
    let lP = length-products f k g hs ms in
    meet_of_rows f g ms mo P hm hmo hP (λ v hv.
    let both = space_is_form f k g hs ms ho mo hm hmo cut v in (
      (λ p.
          let ha : IsVector f k p.coefficients = subst (λ n. IsVector f n p.coefficients) lP p.each in
          both.1 (record { a = p.coefficients; vector = ha; value = sym (combination_of_products f k g hs ms p.coefficients hh hm ha.len) ∙ p.sum })),
      (λ q.
          let w = both.0 q in
          record {
            coefficients = w.a;
            each = subst (λ n. IsVector f n w.a) (sym lP) w.vector;
            sum = combination_of_products f k g hs ms w.a hh hm w.vector.len ∙ w.value;
          }),
    ))

-- ---- the dependencies of all columns

-- vectors that are orthogonal to the rows of the columns combine the columns to zero, and back
pub zero_from_orthogonal : (f : Field) (g : ℕ) (ms : List (List ℕ)) (x : List ℕ) → AreVectors f g ms → length x ≡ length ms →
    IsOrthogonal f (all_columns g ms) x → combination f g x ms ≡ zeros g
zero_from_orthogonal f g ms x h e o =
    let long = (IsVector-combination f g x ms h).len in
    ext_get_or 0 (combination f g x ms) (zeros g) (long ∙ sym (length-replicate g 0)) (λ i l.
    let li : i < g = omega arith in
    let n = length-all_columns g ms in
    let r = length-range_with_len 0 g in
    digit_of_combination f g i x ms h e li
    ∙ sym (ap (λ (v : List ℕ). dot f v x)
    (get_or-map (column ms) (range_with_len 0 g) i 0 [] (omega arith) ∙ ap (column ms) (get_or-range_with_len 0 g i 0 li ∙ zero-add i)))
    ∙ o i [] (omega arith)
    ∙ sym (get_or-replicate g i 0 0 li))

pub orthogonal_from_zero : (f : Field) (g : ℕ) (ms : List (List ℕ)) (x : List ℕ) → AreVectors f g ms → length x ≡ length ms →
    combination f g x ms ≡ zeros g → IsOrthogonal f (all_columns g ms) x
orthogonal_from_zero f g ms x h e z = λ i d l.
    let n = length-all_columns g ms in
    let r = length-range_with_len 0 g in
    let li : i < g = omega arith in
    ap (λ (v : List ℕ). dot f v x)
    (get_or-map (column ms) (range_with_len 0 g) i 0 d (omega arith) ∙ ap (column ms) (get_or-range_with_len 0 g i 0 li ∙ zero-add i))
    ∙ sym (digit_of_combination f g i x ms h e li) ∙ ap (λ (v : List ℕ). get_or v i 0) z ∙ get_or-replicate g i 0 0 li

-- the products with a vector, and its combination of rows
pub products_with_columns : (f : Field) (n m : ℕ) (null : List (List ℕ)) (a : List ℕ) → AreVectors f n null → length a ≡ length null → m ≡ n →
    map (dot f a) (all_columns m null) ≡ combination f n a null
products_with_columns f n m null a h e em =
    let hs = all_columns m null in
    let v = combination f n a null in
    let lm = length-map hs (dot f a) in
    let lh = length-all_columns m null in
    let lr = length-range_with_len 0 m in
    let lv = (IsVector-combination f n a null h).len in
    ext_get_or 0 (map (dot f a) hs) v (omega arith) (λ i l.
    let li : i < m = omega arith in
    get_or-map (dot f a) hs i [] 0 (omega arith)
    ∙ ap (dot f a) (get_or-map (column null) (range_with_len 0 m) i 0 [] (omega arith) ∙ ap (column null) (get_or-range_with_len 0 m i 0 li ∙ zero-add i))
    ∙ dot-comm f a (column null i)
    ∙ sym (digit_of_combination f n i a null h e (omega arith)))

-- rows that span all vectors that are orthogonal to the rows of some columns tell their dependencies
pub dependencies_of_null : (f : Field) (g : ℕ) (ms null : List (List ℕ)) (basis : MatrixValue) → AreVectors f g ms → AreVectors f (length ms) null →
    ((x : List ℕ) → IsVector f (length ms) x → InSpan f (length ms) null x ↔ IsOrthogonal f (reduced_basis f (length ms) (all_columns g ms)) x) →
    basis ≡ record { f = f; cols = length null; rows = all_columns (length ms) null } →
    IsBasisOfDependencies (record { f = f; cols = g; rows = ms }) basis
dependencies_of_null f g ms null basis hm hn exactly e =
    subst (λ b. IsBasisOfDependencies (record { f = f; cols = g; rows = ms }) b) (sym e) (record {
      each = hm;
      each_vector = AreVectors-columns f n null (range_with_len 0 n) hn (range_inside n);
      field = refl;
      count = length-all_columns n null;
      balanced = λ a ha.
          let x = combination f n a null in
          let hx = IsVector-combination f n a null hn in
          let inside : InSpan f n null x = record { coefficients = a; each = ha; sum = refl } in
          let o = orthogonal_within f n rows R x b.each b.span.0 ((exactly x hx).0 inside) in
          ap (λ (cs : List ℕ). combination f g cs ms) (products_with_columns f n n null a hn ha.len refl) ∙ zero_from_orthogonal f g ms x hm hx.len o;
      solved = λ x hx none.
          let orth = orthogonal_within f n R rows x hr b.span.1 (orthogonal_from_zero f g ms x hm hx.len none) in
          let p = (exactly x hx).1 orth in
          record {
            a = p.coefficients;
            vector = p.each;
            products = products_with_columns f n n null p.coefficients hn p.each.len refl ∙ p.sum;
          };
    })
  where
    n : ℕ
    n = length ms

    rows : List (List ℕ)
    rows = all_columns g ms

    hr : AreVectors f n rows
    hr = AreVectors-columns f g ms (range_with_len 0 g) hm (range_inside g)

    R : List (List ℕ)
    R = reduced_basis f n rows

    b : IsLeftBasis f n rows R
    b = reduced_basis_is f n rows hr

-- nothing lies outside all columns
pub cut_at_root : (columns basis : MatrixValue) → IsBasisOfDependencies columns basis →
    IsCut columns.f basis.cols columns.cols basis.rows columns.rows [] []
cut_at_root m b d = record {
  count = d.count;
  count_outside = refl;
  balanced = λ a ha.
      ap (λ u. vector_sum m.f u (zeros m.cols)) (d.balanced a ha) ∙ vector_sum-zeros m.f m.cols (zeros m.cols) (IsVector-zeros m.f m.cols);
  solved = λ x o hx ho z.
      let v = combination m.f m.cols x m.rows in
      let none : v ≡ zeros m.cols =
      sym (vector_sum-zeros m.f m.cols v (IsVector-combination m.f m.cols x m.rows d.each))
      ∙ ap (vector_sum m.f v) (sym (combination-none m.f m.cols o)) ∙ z in
      let s = d.solved x hx none in
      record { a = s.a; vector = s.vector; below = s.products; outside = sym (empty o ho.len) };
}
  where
    empty : (o : List ℕ) → length o ≡ 0 → o ≡ []
    empty [] e = refl
    empty (d ∷ o) e = absurd (omega arith)
