-- The operator of a join is valid, and its matrices are written and read back.
use Rattle.std.proofs.Common.{ℕ, zero, suc, ◌+◌, ◌-◌, ◌<◌, ◌≤◌, ◌≡◌, Bool, true, false, List, [], ◌∷◌, ◌++◌, length, map, get_or, refl, sym, ap, ap₂, ◌∙◌, subst, arith, append_assoc, length-append, ext_get_or, zero-add, take, drop, take_all, Some}
use Rattle.std.specs.Prelude.{if◌then◌else◌}
use Rattle.std.specs.List.{range_with_len}
use Rattle.std.proofs.lemmas.List.FromFn.{get_or-range_with_len, length-range_with_len}
use Rattle.std.proofs.Common.{length-take-le, length-drop, get_or-drop}
use Rattle.std.proofs.Math.Seq.{drop-cons}
use Rattle.std.proofs.lemmas.List.{length-map, get_or-map, take_more, take_at, drop_at, map-append}
use Rattle.std.proofs.lemmas.List.Elements.{All-nil, All-cons, All-append, All-head, All-tail, All-take, All-drop}
use Rattle.mm_field.specs.declared.Field.{Field}
use Rattle.mm_field.specs.Vectors.{zeros, combination, times_matrix, IsVector, AreVectors, InSpan, IsWithin, AreIndependent}
use Rattle.mm_field.proofs.CombinationLemmas.{first_row, other_rows, combination-times_matrix, combination-zeros}
use Rattle.mm_linear.specs.Coordinates.{coordinates}
use Rattle.mm_linear.specs.Decide.{is_in_span}
use Rattle.mm_linear.specs.ReducedEchelon.{reduced_basis, IsReducedBasis}
use Rattle.mm_linear.proofs.CoordinateLemmas.{IsVector-coordinates, coordinates_combine}
use Rattle.mm_linear.proofs.FirstUnits.{first_units_independent, first_units_are, first_units_count}
use Rattle.mm_linear.proofs.ReducedEchelonLemmas.{reduced_basis_is}
use Rattle.mm_logic.specs.Operator.{IsBoundary, IsValidOp}
use Rattle.mm_matrix.specs.MatrixValue.{MatrixValue}
use Rattle.mm_matrix.specs.Columns.{column}
use Rattle.mm_matrix.specs.Residues.{AreReduced}
use Rattle.mm_linear.proofs.PivotLemmas.{count_leads}
use Rattle.mm_matrix.proofs.ColumnLemmas.{IsVector-column}
use Rattle.mm_matrix.proofs.FreeLemmas.{reduced_independent}
use Rattle.mm_matrix.proofs.NullLemmas.{leads_inside}
use Rattle.mm_decomp.proofs.FormLemmas.{length-all_columns}
use Rattle.mm_space.specs.VectorText.{vector_text, joined_text, gen_text}
use Rattle.mm_space.specs.DigitTexts.{vectors_of}
use Rattle.mm_space.proofs.DigitTextLemmas.{vectors_of_text}
use Rattle.mm_decomp.specs.BuiltTree.{operator_in, built_operator}
use Rattle.mm_decomp.specs.Forms.{all_columns, AreCoordinates}
use Rattle.mm_decomp.specs.Meets.{extended}
use Rattle.mm_decomp.proofs.LeadLemmas.{AreVectors-columns}
use Rattle.mm_decomp.proofs.FrameLemmas.{picked, picked_is_extended, extended_front, vector_by_column, coordinates_are_column, dependencies_at_leads}

-- ---- how long an extended list is

pub extended_least : (f : Field) (g : ℕ) (list rows : List (List ℕ)) → length list ≤ length (extended f g list rows)
extended_least f g list [] = omega arith
extended_least f g list (v ∷ vs) = go (is_in_span f g list v) (λ l. extended_least f g l vs)
  where
    go : (b : Bool) → ((l : List (List ℕ)) → length l ≤ length (extended f g l vs)) →
        length list ≤ length (extended f g (if b then list else list ++ v ∷ []) vs)
    go true ih = ih list
    go false ih = let a = ih (list ++ v ∷ []) in omega (arith, a, length-append list (v ∷ []))

pub extended_vectors : (f : Field) (g : ℕ) (list rows : List (List ℕ)) → AreVectors f g list → AreVectors f g rows → AreVectors f g (extended f g list rows)
extended_vectors f g list [] hl hr = hl
extended_vectors f g list (v ∷ vs) hl hr = go (is_in_span f g list v) (λ l h. extended_vectors f g l vs h (other_rows f g v vs hr))
  where
    go : (b : Bool) → ((l : List (List ℕ)) → AreVectors f g l → AreVectors f g (extended f g l vs)) →
        AreVectors f g (extended f g (if b then list else list ++ v ∷ []) vs)
    go true ih = ih list hl
    go false ih =
        ih (list ++ v ∷ []) (All-append (λ v. IsVector f g v) list (v ∷ []) hl
        (All-cons (λ v. IsVector f g v) v [] (first_row f g v vs hr) (All-nil (λ v. IsVector f g v))))

pub extended_most : (f : Field) (g : ℕ) (list rows : List (List ℕ)) → length (extended f g list rows) ≤ length list + length rows
extended_most f g list [] = omega arith
extended_most f g list (v ∷ vs) = go (is_in_span f g list v) (λ l. extended_most f g l vs)
  where
    go : (b : Bool) → ((l : List (List ℕ)) → length (extended f g l vs) ≤ length l + length vs) →
        length (extended f g (if b then list else list ++ v ∷ []) vs) ≤ length list + length (v ∷ vs)
    go true ih = let a = ih list in omega (arith, a)
    go false ih = let a = ih (list ++ v ∷ []) in omega (arith, a, length-append list (v ∷ []))

-- ---- coordinates keep rows independent

pub basis_independent : (f : Field) (g : ℕ) (rows : List (List ℕ)) → IsReducedBasis f g rows → AreIndependent f g rows
basis_independent f g rows h =
    let b = reduced_basis_is f g rows h.each in
    reduced_independent f g rows b.leads
    (subst (λ (xs : List (List ℕ)). AreReduced f g xs b.leads) h.own (record { each = b.each; leads_are = b.echelon; clear = b.reduced }))

pub coordinates_back : (f : Field) (g : ℕ) (list rows : List (List ℕ)) → AreVectors f g list → AreVectors f g rows → IsWithin f g rows list →
    map (times_matrix f g list) (map (coordinates f g list) rows) ≡ rows
coordinates_back f g list [] hl hr w = refl
coordinates_back f g list (v ∷ rows) hl hr w =
    ap₂ (λ x xs. x ∷ xs) (coordinates_combine f g list v hl (first_row f g v rows hr) (All-head (λ v. InSpan f g list v) v rows w))
    (coordinates_back f g list rows hl (other_rows f g v rows hr) (All-tail (λ v. InSpan f g list v) v rows w))

pub coordinate_vectors : (f : Field) (g : ℕ) (list rows : List (List ℕ)) → AreVectors f (length list) (map (coordinates f g list) rows)
coordinate_vectors f g list rows = λ i d l.
    let li : i < length rows = (let e = length-map rows (coordinates f g list) in omega arith) in
    subst (λ v. IsVector f (length list) v) (sym (get_or-map (coordinates f g list) rows i [] d li)) (IsVector-coordinates f g list (get_or rows i []))

coordinates_independent : (f : Field) (g : ℕ) (list rows : List (List ℕ)) → AreVectors f g list → AreVectors f g rows → IsWithin f g rows list →
    AreIndependent f g rows → AreIndependent f (length list) (map (coordinates f g list) rows)
coordinates_independent f g list rows hl hr w ind cs each e =
    let bs = map (coordinates f g list) rows in
    let l = length-map rows (coordinates f g list) in
    let same : combination f g cs rows ≡ zeros g =
    ap (combination f g cs) (sym (coordinates_back f g list rows hl hr w))
    ∙ combination-times_matrix f g (length list) cs bs list (coordinate_vectors f g list rows) hl
    ∙ ap (λ (xs : List ℕ). combination f g xs list) e ∙ combination-zeros f g (length list) list hl in
    ind cs (subst (λ n. IsVector f n cs) l each) same ∙ ap zeros (sym l)

boundary_of : (f : Field) (g r t : ℕ) (list rows : List (List ℕ)) → r ≡ length list → t ≡ length rows → AreVectors f g list → IsWithin f g rows list →
    IsReducedBasis f g rows → IsBoundary f t r (map (coordinates f g list) rows)
boundary_of f g r t list rows er et hl w h = record {
  count = length-map rows (coordinates f g list) ∙ sym et;
  rows = subst (λ n. AreVectors f n (map (coordinates f g list) rows)) (sym er) (coordinate_vectors f g list rows);
  independent =
      subst (λ n. AreIndependent f n (map (coordinates f g list) rows)) (sym er)
      (coordinates_independent f g list rows hl h.each w (basis_independent f g rows h));
}

-- the operator of a join is valid
pub operator_is_valid : (f : Field) (g : ℕ) (list basis first second : List (List ℕ)) → AreVectors f g list → length basis ≤ length list →
    length list ≤ length basis + (length first + length second) → IsWithin f g first list → IsWithin f g second list →
    IsReducedBasis f g first → IsReducedBasis f g second → length basis ≤ 6 → length first ≤ 6 → length second ≤ 6 →
    IsValidOp f (operator_in f g list basis first second)
operator_is_valid f g list basis first second hl least most w1 w2 h1 h2 l3 l1 l2 =
    let t = length basis in
    let c = length list - length basis in
    let r : t + c ≡ length list = omega arith in
    record {
      sizes = (l1, l2, l3, omega arith);
      first = boundary_of f g (t + c) (length first) list first r refl hl w1 h1;
      second = boundary_of f g (t + c) (length second) list second r refl hl w2 h2;
      third = record {
        count = first_units_count (t + c) t;
        rows = first_units_are f t c;
        independent = first_units_independent f t c;
      };
    }

-- ---- the coordinates that are found

pub coordinates_found : (f : Field) (g : ℕ) (all : List (List ℕ)) (ls : List ℕ) → AreVectors f g all → AreReduced f g (reduced_basis f g all) ls →
    IsWithin f g all (reduced_basis f g all) →
    IsWithin f g all (extended f g [] all)
    × (length (reduced_basis f (length all) (map (column all) ls)) ≡ length (extended f g [] all))
    × (all_columns (length all) (reduced_basis f (length all) (map (column all) ls)) ≡ map (coordinates f g (extended f g [] all)) all)
coordinates_found f g all ls h red within =
    let m = length all in
    let hD = AreVectors-columns f g all ls h (leads_inside f g (reduced_basis f g all) ls red) in
    let b = reduced_basis_is f m (map (column all) ls) hD in
    let R = reduced_basis f m (map (column all) ls) in
    let ks = b.leads in
    let redR : AreReduced f m R ks = record { each = b.each; leads_are = b.echelon; clear = b.reduced } in
    let dep = dependencies_at_leads f g all (reduced_basis f g all) R ls h red within b.each b.span.0 b.span.1 in
    let list = extended f g [] all in
    let e : list ≡ picked all ks = picked_is_extended f g all R ks h redR dep in
    let c : length R ≡ length list = count_leads m 0 R ks b.echelon ∙ sym (length-map ks (λ k. get_or all k [])) ∙ sym (ap length e) in
    let lh = length-map all (coordinates f g list) in
    let la = length-all_columns m R in
    let lr = length-range_with_len 0 m in (
      (λ j d l. subst (λ xs. InSpan f g xs (get_or all j d)) (sym e) (record {
        coefficients = column R j;
        each = subst (λ n. IsVector f n (column R j)) (c ∙ ap length e) (IsVector-column f m j R b.each l);
        sum = vector_by_column f g all R ks j h redR dep l ∙ same_default all j d l;
      })),
      c,
      ext_get_or [] (all_columns m R) (map (coordinates f g list) all) (omega arith) (λ j lj.
          let l : j < m = omega arith in
          get_or-map (column R) (range_with_len 0 m) j 0 [] (omega arith) ∙ ap (column R) (get_or-range_with_len 0 m j 0 l ∙ zero-add j)
          ∙ sym (coordinates_are_column f g all R ks j h redR dep l)
          ∙ ap (λ (xs : List (List ℕ)). coordinates f g xs (get_or all j [])) (sym e)
          ∙ sym (get_or-map (coordinates f g list) all j [] [] l)),
    )
  where
    same_default : (vs : List (List ℕ)) (i : ℕ) (d : List ℕ) → i < length vs → get_or vs i [] ≡ get_or vs i d
    same_default [] i d l = absurd (omega arith)
    same_default (v ∷ vs) zero d l = refl
    same_default (v ∷ vs) (suc i) d l = same_default vs i d (omega arith)

-- ---- texts of rows

pub joined_more : (v w : List ℕ) (vs : List (List ℕ)) → joined_text v (vs ++ w ∷ []) ≡ (joined_text v vs ++ 47 ∷ []) ++ vector_text w
joined_more v w [] = sym (append_assoc (vector_text v) (47 ∷ []) (vector_text w))
joined_more v w (u ∷ vs) =
    ap (λ (t : List ℕ). vector_text v ++ 47 ∷ t) (joined_more u w vs)
    ∙ sym (append_assoc (vector_text v) (47 ∷ (joined_text u vs ++ 47 ∷ [])) (vector_text w))
    ∙ ap (λ (t : List ℕ). t ++ vector_text w) (sym (append_assoc (vector_text v) (47 ∷ joined_text u vs) (47 ∷ [])))

-- rows of digits are read back
pub rows_back : (f : Field) (n from count : ℕ) (rows : List (List ℕ)) (t : List ℕ) → AreVectors f n rows → n ≤ 18 → count ≤ 6 →
    from + count ≤ length rows → t ≡ gen_text (take count (drop from rows)) → vectors_of f t ≡ Some (take count (drop from rows))
rows_back f n from count rows t h short few l e =
    let some = take count (drop from rows) in
    let each : AreVectors f n some = All-take (λ v. IsVector f n v) count (drop from rows) (All-drop (λ v. IsVector f n v) from rows h) in
    vectors_of_text f some t (record {
      digits = λ i d li. (each i d li).digits;
      short = λ i d li. (let a = (each i d li).len in omega (arith, a, short));
      few = (let a = length-take-le count (drop from rows) (let b = length-drop from rows in omega arith) in omega (arith, a));
      text = e;
    })

joined_rows : (rows : List (List ℕ)) (from count : ℕ) → 0 < count → from + count ≤ length rows →
    joined_text (get_or rows from []) (take (count - 1) (drop (from + 1) rows)) ≡ gen_text (take count (drop from rows))
joined_rows rows from zero p l = absurd (omega arith)
joined_rows rows from (suc n) p l =
    ap₂ (λ (k : ℕ) (vs : List (List ℕ)). joined_text (get_or rows from []) (take k vs)) (let e : suc n - 1 ≡ n = omega arith in e)
    (ap (λ (k : ℕ). drop k rows) (let e : from + 1 ≡ suc from = omega arith in e))
    ∙ ap (λ (vs : List (List ℕ)). gen_text (take (suc n) vs)) (sym (drop-cons rows from [] (omega arith)))

pub rows_text_done : (rows : List (List ℕ)) (from count i : ℕ) (t : List ℕ) → 0 < count → from + count ≤ length rows → i ≡ count →
    t ≡ joined_text (get_or rows from []) (take (i - 1) (drop (from + 1) rows)) → t ≡ gen_text (take count (drop from rows))
rows_text_done rows from count i t p l e h =
    h ∙ ap (λ (k : ℕ). joined_text (get_or rows from []) (take (k - 1) (drop (from + 1) rows))) e ∙ joined_rows rows from count p l

pub rows_text_step : (rows : List (List ℕ)) (from i : ℕ) (w : List ℕ) → 0 < i → from + i < length rows → w ≡ get_or rows (from + i) [] →
    (joined_text (get_or rows from []) (take (i - 1) (drop (from + 1) rows)) ++ 47 ∷ []) ++ vector_text w
    ≡ joined_text (get_or rows from []) (take (i + 1 - 1) (drop (from + 1) rows))
rows_text_step rows from zero w p l e = absurd (omega arith)
rows_text_step rows from (suc n) w p l e =
    let v = get_or rows from [] in
    let vs = drop (from + 1) rows in
    let k : suc n - 1 ≡ n = omega arith in
    let k2 : suc n + 1 - 1 ≡ n + 1 = omega arith in
    let ld = length-drop (from + 1) rows in
    let at : get_or vs n [] ≡ w = get_or-drop (from + 1) rows n [] ∙ ap (λ (j : ℕ). get_or rows j []) (let q : from + 1 + n ≡ from + suc n = omega arith in q) ∙ sym e in
    ap (λ (j : ℕ). (joined_text v (take j vs) ++ 47 ∷ []) ++ vector_text w) k
    ∙ sym (joined_more v w (take n vs))
    ∙ ap (λ (u : List ℕ). joined_text v (take n vs ++ u ∷ [])) (sym at)
    ∙ ap (joined_text v) (sym (take_more vs n [] (omega arith)))
    ∙ ap (λ (j : ℕ). joined_text v (take j vs)) (sym k2)

-- ---- the operator that is found

take_middle : {X : Type 0} (xs ys zs : List X) → take (length ys) (drop (length xs) ((xs ++ ys) ++ zs)) ≡ ys
take_middle xs ys zs =
    ap (λ vs. take (length ys) (drop (length xs) vs)) (append_assoc xs ys zs)
    ∙ ap (take (length ys)) (drop_at xs (ys ++ zs) (length xs) refl) ∙ take_at ys zs (length ys) refl

take_last : {X : Type 0} (xs ys zs : List X) (n : ℕ) → n ≡ length xs + length ys → take (length zs) (drop n ((xs ++ ys) ++ zs)) ≡ zs
take_last xs ys zs n e =
    ap (take (length zs)) (drop_at (xs ++ ys) zs n (length-append xs ys ∙ sym e)) ∙ take_all (length zs) zs (let q : length zs ≡ length zs = refl in omega arith)

-- what is found for the bases of a join and of its children
pub record IsFound (f : Field) (g : ℕ) (basis first second : List (List ℕ)) (found : MatrixValue) : Type 0 where
  pub field : found.f ≡ f
  pub size : found.cols ≡ length (extended f g basis (first ++ second))
  pub short : found.cols ≤ 18
  pub count : length found.rows ≡ length basis + length first + length second
  pub first_is : take (length first) (drop (length basis) found.rows) ≡ (built_operator f g basis first second).g1
  pub second_is : take (length second) (drop (length basis + length first) found.rows) ≡ (built_operator f g basis first second).g2
  pub valid : IsValidOp f (built_operator f g basis first second)

pub is_found : (f : Field) (g : ℕ) (basis first second : List (List ℕ)) (found : MatrixValue) →
    IsReducedBasis f g basis → IsReducedBasis f g first → IsReducedBasis f g second → length basis ≤ 6 → length first ≤ 6 → length second ≤ 6 →
    AreCoordinates (record { f = f; cols = g; rows = (basis ++ first) ++ second }) found → IsFound f g basis first second found
is_found f g b x y found hb hx hy lb lx ly a =
    let all = (b ++ x) ++ y in
    let own = extended f g [] all in
    let list = extended f g b (x ++ y) in
    let hxy = All-append (λ v. IsVector f g v) x y hx.each hy.each in
    let none = All-nil (λ v. IsVector f g v) in
    let same : own ≡ list =
    ap (extended f g []) (append_assoc b x y) ∙ extended_front f g [] b (x ++ y) none hb.each (basis_independent f g b hb) in
    let h = coordinates f g list in
    let rows : found.rows ≡ (map h b ++ map h x) ++ map h y =
    ap (λ (m : MatrixValue). m.rows) a.found_is ∙ ap (λ (l : List (List ℕ)). map (coordinates f g l) all) same
    ∙ map-append h (b ++ x) y ∙ ap (λ (vs : List (List ℕ)). vs ++ map h y) (map-append h b x) in
    let size : found.cols ≡ length list = ap (λ (m : MatrixValue). m.cols) a.found_is ∙ ap length same in
    let lmb = length-map b h in
    let lmx = length-map x h in
    let lmy = length-map y h in
    let lxy = length-append x y in
    let least = extended_least f g b (x ++ y) in
    let most = extended_most f g b (x ++ y) in
    let within : IsWithin f g all list = subst (λ (l : List (List ℕ)). IsWithin f g all l) same a.within in
    let front : IsWithin f g (b ++ x) list =
    subst (λ (vs : List (List ℕ)). IsWithin f g vs list) (take_at (b ++ x) y (length (b ++ x)) refl)
    (All-take (λ v. InSpan f g list v) (length (b ++ x)) all within) in
    let wx : IsWithin f g x list =
    subst (λ (vs : List (List ℕ)). IsWithin f g vs list) (drop_at b x (length b) refl) (All-drop (λ v. InSpan f g list v) (length b) (b ++ x) front) in
    let wy : IsWithin f g y list =
    subst (λ (vs : List (List ℕ)). IsWithin f g vs list) (drop_at (b ++ x) y (length (b ++ x)) refl)
    (All-drop (λ v. InSpan f g list v) (length (b ++ x)) all within) in
    record {
      field = ap (λ (m : MatrixValue). m.f) a.found_is;
      size = size;
      short = omega (arith, size, most, lxy, lb, lx, ly);
      count =
          ap length rows ∙ length-append (map h b ++ map h x) (map h y) ∙ ap (λ n. n + length (map h y)) (length-append (map h b) (map h x))
          ∙ omega (arith, lmb, lmx, lmy);
      first_is =
          ap₂ (λ (k n : ℕ). take k (drop n found.rows)) (sym lmx) (sym lmb)
          ∙ ap (λ (vs : List (List ℕ)). take (length (map h x)) (drop (length (map h b)) vs)) rows ∙ take_middle (map h b) (map h x) (map h y);
      second_is =
          ap₂ (λ (k n : ℕ). take k (drop n found.rows)) (sym lmy) (ap₂ (λ i j. i + j) (sym lmb) (sym lmx))
          ∙ ap (λ (vs : List (List ℕ)). take (length (map h y)) (drop (length (map h b) + length (map h x)) vs)) rows
          ∙ take_last (map h b) (map h x) (map h y) (length (map h b) + length (map h x)) refl;
      valid =
          operator_is_valid f g list b x y (extended_vectors f g b (x ++ y) hb.each hxy) least (omega (arith, most, lxy)) wx wy hx hy lb lx ly;
    }
