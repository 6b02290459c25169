-- Rows in another order, and a basis among rows: what spans and independence make of them.
use Rattle.std.proofs.Common.{◌≡◌, ℕ, zero, suc, ◌+◌, ◌<◌, ◌↔◌, ◌⊎◌, inl, inr, Bool, true, false, List, [], ◌∷◌, ◌++◌, length, get_or, set, take, drop, refl, sym, ap, ap₂, ◌∙◌, subst, arith, length-append, take-append-drop}
use Rattle.std.specs.List.{items_where_true}
use Rattle.std.proofs.lemmas.Bool.{cases_Bool, both_ways}
use Rattle.std.proofs.lemmas.List.Elements.{All-nil, All-cons, All-weaker, All-get_or}
use Rattle.mm_field.specs.declared.Field.{Field}
use Rattle.mm_field.specs.Digits.{order, negative}
use Rattle.mm_field.specs.Vectors.{zeros, vector_sum, multiple, combination, IsVector, AreVectors, InSpan, AreIndependent, IsWithin}
use Rattle.mm_field.proofs.VectorLemmas.{vector_sum_comm, vector_sum_assoc, zeros-vector_sum, opposite-vector_sum, IsVector-zeros, IsVector-multiple}
use Rattle.mm_field.proofs.CombinationLemmas.{first_row, other_rows, combination-append, combination-multiple, combination-zeros, IsVector-combination, InSpan-multiple, InSpan-one_more, InSpan-first, InSpan-within, IsWithin-itself, IsWithin-within}
use Rattle.mm_field.proofs.PartLemmas.{IsVector-take, IsVector-drop, IsVector-append, zeros-append, append_parts}
use Rattle.mm_linear.specs.Decide.{is_in_span}
use Rattle.mm_linear.proofs.MeetTest.{is_in_span_decides}
use Rattle.mm_linear.proofs.SubspaceLemmas.{from_sum}
use Rattle.mm_linear.proofs.IndependenceLemmas.{independent_more, independent_rest, independent_outside, none_independent}
use Rattle.mm_minor.proofs.SubsetLemmas.{All-chosen}

-- two lists of rows with the same span that are both independent or both dependent
pub record AreAlike (f : Field) (n : ℕ) (A B : List (List ℕ)) : Type 0 where
  pub first : AreVectors f n A
  pub second : AreVectors f n B
  pub there : IsWithin f n A B
  pub back : IsWithin f n B A
  pub independent : AreIndependent f n A ↔ AreIndependent f n B

pub alike_itself : (f : Field) (n : ℕ) (A : List (List ℕ)) → AreVectors f n A → AreAlike f n A A
alike_itself f n A h = record {
  first = h;
  second = h;
  there = IsWithin-itself f n A h;
  back = IsWithin-itself f n A h;
  independent = ((λ i. i), (λ i. i));
}

pub alike_then : (f : Field) (n : ℕ) (A B C : List (List ℕ)) → AreAlike f n A B → AreAlike f n B C → AreAlike f n A C
alike_then f n A B C p q = record {
  first = p.first;
  second = q.second;
  there = IsWithin-within f n A B C q.second p.there q.there;
  back = IsWithin-within f n C B A p.first q.back p.back;
  independent = ((λ i. q.independent.0 (p.independent.0 i)), (λ i. p.independent.1 (q.independent.1 i)));
}

within_more : (f : Field) (n : ℕ) (v : List ℕ) (A B : List (List ℕ)) → IsVector f n v → AreVectors f n B → IsWithin f n A B → IsWithin f n (v ∷ A) (v ∷ B)
within_more f n v A B hv hB h =
    All-cons (λ u. InSpan f n (v ∷ B) u) v A (InSpan-first f n v B hv hB)
    (All-weaker (λ u. InSpan f n B u) (λ u. InSpan f n (v ∷ B) u) (λ u p. InSpan-one_more f n v B u hv hB p) A h)

independent_too : (f : Field) (n : ℕ) (v : List ℕ) (A B : List (List ℕ)) → IsVector f n v → AreVectors f n A → AreVectors f n B → IsWithin f n B A
    → (AreIndependent f n A → AreIndependent f n B) → AreIndependent f n (v ∷ A) → AreIndependent f n (v ∷ B)
independent_too f n v A B hv hA hB within i h =
    independent_more f n v B hv hB (i (independent_rest f n v A hv h))
    (λ p. independent_outside f n v A hv h (InSpan-within f n B A v hA within p))

pub alike_more : (f : Field) (n : ℕ) (v : List ℕ) (A B : List (List ℕ)) → IsVector f n v → AreAlike f n A B → AreAlike f n (v ∷ A) (v ∷ B)
alike_more f n v A B hv p = record {
  first = All-cons (λ u. IsVector f n u) v A hv p.first;
  second = All-cons (λ u. IsVector f n u) v B hv p.second;
  there = within_more f n v A B hv p.second p.there;
  back = within_more f n v B A hv p.first p.back;
  independent = (
    independent_too f n v A B hv p.first p.second p.back p.independent.0,
    independent_too f n v B A hv p.second p.first p.there p.independent.1,
  );
}

turned : (f : Field) (n : ℕ) (u v : List ℕ) (A : List (List ℕ)) → AreIndependent f n (u ∷ v ∷ A) → AreIndependent f n (v ∷ u ∷ A)
turned f n u v A h [] each e = absurd (let l = each.len in omega (arith, l))
turned f n u v A h (a ∷ []) each e = absurd (let l = each.len in omega (arith, l))
turned f n u v A h (a ∷ b ∷ ds) each e =
    let rest = combination f n ds A in
    let x = multiple f a v in
    let y = multiple f b u in
    let swapped : vector_sum f y (vector_sum f x rest) ≡ vector_sum f x (vector_sum f y rest) =
    sym (vector_sum_assoc f y x rest) ∙ ap (λ z. vector_sum f z rest) (vector_sum_comm f y x) ∙ vector_sum_assoc f x y rest in
    let each' : IsVector f (length (u ∷ v ∷ A)) (b ∷ a ∷ ds) = record {
      len = each.len;
      digits =
          All-cons (λ d. d < order f) b (a ∷ ds) (each.digits 1 0 (omega arith))
          (All-cons (λ d. d < order f) a ds (each.digits 0 0 (omega arith)) (λ k d l. each.digits (suc (suc k)) d (omega (arith, l))));
    } in
    let zero_all = h (b ∷ a ∷ ds) each' (swapped ∙ e) in
    ap₂ (λ s t. s ∷ t) (ap (λ (zs : List ℕ). get_or zs 1 0) zero_all)
    (ap₂ (λ s t. s ∷ t) (ap (λ (zs : List ℕ). get_or zs 0 0) zero_all) (ap (λ (zs : List ℕ). drop 2 zs) zero_all))

swapped_within : (f : Field) (n : ℕ) (u v : List ℕ) (A : List (List ℕ)) → IsVector f n u → IsVector f n v → AreVectors f n A → IsWithin f n (u ∷ v ∷ A) (v ∷ u ∷ A)
swapped_within f n u v A hu hv hA =
    let hu' = All-cons (λ w. IsVector f n w) u A hu hA in
    All-cons (λ w. InSpan f n (v ∷ u ∷ A) w) u (v ∷ A) (InSpan-one_more f n v (u ∷ A) u hv hu' (InSpan-first f n u A hu hA))
    (All-cons (λ w. InSpan f n (v ∷ u ∷ A) w) v A (InSpan-first f n v (u ∷ A) hv hu')
    (All-weaker (λ w. InSpan f n A w) (λ w. InSpan f n (v ∷ u ∷ A) w)
    (λ w p. InSpan-one_more f n v (u ∷ A) w hv hu' (InSpan-one_more f n u A w hu hA p)) A (IsWithin-itself f n A hA)))

pub alike_swapped : (f : Field) (n : ℕ) (u v : List ℕ) (A : List (List ℕ)) → IsVector f n u → IsVector f n v → AreVectors f n A → AreAlike f n (u ∷ v ∷ A) (v ∷ u ∷ A)
alike_swapped f n u v A hu hv hA = record {
  first = All-cons (λ w. IsVector f n w) u (v ∷ A) hu (All-cons (λ w. IsVector f n w) v A hv hA);
  second = All-cons (λ w. IsVector f n w) v (u ∷ A) hv (All-cons (λ w. IsVector f n w) u A hu hA);
  there = swapped_within f n u v A hu hv hA;
  back = swapped_within f n v u A hv hu hA;
  independent = (turned f n u v A, turned f n v u A);
}

-- ---- a row chosen as well

pub put_in : (f : Field) (n : ℕ) (W : List Bool) (cs : List (List ℕ)) (y : ℕ) → AreVectors f n cs → length W ≡ length cs → y < length cs → get_or W y false ≡ false
    → AreAlike f n (items_where_true (set W y true) cs) (get_or cs y [] ∷ items_where_true W cs)
put_in f n [] cs y h l ly off = absurd (omega (arith, l, ly))
put_in f n (b ∷ W) [] y h l ly off = absurd (omega (arith, ly))
put_in f n (false ∷ W) (c ∷ cs) zero h l ly off =
    alike_itself f n (c ∷ items_where_true W cs) (All-chosen (λ v. IsVector f n v) (true ∷ W) (c ∷ cs) h)
put_in f n (true ∷ W) (c ∷ cs) zero h l ly off = absurd (let e : true ≡ false = off in cc)
put_in f n (false ∷ W) (c ∷ cs) (suc y) h l ly off = put_in f n W cs y (other_rows f n c cs h) (omega (arith, l)) (omega (arith, ly)) off
put_in f n (true ∷ W) (c ∷ cs) (suc y) h l ly off =
    let hs = other_rows f n c cs h in
    let hc = first_row f n c cs h in
    let lower : y < length cs = omega (arith, ly) in
    let hy : IsVector f n (get_or cs y []) = All-get_or (λ v. IsVector f n v) cs y [] lower hs in
    let rest = items_where_true W cs in
    alike_then f n (c ∷ items_where_true (set W y true) cs) (c ∷ get_or cs y [] ∷ rest) (get_or cs y [] ∷ c ∷ rest)
    (alike_more f n c (items_where_true (set W y true) cs) (get_or cs y [] ∷ rest) hc (put_in f n W cs y hs (omega (arith, l)) lower off))
    (alike_swapped f n c (get_or cs y []) rest hc hy (All-chosen (λ v. IsVector f n v) W cs hs))

-- ---- a basis among chosen rows

pub record IsBasisAmong (f : Field) (n : ℕ) (cs : List (List ℕ)) (D C : List Bool) : Type 0 where
  pub len : length C ≡ length D
  pub inside : (i : ℕ) → get_or D i false ≡ false → get_or C i false ≡ false
  pub independent : AreIndependent f n (items_where_true C cs)
  pub spans : IsWithin f n (items_where_true D cs) (items_where_true C cs)
  pub within : IsWithin f n (items_where_true C cs) (items_where_true D cs)

pub some_basis : (f : Field) (n : ℕ) (D : List Bool) (cs : List (List ℕ)) → AreVectors f n cs → length D ≡ length cs → (C : List Bool) × IsBasisAmong f n cs D C
some_basis f n [] cs h l = (
  [],
  record {
    len = refl;
    inside = λ i e. refl;
    independent = none_independent f n;
    spans = All-nil (λ v. InSpan f n [] v);
    within = All-nil (λ v. InSpan f n [] v);
  },
)
some_basis f n (b ∷ D) [] h l = absurd (omega (arith, l))
some_basis f n (false ∷ D) (c ∷ cs) h l =
    let r = some_basis f n D cs (other_rows f n c cs h) (omega (arith, l)) in (
      false ∷ r.0,
      record {
        len = ap suc r.1.len;
        inside = (λ i e. skip r.0 D r.1.inside i e);
        independent = r.1.independent;
        spans = r.1.spans;
        within = r.1.within;
      },
    )
  where
    skip : (C D : List Bool) → ((i : ℕ) → get_or D i false ≡ false → get_or C i false ≡ false)
        → (i : ℕ) → get_or (false ∷ D) i false ≡ false → get_or (false ∷ C) i false ≡ false
    skip C D h zero e = refl
    skip C D h (suc i) e = h i e
some_basis f n (true ∷ D) (c ∷ cs) h l =
    let hs = other_rows f n c cs h in
    let r = some_basis f n D cs hs (omega (arith, l)) in
    go (first_row f n c cs h) hs r.0 r.1 (cases_Bool (is_in_span f n (items_where_true r.0 cs) c))
  where
    keep : (x : Bool) (C : List Bool) → ((i : ℕ) → get_or D i false ≡ false → get_or C i false ≡ false)
        → (i : ℕ) → get_or (true ∷ D) i false ≡ false → get_or (x ∷ C) i false ≡ false
    keep x C h zero e = absurd (let q : true ≡ false = e in cc)
    keep x C h (suc i) e = h i e

    go : IsVector f n c → AreVectors f n cs → (C : List Bool) → IsBasisAmong f n cs D C
        → (is_in_span f n (items_where_true C cs) c ≡ true) ⊎ (is_in_span f n (items_where_true C cs) c ≡ false)
        → (E : List Bool) × IsBasisAmong f n (c ∷ cs) (true ∷ D) E
    go hc hs C b (inl t) =
        let hC = All-chosen (λ v. IsVector f n v) C cs hs in
        let hD = All-chosen (λ v. IsVector f n v) D cs hs in (
          false ∷ C,
          record {
            len = ap suc b.len;
            inside = (λ i e. keep false C b.inside i e);
            independent = b.independent;
            spans = All-cons (λ v. InSpan f n (items_where_true C cs) v) c (items_where_true D cs) ((is_in_span_decides f n (items_where_true C cs) c hC hc).0 t) b.spans;
            within =
                All-weaker (λ v. InSpan f n (items_where_true D cs) v) (λ v. InSpan f n (c ∷ items_where_true D cs) v)
                (λ v p. InSpan-one_more f n c (items_where_true D cs) v hc hD p) (items_where_true C cs) b.within;
          },
        )
    go hc hs C b (inr q) =
        let hC = All-chosen (λ v. IsVector f n v) C cs hs in
        let hD = All-chosen (λ v. IsVector f n v) D cs hs in (
          true ∷ C,
          record {
            len = ap suc b.len;
            inside = (λ i e. keep true C b.inside i e);
            independent =
                independent_more f n c (items_where_true C cs) hc hC b.independent
                (λ p. both_ways (is_in_span f n (items_where_true C cs) c) q ((is_in_span_decides f n (items_where_true C cs) c hC hc).1 p));
            spans = within_more f n c (items_where_true D cs) (items_where_true C cs) hc hC b.spans;
            within = within_more f n c (items_where_true C cs) (items_where_true D cs) hc hD b.within;
          },
        )

-- ---- independent beside independent rows, and independent over their span

pub beside_is_over : (f : Field) (n : ℕ) (A B : List (List ℕ)) → AreVectors f n A → AreVectors f n B → AreIndependent f n (A ++ B)
    → (cs : List ℕ) → IsVector f (length A) cs → InSpan f n B (combination f n cs A) → cs ≡ zeros (length A)
beside_is_over f n A B hA hB ind cs hc p =
    let a = length A in
    let b = length B in
    let u = combination f n cs A in
    let hu = IsVector-combination f n cs A hA in
    let ds = multiple f (negative f 1) p.coefficients in
    let hd : IsVector f b ds = IsVector-multiple f b (negative f 1) p.coefficients p.each.len in
    let sum : combination f n (cs ++ ds) (A ++ B) ≡ zeros n =
    combination-append f n cs ds A B hc.len hB
    ∙ ap (vector_sum f u) (combination-multiple f n (negative f 1) p.coefficients B ∙ ap (multiple f (negative f 1)) p.sum)
    ∙ opposite-vector_sum f u ∙ ap zeros hu.len in
    let all : cs ++ ds ≡ zeros (length (A ++ B)) =
    ind (cs ++ ds) (subst (λ k. IsVector f k (cs ++ ds)) (sym (length-append A B)) (IsVector-append f a b cs ds hc hd)) sum in
    (append_parts cs (zeros a) ds (zeros b) (hc.len ∙ sym (IsVector-zeros f a).len) (all ∙ ap zeros (length-append A B) ∙ sym (zeros-append a b))).0

pub over_is_beside : (f : Field) (n : ℕ) (A B : List (List ℕ)) → AreVectors f n A → AreVectors f n B → AreIndependent f n B
    → ((cs : List ℕ) → IsVector f (length A) cs → InSpan f n B (combination f n cs A) → cs ≡ zeros (length A)) → AreIndependent f n (A ++ B)
over_is_beside f n A B hA hB ind over cs each e =
    let a = length A in
    let b = length B in
    let hc : IsVector f (a + b) cs = record { len = each.len ∙ length-append A B; digits = each.digits } in
    let x = take a cs in
    let y = drop a cs in
    let hx = IsVector-take f a b cs hc in
    let hy = IsVector-drop f a b cs hc in
    let u = combination f n x A in
    let w = combination f n y B in
    let hu = IsVector-combination f n x A hA in
    let hw = IsVector-combination f n y B hB in
    let z : vector_sum f u w ≡ zeros n =
    sym (combination-append f n x y A B hx.len hB) ∙ ap (λ c. combination f n c (A ++ B)) (take-append-drop a cs) ∙ e in
    let minus = multiple f (negative f 1) w in
    let u_is : u ≡ minus =
    sym (from_sum f n u w (zeros n) hu hw z) ∙ zeros-vector_sum f n minus (IsVector-multiple f n (negative f 1) w hw.len) in
    let inB : InSpan f n B u = subst (λ v. InSpan f n B v) (sym u_is) (InSpan-multiple f n (negative f 1) B w (record { coefficients = y; each = hy; sum = refl })) in
    let xz : x ≡ zeros a = over x hx inB in
    let uz : u ≡ zeros n = ap (λ c. combination f n c A) xz ∙ combination-zeros f n a A hA in
    let wz : w ≡ zeros n = sym (zeros-vector_sum f n w hw) ∙ ap (λ v. vector_sum f v w) (sym uz) ∙ z in
    sym (take-append-drop a cs) ∙ ap₂ (λ s t. s ++ t) xz (ind y hy wz) ∙ zeros-append a b ∙ ap zeros (sym (length-append A B))
