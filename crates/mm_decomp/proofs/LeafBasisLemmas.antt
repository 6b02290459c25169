-- The space of a leaf, by the first digit of its column.
use Rattle.std.proofs.Common.{ℕ, zero, suc, ◌<◌, ◌≤◌, ◌≡◌, ◌≢◌, Bool, true, false, ◌==◌, List, [], ◌∷◌, length, take, get_or, refl, sym, ap, ◌∙◌, arith, ◌++◌}
use Rattle.std.proofs.lemmas.Bool.{eqb-true}
use Rattle.std.proofs.lemmas.List.{get_or-replicate}
use Rattle.std.proofs.lemmas.List.Elements.{All-nil, All-cons, All-head}
use Rattle.mm_field.specs.declared.Field.{Field}
use Rattle.mm_field.specs.Digits.{order, times}
use Rattle.mm_field.specs.Vectors.{zeros, multiple, combination, IsVector, AreVectors, InSpan, IsWithin}
use Rattle.mm_field.proofs.Tables.{times_one_digit}
use Rattle.mm_field.proofs.VectorLemmas.{multiple-zeros, vector_sum-zeros, zero-multiple, get_or-multiple, IsVector-multiple}
use Rattle.mm_field.proofs.CombinationLemmas.{first_row, combination-none, combination-zero_rows}
use Rattle.mm_linear.specs.ReducedEchelon.{reduced_basis, IsLeftBasis, Leads}
use Rattle.mm_linear.proofs.PivotLemmas.{entry_of_cut}
use Rattle.mm_linear.proofs.ReducedEchelonLemmas.{reduced_basis_is}
use Rattle.mm_decomp.specs.BuiltTree.{first_digit}
use Rattle.mm_decomp.proofs.FirstDigitLemmas.{first_digit_none, first_digit_at}
use Rattle.mm_decomp.proofs.RankLemmas.{basis_is_few}

-- a column has one digit in the basis of its span, and a zero column none
pub record IsLeafBasis (f : Field) (g : ℕ) (m : List ℕ) (basis : List (List ℕ)) : Type 0 where
  pub count : length basis ≡ length (first_digit m)
  pub sum : combination f g (first_digit m) basis ≡ m

one_at : (k : ℕ) (u : List ℕ) → take (suc k) u ≡ zeros k ++ 1 ∷ [] → get_or u k 0 ≡ 1
one_at k u e = entry_of_cut k u (zeros k ++ 1 ∷ []) e ∙ last k
  where
    last : (k : ℕ) → get_or (zeros k ++ 1 ∷ []) k 0 ≡ 1
    last zero = refl
    last (suc k) = last k

zero_before : (k : ℕ) (u : List ℕ) → take (suc k) u ≡ zeros k ++ 1 ∷ [] → (j : ℕ) → j < k → get_or u j 0 ≡ 0
zero_before k u e j l = go k u j e l
  where
    go : (k : ℕ) (u : List ℕ) (j : ℕ) → take (suc k) u ≡ zeros k ++ 1 ∷ [] → j < k → get_or u j 0 ≡ 0
    go zero u j e l = absurd (omega arith)
    go (suc k) [] j e l = refl
    go (suc k) (x ∷ u) zero e l = ap (λ (v : List ℕ). get_or v 0 0) e
    go (suc k) (x ∷ u) (suc j) e l = go k u j (ap (λ (v : List ℕ). tail v) e) (omega arith)
      where
        tail : List ℕ → List ℕ
        tail [] = []
        tail (x ∷ xs) = xs

first_digit_of_multiple : (f : Field) (g c k : ℕ) (u : List ℕ) → IsVector f g u → k < g → c < order f → c ≢ 0 → take (suc k) u ≡ zeros k ++ 1 ∷ [] →
    first_digit (multiple f c u) ≡ c ∷ []
first_digit_of_multiple f g c k u hu l hc ne e =
    let m = multiple f c u in
    let hm = IsVector-multiple f g c u hu.len in
    let lu = hu.len in
    let lm = hm.len in
    let at : get_or m k 0 ≡ c = get_or-multiple f c u k (omega arith) ∙ ap (times f c) (one_at k u e) ∙ times_one f c hc in
    first_digit_at m k (omega arith) (λ z. ne (sym at ∙ z))
    (λ j lj. get_or-multiple f c u j (omega arith) ∙ ap (times f c) (zero_before k u e j lj) ∙ times_zero f c)
    ∙ ap (λ (d : ℕ). d ∷ []) at
  where
    times_one : (f : Field) (c : ℕ) → c < order f → times f c 1 ≡ c
    times_one f c hc = times_one_digit f c hc

    times_zero : (f : Field) (c : ℕ) → times f c 0 ≡ 0
    times_zero f c = ap (λ (v : List ℕ). get_or v 0 0) (multiple-zeros f c 1)

pub leaf_basis : (f : Field) (g : ℕ) (m : List ℕ) → IsVector f g m → IsLeafBasis f g m (reduced_basis f g (m ∷ []))
leaf_basis f g m hm =
    go (reduced_basis f g (m ∷ [])) b.leads b.each b.echelon (All-head (λ v. InSpan f g (reduced_basis f g (m ∷ [])) v) m [] b.span.0) b.span.1
    (basis_is_few f g (m ∷ []) hs)
  where
    hs : AreVectors f g (m ∷ [])
    hs = All-cons (λ v. IsVector f g v) m [] hm (All-nil (λ v. IsVector f g v))

    b : IsLeftBasis f g (m ∷ []) (reduced_basis f g (m ∷ []))
    b = reduced_basis_is f g (m ∷ []) hs

    zero_case : (basis : List (List ℕ)) → m ≡ zeros g → basis ≡ [] → IsLeafBasis f g m basis
    zero_case basis e n = record {
      count = ap length n ∙ sym (ap (λ (v : List ℕ). length (first_digit v)) e ∙ ap length (first_digit_none g));
      sum = ap (combination f g (first_digit m)) n ∙ combination-none f g (first_digit m) ∙ sym e;
    }

    -- the one row is no combination of a zero column
    not_zero : (u : List ℕ) (k : ℕ) → k < g → take (suc k) u ≡ zeros k ++ 1 ∷ [] → InSpan f g (m ∷ []) u → m ≡ zeros g → ⊥
    not_zero u k l e p z =
        let u_zero : u ≡ zeros g =
        sym p.sum ∙ ap (λ (v : List ℕ). combination f g p.coefficients (v ∷ [])) z ∙ combination-zero_rows f g 1 p.coefficients in
        let bad : 1 ≡ 0 = sym (one_at k u e) ∙ ap (λ (v : List ℕ). get_or v k 0) u_zero ∙ get_or-replicate g k 0 0 l in
        omega (arith, bad)

    one_row : (u : List ℕ) (k : ℕ) → IsVector f g u → k < g → take (suc k) u ≡ zeros k ++ 1 ∷ [] → InSpan f g (m ∷ []) u →
        (cs : List ℕ) → IsVector f 1 cs → combination f g cs (u ∷ []) ≡ m → IsLeafBasis f g m (u ∷ [])
    one_row u k hu l e p [] hc s = absurd (omega (arith, hc.len))
    one_row u k hu l e p (c ∷ x ∷ cs) hc s = absurd (omega (arith, hc.len))
    one_row u k hu l e p (c ∷ []) hc s = decide (c == 0) refl
      where
        scaled : multiple f c u ≡ m
        scaled = sym (vector_sum-zeros f g (multiple f c u) (IsVector-multiple f g c u hu.len)) ∙ s

        decide : (b : Bool) → (c == 0) ≡ b → IsLeafBasis f g m (u ∷ [])
        decide true t =
            let none : c ≡ 0 = eqb-true c 0 t in
            absurd (not_zero u k l e p (sym scaled ∙ ap (λ (d : ℕ). multiple f d u) none ∙ zero-multiple f u ∙ ap zeros hu.len))
        decide false t =
            let some : c ≢ 0 = (λ z. let bad : true ≡ false = sym (ap (λ (d : ℕ). d == 0) z) ∙ t in cc) in
            let first : first_digit m ≡ c ∷ [] =
            ap first_digit (sym scaled) ∙ first_digit_of_multiple f g c k u hu l (All-head (λ d. d < order f) c [] hc.digits) some e in
            record {
              count = ap length (sym first);
              sum = ap (λ (ds : List ℕ). combination f g ds (u ∷ [])) first ∙ s;
            }

    go : (basis : List (List ℕ)) (leads : List ℕ) → AreVectors f g basis → Leads g 0 basis leads → InSpan f g basis m → IsWithin f g basis (m ∷ []) →
        length basis ≤ 1 → IsLeafBasis f g m basis
    go [] leads h ls p w few = zero_case [] (sym p.sum ∙ combination-none f g p.coefficients) refl
    go (u ∷ []) [] h ls p w few = absurd ls
    go (u ∷ []) (k ∷ ks) h ls p w few =
        one_row u k (first_row f g u [] h) ls.1 ls.2 (All-head (λ v. InSpan f g (m ∷ []) v) u [] w) p.coefficients p.each p.sum
    go (u ∷ v ∷ basis) leads h ls p w few = absurd (omega (arith, few))
