-- The dimensions of spans: of one within another, and of the sum and the meet of two.
use Rattle.std.proofs.Common.{ℕ, ◌+◌, ◌≡◌, List, ◌++◌, length, get_or, refl, sym, ap, subst, ◌∙◌, arith, length-append, drop}
use Rattle.std.proofs.lemmas.List.Elements.{All-append, All-drop}
use Rattle.std.proofs.lemmas.List.{drop_at}
use Rattle.mm_field.specs.declared.Field.{Field}
use Rattle.mm_field.specs.Vectors.{IsVector, AreVectors, InSpan, AreIndependent, IsWithin, SameRowSpace}
use Rattle.mm_field.proofs.CombinationLemmas.{InSpan-within, IsWithin-itself, IsWithin-within}
use Rattle.mm_decomp.specs.Meets.{extended}
use Rattle.mm_decomp_laws.specs.Ranks.{rank}
use Rattle.mm_linear.proofs.ReducedEchelonLemmas.{reduced_basis-same}
use Rattle.mm_matrix.proofs.DimensionLemmas.{dimension}
use Rattle.mm_decomp_laws.proofs.ExtendLemmas.{extended_is}
use Rattle.mm_decomp_laws.proofs.IndependenceLemmas.{independent_beside, independent_back, apart, in_front, in_back}

-- the rank of what independent rows span
rank_is : (f : Field) (n : ℕ) (rows basis : List (List ℕ)) → AreVectors f n rows → AreVectors f n basis → AreIndependent f n basis → SameRowSpace f n rows basis →
    rank f n rows ≡ length basis
rank_is f n rows basis hr hb ind same = ap length (reduced_basis-same f n rows basis hr hb same) ∙ dimension f n basis hb ind

-- the dimensions of the meet and of the sum of two spans are together those of the spans
pub dimension_of_sum : (f : Field) (n : ℕ) (Z A B : List (List ℕ)) → AreVectors f n Z → AreVectors f n A → AreVectors f n B → AreIndependent f n Z →
    IsWithin f n Z A → IsWithin f n Z B → ((v : List ℕ) → InSpan f n A v → InSpan f n B v → InSpan f n Z v) →
    length Z + rank f n (A ++ B) ≡ rank f n A + rank f n B
dimension_of_sum f n Z A B hZ hA hB ind za zb common =
    let x = extended_is f n Z A hZ hA ind in
    let y = extended_is f n Z B hZ hB ind in
    let LA = extended f n Z A in
    let LB = extended f n Z B in
    let la_in = x.within A hA za (IsWithin-itself f n A hA) in
    let lb_in = y.within B hB zb (IsWithin-itself f n B hB) in
    let hmore : AreVectors f n y.more = back_of Z y.more LB y.front y.each in
    let zy : AreIndependent f n (Z ++ y.more) = subst (λ vs. AreIndependent f n vs) y.front y.independent in
    let more_in_LB : IsWithin f n y.more LB = subst (λ vs. IsWithin f n y.more vs) (sym y.front) (λ k d l. in_back f n Z y.more hZ hmore (get_or y.more k d) (IsWithin-itself f n y.more hmore k d l)) in
    let more_in_B = IsWithin-within f n y.more LB B hB more_in_LB lb_in in
    let all = LA ++ y.more in
    let hall = All-append (λ v. IsVector f n v) LA y.more x.each hmore in
    let ind_more : AreIndependent f n y.more = independent_back f n Z y.more hZ hmore zy in
    let together = independent_beside f n LA y.more x.each hmore x.independent ind_more (λ v p q.
    apart f n Z y.more hZ hmore zy v (common v (InSpan-within f n LA A v hA la_in p) (InSpan-within f n y.more B v hB more_in_B q)) q) in
    let AB = A ++ B in
    let hAB = All-append (λ v. IsVector f n v) A B hA hB in
    let a_all = IsWithin-within f n A LA all hall x.reaches (fronts LA y.more x.each hmore) in
    let z_all = IsWithin-within f n Z LA all hall (z_front x.more LA x.front x.each) (fronts LA y.more x.each hmore) in
    let lb_all : IsWithin f n LB all = subst (λ vs. IsWithin f n vs all) (sym y.front) (All-append (λ v. InSpan f n all v) Z y.more z_all (λ k d l. in_back f n LA y.more x.each hmore (get_or y.more k d) (IsWithin-itself f n y.more hmore k d l))) in
    let b_all = IsWithin-within f n B LB all hall y.reaches lb_all in
    let la_AB = IsWithin-within f n LA A AB hAB la_in (fronts A B hA hB) in
    let more_AB = IsWithin-within f n y.more B AB hAB more_in_B (λ k d l. in_back f n A B hA hB (get_or B k d) (IsWithin-itself f n B hB k d l)) in
    let rAB = rank_is f n AB all hAB hall together (All-append (λ v. InSpan f n all v) A B a_all b_all, All-append (λ v. InSpan f n AB v) LA y.more la_AB more_AB) in
    let rA = rank_is f n A LA hA x.each x.independent (x.reaches, la_in) in
    let rB = rank_is f n B LB hB y.each y.independent (y.reaches, lb_in) in
    let nall = length-append LA y.more in
    let nB = ap length y.front ∙ length-append Z y.more in
    omega (arith, rAB, rA, rB, nall, nB)
  where
    back_of : (U V all : List (List ℕ)) → all ≡ U ++ V → AreVectors f n all → AreVectors f n V
    back_of U V all e h = subst (λ vs. AreVectors f n vs) (ap (drop (length U)) e ∙ drop_at U V (length U) refl) (All-drop (λ v. IsVector f n v) (length U) all h)

    fronts : (U V : List (List ℕ)) → AreVectors f n U → AreVectors f n V → IsWithin f n U (U ++ V)
    fronts U V hU hV = λ k d l. in_front f n U V hU hV (get_or U k d) (IsWithin-itself f n U hU k d l)

    z_front : (more all : List (List ℕ)) → all ≡ Z ++ more → AreVectors f n all → IsWithin f n Z all
    z_front more all e h = subst (λ vs. IsWithin f n Z vs) (sym e) (fronts Z more hZ (back_of Z more all e h))
