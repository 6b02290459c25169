-- How many rows a reduced basis has.
use Rattle.std.proofs.Common.{ℕ, zero, suc, ◌≤◌, ◌≡◌, Option, Some, None, List, [], ◌∷◌, length, replicate, refl, ap, arith}
use Rattle.mm_field.specs.declared.Field.{Field}
use Rattle.mm_field.specs.Vectors.{zeros, IsVector, AreVectors, AreIndependent, IsWithin}
use Rattle.mm_field.proofs.CombinationLemmas.{first_row, other_rows, IsWithin-within}
use Rattle.mm_linear.specs.Echelons.{entry}
use Rattle.mm_linear.specs.Decide.{echelon_of, new_place, put_at, row_for}
use Rattle.mm_linear.specs.ReducedEchelon.{reduced_basis}
use Rattle.mm_linear.proofs.RankLemmas.{rank_to, rank_within, rank_inserted}
use Rattle.mm_linear.proofs.DecideLemmas.{echelon_of_is, is_independent_decides, IsRowsOf, new_place-some}
use Rattle.mm_linear.proofs.InsertLemmas.{new_row}
use Rattle.mm_linear.proofs.SpaceLemmas.{zeros_within}
use Rattle.mm_linear.proofs.BasisLemmas.{rank_of_independent}
use Rattle.mm_linear.proofs.ReducedEchelonLemmas.{reduced_basis_is}
use Rattle.mm_matrix.proofs.FreeLemmas.{reduced_independent}

no_rank : (k n : ℕ) → k ≤ n → rank_to k (replicate n (zeros n)) ≡ 0
no_rank zero n l = refl
no_rank (suc k) n l =
    let a : entry (replicate n (zeros n)) k k ≡ 0 = zeros_within n 0 k k (omega arith) (omega arith) (omega arith) in
    let b : rank_to k (replicate n (zeros n)) ≡ 0 = no_rank k n (omega arith) in
    omega arith

rank_upper : (f : Field) (n : ℕ) (vs : List (List ℕ)) → AreVectors f n vs → rank_to n (echelon_of f n vs) ≤ length vs
unfolding echelon_of
rank_upper f n [] h = let a = no_rank n n (omega arith) in omega arith
rank_upper f n (v ∷ vs) h =
    let hv = first_row f n v vs h in
    let hs = other_rows f n v vs h in
    go hv (echelon_of_is f n vs hs) (rank_upper f n vs hs) (new_place f n v (echelon_of f n vs)) refl
  where
    go : IsVector f n v → IsRowsOf f n vs (echelon_of f n vs) → rank_to n (echelon_of f n vs) ≤ length vs →
        (o : Option ℕ) → new_place f n v (echelon_of f n vs) ≡ o → rank_to n (put_at f n v (echelon_of f n vs) (new_place f n v (echelon_of f n vs))) ≤ suc (length vs)
    go hv r ih None e =
        let same = ap (λ o. rank_to n (put_at f n v (echelon_of f n vs) o)) e in
        omega (arith, same)
    go hv r ih (Some p) e =
        let last = new_place-some f n v (echelon_of f n vs) p e in
        let new = new_row f n p v (echelon_of f n vs) r.echelon hv last.place last.nonzero last.late in
        let same = ap (λ o. rank_to n (put_at f n v (echelon_of f n vs) o)) e in
        let more = rank_inserted f n p (row_for f n p v (echelon_of f n vs)) (echelon_of f n vs) r.echelon new in
        omega (arith, same, more)

-- independent rows within the span of others are at most as many
pub few_independent : (f : Field) (n : ℕ) (rows sows : List (List ℕ)) → AreVectors f n rows → AreVectors f n sows → AreIndependent f n rows →
    IsWithin f n rows sows → length rows ≤ length sows
few_independent f n rows sows hr hs ind w =
    let a = echelon_of_is f n rows hr in
    let b = echelon_of_is f n sows hs in
    let E = echelon_of f n rows in
    let F = echelon_of f n sows in
    let inside = IsWithin-within f n E rows F b.echelon.each a.span.1 (IsWithin-within f n rows sows F b.echelon.each w b.span.0) in
    let p = rank_within f n E F a.echelon b.echelon inside in
    let q = rank_of_independent f n rows hr ((is_independent_decides f n rows hr).1 ind) in
    let r = rank_upper f n sows hs in
    omega (arith, q)

-- a span has a basis of at most as many rows
pub basis_is_few : (f : Field) (n : ℕ) (rows : List (List ℕ)) → AreVectors f n rows → length (reduced_basis f n rows) ≤ length rows
basis_is_few f n rows h =
    let b = reduced_basis_is f n rows h in
    few_independent f n (reduced_basis f n rows) rows b.each h
    (reduced_independent f n (reduced_basis f n rows) b.leads (record { each = b.each; leads_are = b.echelon; clear = b.reduced })) b.span.1
