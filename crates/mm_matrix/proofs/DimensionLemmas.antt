-- Independent rows have as many reduced echelon rows.
use Rattle.std.proofs.Common.{ℕ, zero, suc, ◌+◌, ◌≤◌, ◌≡◌, ◌⊎◌, inl, inr, cond, ◌==◌, List, [], ◌∷◌, length, map, reverse, get_or, refl, sym, ap, ◌∙◌, subst, arith}
use Rattle.std.proofs.lemmas.List.{length-map, reverse-reverse, get_or-replicate}
use Rattle.mm_field.specs.declared.Field.{Field}
use Rattle.mm_field.specs.Vectors.{zeros, combination, AreVectors, AreIndependent}
use Rattle.mm_linear.specs.Echelons.{entry, IsEchelon}
use Rattle.mm_linear.specs.Decide.{echelon_of}
use Rattle.mm_linear.specs.ReducedEchelon.{reversed_rows, reduced_basis}
use Rattle.mm_linear.proofs.RankLemmas.{rank_to}
use Rattle.mm_linear.proofs.DecideLemmas.{echelon_of_is, is_independent_decides}
use Rattle.mm_linear.proofs.BasisLemmas.{rank_of_independent}
use Rattle.mm_linear.proofs.ReducedEchelonLemmas.{combination-reversed, AreVectors-reversed, reverse-zeros}

-- turning rows round keeps them independent
independent_reversed : (f : Field) (n : ℕ) (rows : List (List ℕ)) → AreVectors f n rows → AreIndependent f n rows →
    AreIndependent f n (map reverse rows)
independent_reversed f n rows h ind cs each e =
    let l = length-map rows reverse in
    ind cs (record { len = each.len ∙ l; digits = each.digits })
    (sym (reverse-reverse (combination f n cs rows)) ∙ ap reverse (sym (combination-reversed f n cs rows h) ∙ e) ∙ reverse-zeros n)
    ∙ ap zeros (sym l)

count_at : (d m : ℕ) (rows : List (List ℕ)) (r : List ℕ) → (d ≡ 0) ⊎ (d ≡ 1) → length rows ≡ m →
    length (cond (d == 0) rows (r ∷ rows)) ≡ d + m
count_at d m rows r (inl e) h =
    subst (λ (x : ℕ). length (cond (x == 0) rows (r ∷ rows)) ≡ x + m) (sym e) (h ∙ omega arith)
count_at d m rows r (inr e) h =
    subst (λ (x : ℕ). length (cond (x == 0) rows (r ∷ rows)) ≡ x + m) (sym e) (ap suc h ∙ omega arith)

reversed_count : (f : Field) (n k : ℕ) (E : List (List ℕ)) → IsEchelon f n E → k ≤ n → length (reversed_rows E k) ≡ rank_to k E
reversed_count f n zero E h l = refl
reversed_count f n (suc k) E h l =
    count_at (entry E k k) (rank_to k E) (reversed_rows E k) (reverse (get_or E k [])) (digit (h.pivot k (omega arith)))
    (reversed_count f n k E h (omega arith))
  where
    digit : (get_or E k [] ≡ zeros n) ⊎ (entry E k k ≡ 1) → (entry E k k ≡ 0) ⊎ (entry E k k ≡ 1)
    digit (inl z) = inl (ap (λ (v : List ℕ). get_or v k 0) z ∙ get_or-replicate n k 0 0 (omega arith))
    digit (inr e) = inr e

pub dimension : (f : Field) (n : ℕ) (rows : List (List ℕ)) → AreVectors f n rows → AreIndependent f n rows →
    length (reduced_basis f n rows) ≡ length rows
unfolding reduced_basis
dimension f n rows h ind =
    let ht = AreVectors-reversed f n rows h in
    let r = echelon_of_is f n (map reverse rows) ht in
    reversed_count f n n (echelon_of f n (map reverse rows)) r.echelon (omega arith)
    ∙ rank_of_independent f n (map reverse rows) ht ((is_independent_decides f n (map reverse rows) ht).1 (independent_reversed f n rows h ind))
    ∙ length-map rows reverse
