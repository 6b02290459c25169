-- Sums of products of two lists of vectors, and the same sum with a reduced list in it.
use Rattle.std.proofs.Common.{ℕ, ◌<◌, ◌≡◌, List, [], ◌∷◌, length, map, get_or, refl, sym, ap, ap₂, ◌∙◌, arith}
use Rattle.std.proofs.lemmas.List.{length-map}
use Rattle.std.proofs.lemmas.List.Elements.{All-head, All-tail}
use Rattle.mm_field.specs.declared.Field.{Field}
use Rattle.mm_field.specs.Vectors.{combination, AreVectors, InSpan, IsWithin}
use Rattle.mm_field.proofs.CombinationLemmas.{combination-times_matrix, InSpan-combination}
use Rattle.mm_linear.proofs.PivotLemmas.{count_leads}
use Rattle.mm_matrix.specs.Columns.{column}
use Rattle.mm_matrix.specs.Orthogonal.{dot}
use Rattle.mm_matrix.specs.Residues.{AreReduced}
use Rattle.mm_matrix.proofs.ColumnLemmas.{digit_of_combination}
use Rattle.mm_matrix.proofs.DotLemmas.{dot-comm, dot-combination}
use Rattle.mm_matrix.proofs.NullLemmas.{leads_inside}
use Rattle.mm_decomp.specs.Forms.{gathered, sums}
use Rattle.mm_decomp.proofs.LeadLemmas.{digits_at, combination_by_leads, combination_of_columns, AreVectors-columns}

dots_by_leads : (f : Field) (n : ℕ) (rows : List (List ℕ)) (ks : List ℕ) (a : List ℕ) → AreReduced f n rows ks → (vs : List (List ℕ)) →
    IsWithin f n vs rows → map (λ v. dot f (map (dot f a) rows) (digits_at ks v)) vs ≡ map (dot f a) vs
dots_by_leads f n rows ks a h [] w = refl
dots_by_leads f n rows ks a h (v ∷ vs) w =
    ap₂ (λ x xs. x ∷ xs)
    (dot-comm f (map (dot f a) rows) (digits_at ks v)
    ∙ sym (dot-combination f n a (digits_at ks v) rows h.each)
    ∙ ap (dot f a) (combination_by_leads f n rows ks v h (All-head (λ v. InSpan f n rows v) v vs w)))
    (dots_by_leads f n rows ks a h vs (All-tail (λ v. InSpan f n rows v) v vs w))

-- a reduced list in place of the first
pub gathered-first_reduced : (f : Field) (k g : ℕ) (firsts seconds rows : List (List ℕ)) (ks a : List ℕ) → AreVectors f k firsts →
    AreVectors f g seconds → AreReduced f k rows ks → IsWithin f k firsts rows →
    gathered f g rows (sums f g ks firsts seconds) a ≡ gathered f g firsts seconds a
gathered-first_reduced f k g firsts seconds rows ks a hf hs h w =
    let hk = leads_inside f k rows ks h in
    let c = count_leads k 0 rows ks h.leads_are in
    let cs = map (dot f a) rows in
    combination-times_matrix f g (length firsts) cs (map (column firsts) ks) seconds (AreVectors-columns f k firsts ks hf hk) hs
    ∙ ap (λ (xs : List ℕ). combination f g xs seconds)
    (combination_of_columns f k firsts ks cs hf hk (length-map rows (dot f a) ∙ c) ∙ dots_by_leads f k rows ks a h firsts w)

-- a reduced list in place of the second
dots_of_sums : (f : Field) (k g : ℕ) (firsts seconds : List (List ℕ)) (ks a : List ℕ) → AreVectors f k firsts → AreVectors f g seconds →
    length firsts ≡ length seconds → ((i : ℕ) (d : ℕ) → i < length ks → get_or ks i d < g) →
    map (dot f a) (sums f k ks seconds firsts) ≡ digits_at ks (gathered f g firsts seconds a)
dots_of_sums f k g firsts seconds [] a hf hs e hk = refl
dots_of_sums f k g firsts seconds (l ∷ ks) a hf hs e hk =
    ap₂ (λ x xs. x ∷ xs)
    (dot-combination f k a (column seconds l) firsts hf
    ∙ sym (digit_of_combination f g l (map (dot f a) firsts) seconds hs (length-map firsts (dot f a) ∙ e) (hk 0 l (omega arith))))
    (dots_of_sums f k g firsts seconds ks a hf hs e (λ i d li. All-tail (λ k. k < g) l ks hk i d li))

pub gathered-second_reduced : (f : Field) (k g : ℕ) (firsts seconds rows : List (List ℕ)) (ks a : List ℕ) → AreVectors f k firsts →
    AreVectors f g seconds → length firsts ≡ length seconds → AreReduced f g rows ks → IsWithin f g seconds rows →
    gathered f g (sums f k ks seconds firsts) rows a ≡ gathered f g firsts seconds a
gathered-second_reduced f k g firsts seconds rows ks a hf hs e h w =
    ap (λ (xs : List ℕ). combination f g xs rows) (dots_of_sums f k g firsts seconds ks a hf hs e (leads_inside f g rows ks h))
    ∙ combination_by_leads f g rows ks (gathered f g firsts seconds a) h
    (InSpan-combination f g (map (dot f a) firsts) seconds rows h.each w)
