-- Steps of the loops of elimination.
use Rattle.std.proofs.Common.{ℕ, ◌+◌, ◌<◌, ◌≤◌, ◌≡◌, List, [], length, map, get_or, drop, sym, ap, ap₂, ◌∙◌, arith}
use Rattle.std.proofs.lemmas.List.{drop_more, drop_all, ext_get_or, length-map, get_or-map}
use Rattle.mm_field.specs.declared.Field.{Field}
use Rattle.mm_field.specs.Digits.{negative}
use Rattle.mm_field.specs.Vectors.{vector_sum, multiple, combination, IsVector}
use Rattle.mm_field.proofs.Tables.{negative-times}
use Rattle.mm_field.proofs.VectorLemmas.{vector_sum_assoc, vector_sum-zeros, multiple-vector_sum, multiple-times, multiple-zeros}

pub reduced_step : (f : Field) (n : ℕ) (v out : List ℕ) (rows : List (List ℕ)) (j : ℕ) → j < length v → j < length rows →
    vector_sum f (vector_sum f out (multiple f (negative f (get_or v j 0)) (get_or rows j [])))
    (multiple f (negative f 1) (combination f n (drop (j + 1) v) (drop (j + 1) rows)))
    ≡ vector_sum f out (multiple f (negative f 1) (combination f n (drop j v) (drop j rows)))
reduced_step f n v out rows j lv lr =
    let r = get_or rows j [] in
    let rest = combination f n (drop (j + 1) v) (drop (j + 1) rows) in
    vector_sum_assoc f out (multiple f (negative f (get_or v j 0)) r) (multiple f (negative f 1) rest)
    ∙ ap (λ x. vector_sum f out (vector_sum f x (multiple f (negative f 1) rest)))
    (ap (λ a. multiple f a r) (negative-times f (get_or v j 0)) ∙ multiple-times f (negative f 1) (get_or v j 0) r)
    ∙ ap (λ x. vector_sum f out x) (sym (multiple-vector_sum f (negative f 1) (multiple f (get_or v j 0) r) rest))
    ∙ ap (λ x. vector_sum f out (multiple f (negative f 1) x))
    (ap₂ (λ cs rs. combination f n cs rs) (sym (drop_more v j 0 lv)) (sym (drop_more rows j [] lr)))

pub reduced_end : (f : Field) (n : ℕ) (v out : List ℕ) (rows : List (List ℕ)) (j : ℕ) → length v ≤ j → IsVector f n out →
    vector_sum f out (multiple f (negative f 1) (combination f n (drop j v) (drop j rows))) ≡ out
reduced_end f n v out rows j l h =
    ap (λ cs. vector_sum f out (multiple f (negative f 1) (combination f n cs (drop j rows)))) (drop_all j v l)
    ∙ ap (λ x. vector_sum f out x) (multiple-zeros f (negative f 1) n)
    ∙ vector_sum-zeros f n out h

pub map_from_entries : (h : List ℕ → List ℕ) (xs ys : List (List ℕ)) → length ys ≡ length xs →
    ((k : ℕ) → k < length xs → get_or ys k [] ≡ h (get_or xs k [])) → ys ≡ map h xs
map_from_entries h xs ys e each =
    ext_get_or [] ys (map h xs) (e ∙ sym (length-map xs h))
    (λ k l. each k (omega arith) ∙ sym (get_or-map h xs k [] [] (omega arith)))
