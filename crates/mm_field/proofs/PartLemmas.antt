-- The laws of vectors in two parts, and of linear maps on combinations.
use Rattle.std.proofs.Common.{ℕ, ◌+◌, ◌<◌, ◌≡◌, List, [], ◌∷◌, ◌++◌, length, map, take, drop, sym, ap, ap₂, ◌∙◌, refl, arith, length-append, length-drop}
use Rattle.std.proofs.lemmas.List.{replicate-append-replicate, length-take-le, take_at, drop_at}
use Rattle.std.proofs.lemmas.List.Elements.{All-append, All-weaker, All-take, All-drop, All-map}
use Rattle.mm_field.specs.declared.Field.{Field}
use Rattle.mm_field.specs.Digits.{order}
use Rattle.mm_field.specs.Vectors.{zeros, vector_sum, multiple, combination, IsVector, AreVectors}
use Rattle.mm_field.proofs.VectorLemmas.{IsVector-multiple}
use Rattle.mm_field.proofs.CombinationLemmas.{first_row, other_rows, IsVector-combination}

-- A combination of the images under a linear map is the image of the combination.
pub combination-map : (f : Field) (n k : ℕ) (h : List ℕ → List ℕ) →
    ((u v : List ℕ) → IsVector f n u → IsVector f n v → h (vector_sum f u v) ≡ vector_sum f (h u) (h v)) →
    ((c : ℕ) (u : List ℕ) → IsVector f n u → h (multiple f c u) ≡ multiple f c (h u)) →
    h (zeros n) ≡ zeros k →
    (cs : List ℕ) (rows : List (List ℕ)) → AreVectors f n rows →
    combination f k cs (map h rows) ≡ h (combination f n cs rows)
combination-map f n k h hs hm hz [] rows hr = sym hz
combination-map f n k h hs hm hz (c ∷ cs) [] hr = sym hz
combination-map f n k h hs hm hz (c ∷ cs) (v ∷ vs) hr =
    ap₂ (λ x y. vector_sum f x y)
    (sym (hm c v (first_row f n v vs hr)))
    (combination-map f n k h hs hm hz cs vs (other_rows f n v vs hr))
    ∙ sym (hs (multiple f c v) (combination f n cs vs)
    (IsVector-multiple f n c v (first_row f n v vs hr).len)
    (IsVector-combination f n cs vs (other_rows f n v vs hr)))

pub IsVector-take : (f : Field) (t m : ℕ) (v : List ℕ) → IsVector f (t + m) v → IsVector f t (take t v)
IsVector-take f t m v h = record {
  len = let e : length v ≡ t + m = h.len in length-take-le t v (omega arith);
  digits = All-take (λ d. d < order f) t v h.digits;
}

pub IsVector-drop : (f : Field) (t m : ℕ) (v : List ℕ) → IsVector f (t + m) v → IsVector f m (drop t v)
IsVector-drop f t m v h = record {
  len = let e : length v ≡ t + m = h.len in length-drop t v ∙ omega arith;
  digits = All-drop (λ d. d < order f) t v h.digits;
}

pub IsVector-append : (f : Field) (t m : ℕ) (u v : List ℕ) → IsVector f t u → IsVector f m v → IsVector f (t + m) (u ++ v)
IsVector-append f t m u v p q = record {
  len = length-append u v ∙ ap₂ (λ x y. x + y) p.len q.len;
  digits = All-append (λ d. d < order f) u v p.digits q.digits;
}

pub zeros-append : (t m : ℕ) → zeros t ++ zeros m ≡ zeros (t + m)
zeros-append t m = replicate-append-replicate t m 0

pub AreVectors-map : (f : Field) (n k : ℕ) (h : List ℕ → List ℕ) →
    ((u : List ℕ) → IsVector f n u → IsVector f k (h u)) → (rows : List (List ℕ)) → AreVectors f n rows →
    AreVectors f k (map h rows)
AreVectors-map f n k h each rows hr =
    All-map (λ v. IsVector f k v) h rows
    (All-weaker (λ v. IsVector f n v) (λ v. IsVector f k (h v)) each rows hr)

pub append_parts : (xs us ys vs : List ℕ) → length xs ≡ length us → xs ++ ys ≡ us ++ vs → (xs ≡ us) × (ys ≡ vs)
append_parts xs us ys vs e h = (
  sym (take_at xs ys (length xs) refl) ∙ ap (take (length xs)) h ∙ take_at us vs (length xs) (sym e),
  sym (drop_at xs ys (length xs) refl) ∙ ap (drop (length xs)) h ∙ drop_at us vs (length xs) (sym e),
)
