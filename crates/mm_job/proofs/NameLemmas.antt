-- The names of a set, one after another.
use Rattle.std.proofs.Common.{◌≡◌, ℕ, zero, suc, ◌+◌, List, [], ◌∷◌, ◌++◌, take, sym, ap, ◌∙◌, arith}
use Rattle.std.specs.Prelude.{Some, codes, flat_map, slice_get}
use Rattle.std.proofs.lemmas.Grind.{flat_map-append}
use Rattle.std.proofs.lemmas.List.{append-nil, append_assoc}
use Rattle.std.proofs.lemmas.Option.{none-some, same_Some}

take_next : {A : Type 0} (xs : List A) (i : ℕ) (x : A) → slice_get xs i ≡ Some x → take (i + 1) xs ≡ take i xs ++ x ∷ []
take_next [] i x h = absurd (none-some x h)
take_next (y ∷ xs) zero x h = ap (λ z. z ∷ []) (same_Some y x h)
take_next (y ∷ xs) (suc i) x h = ap (λ (k : ℕ). take k (y ∷ xs)) {x = suc i + 1} {y = suc (i + 1)} (omega arith) ∙ ap (λ l. y ∷ l) (take_next xs i x h)

abbrev pub spaced_names : List (List ℕ) → List ℕ
spaced_names names = flat_map (λ name. codes " " ++ name) names

pub name_more : (names : List (List ℕ)) (i : ℕ) (name first text more : List ℕ) → slice_get names i ≡ Some name → text ≡ first ++ spaced_names (take i names)
    → more ≡ text ++ codes " " ++ name → more ≡ first ++ spaced_names (take (i + 1) names)
name_more names i name first text more at before word =
    let all : spaced_names (take (i + 1) names) ≡ spaced_names (take i names) ++ (codes " " ++ name) =
    ap spaced_names (take_next names i name at) ∙ flat_map-append (λ name. codes " " ++ name) (take i names) (name ∷ [])
    ∙ ap (λ l. spaced_names (take i names) ++ l) (append-nil (codes " " ++ name)) in
    word ∙ ap (λ l. l ++ codes " " ++ name) before ∙ append_assoc (first ++ spaced_names (take i names)) (codes " ") name
    ∙ append_assoc first (spaced_names (take i names)) (codes " " ++ name) ∙ ap (λ l. first ++ l) (sym all)
