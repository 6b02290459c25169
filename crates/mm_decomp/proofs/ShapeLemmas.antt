-- The leaves among steps, and the places of their names.
use Rattle.std.proofs.Common.{ℕ, zero, suc, ◌+◌, ◌<◌, ◌≡◌, Bool, true, false, cond, not, ◌||◌, List, [], ◌∷◌, ◌++◌, length, map, take, get_or, refl, sym, ap, ◌∙◌, subst, arith, Some, None}
use Rattle.std.specs.List.{list_any, position, position_or_len, All}
use Rattle.std.specs.Str.{bytes_eq}
use Rattle.std.proofs.lemmas.Bool.{lt-ltb}
use Rattle.std.proofs.lemmas.List.{take_more, map-append, length-map, get_or-map}
use Rattle.std.proofs.lemmas.List.Elements.{All-nil, All-cons, All-head, All-tail}
use Rattle.mm_tree.specs.NamedTree.{is_one_of}
use Rattle.mm_decomp.specs.declared.shape.Step.{Step}
use Rattle.mm_decomp.specs.declared.shape.Step.TheVariants as steps
use Rattle.mm_decomp.specs.Shapes.{leaf_names}
use Rattle.mm_decomp.specs.Spaces.{place_in}

pub leaf_names-append : (xs ys : List Step) → leaf_names (xs ++ ys) ≡ leaf_names xs ++ leaf_names ys
leaf_names-append [] ys = refl
leaf_names-append (steps.Leaf name weight ∷ xs) ys = ap (λ names. name ∷ names) (leaf_names-append xs ys)
leaf_names-append (steps.Join ∷ xs) ys = leaf_names-append xs ys

-- what holds of all leaves' names holds of that of each step
pub at_step : (P : List ℕ → Type 0) (xs : List Step) (i : ℕ) (d : Step) → i < length xs → All P (leaf_names xs) → All P (leaf_names (get_or xs i d ∷ []))
at_step P [] i d l h = absurd (omega arith)
at_step P (steps.Leaf name weight ∷ xs) zero d l h = All-cons P name [] (All-head P name (leaf_names xs) h) (All-nil P)
at_step P (steps.Join ∷ xs) zero d l h = All-nil P
at_step P (steps.Leaf name weight ∷ xs) (suc i) d l h = at_step P xs i d (omega arith) (All-tail P name (leaf_names xs) h)
at_step P (steps.Join ∷ xs) (suc i) d l h = at_step P xs i d (omega arith) h

pub next_places : (names : List (List ℕ)) (xs : List Step) (i : ℕ) (step : Step) (old new : List ℕ) → i < length xs → step ≡ get_or xs i step →
    old ≡ map (place_in names) (leaf_names (take i xs)) → new ≡ old ++ map (place_in names) (leaf_names (step ∷ [])) →
    new ≡ map (place_in names) (leaf_names (take (i + 1) xs))
next_places names xs i step old new l e eo en =
    en ∙ ap (λ ps. ps ++ map (place_in names) (leaf_names (step ∷ []))) eo
    ∙ sym (map-append (place_in names) (leaf_names (take i xs)) (leaf_names (step ∷ [])))
    ∙ ap (map (place_in names)) (sym (leaf_names-append (take i xs) (step ∷ [])))
    ∙ ap (λ s. map (place_in names) (leaf_names (take i xs ++ s ∷ []))) e
    ∙ ap (λ ss. map (place_in names) (leaf_names ss)) (sym (take_more xs i step l))

-- ---- places

pub place_below : (name : List ℕ) (names : List (List ℕ)) → is_one_of name names ≡ true → place_in names name < length names
place_below name names t = go (bytes_eq name) names t
  where
    go : (p : List ℕ → Bool) (xs : List (List ℕ)) → list_any p xs ≡ true → position_or_len p xs < length xs
    go p [] t = cc
    go p (x ∷ xs) t = here (p x) refl (go p xs)
      where
        here : (b : Bool) → p x ≡ b → (list_any p xs ≡ true → position_or_len p xs < length xs) → position_or_len p (x ∷ xs) < length (x ∷ xs)
        here true e ih =
            let at : position_or_len p (x ∷ xs) ≡ 0 = ap (λ (c : Bool). cond (not c) (1 + position_or_len p xs) 0) e in
            omega (arith, at)
        here false e ih =
            let at : position_or_len p (x ∷ xs) ≡ 1 + position_or_len p xs = ap (λ (c : Bool). cond (not c) (1 + position_or_len p xs) 0) e in
            let more = ih (sym (ap (λ (c : Bool). c || list_any p xs) e) ∙ t) in
            omega (arith, at, more)

pub place_is : (name : List ℕ) (names : List (List ℕ)) → is_one_of name names ≡ true → position (bytes_eq name) names ≡ Some (place_in names name)
place_is name names t =
    ap (λ (b : Bool). cond b (Some (place_in names name)) None) (lt-ltb (place_in names name) (length names) (place_below name names t))

pub places_inside : (names others : List (List ℕ)) (n : ℕ) → n ≡ length names → All (λ name. is_one_of name names ≡ true) others →
    All (λ k. k < n) (map (place_in names) others)
places_inside names others n e h = λ i d l.
    let li : i < length others = (let m = length-map others (place_in names) in omega arith) in
    subst (λ k. k < n) (sym (get_or-map (place_in names) others i [] d li))
    (let b = place_below (get_or others i []) names (h i [] li) in omega (arith, e, b))
