-- How what a sink holds grows over several pieces written one after another.
use Rattle.std.proofs.Common.{◌≡◌, ℕ, ◌+◌, ◌<◌, min, List, ◌∷◌, ◌++◌, length, take, drop, get_or, Option, sym, ap, subst, ◌∙◌, arith}
use Rattle.std.specs.Prelude.{flat_map}
use Rattle.std.specs.Io.KnownBytes.{Appends}
use Rattle.std.proofs.KnownBytes.{Appends-trans}
use Rattle.std.proofs.Math.Seq.{take-append-add}
use Rattle.std.proofs.lemmas.List.{take-append-le, take_min, drop_more, take-append-drop}
use Rattle.std.proofs.lemmas.Grind.{flat_map-append}
use Rattle.mm_base.specs.Causes.{GrowsByFront}

-- all of xs, and then a front of ys
pub front_after : (a b c : Option (List ℕ)) (xs ys : List ℕ) → Appends a b xs → GrowsByFront b c ys → GrowsByFront a c (xs ++ ys)
front_after a b c xs ys p q =
    (length xs + q.0, subst (λ (l : List ℕ). Appends a c l) (sym (take-append-add xs ys q.0)) (Appends-trans a b c xs (take q.0 ys) p q.1))

-- a front of xs is a front of xs and more
pub front_more : (a b : Option (List ℕ)) (xs ys : List ℕ) → GrowsByFront a b xs → GrowsByFront a b (xs ++ ys)
front_more a b xs ys q =
    let n = min q.0 (length xs) in
    let same : take n (xs ++ ys) ≡ take q.0 xs = take-append-le n xs ys (omega arith) ∙ take_min q.0 xs in
    (n, subst (λ (l : List ℕ). Appends a b l) (sym same) q.1)

-- the pieces before place i, the piece there and the pieces after it are all pieces
pub flat_map_at : (f : ℕ → List ℕ) (ns : List ℕ) (i : ℕ) → i < length ns → flat_map f (take i ns) ++ (f (get_or ns i 0) ++ flat_map f (drop (i + 1) ns)) ≡ flat_map f ns
flat_map_at f ns i h =
    sym (flat_map-append f (take i ns) (get_or ns i 0 ∷ drop (i + 1) ns)) ∙ ap (λ (l : List ℕ). flat_map f (take i ns ++ l)) (sym (drop_more ns i 0 h)) ∙ ap (flat_map f) (take-append-drop i ns)
