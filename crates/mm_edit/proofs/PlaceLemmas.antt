-- The place that a search finds, and its way.
use Rattle.std.proofs.Common.{ℕ, ◌≡◌, ◌-◌, nat_le, Bool, true, false, List, [], ◌∷◌, length, take, refl, sym, ap, ◌∙◌, subst, Option, Some, None, if◌then◌else◌, arith}
use Rattle.std.proofs.lemmas.Bool.{le-leb}
use Rattle.mm_tree.specs.NamedTree.{Tree}
use Rattle.mm_tree.specs.Paths.{Path, path_to}
use Rattle.mm_tree.specs.Places.{path_of, IsPath, path_above, less_steps, place_at, place_at_end}
use Rattle.mm_tree.specs.declared.place.Place.{Place}
use Rattle.mm_tree.proofs.PlaceLemmas.{path_of_number, path_to_leaf, path_front}

-- the way some steps above a leaf leads to a node
above_is : (name : List ℕ) (up : ℕ) (tree : Tree) (path : Path) → path_above name up tree ≡ Some path → IsPath tree path
above_is name up tree path e = by_way (path_to name tree) (path_to_leaf name tree) e
  where
    by_test : (b : Bool) (long : Path) → IsPath tree long → (if b then Some (take (length long - up) long) else None) ≡ Some path → IsPath tree path
    by_test true long w e = let same : take (length long - up) long ≡ path = cc in subst (IsPath tree) same (path_front tree long (length long - up) w)
    by_test false long w e = cc

    by_way : (o : Option Path) → ((p : Path) → o ≡ Some p → IsPath tree p) → less_steps up o ≡ Some path → IsPath tree path
    by_way (Some long) f e = by_test (nat_le up (length long)) long (f long refl) e
    by_way None f e = cc

-- the way of the place that was found
pub found_way : (name : List ℕ) (up : ℕ) (tree : Tree) (place : Place) → Some place ≡ place_at_end tree (path_above name up tree) → path_above name up tree ≡ Some (path_of place.number tree)
found_way name up tree place e = by_way (path_above name up tree) (above_is name up tree) e
  where
    by_way : (o : Option Path) → ((p : Path) → o ≡ Some p → IsPath tree p) → Some place ≡ place_at_end tree o → o ≡ Some (path_of place.number tree)
    by_way (Some path) f e =
        let same : place ≡ place_at tree path = cc in
        ap (λ p. Some p) (sym (ap (λ (q : Place). path_of q.number tree) same ∙ path_of_number tree path (f path refl)))
    by_way None f e = cc

-- no place was found
pub no_way : (name : List ℕ) (up : ℕ) (tree : Tree) → None ≡ place_at_end tree (path_above name up tree) → path_above name up tree ≡ None
no_way name up tree e = by_way (path_above name up tree) e
  where
    by_way : (o : Option Path) → None ≡ place_at_end tree o → o ≡ None
    by_way (Some path) e = cc
    by_way None e = refl

-- no steps above a leaf stands the leaf
pub leaf_above : (name : List ℕ) (tree : Tree) (path : Path) → path_above name 0 tree ≡ Some path → path_to name tree ≡ Some path
leaf_above name tree path e = by_way (path_to name tree) e
  where
    whole : (p : Path) → take (length p) p ≡ p
    whole [] = refl
    whole (step ∷ p) = ap (λ q. step ∷ q) (whole p)

    by_way : (o : Option Path) → less_steps 0 o ≡ Some path → o ≡ Some path
    by_way (Some long) e =
        let less : length long - 0 ≡ length long = omega arith in
        ap (λ p. Some p) (sym (ap (λ k. take k long) less ∙ whole long))
        ∙ sym (ap (λ (b : Bool). if b then Some (take (length long - 0) long) else None) (le-leb 0 (length long) (omega arith))) ∙ e
    by_way None e = cc
