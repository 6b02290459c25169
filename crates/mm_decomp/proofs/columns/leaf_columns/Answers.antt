use Rattle.std.proofs.Common.{ℕ, ◌<◌, ◌≡◌, List, [], ◌∷◌, length, map, refl, ap, sym, subst, ◌∙◌}
use Rattle.std.specs.List.{All}
use Rattle.std.proofs.lemmas.Result.{IfOk-weaker}
use Rattle.mm_matrix.specs.Columns.{column}
use Rattle.mm_decomp.specs.Building.{given_of}
use Rattle.mm_decomp.specs.Shapes.{leaf_names}
use Rattle.mm_decomp.specs.Spaces.{column_of, place_in}
use Rattle.mm_decomp.proofs.ShapeLemmas.{places_inside}
use Rattle.mm_decomp.proofs.columns.leaf_columns.Goals as goal

map_twice : (f : ℕ → List ℕ) (g : List ℕ → ℕ) (xs : List (List ℕ)) → map f (map g xs) ≡ map (λ x. f (g x)) xs
map_twice f g [] = refl
map_twice f g (x ∷ xs) = ap (λ ys. f (g x) ∷ ys) (map_twice f g xs)

pub columns-requires : goal.columns-requires
columns-requires c =
    let names = c.args.names.now in
    let rows = c.args.rows.now in
    subst (λ ks. All (λ k. k < rows.cols) ks)
    (sym (c.deref.ensures.value ∙ c.in_ok-places.ensures ∙ ap (λ ns. map (place_in ns) (leaf_names c.args.steps.now)) c.in_ok-set.ensures))
    (places_inside names (leaf_names c.args.steps.now) rows.cols c.requires.columns c.requires.given)

pub returns : goal.returns
returns c =
    let names = c.args.names.now in
    let rows = c.args.rows.now in
    let leaves = leaf_names c.args.steps.now in
    let places = c.deref.ensures.value ∙ c.in_ok-places.ensures ∙ ap (λ ns. map (place_in ns) leaves) c.in_ok-set.ensures in
    IfOk-weaker c.columns.result _
    (λ m. m ≡ record { f = rows.f; cols = length rows.rows; rows = map (column_of (given_of names rows)) leaves })
    (λ m e. e ∙ ap (λ (ks : List (List ℕ)). record { f = rows.f; cols = length rows.rows; rows = ks })
    (ap (map (column rows.rows)) places ∙ map_twice (column rows.rows) (place_in names) leaves))
    c.columns.ensures
