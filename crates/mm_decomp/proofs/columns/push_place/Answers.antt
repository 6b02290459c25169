use Rattle.std.proofs.Common.{ℕ, ℤ, true, ◌≡◌, ◌++◌, ◌∷◌, [], List, map, refl, ap, sym, subst, ◌∙◌, arith}
use Rattle.std.specs.List.{All}
use Rattle.std.specs.Option.{IsSome}
use Rattle.std.proofs.lemmas.Option.{same_Some}
use Rattle.mm_tree.specs.NamedTree.{is_one_of}
use Rattle.mm_present.proofs.CompareLemmas.{same_position}
use Rattle.mm_decomp.specs.declared.shape.Step.{Step}
use Rattle.mm_decomp.specs.declared.shape.Step.TheVariants as steps
use Rattle.mm_decomp.specs.Shapes.{leaf_names}
use Rattle.mm_decomp.specs.Spaces.{place_in}
use Rattle.mm_decomp.proofs.ShapeLemmas.{place_is}
use Rattle.mm_decomp.proofs.columns.push_place.Goals as goal

named : (P : List ℕ → Type 0) (step : Step) (name : List ℕ) (weight : ℤ) → step ≡ steps.Leaf name weight → All P (leaf_names (step ∷ [])) → P name
named P step name weight e h = (subst (λ (s : Step). All P (leaf_names (s ∷ []))) e h) 0 [] (omega arith)

pub unwrap-requires : goal.unwrap-requires
unwrap-requires c =
    let keys = c.args.set.now.keys in
    let name = c.in-Leaf.name in
    subst (λ o. IsSome o)
    (sym (c.get_index_of.ensures.index ∙ same_position keys name
    ∙ place_is name keys (named (λ n. is_one_of n keys ≡ true) c.args.step.now name _ c.in-Leaf.is c.requires))) refl

pub returns-in_ok-push-in-Leaf : goal.returns-in_ok-push-in-Leaf
returns-in_ok-push-in-Leaf c =
    let keys = c.args.set.now.keys in
    let name = c.in-Leaf.name in
    let at = same_Some _ _
    (sym c.unwrap.ensures ∙ c.get_index_of.ensures.index ∙ same_position keys name
    ∙ place_is name keys (named (λ n. is_one_of n keys ≡ true) c.args.step.now name _ c.in-Leaf.is c.requires)) in
    c.in_ok-push-in-Leaf.ensures.items ∙ ap (λ k. c.args.places.now.items ++ k ∷ []) at
    ∙ ap (λ (s : Step). c.args.places.now.items ++ map (place_in keys) (leaf_names (s ∷ []))) (sym c.in-Leaf.is)
