use Rattle.std.proofs.Common.{true, ◌≡◌, [], ◌∷◌, map, ap, sym, subst, ◌∙◌, arith}
use Rattle.std.specs.List.{All}
use Rattle.std.proofs.lemmas.List.{take_all}
use Rattle.mm_tree.specs.NamedTree.{is_one_of}
use Rattle.mm_decomp.specs.Shapes.{leaf_names}
use Rattle.mm_decomp.specs.Spaces.{place_in}
use Rattle.mm_decomp.proofs.ShapeLemmas.{at_step, next_places}
use Rattle.mm_decomp.proofs.columns.places_of.Goals as goal

pub push_place-requires : goal.push_place-requires
push_place-requires c =
    let keys = c.args.set.now.keys in
    let step = c.index-steps-i.result in
    subst (λ s. All (λ name. is_one_of name keys ≡ true) (leaf_names (s ∷ []))) (sym c.index-steps-i.is)
    (at_step (λ name. is_one_of name keys ≡ true) c.args.steps.now c.loop-i.i step (omega arith) c.requires)

pub loop-i-preserved : goal.loop-i-preserved
loop-i-preserved c =
    next_places c.args.set.now.keys c.args.steps.now c.loop-i.i c.index-steps-i.result c.loop-i.places.items c.push_place.new.places.items (omega arith)
    c.index-steps-i.is c.loop-i.invariant c.in_ok-push_place.ensures

pub returns : goal.returns
returns c =
    c.loop-i.invariant ∙ ap (λ ss. map (place_in c.args.set.now.keys) (leaf_names ss)) (take_all c.loop-i.i c.args.steps.now (omega arith))
