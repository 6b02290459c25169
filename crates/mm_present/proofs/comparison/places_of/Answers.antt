use Rattle.std.proofs.Common.{map, [], position, ap, ◌∙◌, arith, sym}
use Rattle.std.specs.Str.{bytes_eq}
use Rattle.std.proofs.lemmas.List.{take_all, get_or_default}
use Rattle.std.proofs.lemmas.Option.{get_or_from_slice_get}
use Rattle.mm_present.proofs.CompareLemmas.{next_place, same_position}
use Rattle.mm_present.proofs.comparison.places_of.Goals as goal

pub loop-k-preserved : goal.loop-k-preserved
loop-k-preserved c =
    let names = c.args.names.now in
    let keys = c.args.set.now.keys in
    let k = c.loop-k.k in
    let name = c.at.result in
    let here = sym (get_or_from_slice_get names k name [] c.at.ensures) in
    c.in_ok-push.ensures.items
    ∙ next_place (λ name. position (bytes_eq name) keys) names k name c.get_index_of.result c.loop-k.places.items (omega (arith, c.len-k-end.ensures))
    (here ∙ get_or_default names k [] name (omega (arith, c.len-k-end.ensures))) (c.get_index_of.ensures.index ∙ same_position keys name) c.loop-k.invariant

pub returns : goal.returns
returns c =
    c.loop-k.invariant
    ∙ ap (map (λ name. position (bytes_eq name) c.args.set.now.keys)) (take_all c.loop-k.k c.args.names.now (omega (arith, c.len-k-end.ensures)))
