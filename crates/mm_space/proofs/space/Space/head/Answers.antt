use Rattle.std.proofs.Common.{sym, subst, ap, ◌∙◌, length}
use Rattle.mm_field.specs.Vectors.{AreVectors}
use Rattle.mm_linear.proofs.FirstUnits.{first_units, first_units_count}
use Rattle.mm_space.specs.SpaceValue.{SpaceValue}
use Rattle.mm_space.specs.Preimages.{IsPreimage}
use Rattle.mm_space.proofs.HeadLemmas.{first_units_vectors, head_of_preimage}
use Rattle.mm_space.proofs.space.Space.head.Goals as goal

pub preimage-requires-clause-count : goal.preimage-requires-clause-count
preimage-requires-clause-count c = ap length c.first_units.ensures ∙ first_units_count c.self.inside.r c.args.t3

pub preimage-requires-clause-rows : goal.preimage-requires-clause-rows
preimage-requires-clause-rows c =
    let s = c.args.self.now in
    subst (λ g. AreVectors s.f s.r g)
    (ap (λ r. first_units r c.args.t3) (ap (λ (u : SpaceValue). u.r) (sym c.self.view_is)) ∙ sym c.first_units.ensures)
    (first_units_vectors s.f s.r c.args.t3 c.requires.inside)

pub returns : goal.returns
returns c =
    let s = c.args.self.now in
    head_of_preimage s c.args.t3 c.preimage.result c.requires.inside
    (subst (λ g. IsPreimage s g c.args.t3 c.preimage.result)
    (c.first_units.ensures ∙ ap (λ (u : SpaceValue). first_units u.r c.args.t3) c.self.view_is) c.preimage.ensures)
