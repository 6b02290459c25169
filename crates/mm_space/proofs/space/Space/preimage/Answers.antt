use Rattle.std.proofs.Common.{sym, subst}
use Rattle.mm_field.specs.Vectors.{AreVectors}
use Rattle.mm_space.specs.SpaceValue.{SpaceValue}
use Rattle.mm_space.specs.Preimages.{IsPreimage}
use Rattle.mm_space.proofs.KeptLemmas.{held_of}
use Rattle.mm_space.proofs.PreimageLemmas.{preimage_of_corner}
use Rattle.mm_space.proofs.space.Space.preimage.Goals as goal

pub returns : goal.returns
returns c =
    let s = c.self.inside in
    let g = c.args.g.now in
    let E = c.residue_rows.new.all in
    let hg = subst (λ (u : SpaceValue). AreVectors u.f u.r g) (sym c.self.view_is) c.requires.rows in
    subst (λ (u : SpaceValue). IsPreimage u g c.args.t3 c.of_corner.result) c.self.view_is
    (preimage_of_corner s.field s.r c.args.t3 g s.rows E c.of_corner.result c.requires.narrow c.self.invariant.narrow c.requires.count hg
    (held_of s c.self.invariant) c.residue_rows.ensures.held.echelon c.residue_rows.ensures.span c.of_corner.ensures)
