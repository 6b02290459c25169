use Rattle.std.proofs.Common.{arith}
use Rattle.mm_space.specs.SpaceValue.{SpaceValue, corner}
use Rattle.mm_space.proofs.KeptLemmas.{kept_of}
use Rattle.mm_space.proofs.Gathering.{image_is}
use Rattle.mm_space.proofs.EqualLemmas.{images_of}
use Rattle.mm_space.proofs.space.Space.image.Goals as goal

pub invariant_of-space : goal.invariant_of-space
invariant_of-space c = kept_of c.args.f c.args.r c.image_rows.new.rows c.requires.narrow c.image_rows.ensures.held

pub returns-clause-span : goal.returns-clause-span
returns-clause-span c =
    let l = c.requires.narrow in
    image_is c.args.f c.args.r c.args.g.now c.args.key.now.rows c.image_rows.new.rows (omega arith) c.requires.rows c.image_rows.ensures.held
    c.image_rows.ensures.span

pub returns-clause-images : goal.returns-clause-images
returns-clause-images c = λ z.
    let key = c.args.key.now in
    let result : SpaceValue = record { f = c.args.f; r = c.args.r; rows = corner c.args.r c.image_rows.new.rows } in
    images_of c.args.f key.t c.args.r key.rows c.args.g.now result c.image_rows.ensures.key_rows c.requires.rows (returns-clause-span c) z
