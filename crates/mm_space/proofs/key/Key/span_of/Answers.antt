use Rattle.std.proofs.Common.{subst, [], refl}
use Rattle.mm_space.specs.SpaceValue.{IsSpanOf}
use Rattle.mm_space.specs.Preimages.{IsHead}
use Rattle.mm_space.proofs.HeadLemmas.{span_of_one}
use Rattle.mm_space.proofs.key.Key.span_of.Goals as goal

pub returns : goal.returns
returns c =
    span_of_one c.args.f c.args.v.now c.zero-space.result c.add_vector.new.self c.head.result
    (record { len = refl; digits = c.requires.digits })
    (subst (λ n. IsSpanOf c.args.f n [] c.zero-space.result) c.len.ensures c.zero-space.ensures)
    c.add_vector.ensures
    (subst (λ n. IsHead c.add_vector.new.self n c.head.result) c.len-2.ensures c.head.ensures)
