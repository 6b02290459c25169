use Rattle.std.proofs.Common.{subst}
use Rattle.mm_linear.specs.Echelons.{IsEchelon}
use Rattle.mm_linear.proofs.HeadLemmas.{IsEchelon-head}
use Rattle.mm_space.specs.SpaceValue.{SpaceValue}
use Rattle.mm_space.proofs.KeptLemmas.{held_of}
use Rattle.mm_space.proofs.EqualLemmas.{equal_spaces}
use Rattle.mm_space.proofs.space.Space.equal_by_vectors.Goals as goal

pub returns : goal.returns
returns c =
    let s = c.self.inside in
    let o = c.other.inside in
    equal_spaces c.args.self.now c.args.other.now
    (subst (λ (u : SpaceValue). IsEchelon u.f u.r u.rows) c.self.view_is
    (IsEchelon-head s.field 24 s.r s.rows c.self.invariant.echelon (held_of s c.self.invariant).narrow))
    (subst (λ (u : SpaceValue). IsEchelon u.f u.r u.rows) c.other.view_is
    (IsEchelon-head o.field 24 o.r o.rows c.other.invariant.echelon (held_of o c.other.invariant).narrow))
    c.requires
