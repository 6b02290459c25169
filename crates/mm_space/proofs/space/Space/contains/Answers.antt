use Rattle.std.proofs.Common.{sym, subst, ap, ◌∙◌, ◌↔◌}
use Rattle.std.specs.Prelude.{IsTrue}
use Rattle.mm_field.specs.Vectors.{AreDigits, InSpan}
use Rattle.mm_space.specs.SpaceValue.{SpaceValue, IsIn}
use Rattle.mm_space.proofs.KeptLemmas.{held_of, holds_of}
use Rattle.mm_space.proofs.space.Space.contains.Goals as goal

pub returns : goal.returns
returns c =
    let s = c.self.inside in
    let v = c.args.v.now in
    subst (λ (u : SpaceValue). IsTrue c.holds.result ↔ IsIn u v) c.self.view_is
    (holds_of s.field s.r s.rows v c.holds.result (held_of s c.self.invariant)
    (c.requires.same_length ∙ ap (λ (u : SpaceValue). u.r) (sym c.self.view_is))
    (subst (λ (u : SpaceValue). AreDigits u.f v) (sym c.self.view_is) c.requires.digits)
    (subst (λ w. IsTrue c.holds.result ↔ InSpan s.field 24 s.rows w) c.stored.ensures c.holds.ensures))
