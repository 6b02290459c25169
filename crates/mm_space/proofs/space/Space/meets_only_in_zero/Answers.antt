use Rattle.std.proofs.Common.{sym, subst, ap, ◌∙◌, ◌↔◌}
use Rattle.std.specs.Prelude.{IsTrue}
use Rattle.mm_field.specs.Vectors.{InSpan}
use Rattle.mm_linear.specs.Sums.{MeetTrivially}
use Rattle.mm_space.specs.SpaceValue.{SpaceValue, corner}
use Rattle.mm_space.proofs.KeptLemmas.{held_of, held_as, meet_of}
use Rattle.mm_space.proofs.space.Space.meets_only_in_zero.Goals as goal

pub returns : goal.returns
returns c =
    let s = c.self.inside in
    let o = c.other.inside in
    let same_field = ap (λ (u : SpaceValue). u.f) c.other.view_is ∙ c.requires.field ∙ sym (ap (λ (u : SpaceValue). u.f) c.self.view_is) in
    let same_length = ap (λ (u : SpaceValue). u.r) c.other.view_is ∙ c.requires.length ∙ sym (ap (λ (u : SpaceValue). u.r) c.self.view_is) in
    let others = ap (λ r. corner r o.rows) (sym same_length) ∙ ap (λ (u : SpaceValue). u.rows) c.other.view_is in
    subst (λ rows. IsTrue c.meet_in_zero.result ↔ MeetTrivially c.args.self.now.r (InSpan c.args.self.now.f c.args.self.now.r c.args.self.now.rows) (InSpan c.args.self.now.f c.args.self.now.r rows)) others
    (subst (λ (u : SpaceValue). IsTrue c.meet_in_zero.result ↔ MeetTrivially u.r (InSpan u.f u.r u.rows) (InSpan u.f u.r (corner s.r o.rows))) c.self.view_is
    (meet_of s.field s.r s.rows o.rows c.meet_in_zero.result (held_of s c.self.invariant)
    (held_as s o same_field same_length c.other.invariant) c.meet_in_zero.ensures))
