use Rattle.std.proofs.Common.{sym, subst, ap, ◌∙◌, ◌∷◌}
use Rattle.mm_field.specs.Vectors.{AreDigits}
use Rattle.mm_space.specs.SpaceValue.{SpaceValue, IsSpanOf, corner}
use Rattle.mm_space.specs.Insertion.{IsInserted}
use Rattle.mm_space.proofs.KeptLemmas.{held_of, kept_of, inserted_held, span_of_inserted}
use Rattle.mm_space.proofs.space.Space.add_vector.Goals as goal

pub invariant_of-self : goal.invariant_of-self
invariant_of-self c =
    let s = c.self.inside in
    kept_of s.field s.r c.insert.new.rows c.self.invariant.narrow
    (inserted_held s.field 24 s.r c.stored.result.now s.rows c.insert.new.rows (held_of s c.self.invariant).narrow c.insert.ensures.inserted)

pub returns : goal.returns
returns c =
    let s = c.self.inside in
    let v = c.args.v.now in
    subst (λ (u : SpaceValue). IsSpanOf u.f u.r (v ∷ u.rows) (record { f = s.field; r = s.r; rows = corner s.r c.insert.new.rows })) c.self.view_is
    (span_of_inserted s.field 24 s.r v s.rows c.insert.new.rows (held_of s c.self.invariant)
    (record {
      len = c.requires.same_length ∙ ap (λ (u : SpaceValue). u.r) (sym c.self.view_is);
      digits = subst (λ (u : SpaceValue). AreDigits u.f v) (sym c.self.view_is) c.requires.digits;
    })
    (subst (λ w. IsInserted s.field 24 s.r w s.rows c.insert.new.rows) c.stored.ensures c.insert.ensures.inserted))
