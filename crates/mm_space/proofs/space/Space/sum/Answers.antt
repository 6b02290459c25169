use Rattle.std.proofs.Common.{sym, subst, ap, ◌∙◌, ◌++◌, ◌↔◌}
use Rattle.mm_space.specs.SpaceValue.{SpaceValue, IsIn, IsSpanOf, corner}
use Rattle.mm_space.proofs.KeptLemmas.{held_of, held_as, kept_of, span_of_both, corner_each}
use Rattle.mm_space.proofs.EqualLemmas.{sums_of}
use Rattle.mm_linear.specs.Sums.{InSum}
use Rattle.mm_field.specs.Vectors.{AreVectors, InSpan}
use Rattle.mm_space.proofs.space.Space.sum.Goals as goal

pub invariant_of-all : goal.invariant_of-all
invariant_of-all c =
    let s = c.self.inside in
    kept_of s.field s.r c.insert_all.new.rows c.self.invariant.narrow c.insert_all.ensures.held

pub returns-clause-span : goal.returns-clause-span
returns-clause-span c =
    let s = c.self.inside in
    let o = c.other.inside in
    let new = c.insert_all.new.rows in
    let same_field = ap (λ (u : SpaceValue). u.f) c.other.view_is ∙ c.requires.field ∙ sym (ap (λ (u : SpaceValue). u.f) c.self.view_is) in
    let same_length = ap (λ (u : SpaceValue). u.r) c.other.view_is ∙ c.requires.length ∙ sym (ap (λ (u : SpaceValue). u.r) c.self.view_is) in
    let others = ap (λ r. corner r o.rows) (sym same_length) ∙ ap (λ (u : SpaceValue). u.rows) c.other.view_is in
    let result : SpaceValue = record { f = s.field; r = s.r; rows = corner s.r new } in
    subst (λ rows. IsSpanOf c.args.self.now.f c.args.self.now.r (c.args.self.now.rows ++ rows) result) others
    (subst (λ (u : SpaceValue). IsSpanOf u.f u.r (u.rows ++ corner s.r o.rows) result) c.self.view_is
    (span_of_both s.field 24 s.r s.rows o.rows new (held_of s c.self.invariant)
    (held_as s o same_field same_length c.other.invariant) c.insert_all.ensures.held c.insert_all.ensures.span))

pub returns-clause-sums : goal.returns-clause-sums
returns-clause-sums c = λ z.
    let s = c.self.inside in
    let o = c.other.inside in
    let result : SpaceValue = record { f = s.field; r = s.r; rows = corner s.r c.insert_all.new.rows } in
    let u = c.args.self.now in
    let w = c.args.other.now in
    let each = subst (λ (u : SpaceValue). AreVectors u.f u.r u.rows) c.self.view_is (corner_each s.field 24 s.r s.rows (held_of s c.self.invariant)) in
    let others = subst (λ (u : SpaceValue). AreVectors u.f u.r u.rows) c.other.view_is (corner_each o.field 24 o.r o.rows (held_of o c.other.invariant)) in
    let others' = subst (λ f. AreVectors f u.r w.rows) c.requires.field (subst (λ r. AreVectors w.f r w.rows) c.requires.length others) in
    subst (λ f. IsIn result z ↔ InSum u.f (IsIn u) (InSpan f w.r w.rows) z) (sym c.requires.field)
    (subst (λ r. IsIn result z ↔ InSum u.f (IsIn u) (InSpan u.f r w.rows) z) (sym c.requires.length)
    (sums_of u w.rows result each others' (returns-clause-span c) z))
