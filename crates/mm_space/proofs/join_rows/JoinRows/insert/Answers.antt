use Rattle.std.proofs.Common.{ℕ, ◌≡◌, ◌<◌, ◌*◌, ◌%◌, ◌^◌, List, map, length, sym, subst, ap, ◌∙◌, arith, w64}
use Rattle.std.specs.Prelude.{bit_or}
use Rattle.std.proofs.lemmas.Nat.{or_lt, one_shl, pow_below}
use Rattle.std.proofs.lemmas.Nat.Bits.{bit_at_set_same, bit_at_set_other}
use Rattle.mm_field.specs.Vectors.{IsVector, multiple, zeros}
use Rattle.mm_field.proofs.VectorLemmas.{IsVector-multiple, zeros-vector_sum}
use Rattle.mm_linear.specs.Eliminate.{residue, cleared}
use Rattle.mm_linear.proofs.InsertLemmas.{in_span_with_no_residue}
use Rattle.mm_space.specs.Insertion.{IsInserted}
use Rattle.mm_space.specs.MarkedRows.{marked_rows}
use Rattle.mm_space.proofs.MarkLemmas.{marked-put, no_support}
use Rattle.mm_space.proofs.RowLemmas.{inserted_is, nothing_inserted, outside_with_residue}
use Rattle.mm_space.proofs.join_rows.JoinRows.insert.Goals as goal

pub returns-then-places-eq0-clause-inserted : goal.returns-then-places-eq0-clause-inserted
returns-then-places-eq0-clause-inserted c =
    let rest = c.reduced-rest.result in
    let u_is = c.reduced-rest.ensures.residue ∙ ap (residue c.args.f 24 c.args.v.now) c.self.view_is in
    let none = no_support rest c.support-places.result c.support-places.ensures c.if-places-eq0.true ∙ ap zeros c.reduced-rest.ensures.vector.len in
    nothing_inserted c.args.f 24 c.args.r c.args.v.now rest c.args.self.now c.requires.echelon c.requires.vector u_is none c.requires.within

pub returns-then-places-eq0-clause-inside : goal.returns-then-places-eq0-clause-inside
returns-then-places-eq0-clause-inside c = λ no.
    let rest = c.reduced-rest.result in
    let u_is = c.reduced-rest.ensures.residue ∙ ap (residue c.args.f 24 c.args.v.now) c.self.view_is in
    let none = no_support rest c.support-places.result c.support-places.ensures c.if-places-eq0.true ∙ ap zeros c.reduced-rest.ensures.vector.len in
    in_span_with_no_residue c.args.f 24 c.args.v.now c.args.self.now c.requires.echelon c.requires.vector (sym u_is ∙ none)

pub inv-requires-clause-digit : goal.inv-requires-clause-digit
inv-requires-clause-digit c =
    c.reduced-rest.ensures.vector.digits c.last-p.result 0 (c.support-places.ensures.nonzero c.last-p.result c.last-p.ensures.set).0

pub axpy-requires-clause-digits_x : goal.axpy-requires-clause-digits_x
axpy-requires-clause-digits_x c = c.reduced-rest.ensures.vector.digits

pub clear_column-requires-clause-vector : goal.clear_column-requires-clause-vector
clear_column-requires-clause-vector c =
    let rest = c.reduced-rest.result in
    let hm = IsVector-multiple c.args.f 24 c.inv.result rest c.reduced-rest.ensures.vector.len in
    subst (λ x. IsVector c.args.f 24 x) (sym (c.axpy.ensures ∙ zeros-vector_sum c.args.f 24 (multiple c.args.f c.inv.result rest) hm)) hm

pub invariant_of-self : goal.invariant_of-self
invariant_of-self c =
    let p = c.last-p.result in
    let inside = (c.support-places.ensures.nonzero p c.last-p.ensures.set).0 in
    let long = c.reduced-rest.ensures.vector.len in
    let lp : p < 24 = omega (arith, inside, long) in
    or_lt 24 c.self.inside.marks (1 * 2 ^ p % 18446744073709551616) c.self.invariant
    (subst (λ (x : ℕ). x < 2 ^ 24) (sym (one_shl p 64 (omega arith))) (pow_below p 24 lp))

pub returns-clause-inserted : goal.returns-clause-inserted
returns-clause-inserted c =
    let f = c.args.f in
    let p = c.last-p.result in
    let v = c.args.v.now in
    let rest = c.reduced-rest.result in
    let w = c.axpy.new.y in
    let marks = c.self.inside.marks in
    let more = bit_or marks (1 * 2 ^ p % 18446744073709551616) in
    let rows = c.clear_column.new.rows in
    let E = c.args.self.now in
    let highest = c.last-p.ensures in
    let s = c.support-places.ensures in
    let here = s.nonzero p highest.set in
    let inside = here.0 in
    let long = c.reduced-rest.ensures.vector.len in
    let lp : p < 24 = omega (arith, inside, long) in
    let lr : length rows ≡ 24 = c.clear_column.array_long in
    let u_is = c.reduced-rest.ensures.residue ∙ ap (residue f 24 v) c.self.view_is in
    let hm = IsVector-multiple f 24 c.inv.result rest long in
    let w_is = c.axpy.ensures ∙ zeros-vector_sum f 24 (multiple f c.inv.result rest) hm ∙ ap (λ (a : ℕ). multiple f a rest) c.inv.ensures.inverse in
    subst (λ (m : List (List ℕ)). IsInserted f 24 c.args.r v E m)
    (sym (marked-put 24 marks more p rows w lp (omega (arith, lp, lr)) (bit_at_set_same w64 marks p (omega (arith, lp)))
    (λ i l ne. bit_at_set_other w64 marks p (omega (arith, lp)) i ne)))
    (inserted_is f 24 c.args.r p v rest w E (marked_rows 24 marks rows) c.requires.echelon c.requires.vector u_is lp here.1
    (λ k l m. s.zero k (omega (arith, m, long)) (highest.after k l)) w_is
    (c.clear_column.ensures ∙ ap (map (cleared f p w)) c.self.view_is) c.requires.within c.requires.ends)

pub returns-clause-outside : goal.returns-clause-outside
returns-clause-outside c = λ yes.
    let f = c.args.f in
    let v = c.args.v.now in
    let u_is = c.reduced-rest.ensures.residue ∙ ap (residue f 24 v) c.self.view_is in
    let here = c.support-places.ensures.nonzero c.last-p.result c.last-p.ensures.set in
    let inside = here.0 in
    let long = c.reduced-rest.ensures.vector.len in
    outside_with_residue f 24 c.last-p.result v c.reduced-rest.result c.args.self.now c.requires.echelon c.requires.vector u_is (omega (arith, inside, long)) here.1
