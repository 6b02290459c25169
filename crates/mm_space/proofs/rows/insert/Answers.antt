use Rattle.std.proofs.Common.{◌≡◌, arith, sym, subst, length, ap, ◌∙◌}
use Rattle.mm_field.specs.Vectors.{IsVector, multiple}
use Rattle.mm_field.proofs.VectorLemmas.{IsVector-multiple}
use Rattle.mm_linear.proofs.InsertLemmas.{in_span_with_no_residue}
use Rattle.mm_space.proofs.RowLemmas.{inserted_is, nothing_inserted, outside_with_residue}
use Rattle.mm_space.proofs.rows.insert.Goals as goal

pub inv-c-requires-clause-digit : goal.inv-c-requires-clause-digit
inv-c-requires-clause-digit c =
    c.reduced-w.ensures.vector.digits c.in-Some.p 0
    (let a : length c.reduced-w.result ≡ 24 = c.reduced-w.ensures.vector.len in
    let b = c.in-Some.ensures.found.0 in
    let n = c.requires.narrow in
    omega arith)

pub scale-requires-clause-digits : goal.scale-requires-clause-digits
scale-requires-clause-digits c = c.reduced-w.ensures.vector.digits

pub clear_all-requires-clause-vector : goal.clear_all-requires-clause-vector
clear_all-requires-clause-vector c =
    subst (λ x. IsVector c.args.f 24 x) (sym c.scale.ensures)
    (IsVector-multiple c.args.f 24 c.inv-c.result c.reduced-w.result c.reduced-w.ensures.vector.len)

pub returns-in-Some-clause-inserted : goal.returns-in-Some-clause-inserted
returns-in-Some-clause-inserted c =
    let found = c.in-Some.ensures.found in
    let first = found.0 in
    let narrow = c.requires.narrow in
    inserted_is c.args.f 24 c.args.r c.in-Some.p c.args.v.now c.reduced-w.result c.scale.new.x c.args.rows.now c.clear_all.new.rows
    c.requires.echelon c.requires.vector c.reduced-w.ensures.residue (omega arith) found.1 c.in-Some.ensures.last
    (c.scale.ensures ∙ ap (λ a. multiple c.args.f a c.reduced-w.result) c.inv-c.ensures.inverse)
    c.clear_all.ensures c.requires.within c.requires.ends

pub returns-in-Some-clause-outside : goal.returns-in-Some-clause-outside
returns-in-Some-clause-outside c = λ yes.
    let found = c.in-Some.ensures.found in
    let first = found.0 in
    let narrow = c.requires.narrow in
    outside_with_residue c.args.f 24 c.in-Some.p c.args.v.now c.reduced-w.result c.args.rows.now c.requires.echelon c.requires.vector
    c.reduced-w.ensures.residue (omega arith) found.1

pub returns-in-None-clause-inserted : goal.returns-in-None-clause-inserted
returns-in-None-clause-inserted c =
    nothing_inserted c.args.f 24 c.args.r c.args.v.now c.reduced-w.result c.args.rows.now c.requires.echelon c.requires.vector
    c.reduced-w.ensures.residue c.in-None.ensures.none c.requires.within

pub returns-in-None-clause-inside : goal.returns-in-None-clause-inside
returns-in-None-clause-inside c = λ no.
    in_span_with_no_residue c.args.f 24 c.args.v.now c.args.rows.now c.requires.echelon c.requires.vector
    (sym c.reduced-w.ensures.residue ∙ c.in-None.ensures.none)
