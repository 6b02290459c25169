use Rattle.std.proofs.Common.{ℕ, ◌≡◌, ◌<◌, ◌≢◌, List, length, get_or, map, sym, ap, ◌∙◌, subst, arith}
use Rattle.mm_field.specs.Vectors.{zeros}
use Rattle.mm_matrix.specs.Residues.{AddsAs}
use Rattle.mm_matrix.proofs.RowLemmas.{digits_of}
use Rattle.mm_matrix.proofs.ReducedLemmas.{IsFirstAt, scaled, nothing_new, adds_as_rest, scaled_in_place}
use Rattle.mm_matrix.proofs.elimination.new_row.Goals as goal

pub returns-in_default : goal.returns-in_default
returns-in_default c =
    let n = length c.args.row.now in
    let u = c.in_ok-rest.rest.items in
    let zero : c.deref.result.now ≡ zeros (length c.deref.result.now) = c.in_default.ensures.none in
    nothing_new c.args.f n (map digits_of c.args.rows.now.items) c.args.leads.now.items c.args.row.now u c.requires.reduced.each c.requires.vector c.in_ok-rest.ensures
    (sym c.deref.ensures.value ∙ zero ∙ ap zeros (ap length c.deref.ensures.value ∙ c.in_ok-rest.ensures.vector.len))

pub returns : goal.returns
returns c =
    let f = c.args.f in
    let n = length c.args.row.now in
    let rows = map digits_of c.args.rows.now.items in
    let ks = c.args.leads.now.items in
    let p = c.in-Some.lead in
    let u = c.in_ok-rest.rest.items in
    let rest = c.in_ok-rest.ensures in
    let at : IsFirstAt n p u = record {
      inside = (let a : p < length c.deref.result.now = c.in-Some.ensures.found.0 in omega (arith, ap length c.deref.ensures.value, rest.vector.len));
      nonzero = subst (λ (x : List ℕ). get_or x p 0 ≢ 0) c.deref.ensures.value c.in-Some.ensures.found.1;
      before = subst (λ (x : List ℕ). (k : ℕ) → k < p → get_or x k 0 ≡ 0) c.deref.ensures.value c.in-Some.ensures.least;
    } in
    subst (λ (x : List ℕ). AddsAs f n p x rows ks c.args.row.now)
    (sym (scaled_in_place f n p c.in_ok-rest.rest c.with_leading_one.new.rest rest.vector
    (c.with_leading_one.ensures ∙ ap (scaled f p) c.deref_mut.ensures.value)))
    (adds_as_rest f n p rows ks c.args.row.now u c.requires.reduced c.requires.vector rest at)
