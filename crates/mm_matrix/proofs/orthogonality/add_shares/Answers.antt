use Rattle.std.proofs.Common.{ℕ, ◌≡◌, ◌<◌, ◌≤◌, ◌+◌, List, [], length, get_or, map, sym, ap, ◌∙◌, subst, arith}
use Rattle.std.proofs.lemmas.List.{length-map, get_or-map, get_or_default}
use Rattle.mm_field.specs.Digits.{negative}
use Rattle.mm_field.specs.Vectors.{IsVector, vector_sum, multiple}
use Rattle.mm_field.proofs.VectorLemmas.{length-multiple, IsVector-vector_sum}
use Rattle.mm_linear.specs.Coordinates.{unit}
use Rattle.mm_linear.proofs.BasisLemmas.{IsVector-unit}
use Rattle.mm_linear.proofs.LeftUnique.{leads_above}
use Rattle.mm_linear.proofs.PivotLemmas.{count_leads}
use Rattle.mm_matrix.specs.Orthogonal.{dot}
use Rattle.mm_matrix.specs.Projections.{shares, left}
use Rattle.mm_matrix.proofs.RowLemmas.{digits_of, item_is, item_vector}
use Rattle.mm_matrix.proofs.DotLemmas.{dot-unit}
use Rattle.mm_matrix.proofs.ShareLemmas.{share_step, shares_done}
use Rattle.mm_matrix.proofs.orthogonality.add_shares.Goals as goal

pub index-requires : goal.index-requires
index-requires c =
    let e = count_leads (length c.args.row.now) 0 (map digits_of c.args.rows.now.items) c.args.leads.now.items c.requires.reduced.leads_are in
    omega (arith, e, length-map c.args.rows.now.items digits_of)

pub index-requires-in-loop-i-2 : goal.index-requires-in-loop-i-2
index-requires-in-loop-i-2 c =
    let n = length c.args.row.now in
    let l : c.loop-i.i < length c.args.rows.now.items = omega arith in
    let v = item_vector c.args.f n c.args.rows.now.items c.requires.reduced.each c.loop-i.i c.index-in-loop-i.result.now l c.index-in-loop-i.ensures in
    let j = c.requires.column in
    omega (arith, v.len, j)

pub neg-requires : goal.neg-requires
neg-requires c =
    let n = length c.args.row.now in
    let l : c.loop-i.i < length c.args.rows.now.items = omega arith in
    let v = item_vector c.args.f n c.args.rows.now.items c.requires.reduced.each c.loop-i.i c.index-in-loop-i.result.now l c.index-in-loop-i.ensures in
    let j = c.requires.column in
    rw c.index-in-loop-i-2.ensures (v.digits c.args.j c.index-in-loop-i-2.result.now (omega (arith, v.len, j)))

pub add_share-requires-clause-place : goal.add_share-requires-clause-place
add_share-requires-clause-place c =
    let n = length c.args.row.now in
    let rows = map digits_of c.args.rows.now.items in
    let e = count_leads n 0 rows c.args.leads.now.items c.requires.reduced.leads_are in
    let m = length-map c.args.rows.now.items digits_of in
    let at = (leads_above n 0 rows c.args.leads.now.items c.requires.reduced.leads_are c.loop-i.i c.index.result.now (omega (arith, e, m))).1 in
    let k : get_or c.args.leads.now.items c.loop-i.i c.index.result.now < n = at in
    omega (arith, c.index.ensures, k, c.loop-i.invariant.vector.len)

pub add_share-requires-clause-digits : goal.add_share-requires-clause-digits
add_share-requires-clause-digits c = c.loop-i.invariant.vector.digits

pub loop-i-preserved : goal.loop-i-preserved
loop-i-preserved c =
    let f = c.args.f in
    let n = length c.args.row.now in
    let rows = map digits_of c.args.rows.now.items in
    let ks = c.args.leads.now.items in
    let i = c.loop-i.i in
    let j = c.args.j in
    let row = c.loop-i.row in
    let share = c.neg.result in
    let p = c.index.result.now in
    let l : i < length c.args.rows.now.items = omega arith in
    let m = length-map c.args.rows.now.items digits_of in
    let lr : i < length rows = omega arith in
    let e = count_leads n 0 rows ks c.requires.reduced.leads_are in
    let lk : i < length ks = omega arith in
    let lj = c.requires.column in
    let r = c.index-in-loop-i.result.now in
    let v = item_vector f n c.args.rows.now.items c.requires.reduced.each i r l c.index-in-loop-i.ensures in
    let size = c.loop-i.invariant.vector.len in
    let at_lead : get_or ks i 0 ≡ p = get_or_default ks i 0 p lk ∙ sym c.index.ensures in
    let digit : get_or r.items j 0 ≡ c.index-in-loop-i-2.result.now = get_or_default r.items j 0 c.index-in-loop-i-2.result.now (omega (arith, v.len, lj)) ∙ sym c.index-in-loop-i-2.ensures in
    let is_share : get_or (shares f rows (unit n j)) i 0 ≡ share =
    get_or-map (λ u. negative f (dot f u (unit n j))) rows i [] 0 lr
    ∙ ap (λ (u : List ℕ). negative f (dot f u (unit n j))) (item_is c.args.rows.now.items i r l c.index-in-loop-i.ensures)
    ∙ ap (negative f) (dot-unit f n j r.items v lj ∙ digit) ∙ sym c.neg.ensures.negative in
    let new : c.add_share.new.row ≡ vector_sum f row (multiple f share (unit n p)) =
    c.add_share.ensures ∙ ap (λ (k : ℕ). vector_sum f row (multiple f share (unit k p))) size in
    let lp : p < n = (let q : get_or ks i p < n = (leads_above n 0 rows ks c.requires.reduced.leads_are i p lk).1 in omega (arith, c.index.ensures, q)) in
    record {
      vector =
          subst (λ (x : List ℕ). IsVector f n x) (sym new)
          (IsVector-vector_sum f n row (multiple f share (unit n p)) size (length-multiple f share (unit n p) ∙ (IsVector-unit f n p lp).len));
      rest =
          ap (λ (x : List ℕ). vector_sum f x (left f n rows ks j (i + 1))) new
          ∙ share_step f n i share p rows ks row j lr lk is_share at_lead ∙ c.loop-i.invariant.rest;
    }

pub returns : goal.returns
returns c =
    let f = c.args.f in
    let n = length c.args.row.now in
    let rows = map digits_of c.args.rows.now.items in
    let ks = c.args.leads.now.items in
    let m = length-map c.args.rows.now.items digits_of in
    let done : length rows ≤ c.loop-i.i = omega arith in
    sym (shares_done f n c.loop-i.i rows ks c.loop-i.row c.args.j done c.loop-i.invariant.vector) ∙ c.loop-i.invariant.rest
