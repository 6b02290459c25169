use Rattle.std.proofs.Common.{ℕ, ◌<◌, ◌≡◌, ◌+◌, [], length, get_or, map, take, sym, ap, ap₂, ◌∙◌, subst, arith, List}
use Rattle.std.proofs.lemmas.List.{length-map, get_or_default}
use Rattle.mm_field.specs.Vectors.{zeros, IsVector}
use Rattle.mm_matrix.proofs.LeadLemmas.{zero_before_lead}
use Rattle.mm_linear.specs.Eliminate.{cleared}
use Rattle.mm_linear.proofs.LeftUnique.{leads_above}
use Rattle.mm_linear.proofs.PivotLemmas.{count_leads}
use Rattle.mm_matrix.proofs.RowLemmas.{digits_of, item_is, item_vector}
use Rattle.mm_matrix.proofs.ResidueLemmas.{IsResidueUpTo, rest_at_start, rest_step, rest_at_end}
use Rattle.mm_matrix.proofs.elimination.reduce.Goals as goal

pub loop-i-init : goal.loop-i-init
loop-i-init c =
    rest_at_start c.args.f (length c.args.v.now) (map digits_of c.args.rows.now.items) c.args.leads.now.items c.args.v.now
    c.requires.each c.requires.vector

pub index-requires : goal.index-requires
index-requires c =
    let e = count_leads (length c.args.v.now) 0 (map digits_of c.args.rows.now.items) c.args.leads.now.items c.requires.leads in
    omega (arith, e, length-map c.args.rows.now.items digits_of)

pub clear_row-requires-clause-place : goal.clear_row-requires-clause-place
clear_row-requires-clause-place c =
    let e = count_leads (length c.args.v.now) 0 (map digits_of c.args.rows.now.items) c.args.leads.now.items c.requires.leads in
    let l : c.loop-i.i < length c.args.rows.now.items = omega arith in
    let m = length-map c.args.rows.now.items digits_of in
    let v = item_vector c.args.f (length c.args.v.now) c.args.rows.now.items c.requires.each c.loop-i.i c.index-in-loop-i.result.now l c.index-in-loop-i.ensures in
    let b = leads_above (length c.args.v.now) 0 (map digits_of c.args.rows.now.items) c.args.leads.now.items c.requires.leads c.loop-i.i c.index.result.now (omega (arith, e, m)) in
    let at : get_or c.args.leads.now.items c.loop-i.i c.index.result.now < length c.args.v.now = b.1 in
    omega (arith, c.index.ensures, at, v.len, ap length c.deref.ensures.value)

pub clear_row-requires-clause-vector : goal.clear_row-requires-clause-vector
clear_row-requires-clause-vector c =
    let l : c.loop-i.i < length c.args.rows.now.items = omega arith in
    let v = item_vector c.args.f (length c.args.v.now) c.args.rows.now.items c.requires.each c.loop-i.i c.index-in-loop-i.result.now l c.index-in-loop-i.ensures in
    subst (λ (u : List ℕ). IsVector c.args.f (length u) u) (sym c.deref.ensures.value) (subst (λ (n : ℕ). IsVector c.args.f n c.index-in-loop-i.result.now.items) (sym v.len) v)

pub clear_row-requires-clause-row : goal.clear_row-requires-clause-row
clear_row-requires-clause-row c =
    let l : c.loop-i.i < length c.args.rows.now.items = omega arith in
    let v = item_vector c.args.f (length c.args.v.now) c.args.rows.now.items c.requires.each c.loop-i.i c.index-in-loop-i.result.now l c.index-in-loop-i.ensures in
    subst (λ (n : ℕ). IsVector c.args.f n c.loop-i.v) (sym (ap length c.deref.ensures.value ∙ v.len)) c.loop-i.invariant.vector

pub loop-i-preserved : goal.loop-i-preserved
loop-i-preserved c =
    let l : c.loop-i.i < length c.args.rows.now.items = omega arith in
    let m = length-map c.args.rows.now.items digits_of in
    let e = count_leads (length c.args.v.now) 0 (map digits_of c.args.rows.now.items) c.args.leads.now.items c.requires.leads in
    let is_row : get_or (map digits_of c.args.rows.now.items) c.loop-i.i [] ≡ c.deref.result.now =
    item_is c.args.rows.now.items c.loop-i.i c.index-in-loop-i.result.now l c.index-in-loop-i.ensures ∙ sym c.deref.ensures.value in
    let is_lead : get_or c.args.leads.now.items c.loop-i.i 0 ≡ c.index.result.now =
    get_or_default c.args.leads.now.items c.loop-i.i 0 c.index.result.now (omega (arith, e, m)) ∙ sym c.index.ensures in
    subst (λ (u : List ℕ). IsResidueUpTo c.args.f (length c.args.v.now) (map digits_of c.args.rows.now.items) c.args.leads.now.items c.args.v.now u (c.loop-i.i + 1))
    (ap₂ (λ (p : ℕ) (r : List ℕ). cleared c.args.f p r c.loop-i.v) is_lead is_row ∙ sym c.clear_row.ensures)
    (rest_step c.args.f (length c.args.v.now) c.loop-i.i (map digits_of c.args.rows.now.items) c.args.leads.now.items c.args.v.now c.loop-i.v
    c.requires.each c.requires.leads c.requires.vector (omega (arith, m)) c.loop-i.invariant)

pub returns : goal.returns
returns c =
    let m = length-map c.args.rows.now.items digits_of in
    let done : c.loop-i.i ≡ length (map digits_of c.args.rows.now.items) = omega (arith, m) in
    rest_at_end c.args.f (length c.args.v.now) (map digits_of c.args.rows.now.items) c.args.leads.now.items c.args.v.now c.loop-i.v c.requires.leads
    (subst (λ (i : ℕ). IsResidueUpTo c.args.f (length c.args.v.now) (map digits_of c.args.rows.now.items) c.args.leads.now.items c.args.v.now c.loop-i.v i) done c.loop-i.invariant)

pub clear_row-requires-clause-start : goal.clear_row-requires-clause-start
clear_row-requires-clause-start c =
    let rows = map digits_of c.args.rows.now.items in
    let ks = c.args.leads.now.items in
    let i = c.loop-i.i in
    let l : i < length c.args.rows.now.items = omega arith in
    let m = length-map c.args.rows.now.items digits_of in
    let e = count_leads (length c.args.v.now) 0 rows ks c.requires.leads in
    let is_row : get_or rows i [] ≡ c.deref.result.now =
    item_is c.args.rows.now.items i c.index-in-loop-i.result.now l c.index-in-loop-i.ensures ∙ sym c.deref.ensures.value in
    let is_lead : get_or ks i 0 ≡ c.index.result.now = get_or_default ks i 0 c.index.result.now (omega (arith, e, m)) ∙ sym c.index.ensures in
    subst (λ (k : ℕ). take k c.deref.result.now ≡ zeros k) is_lead
    (subst (λ (v : List ℕ). take (get_or ks i 0) v ≡ zeros (get_or ks i 0)) is_row
    (zero_before_lead (length c.args.v.now) 0 rows ks c.requires.leads i 0 (omega (arith, e, m))))
