use Rattle.std.proofs.Common.{ℕ, ◌≡◌, ◌≤◌, List, ◌∷◌, length, map, take, sym, ap, ◌∙◌, subst, arith}
use Rattle.std.proofs.lemmas.List.{length-map}
use Rattle.mm_field.specs.Vectors.{zeros, SameRowSpace}
use Rattle.mm_matrix.proofs.LeadLemmas.{zero_before}
use Rattle.mm_linear.specs.Eliminate.{cleared}
use Rattle.mm_linear.proofs.PivotLemmas.{count_leads}
use Rattle.mm_matrix.specs.Residues.{AreReduced, IsPlaceOf}
use Rattle.mm_matrix.proofs.RowLemmas.{digits_of, rows-insert, written_to, length-written}
use Rattle.mm_matrix.proofs.InsertionLemmas.{with_row, inserted_reduced, span-with_row}
use Rattle.mm_matrix.proofs.elimination.insert.Goals as goal

pub clear_first-requires-clause-count : goal.clear_first-requires-clause-count
clear_first-requires-clause-count c =
    let e = count_leads (length c.args.new.digits.items) 0 (map digits_of c.args.rows.now.items) c.args.leads.now.items c.requires.reduced.leads_are in
    let w = c.place_of-place.ensures.within in
    omega (arith, e, w, length-map c.args.rows.now.items digits_of, ap length c.deref.ensures.value)

pub insert-requires : goal.insert-requires
insert-requires c =
    let e = count_leads (length c.args.new.digits.items) 0 (map digits_of c.args.rows.now.items) c.args.leads.now.items c.requires.reduced.leads_are in
    let w = c.place_of-place.ensures.within in
    let rows = map digits_of c.args.rows.now.items in
    let place = c.place_of-place.result in
    let m = length-map c.args.rows.now.items digits_of in
    let k = length-map c.clear_first.new.rows.items digits_of in
    let in_rows : place ≤ length rows = omega (arith, e, ap length c.deref.ensures.value) in
    let same = ap length c.clear_first.ensures ∙ length-written (cleared c.args.f c.args.new.lead c.deref-2.result.now) rows place in_rows in
    omega (arith, same, k, in_rows)

pub returns-clause-reduced : goal.returns-clause-reduced
returns-clause-reduced c =
    let f = c.args.f in
    let n = length c.args.new.digits.items in
    let rows = map digits_of c.args.rows.now.items in
    let ks = c.args.leads.now.items in
    let p = c.args.new.lead in
    let w = c.args.new.digits.items in
    let place = c.place_of-place.result in
    let is : IsPlaceOf p ks place = subst (λ (x : List ℕ). IsPlaceOf p x place) c.deref.ensures.value c.place_of-place.ensures in
    let e = count_leads n 0 rows ks c.requires.reduced.leads_are in
    let in_rows : place ≤ length rows = (let l = is.within in omega (arith, e)) in
    let cleared_rows : map digits_of c.clear_first.new.rows.items ≡ written_to (cleared f p w) rows place =
    c.clear_first.ensures ∙ ap (λ (x : List ℕ). written_to (cleared f p x) rows place) c.deref-2.ensures.value in
    let more : map digits_of c.insert.new.self.items ≡ with_row f p w place rows =
    ap (map digits_of) c.in_ok-insert.ensures.items
    ∙ rows-insert (cleared f p w) rows c.clear_first.new.rows.items place c.args.new.digits in_rows cleared_rows in
    subst (λ (x : List (List ℕ)). AreReduced f n x c.insert-2.new.self.items) (sym more)
    (subst (λ (x : List ℕ). AreReduced f n (with_row f p w place rows) x) (sym c.in_ok-insert-2.ensures.items)
    (inserted_reduced f n p place w rows ks c.requires.reduced c.requires.new is))

pub returns-clause-span : goal.returns-clause-span
returns-clause-span c =
    let f = c.args.f in
    let n = length c.args.new.digits.items in
    let rows = map digits_of c.args.rows.now.items in
    let ks = c.args.leads.now.items in
    let p = c.args.new.lead in
    let w = c.args.new.digits.items in
    let place = c.place_of-place.result in
    let is : IsPlaceOf p ks place = subst (λ (x : List ℕ). IsPlaceOf p x place) c.deref.ensures.value c.place_of-place.ensures in
    let e = count_leads n 0 rows ks c.requires.reduced.leads_are in
    let in_rows : place ≤ length rows = (let l = is.within in omega (arith, e)) in
    let cleared_rows : map digits_of c.clear_first.new.rows.items ≡ written_to (cleared f p w) rows place =
    c.clear_first.ensures ∙ ap (λ (x : List ℕ). written_to (cleared f p x) rows place) c.deref-2.ensures.value in
    let more : map digits_of c.insert.new.self.items ≡ with_row f p w place rows =
    ap (map digits_of) c.in_ok-insert.ensures.items
    ∙ rows-insert (cleared f p w) rows c.clear_first.new.rows.items place c.args.new.digits in_rows cleared_rows in
    subst (λ (x : List (List ℕ)). SameRowSpace f n (w ∷ rows) x) (sym more)
    (span-with_row f n p place w rows c.requires.new.vector c.requires.reduced.each)

pub clear_first-requires-clause-start : goal.clear_first-requires-clause-start
clear_first-requires-clause-start c =
    subst (λ (x : List ℕ). take c.args.new.lead x ≡ zeros c.args.new.lead) (sym c.deref-2.ensures.value)
    (zero_before c.args.new.lead c.args.new.digits.items c.requires.new.lead)
