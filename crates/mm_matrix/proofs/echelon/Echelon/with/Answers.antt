use Rattle.std.proofs.Common.{ℕ, ◌≡◌, List, ◌∷◌, length, map, sym, ap, ◌∙◌, subst, Option}
use Rattle.std.specs.Option.{MatchOption}
use Rattle.mm_field.specs.Vectors.{IsVector, InSpan, SameRowSpace}
use Rattle.mm_linear.specs.ReducedEchelon.{reduced_basis}
use Rattle.mm_matrix.specs.declared.elimination.NewRow.{NewRow}
use Rattle.mm_matrix.specs.MatrixValue.{MatrixValue}
use Rattle.mm_matrix.specs.Residues.{AreReduced, AddsAs}
use Rattle.mm_matrix.proofs.RowLemmas.{digits_of}
use Rattle.mm_matrix.proofs.ReducedLemmas.{basis_kept, basis_made}
use Rattle.mm_matrix.proofs.echelon.Echelon.with.Goals as goal

pub returns-in_default : goal.returns-in_default
returns-in_default c =
    let f = c.self.inside.field in
    let n = c.self.inside.cols in
    let rows = map digits_of c.self.inside.rows.items in
    let ks = c.self.inside.leads.items in
    let v = c.args.row.now in
    let hv : IsVector f n v = subst (λ (m : MatrixValue). IsVector m.f m.cols v) (sym c.self.view_is) c.requires in
    let new : InSpan f (length v) rows v =
    subst (λ (o : Option NewRow). MatchOption o (InSpan f (length v) rows v) (λ w. AddsAs f (length v) w.lead w.digits.items rows ks v)) c.in_default.is c.in_ok-new.ensures in
    ap (λ (r : List (List ℕ)). record { f = f; cols = n; rows = r })
    (sym (basis_kept f n rows ks v c.self.invariant hv (subst (λ (k : ℕ). InSpan f k rows v) hv.len new)))
    ∙ ap (λ (m : MatrixValue). record { f = m.f; cols = m.cols; rows = reduced_basis m.f m.cols (v ∷ m.rows) }) c.self.view_is

pub returns : goal.returns
returns c =
    let f = c.self.inside.field in
    let n = c.self.inside.cols in
    let rows = map digits_of c.self.inside.rows.items in
    let ks = c.self.inside.leads.items in
    let v = c.args.row.now in
    let new = c.in-Some.new in
    let w = new.digits.items in
    let more = map digits_of c.insert.new.rows.items in
    let more_ks = c.insert.new.leads.items in
    let hv : IsVector f n v = subst (λ (m : MatrixValue). IsVector m.f m.cols v) (sym c.self.view_is) c.requires in
    let adds_here : AddsAs f (length v) new.lead w rows ks v =
    subst (λ (o : Option NewRow). MatchOption o (InSpan f (length v) rows v) (λ w. AddsAs f (length v) w.lead w.digits.items rows ks v)) c.in-Some.is c.in_ok-new.ensures in
    let adds : AddsAs f n new.lead w rows ks v = subst (λ (k : ℕ). AddsAs f k new.lead w rows ks v) hv.len adds_here in
    let len : length w ≡ n = adds.new.vector.len in
    let red : AreReduced f n more more_ks = subst (λ (k : ℕ). AreReduced f k more more_ks) len c.in_ok-insert.ensures.reduced in
    let same : SameRowSpace f n (w ∷ rows) more = subst (λ (k : ℕ). SameRowSpace f k (w ∷ rows) more) len c.in_ok-insert.ensures.span in
    ap (λ (r : List (List ℕ)). record { f = f; cols = n; rows = r })
    (sym (basis_made f n new.lead w rows ks v more more_ks c.self.invariant hv adds red same))
    ∙ ap (λ (m : MatrixValue). record { f = m.f; cols = m.cols; rows = reduced_basis m.f m.cols (v ∷ m.rows) }) c.self.view_is
