use Rattle.std.proofs.Common.{ℕ, ◌≡◌, ◌<◌, List, ◌∷◌, ◌++◌, [], length, map, take, sym, ap, ap₂, ◌∙◌, subst, arith}
use Rattle.std.proofs.lemmas.List.{take_more, take_all}
use Rattle.std.proofs.lemmas.List.Elements.{All-take}
use Rattle.mm_field.specs.declared.Field.{Field}
use Rattle.mm_field.specs.Vectors.{IsVector, SameRowSpace}
use Rattle.mm_linear.specs.ReducedEchelon.{reduced_basis}
use Rattle.mm_linear.proofs.ReducedEchelonLemmas.{reduced_basis_is}
use Rattle.mm_linear.proofs.LeftUnique.{basis_of_none}
use Rattle.mm_matrix.specs.MatrixValue.{MatrixValue}
use Rattle.mm_matrix.proofs.RowLemmas.{digits_of}
use Rattle.mm_matrix.proofs.ReducedLemmas.{basis_of_one_more}
use Rattle.mm_matrix.proofs.echelon.Echelon.of.Goals as goal

pub loop-i-init : goal.loop-i-init
loop-i-init c =
    let m = c.args.m.now in
    ap₂ (λ (f : Field) (n : ℕ). record { f = f; cols = n; rows = map digits_of c.new.result.items }) c.field.ensures c.cols.ensures
    ∙ ap (λ (r : List (List ℕ)). record { f = m.f; cols = m.cols; rows = r })
    (ap (map digits_of) c.new.ensures.items ∙ sym (basis_of_none m.f m.cols))

pub loop-i-preserved : goal.loop-i-preserved
loop-i-preserved c =
    let m = c.args.m.now in
    let i = c.loop-i.i in
    let row = c.row.result.now in
    let each = c.rows-i-end.ensures.each in
    let l : i < length m.rows = omega (arith, c.rows-i-end.ensures.count) in
    c.in_ok-kept.ensures
    ∙ ap (λ (k : MatrixValue). record { f = k.f; cols = k.cols; rows = reduced_basis k.f k.cols (row ∷ k.rows) }) c.loop-i.invariant
    ∙ ap (λ (r : List (List ℕ)). record { f = m.f; cols = m.cols; rows = r })
    (basis_of_one_more m.f m.cols (take i m.rows) row (All-take (λ v. IsVector m.f m.cols v) i m.rows each) c.row.ensures.vector
    ∙ ap (λ (v : List ℕ). reduced_basis m.f m.cols (take i m.rows ++ (v ∷ []))) c.row.ensures.value
    ∙ ap (reduced_basis m.f m.cols) (sym (take_more m.rows i [] l)))

pub returns-clause-span : goal.returns-clause-span
returns-clause-span c =
    let m = c.args.m.now in
    let each = c.rows-i-end.ensures.each in
    let done : take c.loop-i.i m.rows ≡ m.rows = take_all c.loop-i.i m.rows (omega (arith, c.rows-i-end.ensures.count)) in
    let rows : reduced_basis m.f m.cols m.rows ≡ c.loop-i.kept.rows =
    sym (ap (λ (k : MatrixValue). k.rows) c.loop-i.invariant ∙ ap (reduced_basis m.f m.cols) done) in
    record {
      is_matrix = each;
      same = subst (λ (x : List (List ℕ)). SameRowSpace m.f m.cols m.rows x) rows (reduced_basis_is m.f m.cols m.rows each).span;
    }
