use Rattle.std.proofs.Common.{◌≡◌, false, true, length, sym, ◌∙◌, rules}
use Rattle.std.proofs.lemmas.List.{length-map}
use Rattle.mm_field.specs.Vectors.{AreVectors}
use Rattle.mm_linear.proofs.DecideLemmas.{is_independent_decides}
use Rattle.mm_reference_meaning.specs.Rows.{rows_of}
use Rattle.mm_reference_meaning.proofs.validity.is_boundary.Goals as goal

pub returns-clause-yes : goal.returns-clause-yes
returns-clause-yes c e =
    let f = c.args.f in
    let rows = rows_of c.args.rows.now in
    let count : length c.args.rows.now ≡ c.args.t = search rules in
    let each : AreVectors f c.args.r rows = c.are_vectors.ensures.yes c.if-not-are_vectors.false in
    record {
      count = length-map c.args.rows.now (λ v. v.items) ∙ count;
      rows = each;
      independent = (is_independent_decides f c.args.r rows each).0 (sym c.in_ok-independent.ensures ∙ e);
    }

pub returns-clause-no : goal.returns-clause-no
returns-clause-no c e b =
    let clash : false ≡ true = sym e ∙ c.in_ok-independent.ensures ∙ (is_independent_decides c.args.f c.args.r (rows_of c.args.rows.now) b.rows).1 b.independent in
    cc
