use Rattle.std.proofs.Common.{◌≡◌, true, false, sym, ◌∙◌}
use Rattle.std.proofs.lemmas.Bool.{eqb-true}
use Rattle.mm_reference.proofs.ReducedLemmas.{lead_from, lead_zeros}
use Rattle.mm_reference.proofs.spaces.has_lead.Goals as goal

pub returns-then-is_zero-clause-yes : goal.returns-then-is_zero-clause-yes
returns-then-is_zero-clause-yes c = λ e.
    lead_from c.args.k c.args.row.now c.requires (sym c.is_zero.ensures ∙ c.if-is_zero.true) (eqb-true _ _ e)

pub returns-else-is_zero-clause-no : goal.returns-else-is_zero-clause-no
returns-else-is_zero-clause-no c = λ e h.
    let clash : false ≡ true = sym e ∙ c.is_zero.ensures ∙ lead_zeros c.args.k c.args.row.now h in cc
