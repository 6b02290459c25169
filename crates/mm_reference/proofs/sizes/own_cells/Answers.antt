use Rattle.std.proofs.Common.{inl, inr, length, refl, sym, subst}
use Rattle.mm_logic.specs.Value.{members, second}
use Rattle.mm_logic.specs.Occurrence.{own_cells}
use Rattle.mm_reference_meaning.specs.Formulas.{formula_of}
use Rattle.mm_reference.specs.Sizes.{IsCount}
use Rattle.mm_reference.specs.Values.{value_of}
use Rattle.mm_reference.proofs.SizeLemmas.{count_more}
use Rattle.mm_reference.proofs.sizes.own_cells.Goals as goal

pub returns-in-ExElem : goal.returns-in-ExElem
returns-in-ExElem c =
    let n = length (members (second (value_of c.args.value.now))) in
    let below : IsCount n c.count_members.result = subst (λ v. IsCount (length (members v)) c.count_members.result) c.second.ensures c.count_members.ensures in
    let more = count_more n c.add.result (c.add.ensures 1 n refl below) in
    elim c.in-ExElem.is [
      | inl p ↦ subst (λ F. IsCount (own_cells (formula_of F) (value_of c.args.value.now)) c.add.result) (sym p.2) more
      | inr p ↦ subst (λ F. IsCount (own_cells (formula_of F) (value_of c.args.value.now)) c.add.result) (sym p.2) more
    ]

pub returns-in-ExSet : goal.returns-in-ExSet
returns-in-ExSet c =
    let n = length (members (value_of c.args.value.now)) in
    let more = count_more n c.add-in-ExSet.result (c.add-in-ExSet.ensures 1 n refl c.count_members-in-ExSet.ensures) in
    elim c.in-ExSet.is [
      | inl p ↦ subst (λ F. IsCount (own_cells (formula_of F) (value_of c.args.value.now)) c.add-in-ExSet.result) (sym p.2) more
      | inr p ↦ subst (λ F. IsCount (own_cells (formula_of F) (value_of c.args.value.now)) c.add-in-ExSet.result) (sym p.2) more
    ]
