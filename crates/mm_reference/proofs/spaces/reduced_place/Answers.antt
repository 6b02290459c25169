use Rattle.std.proofs.Common.{◌≡◌, ◌<◌, ℕ, [], length, get_or, sym, ap, ◌∙◌, subst, arith}
use Rattle.std.proofs.lemmas.List.{length-map}
use borrow.Author.Count.{below_more}
use Rattle.mm_reference_meaning.specs.Rows.{rows_of}
use Rattle.mm_reference.specs.Spaces.{IsReducedRow, IsClearOf, HasLead}
use Rattle.mm_reference_meaning.proofs.ColumnLemmas.{row_at}
use Rattle.mm_reference.proofs.spaces.reduced_place.Goals as goal
use Rattle.mm_reference.proofs.spaces.reduced_place.Goals.{else-has_lead-via-then-has_lead+else-is_clear, else-has_lead-via-else-has_lead}

pub has_lead-requires : goal.has_lead-requires
has_lead-requires c =
    let space = c.args.space.now in
    let i = c.loop-i.i in
    let many = length-map space (λ v. v.items) in
    let long : length c.deref.result.now ≡ c.args.t =
    ap length (c.deref.ensures.value ∙ sym (row_at space i c.index-space-i.result [] c.loop-i-test.true c.index-space-i.is))
    ∙ c.requires.same_length i [] (omega arith) in
    omega (arith, c.requires.place)

pub is_clear-requires-clause-same_length : goal.is_clear-requires-clause-same_length
is_clear-requires-clause-same_length c = λ k d l.
    let space = c.args.space.now in
    let i = c.loop-i.i in
    let many = length-map space (λ v. v.items) in
    c.requires.same_length k d l
    ∙ sym (ap length (c.deref-then-has_lead.ensures.value ∙ sym (row_at space i c.index-space-i.result [] c.loop-i-test.true c.index-space-i.is))
    ∙ c.requires.same_length i [] (omega arith))

pub loop-i-preserved : goal.loop-i-preserved
loop-i-preserved c =
    let space = c.args.space.now in
    let i = c.loop-i.i in
    let at = row_at space i c.index-space-i.result [] c.loop-i-test.true c.index-space-i.is in
    below_more (λ j. IsReducedRow c.args.k (rows_of space) (get_or (rows_of space) j []) → ⊥) i c.loop-i.invariant
    (λ r. elim c.else-has_lead.branch [
      | else-has_lead-via-then-has_lead+else-is_clear w ↦
          let is = at ∙ sym w.deref-then-has_lead.ensures.value in
          w.is_clear.ensures.no w.if-is_clear.false (subst (λ v. (j : ℕ) → j < length (rows_of space) → IsClearOf c.args.k v (get_or (rows_of space) j [])) is r.clear)
      | else-has_lead-via-else-has_lead w ↦
          c.has_lead.ensures.no w.if-has_lead.false (subst (λ v. HasLead c.args.k v) (at ∙ sym c.deref.ensures.value) r.lead)
    ])
