use Rattle.std.proofs.Common.{[], length, get_or, sym, ap, ◌∙◌, subst, arith}
use Rattle.std.proofs.lemmas.List.{length-map}
use borrow.Author.Count.{below_more}
use Rattle.mm_reference_meaning.specs.Rows.{rows_of}
use Rattle.mm_reference.specs.Spaces.{IsClearOf}
use Rattle.mm_reference_meaning.proofs.ColumnLemmas.{row_at}
use Rattle.mm_reference.proofs.spaces.is_clear.Goals as goal

pub is_clear_of-requires-clause-same_length : goal.is_clear_of-requires-clause-same_length
is_clear_of-requires-clause-same_length c =
    let space = c.args.space.now in
    let i = c.loop-vector.vector-index in
    let many = length-map space (λ v. v.items) in
    ap length (c.deref.ensures.value ∙ sym (row_at space i c.vector-item.result [] c.loop-vector-test.true c.vector-item.is))
    ∙ c.requires.same_length i [] (omega arith)

pub returns-then-not-is_clear_of-clause-no : goal.returns-then-not-is_clear_of-clause-no
returns-then-not-is_clear_of-clause-no c = λ e all.
    let space = c.args.space.now in
    let i = c.loop-vector.vector-index in
    let many = length-map space (λ v. v.items) in
    let at = row_at space i c.vector-item.result [] c.loop-vector-test.true c.vector-item.is in
    c.is_clear_of.ensures.no c.if-not-is_clear_of.true
    (subst (λ v. IsClearOf c.args.k c.args.row.now v) (at ∙ sym c.deref.ensures.value) (all i (omega arith)))

pub loop-vector-preserved : goal.loop-vector-preserved
loop-vector-preserved c =
    let space = c.args.space.now in
    let i = c.loop-vector.vector-index in
    let at = row_at space i c.vector-item.result [] c.loop-vector-test.true c.vector-item.is in
    below_more (λ j. IsClearOf c.args.k c.args.row.now (get_or (rows_of space) j [])) i c.loop-vector.invariant
    (subst (λ v. IsClearOf c.args.k c.args.row.now v) (c.deref.ensures.value ∙ sym at) (c.is_clear_of.ensures.yes c.if-not-is_clear_of.false))
