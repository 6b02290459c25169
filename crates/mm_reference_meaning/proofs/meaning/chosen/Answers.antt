use Rattle.std.proofs.Common.{◌≡◌, cond, ◌∷◌, ◌++◌, [], take, sym, ap, ap₂, ◌∙◌, append-nil, rules}
use Rattle.std.specs.List.{items_where_true}
use Rattle.std.proofs.lemmas.List.{map_push}
use Rattle.mm_reference_meaning.specs.Rows.{rows_of}
use Rattle.mm_reference_meaning.proofs.AssignmentLemmas.{chosen_next}
use Rattle.mm_reference_meaning.proofs.meaning.chosen.Goals as goal
use Rattle.mm_reference_meaning.proofs.meaning.chosen.Goals.{then-set-i+in_ok-to_vec+in_ok-push, else-set-i}

pub loop-i-preserved : goal.loop-i-preserved
loop-i-preserved c =
    let i = c.loop-i.i in
    let set = c.args.set.now in
    let rows = c.args.columns.now in
    let row = c.index-columns-i.result in
    let before = items_where_true (take i set) (rows_of (take i rows)) in
    let next = chosen_next i set rows row c.loop-i-test.true c.requires c.index-columns-i.is in
    elim c.if-set-i.branch [
      | then-set-i+in_ok-to_vec+in_ok-push w ↦
          ap (λ v. rows_of v.items) w.kept-is
          ∙ ap rows_of w.in_ok-push.ensures.items
          ∙ map_push (λ v. v.items) c.loop-i.kept.items w.in_ok-to_vec.field-0
          ∙ ap₂ (λ x y. x ++ (y ∷ [])) c.loop-i.invariant (let e : w.in_ok-to_vec.field-0.items ≡ row.items = search rules in e)
          ∙ sym (next ∙ ap (λ b. before ++ cond b (row.items ∷ []) []) w.if-set-i.true)
      | else-set-i w ↦
          ap (λ v. rows_of v.items) w.kept-is
          ∙ c.loop-i.invariant
          ∙ sym (next ∙ ap (λ b. before ++ cond b (row.items ∷ []) []) w.if-set-i.false ∙ append-nil before)
    ]
