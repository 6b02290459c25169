use Rattle.std.proofs.Common.{◌<◌, [], ◌∷◌, ◌++◌, cond, not, sym, ap, ◌∙◌, arith, append-nil, ℕ, Vec, Global}
use Rattle.mm_logic.specs.Operator.{row_length}
use Rattle.mm_present.proofs.CoordinateLemmas.{column_next}
use Rattle.mm_present.proofs.coordinates.free_columns.Goals as goal
use Rattle.mm_present.proofs.coordinates.free_columns.Goals.{then-not-is_lead+in_ok-push, else-not-is_lead}

pub loop-k-preserved : goal.loop-k-preserved
loop-k-preserved c =
    let op = c.args.op.now in
    let old = c.loop-k.free.items in
    let k = c.loop-k.k in
    let inside : k < row_length op.op = omega (arith, c.dimension-k-end.ensures.value) in
    column_next op.f op.op.g3 c.args.leads.now old c.if-not-is_lead.free.items k c.is_lead.result (c.requires k inside) c.is_lead.ensures c.loop-k.invariant
    (elim c.if-not-is_lead.branch [
      | then-not-is_lead+in_ok-push w ↦
          ap (λ (v : Vec ℕ Global). v.items) w.free-is ∙ w.in_ok-push.ensures.items ∙ sym (ap (λ b. old ++ cond (not b) (k ∷ []) []) w.if-not-is_lead.true)
      | else-not-is_lead w ↦
          ap (λ (v : Vec ℕ Global). v.items) w.free-is ∙ sym (append-nil old) ∙ sym (ap (λ b. old ++ cond (not b) (k ∷ []) []) w.if-not-is_lead.false)
    ])
