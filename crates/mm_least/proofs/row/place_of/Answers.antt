use Rattle.std.proofs.Common.{ap, ◌∙◌}
use Rattle.std.proofs.lemmas.List.{get_or_default}
use Rattle.mm_least.proofs.row.place_of.Goals as goal

pub returns-then-rows-k : goal.returns-then-rows-k
returns-then-rows-k c = (
  c.loop-k-test.true,
  c.loop-k.invariant,
  λ d. ap (λ r. r.id) (get_or_default c.args.rows.now c.loop-k.k d _ c.loop-k-test.true) ∙ c.if-rows-k.true,
)
