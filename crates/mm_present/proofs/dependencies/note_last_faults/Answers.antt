use Rattle.std.proofs.Common.{ap, ◌∙◌}
use Rattle.mm_matrix.specs.MatrixValue.{MatrixValue}
use Rattle.mm_present.specs.Dependencies.{least_place, tails}
use Rattle.mm_present.proofs.RootLemmas.{tails_none}
use Rattle.mm_present.proofs.dependencies.note_last_faults.Goals as goal

pub returns : goal.returns
returns c =
    let before = c.args.least.now in
    let t = c.args.t in
    c.in_ok-pairs_of_tails.ensures.least
    ∙ ap (least_place before) (tails_none (tails t c.into_matrix-space.result.rows))
    ∙ ap (λ (m : MatrixValue). least_place before (tails t m.rows)) (c.into_matrix-space.ensures ∙ c.in_ok-of.ensures.rows)
