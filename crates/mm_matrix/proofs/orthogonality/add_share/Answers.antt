use Rattle.std.proofs.Common.{ℕ, ap, ◌∙◌}
use Rattle.std.proofs.Math.ListN.{set}
use Rattle.mm_matrix.proofs.ShareLemmas.{share_added}
use Rattle.mm_matrix.proofs.orthogonality.add_share.Goals as goal

pub returns : goal.returns
returns c =
    ap (λ (e : ℕ). set c.args.row.now c.args.lead e) c.add.ensures.sum
    ∙ share_added c.args.f c.args.share c.args.lead c.args.row.now c.requires.share c.requires.digits c.requires.place
