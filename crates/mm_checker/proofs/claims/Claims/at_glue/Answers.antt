use Rattle.std.proofs.Common.{◌∙◌}
use Rattle.mm_checker.proofs.ClaimLemmas.{glue_lookup}
use Rattle.mm_checker.proofs.claims.Claims.at_glue.Goals as goal

pub returns : goal.returns
returns c =
    c.copied.ensures
    ∙ c.get.ensures.value
    ∙ glue_lookup (record { place = c.args.place; op = c.args.op; left = c.args.left; right = c.args.right }) c.args.self.now.glues.entries
