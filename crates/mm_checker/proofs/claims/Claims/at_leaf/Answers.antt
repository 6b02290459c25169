use Rattle.std.proofs.Common.{◌∙◌}
use Rattle.mm_checker.proofs.ClaimLemmas.{leaf_lookup}
use Rattle.mm_checker.proofs.claims.Claims.at_leaf.Goals as goal

pub returns : goal.returns
returns c =
    c.copied.ensures ∙ c.get.ensures.value ∙ leaf_lookup (record { place = c.args.place; leaf = c.args.leaf; marks = c.args.marks }) c.args.self.now.leaves.entries
