use Rattle.std.proofs.Common.{◌∙◌}
use Rattle.mm_reference_meaning.proofs.WeightLemmas.{leaf_words}
use Rattle.mm_reference_meaning.proofs.first_sets.precedes.Goals as goal

pub returns : goal.returns
returns c = c.lt.ensures ∙ leaf_words c.args.first.now c.args.second.now c.requires
