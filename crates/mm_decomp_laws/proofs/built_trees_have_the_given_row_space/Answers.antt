use Rattle.mm_decomp_laws.proofs.RowSpaceLemmas.{built_law}
use Rattle.mm_decomp_laws.proofs.built_trees_have_the_given_row_space.Goals as goal

pub returns : goal.returns
returns c = built_law
