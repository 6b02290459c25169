use Rattle.mm_reference_meaning.proofs.meaning.+sets.Given as goal

abbrev pub decreases-sets : goal.decreases-sets
decreases-sets l = l.n
