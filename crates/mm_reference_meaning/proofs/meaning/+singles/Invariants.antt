use Rattle.mm_reference_meaning.proofs.meaning.+singles.Given as goal

abbrev pub decreases-singles : goal.decreases-singles
decreases-singles l = l.n
