use Rattle.mm_reference.proofs.spaces.+all_vectors.Given as goal

abbrev pub decreases-all_vectors : goal.decreases-all_vectors
decreases-all_vectors l = l.n
