use Rattle.bench_types.proofs.main.Given as goal

abbrev pub ghosts-rounds : goal.ghosts-rounds
ghosts-rounds a = record { name = a.blank.name; parts = a.blank.parts }
