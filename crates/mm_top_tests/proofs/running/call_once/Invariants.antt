use Rattle.mm_top_tests.proofs.running.call_once.Given as goal

abbrev pub ghosts-call : goal.ghosts-call
ghosts-call g a = record { name = a.blank.name; parts = a.blank.parts }
