use Rattle.mm_text_tests.proofs.base.a_counter_needs_no_memory.Given as goal

abbrev pub ghosts-two_steps : goal.ghosts-two_steps
ghosts-two_steps a = record { name = a.blank.name; parts = a.blank.parts }
