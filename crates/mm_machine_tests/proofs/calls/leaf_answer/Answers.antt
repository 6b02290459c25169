use Rattle.mm_machine_tests.proofs.CallLemmas.{can_read}
use Rattle.mm_machine_tests.proofs.calls.leaf_answer.Goals as goal

pub leaf-requires : goal.leaf-requires
leaf-requires g c =
    let m = c.args.automaton.now in
    can_read (g.A.Automaton.shape m) (g.A.Automaton.field m) 0 (g.A.Automaton.shape m) (g.A.Automaton.lists m) c.args.letter.now c.args.room c.requires.room c.requires.letter c.requires.over c.requires.empty
