use Rattle.std.proofs.Common.{arith}
use Rattle.mm_logic.specs.Occurrence.{nodes}
use Rattle.mm_machine_tests.proofs.CallLemmas.{empty_cells}
use Rattle.mm_machine_tests.proofs.calls.cells_of_fresh.Goals as goal

pub cells-requires : goal.cells-requires
cells-requires g c =
    let m = c.args.automaton.now in
    let f = c.in_ok-fresh.fresh in
    omega (arith, empty_cells 0 (g.A.Automaton.shape m) (nodes (g.A.Automaton.shape f)) (g.A.Automaton.lists f) c.in_ok-fresh.ensures.lists)
