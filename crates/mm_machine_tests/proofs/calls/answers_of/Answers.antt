use Rattle.std.proofs.Common.{sym, ◌≤◌, ◌∙◌, subst, arith}
use Rattle.mm_logic.specs.Occurrence.{nodes, list_cells}
use Rattle.mm_machine_tests.proofs.CallLemmas.{empty_cells, can_read, can_join, leaf_cells, join_cells, cells_by}
use Rattle.mm_machine_tests.proofs.calls.answers_of.Goals as goal

pub leaf-requires : goal.leaf-requires
leaf-requires g c =
    let m = c.args.automaton.now in
    can_read (g.A.Automaton.shape m) (g.A.Automaton.field m) 0 (g.A.Automaton.shape m) (g.A.Automaton.lists m) c.args.letter.now 1000 (omega arith) c.requires.letter c.requires.over c.requires.empty

pub join-requires : goal.join-requires
join-requires g c =
    let m = c.args.automaton.now in
    let n = c.leaf.new.self in
    let k = c.mark.new.self in
    can_join (g.A.Automaton.shape m) (g.A.Automaton.field m) c.args.letter.now c.args.op.now c.requires.letter c.requires.field c.requires.left c.requires.right c.requires.over (g.A.Automaton.lists m) (g.A.Automaton.lists n)
    (empty_cells 0 (g.A.Automaton.shape m) (nodes (g.A.Automaton.shape m)) (g.A.Automaton.lists m) c.requires.empty) c.in_ok-leaf.leaf c.in_ok-leaf.ensures.answer
    (g.A.Automaton.shape k) (g.A.Automaton.field k) (g.A.Automaton.lists k) (c.mark.ensures.shape ∙ c.in_ok-leaf.ensures.shape) (c.mark.ensures.field ∙ c.in_ok-leaf.ensures.field) c.mark.ensures.lists

pub cells-cells-requires : goal.cells-cells-requires
cells-cells-requires g c =
    let m = c.args.automaton.now in
    let n = c.leaf.new.self in
    let k = c.mark.new.self in
    let j = c.join.new.self in
    cells_by (g.A.Automaton.shape k) (g.A.Automaton.shape j) (g.A.Automaton.lists j) 2000 c.in_ok-join.ensures.shape (omega arith)
    (join_cells (g.A.Automaton.shape m) (g.A.Automaton.field m) c.args.letter.now c.args.op.now c.requires.letter c.requires.field c.requires.left c.requires.right c.requires.over (g.A.Automaton.lists m) (g.A.Automaton.lists n)
    (empty_cells 0 (g.A.Automaton.shape m) (nodes (g.A.Automaton.shape m)) (g.A.Automaton.lists m) c.requires.empty) c.in_ok-leaf.leaf c.in_ok-leaf.ensures.answer
    (g.A.Automaton.shape k) _ (g.A.Automaton.lists k) (g.A.Automaton.lists j) c.in_ok-join.join (c.mark.ensures.shape ∙ c.in_ok-leaf.ensures.shape) c.mark.ensures.lists c.in_ok-join.ensures.answer)

pub cells-leaf_cells-requires : goal.cells-leaf_cells-requires
cells-leaf_cells-requires g c =
    let m = c.args.automaton.now in
    let n = c.leaf.new.self in
    let r = c.roll_back.new.self in
    cells_by (g.A.Automaton.shape m) (g.A.Automaton.shape r) (g.A.Automaton.lists r) 1000
    (c.roll_back.ensures.shape ∙ c.in_ok-join.ensures.shape ∙ c.mark.ensures.shape ∙ c.in_ok-leaf.ensures.shape) (omega arith)
    (subst (λ ls. list_cells (nodes (g.A.Automaton.shape m)) ls ≤ 1000)
    (sym (c.roll_back.ensures.lists ∙ c.in_ok-join.ensures.marked ∙ c.mark.ensures.marked))
    (leaf_cells (g.A.Automaton.shape m) (g.A.Automaton.field m) c.args.letter.now c.args.op.now c.requires.letter c.requires.field c.requires.left c.requires.right c.requires.over (g.A.Automaton.lists m) (g.A.Automaton.lists n)
    (empty_cells 0 (g.A.Automaton.shape m) (nodes (g.A.Automaton.shape m)) (g.A.Automaton.lists m) c.requires.empty) c.in_ok-leaf.leaf c.in_ok-leaf.ensures.answer))

pub join_open-requires-clause-can : goal.join_open-requires-clause-can
join_open-requires-clause-can g c =
    let m = c.args.automaton.now in
    let n = c.leaf.new.self in
    let o = c.open.new.self in
    can_join (g.A.Automaton.shape m) (g.A.Automaton.field m) c.args.letter.now c.args.op.now c.requires.letter c.requires.field c.requires.left c.requires.right c.requires.over (g.A.Automaton.lists m) (g.A.Automaton.lists n)
    (empty_cells 0 (g.A.Automaton.shape m) (nodes (g.A.Automaton.shape m)) (g.A.Automaton.lists m) c.requires.empty) c.in_ok-leaf.leaf c.in_ok-leaf.ensures.answer
    (g.A.Automaton.shape o) (g.A.Automaton.field o) (g.A.Automaton.lists o)
    (c.in_ok-open.ensures.shape ∙ c.roll_back.ensures.shape ∙ c.in_ok-join.ensures.shape ∙ c.mark.ensures.shape ∙ c.in_ok-leaf.ensures.shape)
    (c.in_ok-open.ensures.field ∙ c.roll_back.ensures.field ∙ c.in_ok-join.ensures.field ∙ c.mark.ensures.field ∙ c.in_ok-leaf.ensures.field)
    (c.in_ok-open.ensures.lists ∙ c.roll_back.ensures.lists ∙ c.in_ok-join.ensures.marked ∙ c.mark.ensures.marked)
