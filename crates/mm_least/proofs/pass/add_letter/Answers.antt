use Rattle.std.proofs.Common.{◌≡◌, ◌-◌, ◌<◌, sym, ap, ◌∙◌, subst, arith}
use Rattle.mm_logic.specs.Formula.{Formula}
use Rattle.mm_logic.specs.Occurrence.{nodes as parts, list_cells}
use Rattle.mm_states.specs.Letters.{leaf_type}
use Rattle.mm_least.proofs.PassLemmas.{added_cells, cells_fit, cells_below, one_passes, one_refused}
use Rattle.std.proofs.Common.{rules, w64, SFits, to_z, of_z}
use Rattle.std.proofs.lemmas.Int.{to_z-of_z}
use Rattle.mm_least.specs.Rows.{AddsRow}
use Rattle.mm_least.proofs.pass.add_letter.Goals as goal

pub cells-requires : goal.cells-requires
cells-requires g c =
    subst (λ (F : Formula). list_cells (parts F) (g.A.Automaton.lists c.leaf.new.self) < 4294967296) (sym c.in-Ok.ensures.shape)
    (cells_below (g.A.Automaton.shape c.args.automaton.now) (g.A.Automaton.lists c.args.automaton.now) (g.A.Automaton.lists c.leaf.new.self) (leaf_type (g.A.Automaton.shape c.args.automaton.now) c.args.letter.now) c.in-Ok.id c.args.weight c.args.origin c.args.rows.now.items c.args.rows.now.items c.args.room.now c.args.room.now
    c.in-Ok.ensures.answer.0 c.requires.exact c.requires.within c.in-Ok.ensures.answer.1 4294967296 c.requires.can.roomy)

pub overflow_sub-room : goal.overflow_sub-room
overflow_sub-room g c =
    let more = added_cells (g.A.Automaton.shape c.args.automaton.now) (g.A.Automaton.lists c.args.automaton.now) (g.A.Automaton.lists c.leaf.new.self) (leaf_type (g.A.Automaton.shape c.args.automaton.now) c.args.letter.now) c.in-Ok.id c.args.weight c.args.origin c.args.rows.now.items c.args.rows.now.items c.args.room.now c.args.room.now c.in-Ok.ensures.answer.0 c.requires.exact c.requires.within c.in-Ok.ensures.answer.1 in
    let now = c.cells.ensures ∙ ap (λ (F : Formula). list_cells (parts F) (g.A.Automaton.lists c.leaf.new.self)) c.in-Ok.ensures.shape in
    let before = c.cells-before.ensures in
    omega (arith, more, now, before)

pub overflow_sub-room-in-Ok : goal.overflow_sub-room-in-Ok
overflow_sub-room-in-Ok g c =
    let fits = cells_fit (g.A.Automaton.shape c.args.automaton.now) (g.A.Automaton.lists c.args.automaton.now) (g.A.Automaton.lists c.leaf.new.self) (leaf_type (g.A.Automaton.shape c.args.automaton.now) c.args.letter.now) c.in-Ok.id c.args.weight c.args.origin c.args.rows.now.items c.args.rows.now.items c.args.room.now c.args.room.now c.in-Ok.ensures.answer.0 c.requires.exact c.requires.within c.in-Ok.ensures.answer.1 in
    let now = c.cells.ensures ∙ ap (λ (F : Formula). list_cells (parts F) (g.A.Automaton.lists c.leaf.new.self)) c.in-Ok.ensures.shape in
    let before = c.cells-before.ensures in
    omega (arith, fits, now, before)

pub returns-in-Ok-clause-passes : goal.returns-in-Ok-clause-passes
returns-in-Ok-clause-passes g c =
    let now = c.cells.ensures ∙ ap (λ (F : Formula). list_cells (parts F) (g.A.Automaton.lists c.leaf.new.self)) c.in-Ok.ensures.shape in
    let before = c.cells-before.ensures in
    let fits : SFits w64 c.args.weight = search rules in
    let weight : to_z w64 (of_z w64 c.args.weight) ≡ c.args.weight = grind (arith, to_z-of_z) in
    one_passes (g.A.Automaton.shape c.args.automaton.now) (g.A.Automaton.lists c.args.automaton.now) (g.A.Automaton.lists c.leaf.new.self) (leaf_type (g.A.Automaton.shape c.args.automaton.now) c.args.letter.now) c.in-Ok.id c.args.weight c.args.origin c.args.rows.now.items c.add_row.new.rows.items c.args.room.now c.add_row.new.room c.in-Ok.ensures.answer.0 c.requires.exact c.requires.within c.in-Ok.ensures.answer.1
    (c.cells.result - c.cells-before.result) (λ i. now i - before i) c.add_row.result
    (subst (λ x. AddsRow (record { id = c.in-Ok.id; weight = x; origin = c.args.origin }) c.args.rows.now.items c.add_row.new.rows.items (c.args.room.now - (c.cells.result - c.cells-before.result)) c.add_row.new.room c.add_row.result)
    weight c.add_row.ensures)

pub returns-in-Err-clause-passes : goal.returns-in-Err-clause-passes
returns-in-Err-clause-passes g c =
    one_refused (g.A.Automaton.shape c.args.automaton.now) (g.A.Automaton.lists c.args.automaton.now) (leaf_type (g.A.Automaton.shape c.args.automaton.now) c.args.letter.now) c.args.weight c.args.origin c.args.rows.now.items c.args.room.now
    c.in-Err.fault c.fault_of.result c.fault_of.ensures c.in-Err.ensures.answer.1
