use Rattle.std.proofs.Common.{rules, ◌≡◌, ◌-◌, ◌<◌, ◌+ℤ◌, sym, ap, ◌∙◌, subst, length, refl, arith, w64, SFits}
use Rattle.std.proofs.lemmas.Int.{ints}
use Rattle.mm_logic.specs.Formula.{Formula}
use Rattle.mm_logic.specs.Occurrence.{nodes as parts, list_cells}
use Rattle.mm_logic.specs.Growth.{root}
use Rattle.mm_states.specs.Calls.{value_of_join}
use Rattle.mm_least.specs.Rows.{Puts, AddsRow}
use Rattle.mm_least.specs.FoundTypes.{rows_of}
use Rattle.mm_least.proofs.PassLemmas.{added_cells, cells_fit, cells_below, one_passes, known_passes, one_refused, weight_is}
use Rattle.mm_least.proofs.FoundLemmas.{number_fits, puts_row, adds_row, told_again, told_new, found_again_is, found_new_is}
use Rattle.mm_least.proofs.pass.add_pair.Goals as goal

pub cells-requires : goal.cells-requires
cells-requires g c =
    let olds = g.A.Automaton.lists c.args.automaton.now in
    let v = value_of_join (g.A.Automaton.shape c.args.automaton.now) olds c.args.op.now c.args.left.now.id c.args.right.now.id in
    let rows = rows_of c.args.found.now in
    subst (λ (F : Formula). list_cells (parts F) (g.A.Automaton.lists c.join_open.new.self) < 4294967296) (sym c.in-Ok.ensures.shape)
    (cells_below (g.A.Automaton.shape c.args.automaton.now) olds (g.A.Automaton.lists c.join_open.new.self) v c.in-Ok.id (c.args.left.now.weight +ℤ c.args.right.now.weight) c.args.origin rows rows c.args.room.now c.args.room.now
    c.in-Ok.ensures.answer.0 c.requires.exact c.requires.within c.in-Ok.ensures.answer.1 4294967296 c.requires.can.roomy)

pub overflow_sub-room-in-None : goal.overflow_sub-room-in-None
overflow_sub-room-in-None g c =
    let olds = g.A.Automaton.lists c.args.automaton.now in
    let v = value_of_join (g.A.Automaton.shape c.args.automaton.now) olds c.args.op.now c.args.left.now.id c.args.right.now.id in
    let rows = rows_of c.args.found.now in
    let fits = cells_fit (g.A.Automaton.shape c.args.automaton.now) olds (g.A.Automaton.lists c.join_open.new.self) v c.in-Ok.id (c.args.left.now.weight +ℤ c.args.right.now.weight) c.args.origin rows rows c.args.room.now c.args.room.now
    c.in-Ok.ensures.answer.0 c.requires.exact c.requires.within c.in-Ok.ensures.answer.1 in
    let now = c.cells.ensures ∙ ap (λ (F : Formula). list_cells (parts F) (g.A.Automaton.lists c.join_open.new.self)) c.in-Ok.ensures.shape in
    let whole = c.requires.whole in
    let long = c.count.ensures in
    omega (arith, fits, now, whole, long)

pub returns-in-Some-clause-passes : goal.returns-in-Some-clause-passes
returns-in-Some-clause-passes g c =
    let F = g.A.Automaton.shape c.args.automaton.now in
    let olds = g.A.Automaton.lists c.args.automaton.now in
    let rows = rows_of c.args.found.now in
    let one : SFits w64 c.args.left.now.weight = search rules in
    let two : SFits w64 c.args.right.now.weight = search rules in
    let left = c.requires.left in
    let right = c.requires.right in
    let both : SFits w64 (c.args.left.now.weight +ℤ c.args.right.now.weight) = omega (arith, ints, left, right) in
    let weight = weight_is c.args.left.now.weight c.args.right.now.weight one two both in
    let place = c.in-Some.ensures in
    let there = subst (λ i. i < length (root F olds)) place.1
    (number_fits (λ i. i < length (root F olds)) c.args.found.now.ids.items c.in-Some.place (c.requires.found.occur (length (root F olds)) c.requires.listed) place.0) in
    known_passes F olds (g.A.Automaton.lists c.join_open.new.self) (value_of_join F olds c.args.op.now c.args.left.now.id c.args.right.now.id) c.in-Ok.id (c.args.left.now.weight +ℤ c.args.right.now.weight) c.args.origin
    rows (rows_of c.put.new.self) c.args.room.now c.in-Ok.ensures.answer.0 c.requires.exact c.requires.within c.in-Ok.ensures.answer.1 there c.put.result
    (subst (λ x. Puts (record { id = c.in-Ok.id; weight = x; origin = c.args.origin }) rows (rows_of c.put.new.self) c.put.result) weight (puts_row _ c.args.found.now c.put.new.self c.put.result c.put.ensures))

pub returns-in-None-clause-passes : goal.returns-in-None-clause-passes
returns-in-None-clause-passes g c =
    let F = g.A.Automaton.shape c.args.automaton.now in
    let olds = g.A.Automaton.lists c.args.automaton.now in
    let mids = g.A.Automaton.lists c.join_open.new.self in
    let v = value_of_join F olds c.args.op.now c.args.left.now.id c.args.right.now.id in
    let w = c.args.left.now.weight +ℤ c.args.right.now.weight in
    let rows = rows_of c.args.found.now in
    let now = c.cells.ensures ∙ ap (λ (G : Formula). list_cells (parts G) mids) c.in-Ok.ensures.shape in
    let one : SFits w64 c.args.left.now.weight = search rules in
    let two : SFits w64 c.args.right.now.weight = search rules in
    let left = c.requires.left in
    let right = c.requires.right in
    let both : SFits w64 (c.args.left.now.weight +ℤ c.args.right.now.weight) = omega (arith, ints, left, right) in
    let weight = weight_is c.args.left.now.weight c.args.right.now.weight one two both in
    let more = added_cells F olds mids v c.in-Ok.id w c.args.origin rows rows c.args.room.now c.args.room.now c.in-Ok.ensures.answer.0 c.requires.exact c.requires.within c.in-Ok.ensures.answer.1 in
    let whole = c.requires.whole in
    let long = c.count.ensures in
    let rest : c.args.whole - c.count.result - c.cells.result ≡ c.args.room.now - (list_cells (parts F) mids - list_cells (parts F) olds) = omega (arith, more, now, whole, long) in
    one_passes F olds mids v c.in-Ok.id w c.args.origin rows (rows_of c.put_new.new.found) c.args.room.now c.put_new.new.room c.in-Ok.ensures.answer.0 c.requires.exact c.requires.within c.in-Ok.ensures.answer.1
    (list_cells (parts F) mids - list_cells (parts F) olds) refl c.put_new.result
    (subst (λ r. AddsRow (record { id = c.in-Ok.id; weight = w; origin = c.args.origin }) rows (rows_of c.put_new.new.found) r c.put_new.new.room c.put_new.result) rest
    (subst (λ x. AddsRow (record { id = c.in-Ok.id; weight = x; origin = c.args.origin }) rows (rows_of c.put_new.new.found) (c.args.whole - c.count.result - c.cells.result) c.put_new.new.room c.put_new.result)
    weight (adds_row _ c.args.found.now c.put_new.new.found (c.args.whole - c.count.result - c.cells.result) c.put_new.new.room c.put_new.result c.in-None.ensures c.requires.found c.put_new.ensures)))

pub returns-in-Err-clause-passes : goal.returns-in-Err-clause-passes
returns-in-Err-clause-passes g c =
    one_refused (g.A.Automaton.shape c.args.automaton.now) (g.A.Automaton.lists c.args.automaton.now) (value_of_join (g.A.Automaton.shape c.args.automaton.now) (g.A.Automaton.lists c.args.automaton.now) c.args.op.now c.args.left.now.id c.args.right.now.id) (c.args.left.now.weight +ℤ c.args.right.now.weight) c.args.origin (rows_of c.args.found.now) c.args.room.now
    c.in-Err.fault c.fault_of.result c.fault_of.ensures c.in-Err.ensures.answer.1

pub returns-in-Some-clause-told : goal.returns-in-Some-clause-told
returns-in-Some-clause-told g c =
    told_again (g.A.Automaton.shape c.args.automaton.now) (g.A.Automaton.lists c.args.automaton.now) (g.A.Automaton.lists c.join_open.new.self)
    (value_of_join (g.A.Automaton.shape c.args.automaton.now) (g.A.Automaton.lists c.args.automaton.now) c.args.op.now c.args.left.now.id c.args.right.now.id) _ c.args.found.now c.put.new.self c.put.result
    c.in-Ok.ensures.answer.0 c.requires.listed c.put.ensures

pub returns-in-None-clause-told : goal.returns-in-None-clause-told
returns-in-None-clause-told g c =
    told_new (g.A.Automaton.shape c.args.automaton.now) (g.A.Automaton.lists c.args.automaton.now) (g.A.Automaton.lists c.join_open.new.self)
    (value_of_join (g.A.Automaton.shape c.args.automaton.now) (g.A.Automaton.lists c.args.automaton.now) c.args.op.now c.args.left.now.id c.args.right.now.id) _ c.args.found.now c.put_new.new.found _ c.put_new.new.room c.put_new.result
    c.in-Ok.ensures.answer.0 c.requires.listed c.put_new.ensures

pub returns-in-Some-clause-found : goal.returns-in-Some-clause-found
returns-in-Some-clause-found g c = found_again_is _ c.args.found.now c.put.new.self c.put.result c.put.ensures

pub returns-in-None-clause-found : goal.returns-in-None-clause-found
returns-in-None-clause-found g c = found_new_is _ c.args.found.now c.put_new.new.found _ c.put_new.new.room c.put_new.result c.put_new.ensures
