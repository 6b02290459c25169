-- What a memo answers.
use Rattle.std.specs.Prelude.{ℕ, Bool, false, List, slice_get, Option, Some, None, if◌then◌else◌}
use Rattle.mm_states.specs.declared.grid.Grid.{Grid}
use Rattle.mm_states.specs.declared.cache.Slot.{Slot}
use Rattle.mm_states.specs.declared.joins.JoinMemo.{JoinMemo}
use Rattle.mm_states.specs.Cells.{covers, grid_answer, cache_answer}

-- whether a join has a cell in the grid of its operator
abbrev pub has_cell : Option Grid → ℕ → ℕ → Bool
has_cell None left right = false
has_cell (Some g) left right = covers g.width left right

abbrev pub covered : List Grid → ℕ → ℕ → ℕ → Bool
covered grids op left right = has_cell (slice_get grids op) left right

abbrev pub cell_answer : Option Grid → ℕ → ℕ → Option ℕ
cell_answer None left right = None
cell_answer (Some g) left right = grid_answer g.width g.cells.items left right

-- what grids and a cache answer: the grid of the operator alone where it has a cell for the join
abbrev pub answer_of : List Grid → ℕ → List Slot → ℕ → ℕ → ℕ → Option ℕ
answer_of grids shift slots op left right =
    if covered grids op left right then cell_answer (slice_get grids op) left right else cache_answer shift slots op left right

abbrev pub joins_answer : JoinMemo → ℕ → ℕ → ℕ → Option ℕ
joins_answer m = answer_of m.grids.items m.cache.shift m.cache.slots.items

-- nothing is remembered
abbrev pub no_answers : ℕ → ℕ → ℕ → Option ℕ
no_answers op left right = None
