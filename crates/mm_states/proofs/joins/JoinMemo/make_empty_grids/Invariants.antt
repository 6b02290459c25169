use Rattle.mm_states.specs.Cells.{Forgets}
use Rattle.mm_states.specs.Memos.{joins_answer}
use Rattle.mm_states.proofs.joins.JoinMemo.make_empty_grids.Given as goal

abbrev pub invariant-loop : goal.invariant-loop
invariant-loop l = Forgets (joins_answer l.fn.self) (joins_answer l.self)
