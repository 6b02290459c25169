use Rattle.mm_states.specs.Memos.{joins_answer}
use Rattle.mm_states.proofs.MemoLemmas.{forgets_then}
use Rattle.mm_states.proofs.joins.JoinMemo.make_grid.Goals as goal

pub returns-in-Some : goal.returns-in-Some
returns-in-Some c = forgets_then (joins_answer c.args.self.now) (joins_answer c.make_empty_grids.new.self) (joins_answer c.widen.new.self) c.make_empty_grids.ensures c.widen.ensures
