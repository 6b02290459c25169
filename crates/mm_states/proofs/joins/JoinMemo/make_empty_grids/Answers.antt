use Rattle.mm_states.specs.Memos.{joins_answer}
use Rattle.mm_states.proofs.MemoLemmas.{forgets_then}
use Rattle.mm_states.proofs.joins.JoinMemo.make_empty_grids.Goals as goal

pub loop-preserved : goal.loop-preserved
loop-preserved c = forgets_then (joins_answer c.args.self.now) (joins_answer c.loop.self) (joins_answer c.push_grid.new.self) c.loop.invariant c.push_grid.ensures
