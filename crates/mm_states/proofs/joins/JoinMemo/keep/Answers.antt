use Rattle.mm_states.specs.Memos.{joins_answer}
use Rattle.mm_states.proofs.CacheLemmas.{kept_after}
use Rattle.mm_states.proofs.joins.JoinMemo.keep.Goals as goal

pub returns-clause-others : goal.returns-clause-others
returns-clause-others c =
    kept_after (joins_answer c.args.self.now) (joins_answer c.make_grid.new.self) (joins_answer c.put.new.self) c.args.op c.args.left c.args.right c.args.id c.make_grid.ensures c.put.ensures.others
