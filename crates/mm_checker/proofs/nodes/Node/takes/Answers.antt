use Rattle.std.proofs.Common.{◌∙◌, sym}
use Rattle.mm_checker.specs.NodeLines.{choice}
use Rattle.mm_checker.specs.KeptNodes.{sets_of}
use Rattle.mm_checker.proofs.RowLemmas.{next_one, choice_set}
use Rattle.mm_checker.proofs.nodes.Node.takes.Goals as goal

pub returns-else-not-is_of : goal.returns-else-not-is_of
returns-else-not-is_of c = λ trees node n h.
    next_one (sets_of c.args.self.now) c.args.row.now c.args.rows.now
    (choice c.args.least c.args.claims.now.leaves.entries c.args.claims.now.glues.entries trees node c.args.row.now.x c.args.row.now.y) c.in-Some.choice c.follows.result
    (c.in-Some.ensures trees node n)
    (λ d e. choice_set c.args.least c.args.claims.now.leaves.entries c.args.claims.now.glues.entries c.args.self.now trees node c.args.row.now.x c.args.row.now.y d n e)
    (sym c.is_of.ensures ∙ c.if-not-is_of.false) (c.follows.ensures h)
