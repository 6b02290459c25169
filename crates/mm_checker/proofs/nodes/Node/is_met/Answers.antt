use Rattle.std.proofs.Common.{◌∙◌, sym, ap}
use Rattle.mm_checker.specs.NodeLines.{choice}
use Rattle.mm_checker.specs.KeptNodes.{sets_of}
use Rattle.mm_checker.proofs.TableLemmas.{met_in, found, is_good}
use Rattle.mm_checker.proofs.nodes.Node.is_met.Goals as goal

pub returns-in-Some-find : goal.returns-in-Some-find
returns-in-Some-find c = λ trees node rows n t.
    c.is_as_good.ensures ∙ ap (found (is_good c.in-Some.choice)) (sym c.in-Some-find.is ∙ c.find.ensures)
    ∙ sym (met_in (sets_of c.args.self.now) rows (choice c.args.least c.args.claims.now.leaves.entries c.args.claims.now.glues.entries trees node c.args.x c.args.y) c.in-Some.choice c.args.table.now.rows.entries (c.in-Some.ensures trees node n) t)

pub returns-in-None : goal.returns-in-None
returns-in-None c = λ trees node rows n t.
    ap (found (is_good c.in-Some.choice)) (sym c.in-None.is ∙ c.find.ensures)
    ∙ sym (met_in (sets_of c.args.self.now) rows (choice c.args.least c.args.claims.now.leaves.entries c.args.claims.now.glues.entries trees node c.args.x c.args.y) c.in-Some.choice c.args.table.now.rows.entries (c.in-Some.ensures trees node n) t)
