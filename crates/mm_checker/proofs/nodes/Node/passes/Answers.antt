use Rattle.std.proofs.Common.{◌∙◌}
use Rattle.mm_checker.specs.KeptNodes.{sets_of}
use Rattle.mm_checker.proofs.TableLemmas.{passes_stop, passes_by, true_table}
use Rattle.mm_checker.proofs.nodes.Node.passes.Goals as goal

pub returns-then-not-branch : goal.returns-then-not-branch
returns-then-not-branch c = λ trees node n.
    passes_stop c.args.least c.args.claims.now.leaves.entries c.args.claims.now.glues.entries trees node (sets_of c.args.self.now) c.args.rows.now _ _ c.in_ok-add_all.ensures c.if-not-branch.true

pub returns : goal.returns
returns c = λ trees node n.
    let t = true_table c.args.rows.now c.in_ok-add_all.field-0 _ c.in_ok-add_all.ensures c.if-not-branch.false in
    c.are_all_met.ensures trees node c.args.rows.now n t
    ∙ passes_by c.args.least c.args.claims.now.leaves.entries c.args.claims.now.glues.entries trees node (sets_of c.args.self.now) c.args.rows.now _ t
