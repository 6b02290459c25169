use Rattle.std.proofs.Common.{subst, sym, refl, ◌+◌, length}
use Rattle.mm_tree.specs.Nodes.{named}
use Rattle.mm_checker.specs.NodeLines.{lines_from, leaves}
use Rattle.mm_checker.specs.KeptLines.{PutsLines}
use Rattle.mm_checker.proofs.LineLemmas.{put_three}
use Rattle.mm_checker.proofs.tree_lines.+push_lines.Goals as goal

pub returns-in_ok-push-in-Join-clause-lines : goal.returns-in_ok-push-in-Join-clause-lines
unfolding named
returns-in_ok-push-in-Join-clause-lines t c =
    subst (λ node. PutsLines c.args.lines.now.items (lines_from c.args.next (named node)) c.push-in-Join.new.self.items) (sym c.in-Join.is)
    (put_three c.args.lines.now.items c.push_lines.new.lines.items c.push_lines-in-Join.new.lines.items _ (lines_from c.args.next (named c.in-Join.left.value)) _ _ _
    (subst (λ n. PutsLines c.args.lines.now.items (lines_from c.args.next (named n)) c.push_lines.new.lines.items) c.deref.ensures c.in_ok-middle-in-Join.ensures.lines)
    (subst (λ n. PutsLines c.push_lines.new.lines.items (lines_from (c.args.next + length (leaves (named n))) (named c.in-Join.right.value)) c.push_lines-in-Join.new.lines.items) c.deref.ensures
    (subst (λ n. PutsLines c.push_lines.new.lines.items (lines_from (c.args.next + length (leaves (named c.deref.result.now))) (named n)) c.push_lines-in-Join.new.lines.items) c.deref-in-Join.ensures
    (subst (λ k. PutsLines c.push_lines.new.lines.items (lines_from k (named c.deref-in-Join.result.now)) c.push_lines-in-Join.new.lines.items) c.in_ok-middle-in-Join.ensures.next c.in_ok-end-in-Join.ensures.lines)))
    refl c.in_ok-push-in-Join.ensures.items)
