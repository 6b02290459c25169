use Rattle.std.proofs.Common.{[], sym, ap, subst, ◌∙◌}
use Rattle.mm_header.specs.declared.state.HeaderState.TheVariants as state
use Rattle.mm_header.specs.declared.state.HeaderStep.TheVariants as step
use Rattle.mm_lines.specs.Lines.{is_over, lines}
use Rattle.mm_job_text.proofs.ReadingLemmas.{IfRead}
use Rattle.mm_decomp.specs.GivenTrees.{HasFewElements, ReadsTreeAs, given_tree_of, tree_at_end, tree_from, tree_parts}
use Rattle.mm_decomp.proofs.FewLeavesLemmas.{few_tree_parts}
use Rattle.mm_decomp.proofs.TreeTextLemmas.{stopped, tree_parts_from}
use Rattle.mm_decomp.proofs.tree_text.read_text.Goals as goal

pub read_end-requires-clause-few : goal.read_end-requires-clause-few
read_end-requires-clause-few c =
    let bytes = c.args.bytes.now in
    subst (λ r. IfRead HasFewElements r)
    (tree_parts_from (lines bytes) ∙ ap (tree_from (step.More state.Format)) (sym c.in_ok-framer.ensures) ∙ c.in-Ok.ensures.goes) (few_tree_parts (lines bytes))

pub returns-in-Ok : goal.returns-in-Ok
unfolding given_tree_of
returns-in-Ok c =
    let bytes = c.args.bytes.now in
    subst (λ r. ReadsTreeAs c.read_end.result r)
    (ap (tree_at_end (is_over bytes)) (sym (tree_parts_from (lines bytes) ∙ ap (tree_from (step.More state.Format)) (sym c.in_ok-framer.ensures) ∙ c.in-Ok.ensures.goes)))
    c.read_end.ensures

pub returns : goal.returns
unfolding given_tree_of
returns c =
    let bytes = c.args.bytes.now in
    stopped c.in-Err.stop (is_over bytes) (tree_parts (lines bytes)) _ _
    (tree_parts_from (lines bytes) ∙ ap (tree_from (step.More state.Format)) (sym c.in_ok-framer.ensures)) c.in-Err.ensures.goes
