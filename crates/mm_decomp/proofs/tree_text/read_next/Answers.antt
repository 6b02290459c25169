use Rattle.std.proofs.Common.{Bool, Err, ◌∷◌, ap, sym, subst, ◌∙◌}
use Rattle.mm_header.specs.declared.state.HeaderStep.{HeaderStep}
use Rattle.mm_job_text.specs.Becoming.{Goes}
use Rattle.mm_decomp.specs.GivenTrees.{tree_from}
use Rattle.mm_decomp.specs.BuildTexts.{left}
use Rattle.mm_decomp.proofs.ReadLemmas.{all_left, line_left, shorter}
use Rattle.mm_decomp.proofs.TreeTextLemmas.{line_stops}
use Rattle.mm_decomp.proofs.tree_text.read_next.Goals as goal

pub returns-in_default-clause-all : goal.returns-in_default-clause-all
returns-in_default-clause-all c = λ no_more.
    (all_left c.args.framer.now c.next_line.new.self c.in_ok-line.field-0 c.in_ok-line.ensures.line c.in_ok-line.ensures.handed c.in_default.is).1

pub returns-in-Ok-clause-goes : goal.returns-in-Ok-clause-goes
returns-in-Ok-clause-goes c =
    ap (λ (s : HeaderStep). tree_from s (left c.args.framer.now)) (sym c.replace-before.ensures.value)
    ∙ ap (tree_from c.replace-before.result)
    (line_left c.args.framer.now c.next_line.new.self c.in_ok-line.field-0 c.in-Some.line c.in_ok-line.ensures.line c.in_ok-line.ensures.handed c.in-Some.is)
    ∙ c.in-Ok.ensures.goes (left c.next_line.new.self)

pub returns-in-Ok-clause-more : goal.returns-in-Ok-clause-more
returns-in-Ok-clause-more c = λ more.
    shorter c.args.framer.now c.next_line.new.self c.in-Some.line
    (line_left c.args.framer.now c.next_line.new.self c.in_ok-line.field-0 c.in-Some.line c.in_ok-line.ensures.line c.in_ok-line.ensures.handed c.in-Some.is)

pub returns-clause-goes : goal.returns-clause-goes
returns-clause-goes c =
    let rest = left c.next_line.new.self in
    line_stops {X = Bool} c.in-Err.stop (tree_from c.args.step.now) (left c.args.framer.now) c.in-Some.line rest (λ (s : HeaderStep). tree_from s rest) _
    (line_left c.args.framer.now c.next_line.new.self c.in_ok-line.field-0 c.in-Some.line c.in_ok-line.ensures.line c.in_ok-line.ensures.handed c.in-Some.is)
    (subst (λ (s : HeaderStep). Goes {X = HeaderStep} (Err c.in-Err.stop) (tree_from s (c.in-Some.line ∷ rest)) (λ (x : HeaderStep). tree_from x rest))
    c.replace-before.ensures.value (c.in-Err.ensures.goes rest))
