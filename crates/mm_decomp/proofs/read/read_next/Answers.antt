use Rattle.std.proofs.Common.{Bool, ap, ◌∙◌}
use Rattle.mm_decomp.specs.BuildStates.{parts_from}
use Rattle.mm_decomp.specs.BuildTexts.{left}
use Rattle.mm_decomp.proofs.ReadLemmas.{all_left, line_left, line_stops, shorter}
use Rattle.mm_decomp.proofs.read.read_next.Goals as goal

pub returns-in_default-clause-all : goal.returns-in_default-clause-all
returns-in_default-clause-all c = λ no_more.
    (all_left c.args.framer.now c.next_line.new.self c.in_ok-line.field-0 c.in_ok-line.ensures.line c.in_ok-line.ensures.handed c.in_default.is).1

pub returns-in-Ok-clause-goes : goal.returns-in-Ok-clause-goes
returns-in-Ok-clause-goes c =
    ap (parts_from c.args.state.now)
    (line_left c.args.framer.now c.next_line.new.self c.in_ok-line.field-0 c.in-Some.line c.in_ok-line.ensures.line c.in_ok-line.ensures.handed c.in-Some.is)
    ∙ c.in-Ok.ensures.goes (left c.next_line.new.self)

pub returns-in-Ok-clause-more : goal.returns-in-Ok-clause-more
returns-in-Ok-clause-more c = λ more.
    shorter c.args.framer.now c.next_line.new.self c.in-Some.line
    (line_left c.args.framer.now c.next_line.new.self c.in_ok-line.field-0 c.in-Some.line c.in_ok-line.ensures.line c.in_ok-line.ensures.handed c.in-Some.is)

pub returns-clause-goes : goal.returns-clause-goes
returns-clause-goes c =
    let rest = left c.next_line.new.self in
    line_stops {X = Bool} c.in-Err.stop (parts_from c.args.state.now) (left c.args.framer.now) c.in-Some.line rest (λ u. parts_from c.take.new.self rest) _
    (line_left c.args.framer.now c.next_line.new.self c.in_ok-line.field-0 c.in-Some.line c.in_ok-line.ensures.line c.in_ok-line.ensures.handed c.in-Some.is)
    (c.in-Err.ensures.goes rest)
