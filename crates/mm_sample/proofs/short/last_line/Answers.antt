use Rattle.std.proofs.Common.{◌∙◌, sym, arith}
use Rattle.std.proofs.lemmas.Grind.{common_steps}
use Rattle.std.proofs.lemmas.List.Quantifiers.{position-Some}
use Rattle.mm_lines.specs.Lines.{is_newline}
use Rattle.mm_sample.proofs.LineLemmas.{last_after, last_alone, lines_are_few, one_alone, one_more}
use Rattle.mm_sample.proofs.short.last_line.Goals as goal

pub overflow_add-number : goal.overflow_add-number
overflow_add-number c =
    let few = lines_are_few c.args.lines.now in
    let more = one_more c.lines.line.now c.in-Some.at (sym c.newline_in.ensures ∙ c.in-Some.is) in
    omega (arith, few, more, c.lines.invariant.0)

pub overflow_add-line : goal.overflow_add-line
overflow_add-line c =
    let found = position-Some is_newline c.lines.line.now c.in-Some.at 0 (sym c.newline_in.ensures ∙ c.in-Some.is) in
    omega (arith, found.0, c.lines.invariant.2)

pub lines-preserved : goal.lines-preserved
lines-preserved c =
    let found = sym c.newline_in.ensures ∙ c.in-Some.is in
    let last = last_after c.lines.line.now c.in-Some.at found in
    let more = one_more c.lines.line.now c.in-Some.at found in
    grind (arith, common_steps)

pub returns-clause-number : goal.returns-clause-number
returns-clause-number c =
    let one = one_alone c.lines.line.now (sym c.newline_in.ensures ∙ c.in_default.is) in
    omega (arith, one, c.lines.invariant.0)

pub returns-clause-line : goal.returns-clause-line
returns-clause-line c = sym (last_alone c.lines.line.now (sym c.newline_in.ensures ∙ c.in_default.is)) ∙ c.lines.invariant.1
