use Rattle.std.proofs.Common.{sym, ◌∙◌}
use Rattle.mm_sample.proofs.LineLemmas.{first_before, first_alone}
use Rattle.mm_sample.proofs.short.first_line.Goals as goal

pub returns-in-Some : goal.returns-in-Some
returns-in-Some c = first_before c.args.lines.now c.in-Some.at (sym c.newline_in.ensures ∙ c.in-Some.is)

pub returns-in-None : goal.returns-in-None
returns-in-None c = first_alone c.args.lines.now (sym c.newline_in.ensures ∙ c.in-None.is)
