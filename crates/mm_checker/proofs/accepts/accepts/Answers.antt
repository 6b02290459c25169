use Rattle.std.proofs.Common.{◌∙◌}
use Rattle.mm_formula.specs.Syntax.{syntax_of}
use Rattle.mm_checker.proofs.AcceptanceLemmas.{taken_as_accepted}
use Rattle.mm_checker.proofs.accepts.accepts.Goals as goal

pub returns : goal.returns
returns c = λ bs. c.takes.ensures ∙ taken_as_accepted c.args.values.now.ended.keys c.requires.meant bs (syntax_of c.args.formula.now) c.args.n c.requires.typed
