use Rattle.std.proofs.Common.{◌∙◌, sym}
use Rattle.mm_formula.specs.Syntax.{syntax_of}
use Rattle.mm_formula.proofs.ScopeLemmas.{scoped}
use Rattle.mm_formula.proofs.scope.Scoped.of.Goals as goal

pub invariant_of-result : goal.invariant_of-result
invariant_of-result c = record { scoped = scoped (syntax_of c.args.formula) c.args.free c.requires.sorted c.requires.set (sym c.fault_of.ensures ∙ c.in_default.is) }
