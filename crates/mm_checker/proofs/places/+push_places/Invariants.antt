use Rattle.mm_formula.specs.Syntax.{syntax_of, nodes}
use Rattle.mm_checker.proofs.places.+push_places.Given as goal

abbrev pub decreases-push_places : goal.decreases-push_places
decreases-push_places l = nodes (syntax_of l.formula.now)
