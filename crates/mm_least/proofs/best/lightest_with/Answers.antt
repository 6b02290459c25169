use Rattle.std.proofs.Common.{◌<◌, length, pos}
use Rattle.mm_logic.specs.Growth.{root}
use Rattle.mm_least.specs.declared.row.Origin.TheVariants.{Out}
use Rattle.mm_least.proofs.WalkLemmas.{fit_at}
use Rattle.mm_least.proofs.best.lightest_with.Goals as goal

pub accepts-requires : goal.accepts-requires
accepts-requires g c =
    fit_at (λ p. p.0 < length (root (g.A.Automaton.shape c.args.automaton.now) (g.A.Automaton.lists c.args.automaton.now))) c.args.rows.now c.args.k
    (record { id = 0; weight = pos 0; origin = Out }) c.requires.within c.requires.there
