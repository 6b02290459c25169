use Rattle.std.proofs.Common.{refl}
use Rattle.mm_checker.proofs.NumberLemmas.{once_next}
use Rattle.mm_checker.proofs.rules.is_new.Goals as goal

pub returns : goal.returns
returns c = once_next c.args.numbers.now c.args.i c.requires.rising c.if-i-eq0.false c.requires.inside _ refl
