use Rattle.std.proofs.Common.{subst}
use Rattle.mm_space.specs.KeyValue.{KeyValue}
use Rattle.mm_space.specs.KeyView.{IsReduced}
use Rattle.mm_space.proofs.EqualLemmas.{equal_keys}
use Rattle.mm_space.proofs.key.Key.equal_by_vectors.Goals as goal

pub returns : goal.returns
returns c =
    equal_keys c.args.self.now c.args.other.now
    (subst (λ (k : KeyValue). IsReduced k) c.self.view_is c.self.invariant.reduced)
    (subst (λ (k : KeyValue). IsReduced k) c.other.view_is c.other.invariant.reduced)
    c.requires
