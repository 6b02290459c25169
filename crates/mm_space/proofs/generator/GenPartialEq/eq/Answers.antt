use Rattle.std.proofs.Common.{take, ◌≡◌, arith, sym, subst}
use Rattle.mm_space.proofs.EqualDigits.{equal_rows}
use Rattle.mm_space.proofs.generator.GenPartialEq.eq.Goals as goal

pub returns : goal.returns
returns c =
    let mine = c.self.inside in
    let yours = c.other.inside in
    let few = c.self.invariant.few in
    let whole = c.loop-k-test.false in
    equal_rows c.self.inside.count c.args.self.now c.args.other.now mine.kept yours.kept (sym c.self.view_is)
    (sym (subst (λ n. take n yours.kept ≡ c.args.other.now) (sym c.if-self-other.false) c.other.view_is))
    (omega (arith, few, c.self.invariant.size)) (omega (arith, few, c.other.invariant.size))
    (λ k l. c.loop-k.invariant k (omega (arith, l, whole)))
