use Rattle.std.proofs.Common.{◌≡◌, [], length, sym, arith, ◌∙◌}
use Rattle.std.proofs.lemmas.List.Elements.{All-from_get_or}
use Rattle.mm_field.specs.Vectors.{IsVector}
use Rattle.mm_algebra_tests.proofs.space.matrix.Goals as goal

pub returns-after-loop-k : goal.returns-after-loop-k
returns-after-loop-k c =
    let g = c.in-Some.g in
    let count : length g ≡ c.args.n = sym c.rows.ensures ∙ c.if-rows-n.false in
    let ended = c.loop-k-test.false in (
      count,
      All-from_get_or (λ v. IsVector c.args.f c.args.r v) g []
          (λ k l. record { len = c.loop-k.invariant k (omega arith); digits = c.in-Some.ensures.digits k [] l }),
    )
