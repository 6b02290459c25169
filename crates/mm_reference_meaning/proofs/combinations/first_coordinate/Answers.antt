use Rattle.std.proofs.Common.{◌≡◌, ◌+◌, cond, length, sym, ap, ap₂, ◌∙◌, refl, add-one}
use Rattle.mm_linear.specs.Coordinates.{minus_multiple, digit_below}
use Rattle.mm_linear.specs.Decide.{is_in_span}
use Rattle.mm_reference_meaning.specs.Rows.{rows_of}
use Rattle.mm_reference_meaning.proofs.combinations.first_coordinate.Goals as goal
use Rattle.mm_reference_meaning.proofs.combinations.first_coordinate.Goals.{then-branch, else-branch}

pub loop-c-init : goal.loop-c-init
unfolding digit_below
loop-c-init c = refl

pub loop-c-preserved : goal.loop-c-preserved
unfolding digit_below
loop-c-preserved c =
    let f = c.args.f in
    let v = c.args.v.now in
    let others = rows_of c.args.others.now in
    let made = c.deref.ensures.value ∙ c.in_ok-rest.ensures.0 in
    let long : length c.deref.result.now ≡ length v = ap length c.deref.ensures.value ∙ c.in_ok-rest.ensures.1.len in
    let here : is_in_span f (length v) others (minus_multiple f v c.loop-c.c c.args.first.now) ≡ c.in_ok-in_span.field-0 =
    sym (ap₂ (λ n u. is_in_span f n others u) long made) ∙ sym c.in_ok-in_span.ensures in
    let next : digit_below f (length v) others c.args.first.now v (c.loop-c.c + 1)
    ≡ cond c.in_ok-in_span.field-0 c.loop-c.c (digit_below f (length v) others c.args.first.now v c.loop-c.c) =
    ap (digit_below f (length v) others c.args.first.now v) (add-one c.loop-c.c)
    ∙ ap (λ b. cond b c.loop-c.c (digit_below f (length v) others c.args.first.now v c.loop-c.c)) here in
    elim c.if-branch.branch [
      | then-branch w ↦ w.found-is ∙ sym (next ∙ ap (λ b. cond b c.loop-c.c (digit_below f (length v) others c.args.first.now v c.loop-c.c)) w.if-branch.true)
      | else-branch w ↦ w.found-is ∙ c.loop-c.invariant ∙ sym (next ∙ ap (λ b. cond b c.loop-c.c (digit_below f (length v) others c.args.first.now v c.loop-c.c)) w.if-branch.false)
    ]
