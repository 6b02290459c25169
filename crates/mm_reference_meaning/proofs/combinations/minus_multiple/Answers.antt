use Rattle.std.proofs.Common.{◌≡◌, length, drop, sym, ap₂, ◌∙◌, subst, refl, rules}
use Rattle.std.proofs.lemmas.List.{take_at}
use Rattle.mm_field.specs.Vectors.{vector_sum, multiple, IsVector}
use Rattle.mm_linear.specs.Coordinates.{minus_multiple}
use Rattle.mm_linear.proofs.CoordinateLemmas.{IsVector-minus_multiple}
use Rattle.mm_reference_meaning.proofs.combinations.minus_multiple.Goals as goal

pub axpy-requires-clause-factor : goal.axpy-requires-clause-factor
axpy-requires-clause-factor c = c.neg.ensures.digit

pub returns : goal.returns
returns c =
    let f = c.args.f in
    let x = c.args.x.now in
    let v = c.args.v.now in
    let was : c.in_ok-rest.rest.items ≡ x = search rules in
    let long : length c.axpy.new.y ≡ c.in_ok-rest.rest.len = search rules in
    let made : c.axpy.new.y ≡ minus_multiple f x c.args.c v =
    c.axpy.ensures ∙ ap₂ (λ y k. vector_sum f y (multiple f k v)) (c.deref_mut.ensures.value ∙ was) c.neg.ensures.negative in
    let kept = take_at c.axpy.new.y (drop (length c.axpy.new.y) c.in_ok-rest.rest.items) c.in_ok-rest.rest.len long ∙ made in
    (kept, subst (λ r. IsVector f (length x) r) (sym kept) (IsVector-minus_multiple f (length x) c.args.c x v refl c.requires.same_length))
