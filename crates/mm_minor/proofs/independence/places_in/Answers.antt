use Rattle.std.proofs.Common.{ap, sym, ◌∙◌, ◌/◌, ◌∷◌, ◌++◌, [], ℕ}
use Rattle.mm_minor.proofs.BuildLemmas.{place_in, place_not_in, digits_more}
use Rattle.mm_minor.proofs.independence.places_in.Goals as goal
use Rattle.mm_minor.proofs.independence.places_in.Goals.{then-rest-eq1+in_ok-push, else-rest-eq1}

pub loop-i-preserved : goal.loop-i-preserved
loop-i-preserved c =
    let i = c.loop-i.i in
    let s = c.args.s in
    record {
      chosen = elim c.if-rest-eq1.branch [
        | then-rest-eq1+in_ok-push w ↦
            ap (λ v. v.items) w.places-is ∙ w.in_ok-push.ensures.items ∙ ap (λ xs. xs ++ (i ∷ [])) c.loop-i.invariant.chosen
            ∙ sym (place_in i s c.loop-i.rest c.loop-i.invariant.left w.if-rest-eq1.true)
        | else-rest-eq1 w ↦
            ap (λ v. v.items) w.places-is ∙ c.loop-i.invariant.chosen
            ∙ sym (place_not_in i s c.loop-i.rest c.loop-i.invariant.left w.if-rest-eq1.false)
      ];
      left = ap (λ (m : ℕ). m / 2) c.loop-i.invariant.left ∙ sym (digits_more i s);
    }
