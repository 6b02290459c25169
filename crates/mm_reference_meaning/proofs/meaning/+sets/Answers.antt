use Rattle.std.proofs.Common.{◌≡◌, ◌∷◌, ◌++◌, ◌-◌, suc, true, false, [], map, sym, ap, ap₂, ◌∙◌, arith}
use Rattle.mm_logic.specs.Marks as marks_spec
use Rattle.mm_reference_meaning.specs.Formulas.{tests_of}
use Rattle.mm_reference_meaning.proofs.meaning.+sets.Goals as goal
use Rattle.mm_reference_meaning.proofs.meaning.+sets.Goals.{then-n-eq0+in_ok-push, else-n-eq0+in_ok-smaller+in_ok-push_longer+in_ok-push_longer-2}

pub returns : goal.returns
returns t c =
    elim c.if-n-eq0.branch [
      | then-n-eq0+in_ok-push w ↦
          ap (λ v. tests_of v.items) w.all-is
          ∙ ap tests_of (w.in_ok-push.ensures.items ∙ ap (λ xs. xs ++ (w.new.result ∷ [])) c.new-all.ensures.items)
          ∙ ap (λ X. X ∷ []) w.new.ensures.items
          ∙ ap marks_spec.sets (sym w.if-n-eq0.true)
      | else-n-eq0+in_ok-smaller+in_ok-push_longer+in_ok-push_longer-2 w ↦
          let made : tests_of w.deref.result.now ≡ marks_spec.sets (c.args.n - 1) = ap tests_of w.deref.ensures.value ∙ w.in_ok-smaller.ensures in
          let again : tests_of w.deref-else-n-eq0.result.now ≡ marks_spec.sets (c.args.n - 1) = ap tests_of w.deref-else-n-eq0.ensures.value ∙ w.in_ok-smaller.ensures in
          let down : suc (c.args.n - 1) ≡ c.args.n = omega (arith, w.if-n-eq0.false) in
          ap (λ v. tests_of v.items) w.all-is
          ∙ w.in_ok-push_longer-2.ensures
          ∙ ap₂ (λ x y. x ++ map (λ X. true ∷ X) y)
          (w.in_ok-push_longer.ensures ∙ ap₂ (λ x y. x ++ map (λ X. false ∷ X) y) (ap tests_of c.new-all.ensures.items) made) again
          ∙ ap marks_spec.sets down
    ]
