use Rattle.std.proofs.Common.{◌≡◌, ◌∷◌, ◌++◌, ◌-◌, suc, [], map, flat_map, sym, ap, ◌∙◌, arith}
use Rattle.std.specs.List.{range_with_len}
use Rattle.mm_field.specs.Digits.{order}
use Rattle.mm_linear.specs.Subspaces.{all_vectors}
use Rattle.mm_reference_meaning.specs.Rows.{rows_of}
use Rattle.mm_reference.proofs.spaces.+all_vectors.Goals as goal

pub returns-then-n-eq0 : goal.returns-then-n-eq0
unfolding all_vectors
returns-then-n-eq0 t c =
    ap rows_of (c.in_ok-push.ensures.items ∙ ap (λ xs. xs ++ (c.new.result ∷ [])) c.new-one.ensures.items)
    ∙ ap (λ v. v ∷ []) c.new.ensures.items
    ∙ ap (all_vectors c.args.f) (sym c.if-n-eq0.true)

pub returns : goal.returns
unfolding all_vectors
returns t c =
    let f = c.args.f in
    c.in_ok-after_each_digit.ensures
    ∙ ap (λ us. flat_map (λ d. map (λ u. d ∷ u) us) (range_with_len 0 (order f))) (ap rows_of c.deref.ensures.value ∙ c.in_ok-shorter.ensures)
    ∙ ap (all_vectors f) (let e : suc (c.args.n - 1) ≡ c.args.n = omega arith in e)
