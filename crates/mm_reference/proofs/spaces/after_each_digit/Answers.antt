use Rattle.std.proofs.Common.{◌≡◌, ◌∷◌, ◌++◌, [], ℕ, List, map, flat_map, sym, ap, ◌∙◌, arith}
use Rattle.std.specs.List.{range_with_len}
use Rattle.std.proofs.lemmas.List.{flat_map_more}
use Rattle.mm_field.specs.Digits.{order}
use Rattle.mm_reference_meaning.specs.Rows.{rows_of}
use Rattle.mm_reference.proofs.spaces.after_each_digit.Goals as goal
use Rattle.mm_linear.proofs.BasisLemmas.{range_one_more}

pub loop-digit-preserved : goal.loop-digit-preserved
loop-digit-preserved c =
    let d = c.loop-digit.digit in
    let each : ℕ → List (List ℕ) = λ e. map (λ u. e ∷ u) (rows_of c.args.vectors.now) in
    c.in_ok-push_after_digit.ensures
    ∙ ap (λ xs. xs ++ each d) c.loop-digit.invariant
    ∙ flat_map_more each [] (range_with_len 0 d) d
    ∙ ap (flat_map each) (sym (range_one_more d))

pub returns : goal.returns
returns c =
    let each : ℕ → List (List ℕ) = λ e. map (λ u. e ∷ u) (rows_of c.args.vectors.now) in
    c.loop-digit.invariant
    ∙ ap (λ n. flat_map each (range_with_len 0 n)) (let e : c.loop-digit.digit ≡ order c.args.f = omega (arith, c.q-digit-end.ensures) in e)
