use Rattle.std.proofs.Common.{◌≡◌, suc, [], ◌∷◌, ◌++◌, length, map, take, sym, ap, ap₂, ◌∙◌, subst, arith, add-one}
use Rattle.mm_field.specs.Vectors.{AreVectors, zeros}
use Rattle.mm_field.proofs.Tables.{one_digit}
use Rattle.mm_linear.specs.Coordinates.{is_pivot}
use Rattle.mm_linear.specs.Decide.{is_in_span}
use Rattle.mm_linear.proofs.BasisLemmas.{AreVectors-cut, IsVector-ended}
use Rattle.mm_reference_meaning.specs.Rows.{rows_of}
use Rattle.mm_reference_meaning.proofs.tree.is_pivot.Goals as goal

pub in_span-requires-clause-rows : goal.in_span-requires-clause-rows
in_span-requires-clause-rows c =
    let g = rows_of c.args.rows.now in
    let k = c.args.k in
    let first : c.deref-2.result.now ≡ zeros k ++ (1 ∷ []) =
    c.deref-2.ensures.value ∙ c.in_ok-push.ensures.items ∙ ap (λ z. z ++ (1 ∷ [])) c.in_ok-first.ensures in
    let long : length c.deref-2.result.now ≡ suc k = ap length first ∙ (IsVector-ended c.args.f k 1 (one_digit c.args.f)).len in
    let short : rows_of c.deref.result.now ≡ map (take (suc k)) g =
    ap rows_of c.deref.ensures.value ∙ c.in_ok-short.ensures ∙ ap (λ n. map (take n) g) (add-one k) in
    subst (λ n. AreVectors c.args.f n (rows_of c.deref.result.now)) (sym long)
    (subst (λ xs. AreVectors c.args.f (suc k) xs) (sym short) (AreVectors-cut c.args.f c.args.r (suc k) g (omega (arith, c.requires.place)) c.requires.rows))

pub returns : goal.returns
unfolding is_pivot
returns c =
    let g = rows_of c.args.rows.now in
    let k = c.args.k in
    let first : c.deref-2.result.now ≡ zeros k ++ (1 ∷ []) =
    c.deref-2.ensures.value ∙ c.in_ok-push.ensures.items ∙ ap (λ z. z ++ (1 ∷ [])) c.in_ok-first.ensures in
    let long : length c.deref-2.result.now ≡ suc k = ap length first ∙ (IsVector-ended c.args.f k 1 (one_digit c.args.f)).len in
    let short : rows_of c.deref.result.now ≡ map (take (suc k)) g =
    ap rows_of c.deref.ensures.value ∙ c.in_ok-short.ensures ∙ ap (λ n. map (take n) g) (add-one k) in
    c.in_ok-in_span.ensures
    ∙ ap₂ (λ n v. is_in_span c.args.f n (rows_of c.deref.result.now) v) long first
    ∙ ap (λ xs. is_in_span c.args.f (suc k) xs (zeros k ++ (1 ∷ []))) short
