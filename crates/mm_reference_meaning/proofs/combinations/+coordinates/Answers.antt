use Rattle.std.proofs.Common.{◌≡◌, ◌<◌, ◌∷◌, length, take, drop, ◌-◌, sym, ap, ap₂, ◌∙◌, subst, arith, rules}
use Rattle.mm_field.specs.Digits.{order}
use Rattle.mm_field.specs.Vectors.{IsVector, AreVectors}
use Rattle.mm_field.proofs.CombinationLemmas.{other_rows}
use Rattle.mm_linear.specs.Coordinates.{minus_multiple, digit_below, coordinates}
use Rattle.mm_linear.proofs.CoordinateLemmas.{digit_below_digit}
use Rattle.mm_reference_meaning.specs.Rows.{rows_of}
use Rattle.mm_reference_meaning.proofs.SpanLemmas.{rows_split, rows_none}
use Rattle.mm_reference_meaning.proofs.combinations.+coordinates.Goals as goal

pub first_coordinate-requires-clause-rows : goal.first_coordinate-requires-clause-rows
first_coordinate-requires-clause-rows t c =
    let rows = c.args.rows.now in
    let n = length c.args.v.now in
    let split = rows_split rows c.first-item.result c.in-len1-up.len_at_least c.first-item.is in
    other_rows c.args.f n c.first-item.result.items (rows_of (take (length rows - 1) (drop 1 rows))) (subst (λ xs. AreVectors c.args.f n xs) split c.requires.rows)

pub minus_multiple-requires-clause-factor : goal.minus_multiple-requires-clause-factor
minus_multiple-requires-clause-factor t c =
    let rows = c.args.rows.now in
    subst (λ d. d < order c.args.f) (sym c.in_ok-c-in-len1-up.ensures)
    (digit_below_digit c.args.f (length c.args.v.now) (rows_of (take (length rows - 1) (drop 1 rows))) c.deref.result.now c.args.v.now (order c.args.f) (omega arith))

pub coordinates-requires : goal.coordinates-requires
coordinates-requires t c =
    let rows = c.args.rows.now in
    let n = length c.args.v.now in
    let others = rows_of (take (length rows - 1) (drop 1 rows)) in
    let split = rows_split rows c.first-item.result c.in-len1-up.len_at_least c.first-item.is in
    let h = other_rows c.args.f n c.first-item.result.items others (subst (λ xs. AreVectors c.args.f n xs) split c.requires.rows) in
    let rest : IsVector c.args.f n c.deref-in-len1-up-2.result.now =
    subst (λ r. IsVector c.args.f n r) (sym c.deref-in-len1-up-2.ensures.value) c.in_ok-rest-in-len1-up.ensures.1 in
    (search rules, (subst (λ k. AreVectors c.args.f k others) (sym rest.len) h, rest.digits))

pub returns-in-empty : goal.returns-in-empty
unfolding coordinates
returns-in-empty t c =
    c.new.ensures.items ∙ ap (λ xs. coordinates c.args.f (length c.args.v.now) xs c.args.v.now) (sym (rows_none c.args.rows.now c.in-empty.len_below))

pub returns-in_ok-insert-in-len1-up : goal.returns-in_ok-insert-in-len1-up
unfolding coordinates
returns-in_ok-insert-in-len1-up t c =
    let f = c.args.f in
    let rows = c.args.rows.now in
    let v = c.args.v.now in
    let n = length v in
    let first = c.first-item.result.items in
    let others = rows_of (take (length rows - 1) (drop 1 rows)) in
    let split = rows_split rows c.first-item.result c.in-len1-up.len_at_least c.first-item.is in
    let d : c.in_ok-c-in-len1-up.c ≡ digit_below f n others first v (order f) =
    c.in_ok-c-in-len1-up.ensures ∙ ap (λ u. digit_below f n others u v (order f)) c.deref.ensures.value in
    let rest : c.deref-in-len1-up-2.result.now ≡ minus_multiple f v (digit_below f n others first v (order f)) first =
    c.deref-in-len1-up-2.ensures.value ∙ c.in_ok-rest-in-len1-up.ensures.0 ∙ ap₂ (λ k u. minus_multiple f v k u) d c.deref-in-len1-up.ensures.value in
    let long : length c.deref-in-len1-up-2.result.now ≡ n =
    ap length c.deref-in-len1-up-2.ensures.value ∙ c.in_ok-rest-in-len1-up.ensures.1.len in
    c.in_ok-insert-in-len1-up.ensures.items
    ∙ ap₂ (λ k ds. k ∷ ds) d (c.in_ok-found-in-len1-up.ensures ∙ ap₂ (λ k u. coordinates f k others u) long rest)
    ∙ ap (λ xs. coordinates f n xs v) (sym split)
