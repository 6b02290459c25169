use Rattle.std.proofs.Common.{◌≡◌, true, length, take, drop, ◌-◌, sym, ap, ap₂, ◌∙◌, subst, refl, arith, rules}
use Rattle.mm_field.specs.Vectors.{IsVector, AreVectors}
use Rattle.mm_field.proofs.CombinationLemmas.{other_rows}
use Rattle.mm_linear.specs.Coordinates.{minus_multiple}
use Rattle.mm_linear.specs.Decide.{is_in_span}
use Rattle.mm_reference_meaning.specs.Rows.{rows_of}
use Rattle.mm_reference_meaning.proofs.SpanLemmas.{rows_split, rows_none, in_none, found_here, found_nowhere}
use Rattle.mm_reference_meaning.proofs.combinations.+in_span.Goals as goal

pub in_span-requires : goal.in_span-requires
in_span-requires t c =
    let rows = c.args.rows.now in
    let v = c.args.v.now in
    let split = rows_split rows c.first-item.result c.in-len1-up.len_at_least c.first-item.is in
    let h = subst (λ xs. AreVectors c.args.f (length v) xs) split c.requires.rows in
    let hs = other_rows c.args.f (length v) c.first-item.result.items (rows_of (take (length rows - 1) (drop 1 rows))) h in
    let rest : IsVector c.args.f (length v) c.deref-in-loop-c.result.now = subst (λ r. IsVector c.args.f (length v) r) (sym c.deref-in-loop-c.ensures.value) c.in_ok-rest-in-len1-up.ensures.1 in
    (search rules, (subst (λ n. AreVectors c.args.f n (rows_of (take (length rows - 1) (drop 1 rows)))) (sym rest.len) hs, rest.digits))

pub returns-then-branch : goal.returns-then-branch
returns-then-branch t c =
    let rows = c.args.rows.now in
    let v = c.args.v.now in
    let others = rows_of (take (length rows - 1) (drop 1 rows)) in
    let split = rows_split rows c.first-item.result c.in-len1-up.len_at_least c.first-item.is in
    let h = subst (λ xs. AreVectors c.args.f (length v) xs) split c.requires.rows in
    let made = c.deref-in-loop-c.ensures.value ∙ c.in_ok-rest-in-len1-up.ensures.0 in
    let long : length c.deref-in-loop-c.result.now ≡ length v = ap length c.deref-in-loop-c.ensures.value ∙ (c.in_ok-rest-in-len1-up.ensures.1).len in
    let here : is_in_span c.args.f (length v) others (minus_multiple c.args.f v c.loop-c.c c.first-item.result.items) ≡ true =
    sym (ap₂ (λ n u. is_in_span c.args.f n others u) long (made ∙ ap (minus_multiple c.args.f v c.loop-c.c) c.deref.ensures.value)) ∙ sym c.in_ok-in_span-in-len1-up.ensures ∙ c.if-branch.true in
    sym (ap (λ xs. is_in_span c.args.f (length v) xs v) split
    ∙ found_here c.args.f (length v) c.loop-c.c c.first-item.result.items v others h (record { len = refl; digits = c.requires.vector }) (omega (arith, c.loop-c-test.true, c.q-c-end.ensures)) here)

pub returns-in-empty : goal.returns-in-empty
returns-in-empty t c =
    let v = c.args.v.now in
    c.is_zero.ensures ∙ in_none c.args.f v (record { len = refl; digits = c.requires.vector })
    ∙ ap (λ xs. is_in_span c.args.f (length v) xs v) (sym (rows_none c.args.rows.now c.in-empty.len_below))

pub returns-after-loop-c : goal.returns-after-loop-c
returns-after-loop-c t c =
    let rows = c.args.rows.now in
    let v = c.args.v.now in
    let others = rows_of (take (length rows - 1) (drop 1 rows)) in
    let split = rows_split rows c.first-item.result c.in-len1-up.len_at_least c.first-item.is in
    let h = subst (λ xs. AreVectors c.args.f (length v) xs) split c.requires.rows in
    sym (ap (λ xs. is_in_span c.args.f (length v) xs v) split
    ∙ found_nowhere c.args.f (length v) c.first-item.result.items v others h (record { len = refl; digits = c.requires.vector })
    (λ d l. c.loop-c.invariant d (omega (arith, l, c.loop-c-test.false, c.q-c-end.ensures))))
