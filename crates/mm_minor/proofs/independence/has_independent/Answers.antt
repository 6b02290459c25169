use Rattle.std.proofs.Common.{ap, sym, ◌∙◌, ◌<◌, subst, All, List, ℕ, length, ◌≡◌, arith}
use Rattle.std.specs.List.{range_with_len, items_where_true}
use Rattle.mm_minor.specs.MinorFormula.{subset}
use Rattle.mm_minor.proofs.RankLemmas.{places_within, independence_is_told}
use Rattle.mm_minor.proofs.independence.has_independent.Goals as goal

pub columns-requires : goal.columns-requires
columns-requires c =
    let k = c.args.n.now.cols in
    let s = c.args.s in
    subst (λ (ps : List ℕ). All (λ j. j < k) ps)
    (sym (c.deref.ensures.value ∙ c.in_ok-places.ensures ∙ ap (λ (m : ℕ). items_where_true (subset m s) (range_with_len 0 m)) c.cols.ensures))
    (places_within k s)

pub returns : goal.returns
returns c =
    let s = c.args.s in
    let places = c.deref.ensures.value ∙ c.in_ok-places.ensures ∙ ap (λ (m : ℕ). items_where_true (subset m s) (range_with_len 0 m)) c.cols.ensures in
    let all = c.deref.ensures.value in
    let size = c.in_ok-places.places.ok.0 in
    let count : c.len.result ≡ length c.deref.result.now = omega (arith, c.len.ensures, size, ap length all) in
    independence_is_told c.args.n.now c.in_ok-columns.columns c.in_ok-space.space s c.rank.result c.len.result c.deref.result.now
    places c.in_ok-columns.ensures c.in_ok-space.ensures.span.is_matrix c.in_ok-space.ensures.rows c.rank.ensures count
