use Rattle.std.proofs.Common.{rules, get_or, refl, sym, ◌≡◌, ◌≤◌, ◌<◌, ◌+◌, ◌*◌, ℕ, vec_len, List, length, nat_abs, ap, ◌∙◌, subst}
use Rattle.mm_least.specs.declared.row.Row.{Row}
use Rattle.mm_least.specs.Rows.{shown}
use Rattle.mm_least.specs.Candidates.{typed_by, pairs_with}
use Rattle.mm_least.specs.Logs.{standing}
use Rattle.mm_least.specs.KnownRows.{PutsAll}
use Rattle.mm_least.specs.Passes.{most_sum}
use Rattle.mm_least.specs.Transitions.{TransitionValue}
use Rattle.mm_least.proofs.WalkLemmas.{fit_at}
use Rattle.mm_least.proofs.KnownLemmas.{no_row, all_taken, row_placed, row_named, pair_in_table, pair_offered}
use Rattle.mm_least.proofs.known.offer_with.Goals as goal

pub offer_pair-requires-clause-right : goal.offer_pair-requires-clause-right
offer_pair-requires-clause-right c = fit_at (λ q. nat_abs q.1 ≤ most_sum) c.args.right.now c.loop-k.k no_row c.requires.right_light c.loop-k-test.true

pub index-made-requires : goal.index-made-requires
index-made-requires c =
    let width : c.len.result ≡ length c.args.transition.now.right = search rules in
    let long : vec_len c.transition.inside.table ≡ length c.transition.inside.table.items = search rules in
    subst (λ (n : ℕ). c.args.at * c.len.result + get_or c.args.columns.now c.loop-k.k 0 < n) (sym long)
    (pair_in_table c.args.transition.now c.requires.sized c.args.at (get_or c.args.columns.now c.loop-k.k 0) c.requires.there
    (row_placed c.args.transition.now.right c.args.right.now c.args.columns.now c.requires.columns c.loop-k.k c.loop-k-test.true) c.len.result width c.transition.inside.table.items (ap (λ (t : TransitionValue). t.table) c.transition.view_is))

pub loop-k-preserved : goal.loop-k-preserved
loop-k-preserved c =
    let width : c.len.result ≡ length c.args.transition.now.right = search rules in
    let T = c.args.transition.now in
    let right = c.args.right.now in
    let columns = c.args.columns.now in
    let k = c.loop-k.k in
    pair_offered T c.requires.sized c.requires.placed c.args.left.now c.args.at c.requires.there c.requires.here right k c.loop-k-test.true c.args.place (get_or columns k 0)
    T.right refl (row_placed T.right right columns c.requires.columns k c.loop-k-test.true) (row_named T.right right columns c.requires.columns k c.loop-k-test.true)
    c.len.result width
    c.index-made.result.now c.index-made.result.now c.transition.inside.table.items c.index-made.ensures (ap (λ (t : TransitionValue). t.table) c.transition.view_is)
    c.deref.result.now (c.deref.ensures.value ∙ ap (λ (t : TransitionValue). t.ids) c.transition.view_is)
    c.args.log.now.items c.loop-k.log.items c.offer_pair.new.lasts.items c.offer_pair.new.log.items c.in-Ok.ensures c.loop-k.invariant.1

pub returns : goal.returns
returns c = (
  c.loop-k.invariant.0,
  subst (λ (rs : List Row). PutsAll c.args.transition.now (λ type join. pairs_with join (type c.args.left.now.id, c.args.left.now.weight) c.args.place (typed_by type (shown rs)) 0) (standing c.args.log.now.items) (standing c.loop-k.log.items))
      (all_taken c.args.right.now c.loop-k.k c.loop-k-test.false) c.loop-k.invariant.1,
)
