use Rattle.std.proofs.Common.{◌∙◌, sym, ap, arith}
use Rattle.mm_states.specs.Memos.{has_cell}
use Rattle.mm_states.proofs.MemoLemmas.{cache_kept, grid_kept, grid_there, grid_at, covered_within}
use Rattle.mm_states.proofs.joins.JoinMemo.put.Goals as goal

pub returns-then-not-is_covered-clause-others : goal.returns-then-not-is_covered-clause-others
returns-then-not-is_covered-clause-others c =
    let m = c.args.self.now in
    let n = c.keep.new.self in
    cache_kept m.grids.items m.cache.shift n.shift m.cache.slots.items n.slots.items c.args.op c.args.left c.args.right c.args.id c.keep.ensures.others

pub index_mut-requires : goal.index_mut-requires
index_mut-requires c =
    let m = c.args.self.now in
    omega (arith, covered_within m.grids.items c.args.op c.args.left c.args.right (sym c.is_covered.ensures ∙ c.if-not-is_covered.false), m.grids.ok)

pub put-requires-clause-covered : goal.put-requires-clause-covered
put-requires-clause-covered c =
    let m = c.args.self.now in
    let all = sym c.is_covered.ensures ∙ c.if-not-is_covered.false in
    let within = covered_within m.grids.items c.args.op c.args.left c.args.right all in
    ap (λ z. has_cell z c.args.left c.args.right) (sym (grid_at m.grids.items c.args.op c.index_mut.result.now within c.index_mut.ensures.value)) ∙ all

pub returns-clause-there : goal.returns-clause-there
returns-clause-there c =
    let m = c.args.self.now in
    let within = covered_within m.grids.items c.args.op c.args.left c.args.right (sym c.is_covered.ensures ∙ c.if-not-is_covered.false) in
    grid_there m.grids.items m.cache.shift m.cache.slots.items c.args.op c.args.left c.args.right c.args.id c.put.new.self within c.put.ensures.there

pub returns-clause-others : goal.returns-clause-others
returns-clause-others c =
    let m = c.args.self.now in
    let within = covered_within m.grids.items c.args.op c.args.left c.args.right (sym c.is_covered.ensures ∙ c.if-not-is_covered.false) in
    grid_kept m.grids.items m.cache.shift m.cache.slots.items c.args.op c.args.left c.args.right c.args.id c.index_mut.result.now c.put.new.self
    (grid_at m.grids.items c.args.op c.index_mut.result.now within c.index_mut.ensures.value) within c.put.ensures.width c.put.ensures.others
