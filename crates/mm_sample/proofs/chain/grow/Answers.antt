use Rattle.std.proofs.Common.{ℕ, ◌+◌, ◌*◌, [], ◌∷◌, ap, ◌∙◌, arith}
use Rattle.mm_field.specs.Digits.{order}
use Rattle.mm_sample.specs.Draws.{after, next}
use Rattle.mm_sample.specs.SampleTree.{element_name, leaf, operator_name, operators}
use Rattle.mm_sample.proofs.ChainLemmas.{chain_is_built, chain_of_one, one_more, three_more}
use Rattle.mm_sample.proofs.FaultLemmas.{join_has_no_fault, leaf_has_no_fault}
use Rattle.mm_ops.specs.Tables.{op_named}
use Rattle.mm_tree.specs.Building.{BuilderValue, leaf_fault, named_fault}
use Rattle.mm_tree.specs.NamedTree.{Tree}
use Rattle.mm_sample.proofs.chain.grow.Goals as goal

pub loop-k-init : goal.loop-k-init
loop-k-init c =
    let q = order c.args.f in
    let x = c.args.seed.x in (
      c.in_ok-add_leaf.ensures.tree
          ∙ ap (λ (v : BuilderValue). record { f = c.args.f; trees = leaf q 1 x ∷ v.trees }) c.requires.new
          ∙ ap (λ (tree : Tree). record { f = c.args.f; trees = tree ∷ [] }) (chain_of_one q x (after (3 * c.args.n) x)),
      c.in_ok-add_leaf.ensures.draws,
      c.after-joins.ensures,
    )

pub add_leaf-requires-in-loop-k-clause-fault : goal.add_leaf-requires-in-loop-k-clause-fault
add_leaf-requires-in-loop-k-clause-fault c =
    let k = c.loop-k.k in
    let x = c.args.seed.x in
    ap (λ (v : BuilderValue). leaf_fault (element_name (k + 2)) v.trees) c.loop-k.invariant.0
    ∙ leaf_has_no_fault (order c.args.f) x (after (3 * c.args.n) x) k (omega (arith, c.loop-k-test.true, c.requires.few))

pub add_join-requires-clause-fault : goal.add_join-requires-clause-fault
add_join-requires-clause-fault c =
    let f = c.args.f in
    let k = c.loop-k.k in
    let x = c.args.seed.x in
    let name = operator_name c.loop-k.joins.x in
    ap (λ (v : BuilderValue). named_fault name (op_named name (operators f)) v.trees)
    (c.in_ok-add_leaf-2.ensures.tree
    ∙ ap (λ (v : BuilderValue). record { f = f; trees = leaf (order f) (k + 2) c.loop-k.leaves.x ∷ v.trees }) c.loop-k.invariant.0)
    ∙ join_has_no_fault f (order f) x (after (3 * c.args.n) x) k (k + 2) c.loop-k.leaves.x c.loop-k.joins.x
    (omega (arith, c.loop-k-test.true, c.requires.few))

pub loop-k-preserved : goal.loop-k-preserved
loop-k-preserved c =
    let x = c.args.seed.x in (
      chain_is_built c.args.f (order c.args.f) x (after (3 * c.args.n) x) c.loop-k.k c.loop-k.builder c.add_leaf-in-loop-k.new.builder
          c.add_join.new.builder c.loop-k.leaves.x c.loop-k.joins.x c.loop-k.invariant.0 c.loop-k.invariant.1 c.loop-k.invariant.2
          c.in_ok-add_leaf-2.ensures.tree c.in_ok-add_join.ensures.tree,
      c.in_ok-add_leaf-2.ensures.draws ∙ ap (λ (i : ℕ). after 3 i) c.loop-k.invariant.1 ∙ three_more (c.loop-k.k + 1) x,
      c.in_ok-add_join.ensures.draws ∙ ap (λ (i : ℕ). next i) c.loop-k.invariant.2 ∙ one_more c.loop-k.k (after (3 * c.args.n) x),
    )
