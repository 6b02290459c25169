use Rattle.std.proofs.Common.{rules, ◌≡◌, ◌*◌, List, [], length, Some, sym, ap, ◌∙◌, subst}
use Rattle.mm_logic.specs.Growth.{type_at}
use Rattle.mm_nodes.specs.Demands.{frame}
use Rattle.mm_least.specs.declared.row.Row.{Row}
use Rattle.mm_least.specs.Rows.{shown}
use Rattle.mm_least.specs.Candidates.{typed_by, pairs_of}
use Rattle.mm_least.specs.Transitions.{TransitionValue, IsTransition, IsKnown}
use Rattle.mm_least.specs.Logs.{AreApart}
use Rattle.mm_least.specs.RowCalls.{IsNodeAgain}
use Rattle.mm_least.specs.NodeRowsValue.{NodeValue}
use Rattle.mm_least.specs.KnownRows.{PutsAll}
use Rattle.mm_least.proofs.KnownLemmas.{known_sized, known_apart, made_again, puts_at}
use Rattle.mm_least.proofs.node_rows.NodeRows.rejoin.Goals as goal

pub known_rows-requires-clause-sized : goal.known_rows-requires-clause-sized
known_rows-requires-clause-sized g c =
    let F = g.A.Automaton.shape c.args.automaton.now in
    let lists = g.A.Automaton.lists c.args.automaton.now in
    let op = c.args.op.now in
    let T = c.in-Some.transition.value in
    let there : c.args.known.now.known ≡ Some c.in-Some.transition.value = search rules in
    let h : IsTransition (frame op.f F lists) op.op T = subst (IsKnown (frame op.f F lists) op.op) there c.requires.known in
    subst (λ (t : TransitionValue). length t.table ≡ length t.left * length t.right) (sym c.deref-3.ensures) (known_sized (frame op.f F lists) op.op T h)

pub known_rows-requires-clause-apart : goal.known_rows-requires-clause-apart
known_rows-requires-clause-apart g c =
    let F = g.A.Automaton.shape c.args.automaton.now in
    let lists = g.A.Automaton.lists c.args.automaton.now in
    let op = c.args.op.now in
    let T = c.in-Some.transition.value in
    let there : c.args.known.now.known ≡ Some c.in-Some.transition.value = search rules in
    let h : IsTransition (frame op.f F lists) op.op T = subst (IsKnown (frame op.f F lists) op.op) there c.requires.known in
    subst (λ (t : TransitionValue). AreApart t.ids) (sym c.deref-3.ensures) (known_apart (type_at F lists) T.ids h.different)

pub returns-in-Ok-Some-clause-makes : goal.returns-in-Ok-Some-clause-makes
returns-in-Ok-Some-clause-makes g c =
    let F = g.A.Automaton.shape c.args.automaton.now in
    let lists = g.A.Automaton.lists c.args.automaton.now in
    let op = c.args.op.now in
    let T = c.in-Some.transition.value in
    let there : c.args.known.now.known ≡ Some c.in-Some.transition.value = search rules in
    let h : IsTransition (frame op.f F lists) op.op T = subst (IsKnown (frame op.f F lists) op.op) there c.requires.known in
    let left = c.args.left.now in
    let right = c.args.right.now in
    let rows = c.in-Ok-Some.rows in
    let l : c.deref.result.now ≡ left.rows = c.deref.ensures.value ∙ ap (λ v. v.rows) c.left.view_is in
    let r : c.deref-2.result.now ≡ right.rows = c.deref-2.ensures.value ∙ ap (λ v. v.rows) c.right.view_is in
    let first =
    puts_at c.deref-3.result.now (λ type join. pairs_of join (typed_by type (shown c.deref.result.now)) 0 (typed_by type (shown c.deref-2.result.now))) c.known_rows.result c.in-Ok-Some.field-0 rows c.in-Ok-Some.is c.in-Ok-Some.field-0-is
    c.known_rows.ensures in
    let puts : PutsAll T (λ type join. pairs_of join (typed_by type (shown left.rows)) 0 (typed_by type (shown right.rows))) [] rows.items =
    subst (λ (t : TransitionValue). PutsAll t (λ type join. pairs_of join (typed_by type (shown left.rows)) 0 (typed_by type (shown right.rows))) [] rows.items) c.deref-3.ensures
    (subst (λ (rs : List Row). PutsAll c.deref-3.result.now (λ type join. pairs_of join (typed_by type (shown left.rows)) 0 (typed_by type (shown rs))) [] rows.items) r
    (subst (λ (rs : List Row). PutsAll c.deref-3.result.now (λ type join. pairs_of join (typed_by type (shown rs)) 0 (typed_by type (shown c.deref-2.result.now))) [] rows.items) l first)) in
    let made : IsNodeAgain rows.items T left.nothing right.nothing c.args.room c.joined_again.result =
    subst (λ (x : NodeValue). IsNodeAgain rows.items T left.nothing x.nothing c.args.room c.joined_again.result) c.right.view_is
    (subst (λ (x : NodeValue). IsNodeAgain rows.items T x.nothing c.right.inside.nothing c.args.room c.joined_again.result) c.left.view_is c.joined_again.ensures) in
    made_again F op lists T h c.requires.exact left right c.requires.left c.requires.right rows.items puts c.args.room c.joined_again.result made
