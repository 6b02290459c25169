use Rattle.std.proofs.Common.{◌≡◌, List, [], ap, ◌∙◌, subst}
use Rattle.mm_logic.specs.JoinRule.{join_type}
use Rattle.mm_least.specs.declared.row.Row.{Row}
use Rattle.mm_least.specs.Rows.{shown}
use Rattle.mm_least.specs.Candidates.{typed, types_of, pairs_of}
use Rattle.mm_least.specs.Passes.{Passed, AreTooMany}
use Rattle.mm_least.specs.Transitions.{Told}
use Rattle.mm_least.specs.FoundTypes.{names_of, rows_of}
use Rattle.mm_least.specs.RowCalls.{IsNodeOf}
use Rattle.mm_least.specs.NodeRowsValue.{NodeValue}
use Rattle.mm_least.proofs.NodeLemmas.{node_made, too_many_rows}
use Rattle.mm_least.specs.RowLaws.{of-types}
use Rattle.mm_least.proofs.node_rows.NodeRows.join.Goals as goal

pub returns-in-Ok-clause-makes : goal.returns-in-Ok-clause-makes
returns-in-Ok-clause-makes g c =
    let F = g.A.Automaton.shape c.args.automaton.now in
    let olds = g.A.Automaton.lists c.args.automaton.now in
    let nows = g.A.Automaton.lists c.add_pairs.new.automaton in
    let op = c.args.op.now in
    let found = c.add_pairs.new.found in
    let l : c.deref.result.now ≡ c.args.left.now.rows = c.deref.ensures.value ∙ ap (λ v. v.rows) c.left.view_is in
    let r : c.deref-2.result.now ≡ c.args.right.now.rows = c.deref-2.ensures.value ∙ ap (λ v. v.rows) c.right.view_is in
    let j = join_type op.f F op.op in
    let p : Passed F olds nows (pairs_of j (typed F olds (shown c.args.left.now.rows)) 0 (typed F olds (shown c.args.right.now.rows))) [] (rows_of found) c.args.room c.add_pairs.new.room =
    subst (λ (rs : List Row). Passed F olds nows (pairs_of j (typed F olds (shown c.args.left.now.rows)) 0 (typed F olds (shown c.args.right.now.rows))) rs (rows_of found) c.args.room c.add_pairs.new.room) c.new-found.ensures.rows
    (subst (λ (rs : List Row). Passed F olds nows (pairs_of j (typed F olds (shown c.args.left.now.rows)) 0 (typed F olds (shown rs))) (rows_of c.new-found.result) (rows_of found) c.args.room c.add_pairs.new.room) r
    (subst (λ (rs : List Row). Passed F olds nows (pairs_of j (typed F olds (shown rs)) 0 (typed F olds (shown c.deref-2.result.now))) (rows_of c.new-found.result) (rows_of found) c.args.room c.add_pairs.new.room) l c.in-Ok.ensures.passes)) in
    let again_left : c.deref-in-Ok.result.now ≡ c.args.left.now.rows = c.deref-in-Ok.ensures.value ∙ ap (λ v. v.rows) c.left.view_is in
    let again_right : c.deref-in-Ok-2.result.now ≡ c.args.right.now.rows = c.deref-in-Ok-2.ensures.value ∙ ap (λ v. v.rows) c.right.view_is in
    let told : Told F olds nows [] (names_of found) (types_of (pairs_of j (typed F olds (shown c.args.left.now.rows)) 0 (typed F olds (shown c.args.right.now.rows)))) =
    subst (λ ts. Told F olds nows ts (names_of found) (types_of (pairs_of j (typed F olds (shown c.args.left.now.rows)) 0 (typed F olds (shown c.args.right.now.rows))))) c.new-found.ensures.names
    (subst (λ (rs : List Row). Told F olds nows (names_of c.new-found.result) (names_of found) (types_of (pairs_of j (typed F olds (shown c.args.left.now.rows)) 0 (typed F olds (shown rs))))) r
    (subst (λ (rs : List Row). Told F olds nows (names_of c.new-found.result) (names_of found) (types_of (pairs_of j (typed F olds (shown rs)) 0 (typed F olds (shown c.deref-2.result.now))))) l c.in-Ok.ensures.told)) in
    node_made F op olds nows c.args.left.now c.args.right.now c.requires.left.operands c.requires.right.operands c.requires.exact found c.in-Ok.ensures.found c.args.room c.add_pairs.new.room p told c.joined.result
    (subst (λ (x : NodeValue). IsNodeOf (rows_of found) c.args.left.now.rows c.args.right.now.rows c.args.left.now.nothing x.nothing found.ids.items found.table.items c.joined.result) c.right.view_is
    (subst (λ (x : NodeValue). IsNodeOf (rows_of found) c.args.left.now.rows c.args.right.now.rows x.nothing c.right.inside.nothing found.ids.items found.table.items c.joined.result) c.left.view_is
    (subst (λ (rs : List Row). IsNodeOf (rows_of found) c.args.left.now.rows rs c.left.inside.nothing c.right.inside.nothing found.ids.items found.table.items c.joined.result) again_right
    (subst (λ (rs : List Row). IsNodeOf (rows_of found) rs c.deref-in-Ok-2.result.now c.left.inside.nothing c.right.inside.nothing found.ids.items found.table.items c.joined.result) again_left c.joined.ensures))))

pub returns-in-Err-clause-makes : goal.returns-in-Err-clause-makes
returns-in-Err-clause-makes g c = λ full.
    let F = g.A.Automaton.shape c.args.automaton.now in
    let olds = g.A.Automaton.lists c.args.automaton.now in
    let op = c.args.op.now in
    let l : c.deref.result.now ≡ c.args.left.now.rows = c.deref.ensures.value ∙ ap (λ v. v.rows) c.left.view_is in
    let r : c.deref-2.result.now ≡ c.args.right.now.rows = c.deref-2.ensures.value ∙ ap (λ v. v.rows) c.right.view_is in
    let j = join_type op.f F op.op in
    too_many_rows F olds olds (pairs_of j (typed F olds (shown c.args.left.now.rows)) 0 (typed F olds (shown c.args.right.now.rows))) _ (of-types F olds j c.args.left.now.rows c.args.right.now.rows 0) c.args.room
    (subst (λ (rs : List Row). AreTooMany F olds (pairs_of j (typed F olds (shown c.args.left.now.rows)) 0 (typed F olds (shown c.args.right.now.rows))) rs c.args.room) c.new-found.ensures.rows
    (subst (λ (rs : List Row). AreTooMany F olds (pairs_of j (typed F olds (shown c.args.left.now.rows)) 0 (typed F olds (shown rs))) (rows_of c.new-found.result) c.args.room) r
    (subst (λ (rs : List Row). AreTooMany F olds (pairs_of j (typed F olds (shown rs)) 0 (typed F olds (shown c.deref-2.result.now))) (rows_of c.new-found.result) c.args.room) l (c.in-Err.ensures.passes full))))
