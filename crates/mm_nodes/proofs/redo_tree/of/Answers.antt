use Rattle.std.proofs.Common.{◌≡◌, ◌+◌, ℕ, List, [], sym, ap, subst, arith}
use Rattle.mm_logic.specs.Value.{Value}
use Rattle.mm_logic.specs.Occurrence.{nodes as parts, list_cells}
use Rattle.mm_logic.specs.Growth.{root}
use Rattle.mm_tree.specs.NamedTree.{shape}
use Rattle.mm_tree.specs.Nodes.{named, field_of}
use Rattle.mm_tree.proofs.TreeLemmas.{over_field}
use Rattle.mm_nodes.specs.KeptNodes.{tree_of}
use Rattle.mm_nodes.specs.Demands.{made, made_rows}
use Rattle.mm_nodes.specs.Calls.{Exceeds}
use Rattle.mm_nodes.specs.Walks.{BuildsTree}
use Rattle.mm_nodes.specs.Changes.{KeepsTree}
use Rattle.mm_nodes.proofs.StandsLemmas.{Laws, stands-rows}
use Rattle.mm_nodes.proofs.ChangeLemmas.{root_walks, as_root}
use Rattle.mm_logic.proofs.GrowthLemmas.{none_missing_cells}
use Rattle.mm_nodes.proofs.RoomLemmas.{exact-then, exceeds_call, exceeds_part, exceeds_later}
use Rattle.mm_nodes.proofs.ChangeLemmas.{within_nothing}
use Rattle.mm_nodes.proofs.TreeKeptLemmas.{keeps_tree, too_full}
use Rattle.mm_nodes.proofs.redo_tree.of.Given as given
use Rattle.mm_nodes.proofs.redo_tree.of.Goals as goal

the_laws : (g : given.Over) → Laws g.N.Keeps
the_laws g =
    let k = g.met.N.Keeps in
    record { asks = k.asks; leaf_has = k.leaf_has; join_has = k.join_has; fits = k.fits; leaf_stays = k.leaf_stays; join_stays = k.join_stays; same_left = k.same_left; same_right = k.same_right; same_itself = k.same_itself; knows_join = k.knows_join; knows_stays = k.knows_stays }

pub build-requires-clause-can : goal.build-requires-clause-can
build-requires-clause-can g c =
    root_walks (g.A.Automaton.shape c.args.automaton.now) (g.A.Automaton.field c.args.automaton.now) (g.A.Automaton.lists c.args.automaton.now) c.args.limit c.node.result.now c.args.tree.now.f c.args.tree.now.tree
    c.node.ensures.tree c.node.ensures.over c.node.ensures.valid c.requires.over c.requires.exact c.requires.cells c.requires.limited

pub returns-in-Err-clause-full : goal.returns-in-Err-clause-full
returns-in-Err-clause-full g c =
    let F = g.A.Automaton.shape c.args.automaton.now in
    let olds = g.A.Automaton.lists c.args.automaton.now in
    let f = c.args.tree.now.f in
    let T = c.args.tree.now.tree in
    let own : field_of c.node.result.now ≡ f = over_field f c.node.result.now c.node.ensures.over in
    let there : List Value = made (field_of c.node.result.now) (g.N.Keeps.query F) (shape (named c.node.result.now)) in
    let many : ℕ = made_rows (field_of c.node.result.now) (g.N.Keeps.query F) (shape (named c.node.result.now)) in
    λ full. too_full g.N.Keeps F olds f T c.args.limit
    (as_root (λ h U. Exceeds F olds (made h (g.N.Keeps.query F) (shape U)) (made_rows h (g.N.Keeps.query F) (shape U)) c.args.limit) (field_of c.node.result.now) f (named c.node.result.now) T own c.node.ensures.tree
    (exceeds_part F olds there there (0 + many) many c.args.limit (λ p e. e) (omega arith) (c.in-Err.ensures.builds full)))

pub returns-then-cells-rows-clause-full : goal.returns-then-cells-rows-clause-full
returns-then-cells-rows-clause-full g c =
    let F = g.A.Automaton.shape c.args.automaton.now in
    let olds = g.A.Automaton.lists c.args.automaton.now in
    let f = c.args.tree.now.f in
    let T = c.args.tree.now.tree in
    let own : field_of c.node.result.now ≡ f = over_field f c.node.result.now c.node.ensures.over in
    let nows = g.A.Automaton.lists c.build.new.automaton in
    let kept = c.in-Ok.kept in
    let b : BuildsTree g.N.Keeps F olds nows f T c.args.limit 0 c.build.new.rows kept =
    as_root (λ h U. BuildsTree g.N.Keeps F olds nows h U c.args.limit 0 c.build.new.rows kept) (field_of c.node.result.now) f (named c.node.result.now) T own c.node.ensures.tree c.in-Ok.ensures.builds in
    let types : List Value = made f (g.N.Keeps.query F) (shape T) in
    let all = stands-rows g.N.Keeps (the_laws g) (record { f = f; F = F; lists = nows }) T (tree_of kept) b.stands in
    let rows = b.rows in
    let same = ap (λ G. list_cells (parts G) nows) c.build.ensures.shape in
    let is = c.cells.ensures in
    let more = c.if-cells-rows.true in
    let none = none_missing_cells F nows in
    λ full. too_full g.N.Keeps F olds f T c.args.limit
    (exceeds_later F olds nows types [] types c.build.new.rows (made_rows f (g.N.Keeps.query F) (shape T)) c.args.limit b.grown (λ p e. e) (within_nothing types) (omega (arith, all, rows))
    (exceeds_call F nows [] c.build.new.rows c.args.limit (exact-then F olds nows types c.requires.exact b.grown) (omega (arith, more, none, same, is))))

pub returns-else-cells-rows-clause-ok : goal.returns-else-cells-rows-clause-ok
returns-else-cells-rows-clause-ok g c =
    let F = g.A.Automaton.shape c.args.automaton.now in
    let olds = g.A.Automaton.lists c.args.automaton.now in
    let f = c.args.tree.now.f in
    let T = c.args.tree.now.tree in
    let own : field_of c.node.result.now ≡ f = over_field f c.node.result.now c.node.ensures.over in
    let nows = g.A.Automaton.lists c.build.new.automaton in
    let kept = c.in-Ok.kept in
    let b : BuildsTree g.N.Keeps F olds nows f T c.args.limit 0 c.build.new.rows kept =
    as_root (λ h U. BuildsTree g.N.Keeps F olds nows h U c.args.limit 0 c.build.new.rows kept) (field_of c.node.result.now) f (named c.node.result.now) T own c.node.ensures.tree c.in-Ok.ensures.builds in
    let types : List Value = made f (g.N.Keeps.query F) (shape T) in
    let all = stands-rows g.N.Keeps (the_laws g) (record { f = f; F = F; lists = nows }) T (tree_of kept) b.stands in
    let rows = b.rows in
    let same = ap (λ G. list_cells (parts G) nows) c.build.ensures.shape in
    let is = c.cells.ensures in
    let less = c.if-cells-rows.false in
    subst (λ lists. KeepsTree g.N.Keeps F (root F olds) lists (g.A.Automaton.marked c.mark.new.self) f T c.args.limit kept) (sym c.mark.ensures.lists)
    (keeps_tree g.N.Keeps (the_laws g) F olds nows (g.A.Automaton.marked c.mark.new.self) f T c.args.limit kept c.requires.exact c.mark.ensures.marked c.requires.limited
    b.stands b.sums types b.grown (λ p e. e) (omega (arith, less, all, rows, same, is)))
