use Rattle.std.proofs.Common.{◌≡◌, ◌+◌, sym, subst}
use Rattle.mm_field.specs.declared.Field.{Field}
use Rattle.mm_logic.specs.Formula.{Formula}
use Rattle.mm_tree.specs.NamedTree.{Tree, shape}
use Rattle.mm_tree.specs.Nodes.{named, field_of}
use Rattle.mm_tree.specs.Paths.{node_at}
use Rattle.mm_tree.proofs.TreeLemmas.{over_field}
use Rattle.mm_nodes.specs.KeptTrees.{KeptTree, path_in}
use Rattle.mm_nodes.specs.KeptNodes.{tree_of}
use Rattle.mm_nodes.specs.Demands.{made, made_rows}
use Rattle.mm_nodes.specs.Calls.{Exceeds}
use Rattle.mm_nodes.specs.Walks.{BuildsTree, CanRemake, path_rows}
use Rattle.mm_nodes.specs.Changes.{Changes}
use Rattle.mm_nodes.proofs.StandsLemmas.{Laws}
use Rattle.mm_nodes.proofs.RoomLemmas.{exact-then}
use Rattle.mm_nodes.proofs.ChangeLemmas.{full_part, can_remake, part_changes, walks_on, part_walks}
use Rattle.mm_nodes.proofs.change.remake_part.Given as given
use Rattle.mm_nodes.proofs.change.remake_part.Goals as goal

the_laws : (g : given.Over) → Laws g.N.Keeps
the_laws g =
    let k = g.met.N.Keeps in
    record { asks = k.asks; leaf_has = k.leaf_has; join_has = k.join_has; fits = k.fits; leaf_stays = k.leaf_stays; join_stays = k.join_stays; same_left = k.same_left; same_right = k.same_right; same_itself = k.same_itself; knows_join = k.knows_join; knows_stays = k.knows_stays }

-- what holds of the part, by its node, holds of the node at the way's end
as_part : (P : Field → Tree → Type 0) (f g : Field) (T U : Tree) → f ≡ g → T ≡ U → P f T → P g U
as_part P f g T U a b x = subst (λ (o : Tree). P g o) b (subst (λ (o : Field). P o T) a x)

pub build-requires-clause-can : goal.build-requires-clause-can
build-requires-clause-can g c =
    part_walks (g.A.Automaton.shape c.args.automaton.now) (g.A.Automaton.shape c.args.automaton.now) (g.A.Automaton.field c.args.automaton.now) (g.A.Automaton.field c.args.automaton.now)
    (g.A.Automaton.lists c.args.automaton.now) (g.A.Automaton.lists c.args.automaton.now) c.args.limit c.args.node.now c.requires.can c.part_at.result.now
    (path_in c.args.at (tree_of c.args.kept.now)) c.part_at.ensures.tree c.part_at.ensures.over

pub remake_above-requires-clause-can : goal.remake_above-requires-clause-can
remake_above-requires-clause-can g c =
    let F = g.A.Automaton.shape c.args.automaton.now in
    let olds = g.A.Automaton.lists c.args.automaton.now in
    let f = field_of c.args.node.now in
    let T = named c.args.node.now in
    let R : KeptTree g.row.N.Denot = tree_of c.args.kept.now in
    let path = path_in c.args.at R in
    let own : field_of c.part_at.result.now ≡ f = over_field f c.part_at.result.now c.part_at.ensures.over in
    let mids = g.A.Automaton.lists c.build.new.automaton in
    let before = c.rows_beside-rows.result in
    let part = c.in-Ok.part in
    let b : BuildsTree g.N.Keeps F olds mids f (node_at T path) c.args.limit before c.build.new.rows part =
    as_part (λ h U. BuildsTree g.N.Keeps F olds mids h U c.args.limit before c.build.new.rows part) (field_of c.part_at.result.now) f (named c.part_at.result.now) (node_at T path) own c.part_at.ensures.tree c.in-Ok.ensures.builds in
    walks_on F (g.A.Automaton.shape c.build.new.automaton) (g.A.Automaton.field c.args.automaton.now) (g.A.Automaton.field c.build.new.automaton) olds mids c.args.limit c.args.node.now c.requires.can c.build.ensures.shape c.build.ensures.field (exact-then F olds mids _ c.requires.can.exact b.grown) b.cells

pub remake_above-requires-clause-parts : goal.remake_above-requires-clause-parts
remake_above-requires-clause-parts g c =
    let F = g.A.Automaton.shape c.args.automaton.now in
    let olds = g.A.Automaton.lists c.args.automaton.now in
    let f = field_of c.args.node.now in
    let T = named c.args.node.now in
    let R : KeptTree g.row.N.Denot = tree_of c.args.kept.now in
    let path = path_in c.args.at R in
    let own : field_of c.part_at.result.now ≡ f = over_field f c.part_at.result.now c.part_at.ensures.over in
    let mids = g.A.Automaton.lists c.build.new.automaton in
    let before = c.rows_beside-rows.result in
    let part = c.in-Ok.part in
    let b : BuildsTree g.N.Keeps F olds mids f (node_at T path) c.args.limit before c.build.new.rows part =
    as_part (λ h U. BuildsTree g.N.Keeps F olds mids h U c.args.limit before c.build.new.rows part) (field_of c.part_at.result.now) f (named c.part_at.result.now) (node_at T path) own c.part_at.ensures.tree c.in-Ok.ensures.builds in
    subst (λ (G : Formula). CanRemake g.N.Keeps G mids f T R (tree_of part) path) (sym c.build.ensures.shape) (can_remake g.N.Keeps (the_laws g) F olds mids f T R path c.args.limit before c.requires.beside c.rows_beside-rows.ensures.beside c.build.new.rows part b)

pub returns-in-Ok-clause-changes : goal.returns-in-Ok-clause-changes
returns-in-Ok-clause-changes g c =
    let F = g.A.Automaton.shape c.args.automaton.now in
    let olds = g.A.Automaton.lists c.args.automaton.now in
    let f = field_of c.args.node.now in
    let T = named c.args.node.now in
    let R : KeptTree g.row.N.Denot = tree_of c.args.kept.now in
    let path = path_in c.args.at R in
    let own : field_of c.part_at.result.now ≡ f = over_field f c.part_at.result.now c.part_at.ensures.over in
    let mids = g.A.Automaton.lists c.build.new.automaton in
    let before = c.rows_beside-rows.result in
    let part = c.in-Ok.part in
    let b : BuildsTree g.N.Keeps F olds mids f (node_at T path) c.args.limit before c.build.new.rows part =
    as_part (λ h U. BuildsTree g.N.Keeps F olds mids h U c.args.limit before c.build.new.rows part) (field_of c.part_at.result.now) f (named c.part_at.result.now) (node_at T path) own c.part_at.ensures.tree c.in-Ok.ensures.builds in
    part_changes g.N.Keeps (the_laws g) F olds mids f T R path c.args.limit before c.requires.beside c.rows_beside-rows.ensures.beside c.build.new.rows part b _ c.remake_above.result (subst (λ (G : Formula). Changes g.N.Keeps G mids (g.A.Automaton.lists c.remake_above.new.automaton) f T R path c.args.limit (c.build.new.rows + path_rows f (g.N.Keeps.query G) path T) c.remake_above.result) c.build.ensures.shape c.remake_above.ensures.changes)

pub returns-in-Err-clause-changes : goal.returns-in-Err-clause-changes
returns-in-Err-clause-changes g c =
    let F = g.A.Automaton.shape c.args.automaton.now in
    let olds = g.A.Automaton.lists c.args.automaton.now in
    let f = field_of c.args.node.now in
    let T = named c.args.node.now in
    let R : KeptTree g.row.N.Denot = tree_of c.args.kept.now in
    let path = path_in c.args.at R in
    let own : field_of c.part_at.result.now ≡ f = over_field f c.part_at.result.now c.part_at.ensures.over in
    λ full. full_part g.N.Keeps (the_laws g) F olds olds f T R path c.args.limit c.rows_beside-rows.result c.requires.beside c.rows_beside-rows.ensures.beside (as_part (λ h U. Exceeds F olds (made h (g.N.Keeps.query F) (shape U)) (c.rows_beside-rows.result + made_rows h (g.N.Keeps.query F) (shape U)) c.args.limit) (field_of c.part_at.result.now) f (named c.part_at.result.now) (node_at T path) own c.part_at.ensures.tree (c.in-Err.ensures.builds full))
