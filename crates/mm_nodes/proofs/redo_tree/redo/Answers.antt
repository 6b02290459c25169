use Rattle.std.proofs.Common.{◌≡◌, ◌<◌, length, sym, ap, ◌∙◌, subst, arith}
use Rattle.mm_logic.specs.Growth.{root}
use Rattle.mm_tree.specs.NamedTree.{shape, nodes}
use Rattle.mm_tree.specs.Nodes.{named, field_of}
use Rattle.mm_tree.specs.Paths.{node_at}
use Rattle.mm_tree.proofs.TreeLemmas.{over_field, few_nodes}
use Rattle.mm_nodes.specs.KeptTrees.{KeptTree, count, path_in, remade, StandsFor, StandsBeside}
use Rattle.mm_nodes.specs.KeptNodes.{tree_of}
use Rattle.mm_nodes.specs.Demands.{Frame, made, made_rows}
use Rattle.mm_nodes.specs.Calls.{Exceeds}
use Rattle.mm_nodes.specs.Changes.{ChangesKept, KeepsTree}
use Rattle.mm_nodes.proofs.StandsLemmas.{Laws, stands-rows, stands-count}
use Rattle.mm_nodes.proofs.ChangeLemmas.{root_walks, as_root}
use Rattle.mm_nodes.proofs.TreeKeptLemmas.{keeps_tree, too_full, same_way}
use Rattle.mm_nodes.proofs.redo_tree.redo.Given as given
use Rattle.mm_nodes.proofs.redo_tree.redo.Goals as goal

the_laws : (g : given.Over) → Laws g.N.Keeps
the_laws g =
    let k = g.met.N.Keeps in
    record { asks = k.asks; leaf_has = k.leaf_has; join_has = k.join_has; fits = k.fits; leaf_stays = k.leaf_stays; join_stays = k.join_stays; same_left = k.same_left; same_right = k.same_right; same_itself = k.same_itself; knows_join = k.knows_join; knows_stays = k.knows_stays }

pub remake_part-requires-clause-can : goal.remake_part-requires-clause-can
remake_part-requires-clause-can g c =
    let F = g.A.Automaton.shape c.args.automaton.now in
    let olds = g.A.Automaton.lists c.args.automaton.now in
    let f = c.args.after.now.f in
    let T = c.args.after.now.tree in
    let k = c.args.place.now.number in
    let R : KeptTree g.row.N.Denot = tree_of c.args.kept.now in
    let way = same_way g.N.Keeps (the_laws g) (record { f = f; F = F; lists = olds }) k T R c.requires.place.within c.requires.beside in
    let own : field_of c.node.result.now ≡ f = over_field f c.node.result.now c.node.ensures.over in
    let within = c.requires.settled.within in
    root_walks F (g.A.Automaton.field c.args.automaton.now) olds c.args.limit c.node.result.now f T c.node.ensures.tree c.node.ensures.over c.node.ensures.valid c.requires.over c.requires.settled.exact (omega (arith, within)) c.requires.settled.limited

pub remake_part-requires-clause-beside : goal.remake_part-requires-clause-beside
remake_part-requires-clause-beside g c =
    let F = g.A.Automaton.shape c.args.automaton.now in
    let olds = g.A.Automaton.lists c.args.automaton.now in
    let f = c.args.after.now.f in
    let T = c.args.after.now.tree in
    let k = c.args.place.now.number in
    let R : KeptTree g.row.N.Denot = tree_of c.args.kept.now in
    let way = same_way g.N.Keeps (the_laws g) (record { f = f; F = F; lists = olds }) k T R c.requires.place.within c.requires.beside in
    let own : field_of c.node.result.now ≡ f = over_field f c.node.result.now c.node.ensures.over in
    as_root (λ h U. StandsBeside (g.N.Keeps.IsLeaf (record { f = h; F = F; lists = olds })) (g.N.Keeps.IsJoin (record { f = h; F = F; lists = olds })) (path_in c.number.result R) U R) f (field_of c.node.result.now) T (named c.node.result.now)
    (sym own) (sym c.node.ensures.tree)
    (subst (λ p. StandsBeside (g.N.Keeps.IsLeaf (record { f = f; F = F; lists = olds })) (g.N.Keeps.IsJoin (record { f = f; F = F; lists = olds })) p T R) (sym way.1 ∙ sym (ap (λ j. path_in j R) c.number.ensures)) c.requires.beside)

pub remake_part-requires-clause-within : goal.remake_part-requires-clause-within
remake_part-requires-clause-within g c =
    let F = g.A.Automaton.shape c.args.automaton.now in
    let olds = g.A.Automaton.lists c.args.automaton.now in
    let f = c.args.after.now.f in
    let T = c.args.after.now.tree in
    let k = c.args.place.now.number in
    let R : KeptTree g.row.N.Denot = tree_of c.args.kept.now in
    let way = same_way g.N.Keeps (the_laws g) (record { f = f; F = F; lists = olds }) k T R c.requires.place.within c.requires.beside in
    let own : field_of c.node.result.now ≡ f = over_field f c.node.result.now c.node.ensures.over in
    subst (λ j. j < count R) (sym c.number.ensures) way.0

pub put-requires-clause-within : goal.put-requires-clause-within
put-requires-clause-within g c =
    let F = g.A.Automaton.shape c.args.automaton.now in
    let olds = g.A.Automaton.lists c.args.automaton.now in
    let f = c.args.after.now.f in
    let T = c.args.after.now.tree in
    let k = c.args.place.now.number in
    let R : KeptTree g.row.N.Denot = tree_of c.args.kept.now in
    let way = same_way g.N.Keeps (the_laws g) (record { f = f; F = F; lists = olds }) k T R c.requires.place.within c.requires.beside in
    let own : field_of c.node.result.now ≡ f = over_field f c.node.result.now c.node.ensures.over in
    way.0

pub put-requires-clause-deep : goal.put-requires-clause-deep
put-requires-clause-deep g c =
    let F = g.A.Automaton.shape c.args.automaton.now in
    let olds = g.A.Automaton.lists c.args.automaton.now in
    let f = c.args.after.now.f in
    let T = c.args.after.now.tree in
    let k = c.args.place.now.number in
    let R : KeptTree g.row.N.Denot = tree_of c.args.kept.now in
    let way = same_way g.N.Keeps (the_laws g) (record { f = f; F = F; lists = olds }) k T R c.requires.place.within c.requires.beside in
    let own : field_of c.node.result.now ≡ f = over_field f c.node.result.now c.node.ensures.over in
    c.requires.place.deep ∙ ap length (sym way.1)

pub put-requires-clause-few : goal.put-requires-clause-few
put-requires-clause-few g c =
    let F = g.A.Automaton.shape c.args.automaton.now in
    let olds = g.A.Automaton.lists c.args.automaton.now in
    let f = c.args.after.now.f in
    let T = c.args.after.now.tree in
    let k = c.args.place.now.number in
    let R : KeptTree g.row.N.Denot = tree_of c.args.kept.now in
    let way = same_way g.N.Keeps (the_laws g) (record { f = f; F = F; lists = olds }) k T R c.requires.place.within c.requires.beside in
    let own : field_of c.node.result.now ≡ f = over_field f c.node.result.now c.node.ensures.over in
    let nows = g.A.Automaton.lists c.remake_part.new.automaton in
    let change = c.in-Ok.change in
    let made_at : path_in c.number.result R ≡ path_in k R = ap (λ j. path_in j R) c.number.ensures in
    let m : ChangesKept g.N.Keeps F olds nows f T R (path_in k R) c.args.limit (made_rows f (g.N.Keeps.query F) (shape T)) change =
    as_root (λ h U. ChangesKept g.N.Keeps F olds nows h U R (path_in k R) c.args.limit (made_rows h (g.N.Keeps.query F) (shape U)) change) (field_of c.node.result.now) f (named c.node.result.now) T own c.node.ensures.tree
    (subst (λ p. ChangesKept g.N.Keeps F olds nows (field_of c.node.result.now) (named c.node.result.now) R p c.args.limit (made_rows (field_of c.node.result.now) (g.N.Keeps.query F) (shape (named c.node.result.now))) change) made_at
    c.in-Ok.ensures.changes) in
    let fr : Frame = record { f = f; F = F; lists = nows } in
    let whole = remade (path_in k R) R (tree_of change.part) change.made.items in
    let rows = stands-rows g.N.Keeps (the_laws g) fr T whole m.stands in
    let size = stands-count g.N.Keeps (the_laws g) fr T whole m.stands in
    let few = few_nodes f T c.node.ensures.valid in
    let fits = m.fits in
    let limited = c.requires.settled.limited in
    let deep = c.requires.place.deep ∙ ap length (sym way.1) in
    let short = m.few in
    omega (arith, deep, short)

pub put-requires-clause-nodes : goal.put-requires-clause-nodes
put-requires-clause-nodes g c =
    let F = g.A.Automaton.shape c.args.automaton.now in
    let olds = g.A.Automaton.lists c.args.automaton.now in
    let f = c.args.after.now.f in
    let T = c.args.after.now.tree in
    let k = c.args.place.now.number in
    let R : KeptTree g.row.N.Denot = tree_of c.args.kept.now in
    let way = same_way g.N.Keeps (the_laws g) (record { f = f; F = F; lists = olds }) k T R c.requires.place.within c.requires.beside in
    let own : field_of c.node.result.now ≡ f = over_field f c.node.result.now c.node.ensures.over in
    let nows = g.A.Automaton.lists c.remake_part.new.automaton in
    let change = c.in-Ok.change in
    let made_at : path_in c.number.result R ≡ path_in k R = ap (λ j. path_in j R) c.number.ensures in
    let m : ChangesKept g.N.Keeps F olds nows f T R (path_in k R) c.args.limit (made_rows f (g.N.Keeps.query F) (shape T)) change =
    as_root (λ h U. ChangesKept g.N.Keeps F olds nows h U R (path_in k R) c.args.limit (made_rows h (g.N.Keeps.query F) (shape U)) change) (field_of c.node.result.now) f (named c.node.result.now) T own c.node.ensures.tree
    (subst (λ p. ChangesKept g.N.Keeps F olds nows (field_of c.node.result.now) (named c.node.result.now) R p c.args.limit (made_rows (field_of c.node.result.now) (g.N.Keeps.query F) (shape (named c.node.result.now))) change) made_at
    c.in-Ok.ensures.changes) in
    let fr : Frame = record { f = f; F = F; lists = nows } in
    let whole = remade (path_in k R) R (tree_of change.part) change.made.items in
    let rows = stands-rows g.N.Keeps (the_laws g) fr T whole m.stands in
    let size = stands-count g.N.Keeps (the_laws g) fr T whole m.stands in
    let few = few_nodes f T c.node.ensures.valid in
    let fits = m.fits in
    let limited = c.requires.settled.limited in
    omega (arith, size, few)

pub put-requires-clause-rows : goal.put-requires-clause-rows
put-requires-clause-rows g c =
    let F = g.A.Automaton.shape c.args.automaton.now in
    let olds = g.A.Automaton.lists c.args.automaton.now in
    let f = c.args.after.now.f in
    let T = c.args.after.now.tree in
    let k = c.args.place.now.number in
    let R : KeptTree g.row.N.Denot = tree_of c.args.kept.now in
    let way = same_way g.N.Keeps (the_laws g) (record { f = f; F = F; lists = olds }) k T R c.requires.place.within c.requires.beside in
    let own : field_of c.node.result.now ≡ f = over_field f c.node.result.now c.node.ensures.over in
    let nows = g.A.Automaton.lists c.remake_part.new.automaton in
    let change = c.in-Ok.change in
    let made_at : path_in c.number.result R ≡ path_in k R = ap (λ j. path_in j R) c.number.ensures in
    let m : ChangesKept g.N.Keeps F olds nows f T R (path_in k R) c.args.limit (made_rows f (g.N.Keeps.query F) (shape T)) change =
    as_root (λ h U. ChangesKept g.N.Keeps F olds nows h U R (path_in k R) c.args.limit (made_rows h (g.N.Keeps.query F) (shape U)) change) (field_of c.node.result.now) f (named c.node.result.now) T own c.node.ensures.tree
    (subst (λ p. ChangesKept g.N.Keeps F olds nows (field_of c.node.result.now) (named c.node.result.now) R p c.args.limit (made_rows (field_of c.node.result.now) (g.N.Keeps.query F) (shape (named c.node.result.now))) change) made_at
    c.in-Ok.ensures.changes) in
    let fr : Frame = record { f = f; F = F; lists = nows } in
    let whole = remade (path_in k R) R (tree_of change.part) change.made.items in
    let rows = stands-rows g.N.Keeps (the_laws g) fr T whole m.stands in
    let size = stands-count g.N.Keeps (the_laws g) fr T whole m.stands in
    let few = few_nodes f T c.node.ensures.valid in
    let fits = m.fits in
    let limited = c.requires.settled.limited in
    omega (arith, rows, fits, limited)

pub returns-in-Ok-clause-ticks : goal.returns-in-Ok-clause-ticks
returns-in-Ok-clause-ticks g c =
    let F = g.A.Automaton.shape c.args.automaton.now in
    let olds = g.A.Automaton.lists c.args.automaton.now in
    let f = c.args.after.now.f in
    let T = c.args.after.now.tree in
    let k = c.args.place.now.number in
    let R : KeptTree g.row.N.Denot = tree_of c.args.kept.now in
    let way = same_way g.N.Keeps (the_laws g) (record { f = f; F = F; lists = olds }) k T R c.requires.place.within c.requires.beside in
    let own : field_of c.node.result.now ≡ f = over_field f c.node.result.now c.node.ensures.over in
    let there = ap length (ap (λ j. path_in j R) c.number.ensures ∙ way.1) in
    let deep = c.requires.place.deep in
    let ticks = c.remake_part.ensures.ticks in
    let size = ap nodes (ap (λ U. node_at U (path_in c.number.result R)) c.node.ensures.tree ∙ ap (node_at T) (ap (λ j. path_in j R) c.number.ensures ∙ way.1)) in
    omega (arith, there, deep, ticks, size)

pub returns-in-Err-clause-ticks : goal.returns-in-Err-clause-ticks
returns-in-Err-clause-ticks g c =
    let F = g.A.Automaton.shape c.args.automaton.now in
    let olds = g.A.Automaton.lists c.args.automaton.now in
    let f = c.args.after.now.f in
    let T = c.args.after.now.tree in
    let k = c.args.place.now.number in
    let R : KeptTree g.row.N.Denot = tree_of c.args.kept.now in
    let way = same_way g.N.Keeps (the_laws g) (record { f = f; F = F; lists = olds }) k T R c.requires.place.within c.requires.beside in
    let own : field_of c.node.result.now ≡ f = over_field f c.node.result.now c.node.ensures.over in
    let there = ap length (ap (λ j. path_in j R) c.number.ensures ∙ way.1) in
    let deep = c.requires.place.deep in
    let ticks = c.remake_part.ensures.ticks in
    let size = ap nodes (ap (λ U. node_at U (path_in c.number.result R)) c.node.ensures.tree ∙ ap (node_at T) (ap (λ j. path_in j R) c.number.ensures ∙ way.1)) in
    omega (arith, there, deep, ticks, size)

pub returns-in-Ok-clause-ok : goal.returns-in-Ok-clause-ok
returns-in-Ok-clause-ok g c =
    let F = g.A.Automaton.shape c.args.automaton.now in
    let olds = g.A.Automaton.lists c.args.automaton.now in
    let f = c.args.after.now.f in
    let T = c.args.after.now.tree in
    let k = c.args.place.now.number in
    let R : KeptTree g.row.N.Denot = tree_of c.args.kept.now in
    let way = same_way g.N.Keeps (the_laws g) (record { f = f; F = F; lists = olds }) k T R c.requires.place.within c.requires.beside in
    let own : field_of c.node.result.now ≡ f = over_field f c.node.result.now c.node.ensures.over in
    let nows = g.A.Automaton.lists c.remake_part.new.automaton in
    let change = c.in-Ok.change in
    let made_at : path_in c.number.result R ≡ path_in k R = ap (λ j. path_in j R) c.number.ensures in
    let m : ChangesKept g.N.Keeps F olds nows f T R (path_in k R) c.args.limit (made_rows f (g.N.Keeps.query F) (shape T)) change =
    as_root (λ h U. ChangesKept g.N.Keeps F olds nows h U R (path_in k R) c.args.limit (made_rows h (g.N.Keeps.query F) (shape U)) change) (field_of c.node.result.now) f (named c.node.result.now) T own c.node.ensures.tree
    (subst (λ p. ChangesKept g.N.Keeps F olds nows (field_of c.node.result.now) (named c.node.result.now) R p c.args.limit (made_rows (field_of c.node.result.now) (g.N.Keeps.query F) (shape (named c.node.result.now))) change) made_at
    c.in-Ok.ensures.changes) in
    let fr : Frame = record { f = f; F = F; lists = nows } in
    let whole = remade (path_in k R) R (tree_of change.part) change.made.items in
    let rows = stands-rows g.N.Keeps (the_laws g) fr T whole m.stands in
    let size = stands-count g.N.Keeps (the_laws g) fr T whole m.stands in
    let few = few_nodes f T c.node.ensures.valid in
    let fits = m.fits in
    let limited = c.requires.settled.limited in
    subst (λ lists. KeepsTree g.N.Keeps F (root F olds) lists (g.A.Automaton.marked c.mark.new.self) f T c.args.limit c.put.new.kept) (sym c.mark.ensures.lists)
    (keeps_tree g.N.Keeps (the_laws g) F olds nows (g.A.Automaton.marked c.mark.new.self) f T c.args.limit c.put.new.kept c.requires.settled.exact c.mark.ensures.marked limited
    (subst (λ S. StandsFor (g.N.Keeps.IsLeaf fr) (g.N.Keeps.IsJoin fr) T S) (sym c.put.ensures.tree) m.stands) c.put.ensures.counted m.grown.0 m.grown.1 m.grown.2 fits)

pub returns-in-Err-clause-full : goal.returns-in-Err-clause-full
returns-in-Err-clause-full g c =
    let F = g.A.Automaton.shape c.args.automaton.now in
    let olds = g.A.Automaton.lists c.args.automaton.now in
    let f = c.args.after.now.f in
    let T = c.args.after.now.tree in
    let k = c.args.place.now.number in
    let R : KeptTree g.row.N.Denot = tree_of c.args.kept.now in
    let way = same_way g.N.Keeps (the_laws g) (record { f = f; F = F; lists = olds }) k T R c.requires.place.within c.requires.beside in
    let own : field_of c.node.result.now ≡ f = over_field f c.node.result.now c.node.ensures.over in
    λ full. too_full g.N.Keeps F olds f T c.args.limit
    (as_root (λ h U. Exceeds F olds (made h (g.N.Keeps.query F) (shape U)) (made_rows h (g.N.Keeps.query F) (shape U)) c.args.limit) (field_of c.node.result.now) f (named c.node.result.now) T own c.node.ensures.tree (c.in-Err.ensures.changes full))
