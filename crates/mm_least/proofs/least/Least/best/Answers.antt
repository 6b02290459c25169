use Rattle.std.proofs.Common.{◌≡◌, ◌++◌, ℕ, List, [], get_or, ap, ◌∙◌, subst, None, Some, length, arith, w64, to_z, of_z}
use Rattle.std.proofs.lemmas.Int.{to_z-of_z}
use Rattle.std.proofs.lemmas.List.{get_or_default}
use Rattle.mm_nodes.specs.KeptTrees.{top}
use Rattle.mm_nodes.specs.KeptNodes.{tree_of}
use Rattle.mm_least.specs.declared.best.Best.{Best}
use Rattle.mm_least.specs.declared.row.Row.{Row}
use Rattle.mm_least.specs.NodeRowsValue.{NodeValue}
use Rattle.mm_least.specs.LeastSets.{IsBestOfRows, IsLightest, IsLightestBefore, is_accepted, names_of}
use Rattle.mm_least.specs.LeastValue.{LeastValue}
use Rattle.mm_least.proofs.AnswerLemmas.{none_accepted, least_found, a_row}
use Rattle.mm_least.proofs.least.Least.best.Goals as goal

pub returns-in-None : goal.returns-in-None
returns-in-None g c =
    let F = g.A.Automaton.shape c.self.inside.automaton in
    let lists = g.A.Automaton.lists c.self.inside.automaton in
    let R = tree_of c.self.inside.kept in
    let are : c.deref.result.now ≡ (top R).rows = c.deref.ensures.value ∙ ap (λ (n : NodeValue). n.rows) (c.behind-self.view_is ∙ c.entry.ensures) in
    let none = subst (λ rows. IsLightestBefore (is_accepted F lists) rows (length rows) None) are c.in-None.ensures in
    subst (λ (v : LeastValue g.row.A.Denot). IsBestOfRows (g.A.Automaton.shape v.automaton) (g.A.Automaton.lists v.automaton) v.rows None) c.self.view_is
    (λ f T s. none_accepted f F lists T R s none)

pub returns-in_ok-add_names-in-Some : goal.returns-in_ok-add_names-in-Some
returns-in_ok-add_names-in-Some g c =
    let F = g.A.Automaton.shape c.self.inside.automaton in
    let lists = g.A.Automaton.lists c.self.inside.automaton in
    let R = tree_of c.self.inside.kept in
    let k = c.in-Some.place in
    let row = c.index.result.now in
    let are : c.behind-self.inside.rows.items ≡ (top R).rows = ap (λ (n : NodeValue). n.rows) (c.behind-self.view_is ∙ c.entry.ensures) in
    let lightest = subst (λ rows. IsLightest (is_accepted F lists) rows (length rows) k) (c.deref.ensures.value ∙ are) c.in-Some.ensures in
    let fits : to_z w64 (of_z w64 row.weight) ≡ row.weight = grind (arith, to_z-of_z) in
    let there : row ≡ get_or (top R).rows k a_row = c.index.ensures ∙ ap (λ (rows : List Row). get_or rows k row) are ∙ get_or_default (top R).rows k row a_row lightest.within in
    let best : Best = record { weight = to_z w64 (of_z w64 row.weight); names = c.add_names.new.names } in
    subst (λ (v : LeastValue g.row.A.Denot). IsBestOfRows (g.A.Automaton.shape v.automaton) (g.A.Automaton.lists v.automaton) v.rows (Some best)) c.self.view_is
    (λ f T s. least_found f F lists T R s k lightest best (fits ∙ ap (λ (r : Row). r.weight) there)
    (c.in_ok-add_names-in-Some.ensures ∙ ap (λ (names : List (List ℕ)). names ++ get_or (names_of R) k []) c.new-names.ensures))
