use Rattle.std.proofs.Common.{ℕ, List, ◌≡◌, sym, ap, ◌∙◌, subst, arith, Some}
use Rattle.mm_tree.specs.NamedTree.{Tree}
use Rattle.mm_tree.specs.Nodes.{named, field_of}
use Rattle.mm_tree.specs.Places.{IsPlaceOf, IsReached, place_at_end, path_above}
use Rattle.mm_tree.specs.TreeValue.{TreeValue}
use Rattle.mm_tree.specs.Paths.{path_to}
use Rattle.mm_tree.specs.declared.place.Place.{Place}
use Rattle.mm_tree.specs.declared.place.Reached.{Reached}
use Rattle.mm_tree.specs.declared.place.Reached.TheVariants.{At}
use Rattle.mm_tree.proofs.PlaceLemmas.{found_place, found_none, found_absent}
use Rattle.mm_tree.proofs.TreeLemmas.{few_nodes}
use Rattle.mm_tree.proofs.tree.Tree.place.Goals as goal

pub search-requires-clause-numbers : goal.search-requires-clause-numbers
search-requires-clause-numbers c =
    let few = few_nodes (field_of c.self.inside.node) (named c.self.inside.node) c.self.invariant.valid in
    let zero = c.root.ensures.0 in
    omega arith

found : (name : List ℕ) (tree : Tree) (up : ℕ) (here place : Place) (r : Reached) → here.number ≡ 0 → here.depth ≡ 0 → r ≡ At place →
    IsReached tree here up (path_to name tree) r → (place_at_end tree (path_above name up tree) ≡ Some place) × IsPlaceOf tree place
found name tree up here place r a b e i =
    found_place tree name up place here a b (subst (λ (x : Reached). IsReached tree here up (path_to name tree) x) e i)

pub returns-in-At-clause-found : goal.returns-in-At-clause-found
returns-in-At-clause-found c =
    sym (found c.args.name.now (named c.self.inside.node) c.args.up c.root.result c.in-At.place c.search.result c.root.ensures.0 c.root.ensures.1 c.in-At.is
    c.search.ensures.reached).0 ∙ ap (λ (v : TreeValue). place_at_end v.tree (path_above c.args.name.now c.args.up v.tree)) c.self.view_is

pub returns-in-At-clause-within : goal.returns-in-At-clause-within
returns-in-At-clause-within c =
    subst (λ (v : TreeValue). IsPlaceOf v.tree c.in-At.place) c.self.view_is
    (found c.args.name.now (named c.self.inside.node) c.args.up c.root.result c.in-At.place c.search.result c.root.ensures.0 c.root.ensures.1 c.in-At.is
    c.search.ensures.reached).1

pub returns-in-Above : goal.returns-in-Above
returns-in-Above c =
    let tree = named c.self.inside.node in
    record {
      found =
          sym (found_none tree c.args.up (path_to c.args.name.now tree) c.search.result _ c.root.result c.in-Above.is c.search.ensures.reached)
          ∙ ap (λ (v : TreeValue). place_at_end v.tree (path_above c.args.name.now c.args.up v.tree)) c.self.view_is;
      within = tt;
    }

pub returns-in-Absent : goal.returns-in-Absent
returns-in-Absent c =
    let tree = named c.self.inside.node in
    record {
      found =
          sym (found_absent tree c.args.up (path_to c.args.name.now tree) c.search.result _ c.root.result c.in-Absent.is c.search.ensures.reached)
          ∙ ap (λ (v : TreeValue). place_at_end v.tree (path_above c.args.name.now c.args.up v.tree)) c.self.view_is;
      within = tt;
    }
