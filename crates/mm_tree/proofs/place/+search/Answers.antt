use Rattle.std.proofs.Common.{ℕ, List, ◌≡◌, ◌+◌, sym, ap, ◌∙◌, subst}
use Rattle.mm_tree.specs.NamedTree.{Tree}
use Rattle.mm_tree.specs.NamedTree.Tree.{Join}
use Rattle.mm_tree.specs.Nodes.{named, named_leaf}
use Rattle.mm_tree.specs.declared.node.Node.{Node}
use Rattle.mm_tree.specs.declared.place.Place.{Place}
use Rattle.mm_tree.specs.declared.place.Reached.{Reached}
use Rattle.mm_tree.specs.declared.place.Reached.TheVariants.{Absent, Above, At}
use Rattle.mm_tree.specs.Paths.{path_to}
use Rattle.mm_tree.proofs.Walks.{leaf_nodes, named_join, named_of_leaf}
use Rattle.mm_tree.proofs.PathLemmas.{Finds, of_absent, finds_leaf, lacks_leaf, climbs_left, climbs_right, lacks_both, reaches_left, reaches_right}
use Rattle.mm_tree.proofs.place.+search.Goals as goal

-- what was found below a child is found below the tree that it stands for
moved : (name : List ℕ) (a b : Node) (here : Place) (up : ℕ) (found last : Reached) → a ≡ b → found ≡ last → Finds name (named a) here up found →
    Finds name (named b) here up last
moved name a b here up found last e r f =
    subst (λ (x : Node). Finds name (named x) here up last) e (subst (λ (x : Reached). Finds name (named a) here up x) r f)

for_tree : (name : List ℕ) (t u : Tree) (here : Place) (up : ℕ) (found : Reached) → t ≡ u → Finds name u here up found → Finds name t here up found
for_tree name t u here up found e f = subst (λ (x : Tree). Finds name x here up found) (sym e) f

pub returns-then-is_named-clause-reached : goal.returns-then-is_named-clause-reached
returns-then-is_named-clause-reached t c =
    let name = c.args.name.now in
    let up = c.args.up in
    let here = c.args.here in
    let l = c.in-Leaf.leaf in
    for_tree name (named c.args.node.now) (named_leaf l) here up c.climb.result (ap named c.in-Leaf.is ∙ named_of_leaf l)
    (finds_leaf name l here up c.climb.result (sym c.is_named.ensures ∙ c.if-is_named.true) c.climb.ensures)

pub returns-else-is_named-clause-reached : goal.returns-else-is_named-clause-reached
returns-else-is_named-clause-reached t c =
    let name = c.args.name.now in
    let up = c.args.up in
    let here = c.args.here in
    let l = c.in-Leaf.leaf in
    for_tree name (named c.args.node.now) (named_leaf l) here up (Absent 1) (ap named c.in-Leaf.is ∙ named_of_leaf l)
    (lacks_leaf name l here up (sym c.is_named.ensures ∙ c.if-is_named.false) (leaf_nodes l))

pub returns-in-Absent-search-clause-reached : goal.returns-in-Absent-search-clause-reached
returns-in-Absent-search-clause-reached t c =
    let name = c.args.name.now in
    let up = c.args.up in
    let here = c.args.here in
    let n = c.in-Join.field-0 in
    let op = c.in-Join.field-1.op in
    let left = named c.in-Join.left.value in
    let right = named c.in-Join.right.value in
    let under : Place = record { number = here.number + 1; depth = here.depth + 1 } in
    let whole : named c.args.node.now ≡ Join n op left right = ap named c.in-Join.is ∙ named_join n c.in-Join.field-1 c.in-Join.left c.in-Join.right in
    let none = moved name c.deref.result.now c.in-Join.left.value under up c.search.result (Absent c.in-Absent.passed) c.deref.ensures c.in-Absent.is c.search.ensures.reached in
    let passed = c.in-Absent.passed in
    let before = of_absent left under up (path_to name left) passed none in
    let after : Place = record { number = here.number + 1 + passed; depth = here.depth + 1 } in
    let last = moved name c.deref-in-Absent.result.now c.in-Join.right.value after up c.search-in-Absent.result (Absent c.in-Absent-search.more) c.deref-in-Absent.ensures c.in-Absent-search.is c.search-in-Absent.ensures.reached in
    for_tree name (named c.args.node.now) (Join n op left right) here up (Absent (passed + c.in-Absent-search.more + 1)) whole
    (lacks_both name n op left right here under after up passed c.in-Absent-search.more none last)

pub returns-in-Above-search-clause-reached : goal.returns-in-Above-search-clause-reached
returns-in-Above-search-clause-reached t c =
    let name = c.args.name.now in
    let up = c.args.up in
    let here = c.args.here in
    let n = c.in-Join.field-0 in
    let op = c.in-Join.field-1.op in
    let left = named c.in-Join.left.value in
    let right = named c.in-Join.right.value in
    let under : Place = record { number = here.number + 1; depth = here.depth + 1 } in
    let whole : named c.args.node.now ≡ Join n op left right = ap named c.in-Join.is ∙ named_join n c.in-Join.field-1 c.in-Join.left c.in-Join.right in
    let none = moved name c.deref.result.now c.in-Join.left.value under up c.search.result (Absent c.in-Absent.passed) c.deref.ensures c.in-Absent.is c.search.ensures.reached in
    let passed = c.in-Absent.passed in
    let before = of_absent left under up (path_to name left) passed none in
    let after : Place = record { number = here.number + 1 + passed; depth = here.depth + 1 } in
    let last = moved name c.deref-in-Absent.result.now c.in-Join.right.value after up c.search-in-Absent.result (Above c.in-Above-search.steps) c.deref-in-Absent.ensures c.in-Above-search.is c.search-in-Absent.ensures.reached in
    for_tree name (named c.args.node.now) (Join n op left right) here up c.climb-in-Above-search.result whole
    (climbs_right name n op left right here under after up passed c.in-Above-search.steps c.climb-in-Above-search.result none last
    c.climb-in-Above-search.ensures)

pub returns-in-At-search-clause-reached : goal.returns-in-At-search-clause-reached
returns-in-At-search-clause-reached t c =
    let name = c.args.name.now in
    let up = c.args.up in
    let here = c.args.here in
    let n = c.in-Join.field-0 in
    let op = c.in-Join.field-1.op in
    let left = named c.in-Join.left.value in
    let right = named c.in-Join.right.value in
    let under : Place = record { number = here.number + 1; depth = here.depth + 1 } in
    let whole : named c.args.node.now ≡ Join n op left right = ap named c.in-Join.is ∙ named_join n c.in-Join.field-1 c.in-Join.left c.in-Join.right in
    let none = moved name c.deref.result.now c.in-Join.left.value under up c.search.result (Absent c.in-Absent.passed) c.deref.ensures c.in-Absent.is c.search.ensures.reached in
    let passed = c.in-Absent.passed in
    let before = of_absent left under up (path_to name left) passed none in
    let after : Place = record { number = here.number + 1 + passed; depth = here.depth + 1 } in
    let last = moved name c.deref-in-Absent.result.now c.in-Join.right.value after up c.search-in-Absent.result (At c.in-At-search.place) c.deref-in-Absent.ensures c.in-At-search.is c.search-in-Absent.ensures.reached in
    for_tree name (named c.args.node.now) (Join n op left right) here up (At c.in-At-search.place) whole
    (reaches_right name n op left right here under up passed c.in-At-search.place none last)

pub returns-in-Above-clause-reached : goal.returns-in-Above-clause-reached
returns-in-Above-clause-reached t c =
    let name = c.args.name.now in
    let up = c.args.up in
    let here = c.args.here in
    let n = c.in-Join.field-0 in
    let op = c.in-Join.field-1.op in
    let left = named c.in-Join.left.value in
    let right = named c.in-Join.right.value in
    let under : Place = record { number = here.number + 1; depth = here.depth + 1 } in
    let whole : named c.args.node.now ≡ Join n op left right = ap named c.in-Join.is ∙ named_join n c.in-Join.field-1 c.in-Join.left c.in-Join.right in
    for_tree name (named c.args.node.now) (Join n op left right) here up c.climb-in-Above.result whole
    (climbs_left name n op left right here under up c.in-Above.steps c.climb-in-Above.result
    (moved name c.deref.result.now c.in-Join.left.value under up c.search.result (Above c.in-Above.steps) c.deref.ensures c.in-Above.is c.search.ensures.reached)
    c.climb-in-Above.ensures)

pub returns-in-At-clause-reached : goal.returns-in-At-clause-reached
returns-in-At-clause-reached t c =
    let name = c.args.name.now in
    let up = c.args.up in
    let here = c.args.here in
    let n = c.in-Join.field-0 in
    let op = c.in-Join.field-1.op in
    let left = named c.in-Join.left.value in
    let right = named c.in-Join.right.value in
    let under : Place = record { number = here.number + 1; depth = here.depth + 1 } in
    let whole : named c.args.node.now ≡ Join n op left right = ap named c.in-Join.is ∙ named_join n c.in-Join.field-1 c.in-Join.left c.in-Join.right in
    for_tree name (named c.args.node.now) (Join n op left right) here up (At c.in-At.place) whole
    (reaches_left name n op left right here up c.in-At.place
    (moved name c.deref.result.now c.in-Join.left.value under up c.search.result (At c.in-At.place) c.deref.ensures c.in-At.is c.search.ensures.reached))
