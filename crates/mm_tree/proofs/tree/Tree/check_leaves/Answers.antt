use Rattle.std.proofs.Common.{List, ℕ, ◌≡◌, ◌≤◌, [], Some, length, get_or, sym, ap, ap₂, ◌∙◌, subst, arith}
use Rattle.std.specs.List.{IsDistinct}
use Rattle.std.specs.Str.{bytes_eq}
use Rattle.std.proofs.lemmas.Option.{get_or_from_slice_get}
use Rattle.mm_tree.specs.NamedTree.{Tree, leaf_names}
use Rattle.mm_tree.specs.OutsideLeaves.{with_leaves}
use Rattle.mm_tree.specs.Paths.{names_outside}
use Rattle.mm_tree.specs.Places.{path_of}
use Rattle.mm_tree.specs.Replacing.{is_leaf_of}
use Rattle.mm_tree.specs.TreeValue.{TreeValue}
use Rattle.mm_tree.specs.ValidTree.{most_leaves}
use Rattle.mm_tree.specs.declared.replace.Outside.{Outside}
use Rattle.mm_tree.proofs.PartLemmas.{leaf_taken, leaves_many, leaves_free, renewed_leaf}
use Rattle.mm_tree.proofs.ReplaceLemmas.{IsSeenOutside, nothing_seen, name_at, taken_is, taken_within, leaves_counted, path_is}
use Rattle.mm_tree.proofs.tree.Tree.check_leaves.Goals as goal

seen_here : (tree new : Tree) (at : ℕ) (names : List (List ℕ)) (seen : Outside) → names ≡ leaf_names new →
    seen ≡ with_leaves names nothing_seen (names_outside tree (path_of at tree)) → IsSeenOutside tree new at seen
seen_here tree new at names seen n e = e ∙ ap (λ ns. with_leaves ns nothing_seen (names_outside tree (path_of at tree))) n

pub returns-then-is_leaf_of : goal.returns-then-is_leaf_of
returns-then-is_leaf_of c =
    let tree = c.args.self.now.tree in
    let new = c.args.new.now.tree in
    let at = c.args.place.now.number in
    let inner = ap (λ (v : TreeValue). v.tree) c.self.view_is in
    let other = ap (λ (v : TreeValue). v.tree) c.new.view_is in
    let different = subst (λ (t : Tree). IsDistinct bytes_eq (leaf_names t)) inner c.self.invariant.valid.different in
    let few = subst (λ (t : Tree). length (leaf_names t) ≤ most_leaves) inner c.self.invariant.valid.few in
    let leaf = sym (ap₂ is_leaf_of other c.requires.node) ∙ sym c.is_leaf_of.ensures ∙ c.if-is_leaf_of.true in
    leaves_free tree new (path_of at tree) (renewed_leaf tree new (path_of at tree) different few (path_is at tree) leaf)

pub index-requires : goal.index-requires
index-requires c =
    let tree = c.args.self.now.tree in
    let new = c.args.new.now.tree in
    let at = c.args.place.now.number in
    let seen = seen_here tree new at c.in_ok-names.names.keys c.outside-outside.result c.in_ok-names.ensures c.outside-outside.ensures.seen in
    let within = taken_within tree new at c.outside-outside.result c.in-Some.i seen c.in-Some.is in
    omega (arith, ap length c.in_ok-names.ensures)

pub returns-in-Some : goal.returns-in-Some
returns-in-Some c =
    let tree = c.args.self.now.tree in
    let new = c.args.new.now.tree in
    let at = c.args.place.now.number in
    let seen = seen_here tree new at c.in_ok-names.names.keys c.outside-outside.result c.in_ok-names.ensures c.outside-outside.ensures.seen in
    leaf_taken tree new (path_of at tree) c.index.result.now
    (taken_is tree new at c.outside-outside.result seen ∙ ap (name_at (leaf_names new)) c.in-Some.is
    ∙ ap (λ (x : List ℕ). Some x)
    (ap (λ (ns : List (List ℕ)). get_or ns c.in-Some.i []) (sym c.in_ok-names.ensures)
    ∙ get_or_from_slice_get c.in_ok-names.names.keys c.in-Some.i c.index.result.now [] c.index.ensures))

pub overflow_add-outside : goal.overflow_add-outside
overflow_add-outside c =
    let few = c.outside-outside.ensures.few in
    let small = c.len.ensures.small in
    omega arith

pub returns-then-outside-len-gt-MAX_LEAVES : goal.returns-then-outside-len-gt-MAX_LEAVES
returns-then-outside-len-gt-MAX_LEAVES c =
    let tree = c.args.self.now.tree in
    let new = c.args.new.now.tree in
    let at = c.args.place.now.number in
    let seen = seen_here tree new at c.in_ok-names.names.keys c.outside-outside.result c.in_ok-names.ensures c.outside-outside.ensures.seen in
    let count = leaves_counted tree new at c.outside-outside.result seen in
    leaves_many tree new (path_of at tree)
    (taken_is tree new at c.outside-outside.result seen ∙ ap (name_at (leaf_names new)) c.in_default.is)
    (omega (arith, ap length c.in_ok-names.ensures, c.len.ensures.len, c.if-outside-len-gt-MAX_LEAVES.true))

pub returns : goal.returns
returns c =
    let tree = c.args.self.now.tree in
    let new = c.args.new.now.tree in
    let at = c.args.place.now.number in
    let seen = seen_here tree new at c.in_ok-names.names.keys c.outside-outside.result c.in_ok-names.ensures c.outside-outside.ensures.seen in
    let count = leaves_counted tree new at c.outside-outside.result seen in
    leaves_free tree new (path_of at tree) (record {
      free = taken_is tree new at c.outside-outside.result seen ∙ ap (name_at (leaf_names new)) c.in_default.is;
      few = omega (arith, ap length c.in_ok-names.ensures, c.len.ensures.len, c.if-outside-len-gt-MAX_LEAVES.false);
    })
