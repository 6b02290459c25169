use Rattle.std.proofs.Common.{◌≡◌, ◌<◌, ◌-◌, ◌^◌, None, length, map, take, drop, sym, ap, ap₂, subst, ◌∙◌, arith}
use Rattle.std.specs.List.{range_with_len}
use Rattle.std.proofs.lemmas.List.FromFn.{length-map-range_with_len}
use Rattle.mm_field.specs.Vectors.{AreVectors}
use Rattle.mm_logic.specs.Tree as shapes
use Rattle.mm_matrix.specs.Columns.{column}
use Rattle.mm_matrix.specs.MatrixValue.{MatrixValue}
use Rattle.mm_present.specs.Comparing.{first_outside, present_rows}
use Rattle.mm_present.specs.Dependencies.{ArePairs, Finds}
use Rattle.mm_present.proofs.CompareLemmas.{position_small}
use Rattle.mm_present.proofs.RootLemmas.{root_walk}
use Rattle.mm_tree.specs.NamedTree.{shape}
use Rattle.mm_tree.specs.Nodes.{named}
use Rattle.mm_present.proofs.dependencies.first_given_outside.Goals as goal

pub pairs_of-requires-clause-room : goal.pairs_of-requires-clause-room
pairs_of-requires-clause-room c =
    let given = c.args.given.now in
    let tree = ap (λ t. shapes.size (shape t)) c.node.ensures.tree in
    let n : length c.in_ok-columns.columns.rows ≡ given.cols =
    ap (λ (m : MatrixValue). length m.rows) c.in_ok-columns.ensures ∙ length-map-range_with_len (column given.rows) 0 given.cols in
    let e = c.requires.columns in
    omega arith

pub returns-clause-first : goal.returns-clause-first
returns-clause-first c =
    let given = c.args.given.now in
    let f = c.args.tree.now.f in
    let tree = c.args.tree.now.tree in
    let T = shape tree in
    let columns = c.in_ok-columns.columns in
    let pairs = c.in_ok-pairs.pairs in
    let ef : given.f ≡ f = c.requires.field in
    let en : given.cols ≡ shapes.size T = c.requires.columns in
    let columns_are : columns ≡ record { f = f; cols = length given.rows; rows = map (column given.rows) (range_with_len 0 (shapes.size T)) } =
    c.in_ok-columns.ensures ∙ ap₂ (λ h n. record { f = h; cols = length given.rows; rows = map (column given.rows) (range_with_len 0 n) }) ef en in
    let found = subst (λ t. ArePairs f (shapes.boundary (shape t)) columns.cols pairs
    × Finds f columns.cols (shape t) (take (shapes.size (shape t)) (drop 0 columns.rows)) pairs.rows None c.pairs_of.new.least)
    c.node.ensures.tree (subst (λ h. ArePairs h (shapes.boundary (shape (named c.node.result.now))) columns.cols pairs
    × Finds h columns.cols (shape (named c.node.result.now)) (take (shapes.size (shape (named c.node.result.now))) (drop 0 columns.rows)) pairs.rows None c.pairs_of.new.least)
    c.field.ensures c.in_ok-pairs.ensures.1) in
    let hg : AreVectors f (shapes.size T) given.rows = subst (λ n. AreVectors f n given.rows) en (subst (λ h. AreVectors h given.cols given.rows) ef c.rows.ensures.each) in
    let last = c.note_last_faults.new.least in
    let boundary : c.cols.result - c.cols-2.result ≡ shapes.boundary T =
    (let a = c.cols.ensures in let b = c.cols-2.ensures in let w = found.0.width in omega arith) in
    root_walk f tree given.rows columns pairs (c.cols.result - c.cols-2.result) c.pairs_of.new.least last c.node.ensures.valid.valid_shape hg columns_are boundary found.0 found.1 c.in_ok-note_last_faults.ensures
    ∙ ap₂ (λ h n. first_outside h n given.rows (present_rows f tree)) (sym ef) (sym en)

pub returns-clause-small : goal.returns-clause-small
returns-clause-small c =
    let given = c.args.given.now in
    let f = c.args.tree.now.f in
    let tree = c.args.tree.now.tree in
    let T = shape tree in
    let columns = c.in_ok-columns.columns in
    let pairs = c.in_ok-pairs.pairs in
    let ef : given.f ≡ f = c.requires.field in
    let en : given.cols ≡ shapes.size T = c.requires.columns in
    let columns_are : columns ≡ record { f = f; cols = length given.rows; rows = map (column given.rows) (range_with_len 0 (shapes.size T)) } =
    c.in_ok-columns.ensures ∙ ap₂ (λ h n. record { f = h; cols = length given.rows; rows = map (column given.rows) (range_with_len 0 n) }) ef en in
    let found = subst (λ t. ArePairs f (shapes.boundary (shape t)) columns.cols pairs
    × Finds f columns.cols (shape t) (take (shapes.size (shape t)) (drop 0 columns.rows)) pairs.rows None c.pairs_of.new.least)
    c.node.ensures.tree (subst (λ h. ArePairs h (shapes.boundary (shape (named c.node.result.now))) columns.cols pairs
    × Finds h columns.cols (shape (named c.node.result.now)) (take (shapes.size (shape (named c.node.result.now))) (drop 0 columns.rows)) pairs.rows None c.pairs_of.new.least)
    c.field.ensures c.in_ok-pairs.ensures.1) in
    let hg : AreVectors f (shapes.size T) given.rows = subst (λ n. AreVectors f n given.rows) en (subst (λ h. AreVectors h given.cols given.rows) ef c.rows.ensures.each) in
    let last = c.note_last_faults.new.least in
    let boundary : c.cols.result - c.cols-2.result ≡ shapes.boundary T =
    (let a = c.cols.ensures in let b = c.cols-2.ensures in let w = found.0.width in omega arith) in
    let count = c.rows.ensures.count in
    let fits : c.rows.result < 2 ^ 64 = c.rows.type_inv in
    position_small f (shapes.size T) given.rows (present_rows f tree) last (2 ^ 64) (omega arith)
    (root_walk f tree given.rows columns pairs (c.cols.result - c.cols-2.result) c.pairs_of.new.least last c.node.ensures.valid.valid_shape hg columns_are boundary found.0 found.1 c.in_ok-note_last_faults.ensures)
