use Rattle.std.proofs.Common.{All, ◌≡◌, length, map, position, sym, ap, ap₂, subst, ◌∙◌, arith}
use Rattle.std.specs.Str.{bytes_eq}
use Rattle.std.specs.List.{IsDistinct}
use Rattle.std.proofs.lemmas.List.{length-map}
use Rattle.std.proofs.lemmas.Result.{IfOk-weaker}
use Rattle.mm_present.specs.Ordering.{IsPlaceBelow}
use Rattle.mm_matrix.specs.MatrixValue.{MatrixValue}
use Rattle.mm_tree.specs.NamedTree.{element_names}
use Rattle.mm_present.specs.Comparing.{Named, compared, compared_rows, digit_at, first_missing, present_rows}
use Rattle.mm_present.proofs.CompareLemmas.{given_missing, element_missing, same_elements, places_below}
use Rattle.mm_tree.proofs.ElementLemmas.{count_elements}
use Rattle.mm_present.proofs.comparison.compare.Goals as goal

pub set_of-requires-2 : goal.set_of-requires-2
set_of-requires-2 c = c.in_ok-elements.ensures.different

pub returns-in-Some : goal.returns-in-Some
returns-in-Some c =
    let tree = c.args.tree.now.tree in
    let names = c.args.given.now.names in
    let elements = element_names tree in
    let given : Named = record { names = names; rows = c.args.given.now.rows.rows } in
    let first : c.first_missing.result ≡ first_missing names elements =
    c.first_missing.ensures ∙ ap (first_missing names) (c.in_ok-element_names.ensures ∙ c.in_ok-elements.ensures.names) in
    given_missing c.args.tree.now.f given tree c.in-Some.name (sym first ∙ c.in-Some.is)

pub returns-in-Some-first_missing : goal.returns-in-Some-first_missing
returns-in-Some-first_missing c =
    let tree = c.args.tree.now.tree in
    let names = c.args.given.now.names in
    let elements = element_names tree in
    let given : Named = record { names = names; rows = c.args.given.now.rows.rows } in
    let first : c.first_missing.result ≡ first_missing names elements =
    c.first_missing.ensures ∙ ap (first_missing names) (c.in_ok-element_names.ensures ∙ c.in_ok-elements.ensures.names) in
    let second : c.first_missing-2.result ≡ first_missing elements names =
    c.first_missing-2.ensures ∙ ap₂ first_missing c.in_ok-elements.ensures.names c.in_ok-given_names.ensures in
    element_missing c.args.tree.now.f given tree c.in-Some-first_missing.name (sym first ∙ c.in_default.is) (sym second ∙ c.in-Some-first_missing.is)

pub in_order-requires : goal.in_order-requires
in_order-requires c =
    let tree = c.args.tree.now.tree in
    let names = c.args.given.now.names in
    let elements = element_names tree in
    let given : Named = record { names = names; rows = c.args.given.now.rows.rows } in
    let first : c.first_missing.result ≡ first_missing names elements =
    c.first_missing.ensures ∙ ap (first_missing names) (c.in_ok-element_names.ensures ∙ c.in_ok-elements.ensures.names) in
    let places : c.deref.result.now ≡ map (λ name. position (bytes_eq name) names) elements =
    c.deref.ensures.value ∙ c.in_ok-places.ensures
    ∙ ap₂ (λ keys others. map (λ name. position (bytes_eq name) keys) others) c.in_ok-given_names.ensures c.in_ok-elements.ensures.names in
    subst (λ ps. All (λ place. IsPlaceBelow c.args.given.now.rows.cols place) ps) (sym places)
    (places_below names elements c.args.given.now.rows.cols (let e = c.requires.columns in omega arith))

pub compare_rows-requires-clause-columns : goal.compare_rows-requires-clause-columns
compare_rows-requires-clause-columns c =
    let tree = c.args.tree.now.tree in
    let names = c.args.given.now.names in
    let elements = element_names tree in
    let places : c.deref.result.now ≡ map (λ name. position (bytes_eq name) names) elements =
    c.deref.ensures.value ∙ c.in_ok-places.ensures
    ∙ ap₂ (λ keys others. map (λ name. position (bytes_eq name) keys) others) c.in_ok-given_names.ensures c.in_ok-elements.ensures.names in
    ap (λ (m : MatrixValue). m.cols) c.in_ok-ordered.ensures
    ∙ ap length places ∙ length-map elements (λ name. position (bytes_eq name) names) ∙ count_elements tree

pub returns : goal.returns
returns c =
    let tree = c.args.tree.now.tree in
    let names = c.args.given.now.names in
    let elements = element_names tree in
    let given : Named = record { names = names; rows = c.args.given.now.rows.rows } in
    let first : c.first_missing.result ≡ first_missing names elements =
    c.first_missing.ensures ∙ ap (first_missing names) (c.in_ok-element_names.ensures ∙ c.in_ok-elements.ensures.names) in
    let second : c.first_missing-2.result ≡ first_missing elements names =
    c.first_missing-2.ensures ∙ ap₂ first_missing c.in_ok-elements.ensures.names c.in_ok-given_names.ensures in
    let places : c.deref.result.now ≡ map (λ name. position (bytes_eq name) names) elements =
    c.deref.ensures.value ∙ c.in_ok-places.ensures
    ∙ ap₂ (λ keys others. map (λ name. position (bytes_eq name) keys) others) c.in_ok-given_names.ensures c.in_ok-elements.ensures.names in
    let ordered = c.in_ok-ordered.ordered in
    IfOk-weaker c.compare_rows.result (λ v. v ≡ compared_rows ordered.f ordered.cols ordered.rows (present_rows c.args.tree.now.f tree)) (λ v. v ≡ compared c.args.tree.now.f given tree)
    (λ v e. same_elements c.args.tree.now.f given tree c.deref.result.now ordered v c.requires.different
    (subst (λ xs. IsDistinct bytes_eq xs) c.in_ok-elements.ensures.names c.in_ok-elements.ensures.different)
    (sym first ∙ c.in_default.is) (sym second ∙ c.in_default-first_missing.is) places
    (c.in_ok-ordered.ensures ∙ ap (λ f. record { f = f; cols = length c.deref.result.now; rows = map (λ row. map (digit_at row) c.deref.result.now) c.args.given.now.rows.rows }) c.requires.field)
    e)
    c.compare_rows.ensures
