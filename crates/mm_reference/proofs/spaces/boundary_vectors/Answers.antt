use Rattle.std.proofs.Common.{rules, ◌≡◌, ◌<◌, ◌≤◌, ◌+◌, Bool, ℕ, List, [], ◌∷◌, ◌++◌, cond, take, filter, get_or, sym, ap, ap₂, ◌∙◌, subst, append-nil}
use Rattle.std.proofs.lemmas.List.{length-map, map_push, take_all}
use Rattle.std.proofs.lemmas.List.Elements.{filter_more}
use Rattle.mm_field.specs.Vectors.{zeros, AreVectors}
use Rattle.mm_linear.specs.Decide.{is_in_span}
use Rattle.mm_reference_meaning.specs.Rows.{rows_of}
use Rattle.mm_reference_meaning.proofs.ColumnLemmas.{row_at}
use Rattle.mm_reference.proofs.ReducedLemmas.{listed_vector}
use Rattle.mm_reference.proofs.spaces.boundary_vectors.Goals as goal
use Rattle.mm_reference.proofs.spaces.boundary_vectors.Goals.{then-branch+in_ok-to_vec+in_ok-push, else-branch}

pub is_shown-requires-clause-digits : goal.is_shown-requires-clause-digits
is_shown-requires-clause-digits c =
    let all = c.deref-vector-items.result.now in
    let is = row_at all c.loop-vector.vector-index c.vector-item.result [] c.loop-vector-test.true c.vector-item.is in
    (listed_vector c.args.f c.args.t all c.loop-vector.vector-index c.deref.result.now (ap rows_of c.deref-vector-items.ensures.value ∙ c.in_ok-all.ensures)
    c.loop-vector-test.true (is ∙ sym c.deref.ensures.value)).digits

pub is_shown-requires-clause-columns : goal.is_shown-requires-clause-columns
is_shown-requires-clause-columns c =
    let all = c.deref-vector-items.result.now in
    let is = row_at all c.loop-vector.vector-index c.vector-item.result [] c.loop-vector-test.true c.vector-item.is in
    let long = (listed_vector c.args.f c.args.t all c.loop-vector.vector-index c.deref.result.now (ap rows_of c.deref-vector-items.ensures.value ∙ c.in_ok-all.ensures)
    c.loop-vector-test.true (is ∙ sym c.deref.ensures.value)).len in
    subst (λ n. AreVectors c.args.f (n + c.args.m) (rows_of c.args.columns.now)) (sym long) c.requires

pub loop-vector-preserved : goal.loop-vector-preserved
loop-vector-preserved c =
    let f = c.args.f in
    let t = c.args.t in
    let m = c.args.m in
    let p : List ℕ → Bool = λ b. is_in_span f (t + m) (rows_of c.args.columns.now) (b ++ zeros m) in
    let i = c.loop-vector.vector-index in
    let all = c.deref-vector-items.result.now in
    let vectors = rows_of all in
    let is = row_at all i c.vector-item.result [] c.loop-vector-test.true c.vector-item.is in
    let long = (listed_vector f t all i c.deref.result.now (ap rows_of c.deref-vector-items.ensures.value ∙ c.in_ok-all.ensures)
    c.loop-vector-test.true (is ∙ sym c.deref.ensures.value)).len in
    let says : c.in_ok-is_shown.field-0 ≡ p (get_or vectors i []) =
    c.in_ok-is_shown.ensures
    ∙ ap₂ (λ n b. is_in_span f (n + m) (rows_of c.args.columns.now) (b ++ zeros m)) long (c.deref.ensures.value ∙ sym is) in
    let next = filter_more p vectors i [] (subst (λ n. i < n) (sym (length-map all (λ v. v.items))) c.loop-vector-test.true) in
    elim c.if-branch.branch [
      | then-branch+in_ok-to_vec+in_ok-push w ↦
          ap (λ v. rows_of v.items) w.kept-is
          ∙ ap rows_of w.in_ok-push.ensures.items
          ∙ map_push (λ v. v.items) c.loop-vector.kept.items w.in_ok-to_vec.field-0
          ∙ ap₂ (λ Xs X. Xs ++ (X ∷ [])) c.loop-vector.invariant (let e : w.in_ok-to_vec.field-0.items ≡ c.vector-item.result.items = search rules in e ∙ sym is)
          ∙ sym (next ∙ ap (λ b. filter p (take i vectors) ++ cond b (get_or vectors i [] ∷ []) []) (sym says ∙ w.if-branch.true))
      | else-branch w ↦
          ap (λ v. rows_of v.items) w.kept-is
          ∙ c.loop-vector.invariant
          ∙ sym (next ∙ ap (λ b. filter p (take i vectors) ++ cond b (get_or vectors i [] ∷ []) []) (sym says ∙ w.if-branch.false) ∙ append-nil (filter p (take i vectors)))
    ]

pub returns : goal.returns
returns c =
    let f = c.args.f in
    let all = c.deref-vector-items.result.now in
    let p : List ℕ → Bool = λ b. is_in_span f (c.args.t + c.args.m) (rows_of c.args.columns.now) (b ++ zeros c.args.m) in
    c.loop-vector.invariant
    ∙ ap (filter p)
    (take_all c.loop-vector.vector-index (rows_of all) (subst (λ n. n ≤ c.loop-vector.vector-index) (sym (length-map all (λ v. v.items))) c.loop-vector-test.false)
    ∙ ap rows_of c.deref-vector-items.ensures.value ∙ c.in_ok-all.ensures)
