use Rattle.std.proofs.Common.{rules, ◌≡◌, ◌<◌, ℕ, ◌+◌, ◌∷◌, ◌++◌, [], length, get_or, sym, ap, ◌∙◌, subst, arith}
use Rattle.std.proofs.lemmas.List.{map_push, length-map}
use Rattle.mm_field.specs.Vectors.{AreVectors}
use Rattle.mm_linear.specs.ReducedEchelon.{IsLeftBasis}
use Rattle.mm_logic.specs.BoundarySpaces.{boundary_space}
use Rattle.mm_reference_meaning.specs.Rows.{rows_of}
use Rattle.mm_reference.specs.Spaces.{IsSpace, IsReducedRow}
use Rattle.mm_reference_meaning.proofs.ColumnLemmas.{row_at}
use Rattle.mm_reference.proofs.ReducedLemmas.{IsBefore, one_more_row, no_more_rows, all_before, shown, shown_vectors, shown_space, shown_basis}
use Rattle.mm_reference.proofs.spaces.boundary_space.Goals as goal
use Rattle.mm_reference.proofs.spaces.boundary_space.Goals.{in-Some+in_ok-to_vec+in_ok-push, in_default}

pub reduced_place-requires-clause-same_length : goal.reduced_place-requires-clause-same_length
reduced_place-requires-clause-same_length c = λ k d l.
    let is = ap rows_of c.deref.ensures.value ∙ c.in_ok-space.ensures in
    (subst (λ vs. AreVectors c.args.f c.args.t vs) (sym is) (shown_vectors c.args.f c.args.t c.args.m (rows_of c.args.columns.now)) k d l).len

pub loop-k-preserved : goal.loop-k-preserved
loop-k-preserved c = λ sp known.
    let f = c.args.f in
    let t = c.args.t in
    let vs = rows_of c.in_ok-space.space.items in
    let B = boundary_space f t c.args.m (rows_of c.args.columns.now) in
    let k = c.loop-k.k in
    let before = c.loop-k.invariant sp known in
    let all = c.in_ok-space.space.items in
    let many = length-map all (λ v. v.items) in
    let found = rows_of c.loop-k.rows.items in
    elim c.match-reduced_place.branch [
      | in-Some+in_ok-to_vec+in_ok-push w ↦
          let i = w.in-Some.i in
          let some = subst (λ us. (i < length us) × IsReducedRow k (rows_of us) (get_or (rows_of us) i [])) c.deref.ensures.value w.in-Some.ensures.some in
          let low : i < length all = some.0 in
          let at = row_at all i w.index.result.now [] low w.index.ensures in
          let copied : w.in_ok-to_vec.field-0.items ≡ w.index.result.now.items = search rules in
          let made : rows_of c.match-reduced_place.rows.items ≡ found ++ (get_or vs i [] ∷ []) =
          ap (λ v. rows_of v.items) w.rows-is
          ∙ ap rows_of w.in_ok-push.ensures.items
          ∙ map_push (λ v. v.items) c.loop-k.rows.items w.in_ok-to_vec.field-0
          ∙ ap (λ u. found ++ (u ∷ [])) (copied ∙ sym at) in
          subst (λ xs. IsBefore f t vs B sp known (k + 1) xs) (sym made)
          (one_more_row f t vs B sp known k i found c.loop-k-test.true (omega arith) some.1 before)
      | in_default w ↦
          let none = subst (λ us. (i : ℕ) → i < length us → IsReducedRow k (rows_of us) (get_or (rows_of us) i []) → ⊥) c.deref.ensures.value w.in_default.ensures.none in
          subst (λ v. IsBefore f t vs B sp known (k + 1) (rows_of v.items)) (sym w.rows-is)
          (no_more_rows f t vs B sp known k found c.loop-k-test.true (λ i l r. none i (omega arith) r) before)
    ]

pub returns : goal.returns
returns c =
    let f = c.args.f in
    let t = c.args.t in
    let m = c.args.m in
    let cs = rows_of c.args.columns.now in
    let vs = rows_of c.in_ok-space.space.items in
    let is : vs ≡ shown f t m cs = c.in_ok-space.ensures in
    let sp : IsSpace f t vs = subst (λ us. IsSpace f t us) (sym is) (shown_space f t m cs c.requires) in
    let known : IsLeftBasis f t vs (boundary_space f t m cs) = subst (λ us. IsLeftBasis f t us (boundary_space f t m cs)) (sym is) (shown_basis f t m cs) in
    all_before f t vs (boundary_space f t m cs) sp known c.loop-k.k (rows_of c.loop-k.rows.items) c.loop-k-test.false (c.loop-k.invariant sp known)
