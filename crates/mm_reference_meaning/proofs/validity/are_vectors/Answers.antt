use Rattle.std.proofs.Common.{◌≡◌, ◌<◌, ◌+◌, ◌++◌, ℕ, List, length, take, [], ◌∷◌, All, sym, ap, ◌∙◌, subst, rules, arith}
use Rattle.std.proofs.lemmas.List.{map_push, take_all, get_or-map, length-map}
use Rattle.std.proofs.lemmas.List.Elements.{All-nil, All-cons, All-append}
use Rattle.mm_field.specs.Vectors.{AreDigits, IsVector, AreVectors}
use Rattle.mm_reference_meaning.specs.Rows.{rows_of}
use Rattle.mm_reference_meaning.proofs.AssignmentLemmas.{take_next}
use Rattle.mm_reference_meaning.proofs.validity.are_vectors.Goals as goal
use Rattle.mm_reference_meaning.proofs.validity.are_vectors.Goals.{then-len-r-via-then-len-r, then-len-r-via-else-len-r+then-not-are_digits}

pub loop-row-preserved : goal.loop-row-preserved
loop-row-preserved c =
    let P : List ℕ → Type 0 = λ v. IsVector c.args.f c.args.r v in
    let rows = c.args.rows.now in
    let i = c.loop-row.row-index in
    let row = c.row-item.result in
    let long : length row.items ≡ c.args.r = search rules in
    let digits = subst (λ v. AreDigits c.args.f v) c.deref.ensures.value (c.are_digits.ensures.yes c.if-not-are_digits.false) in
    let next : rows_of (take (i + 1) rows) ≡ rows_of (take i rows) ++ (row.items ∷ []) =
    ap rows_of (take_next i rows row c.loop-row-test.true ∙ ap (λ v. take i rows ++ (v ∷ [])) (sym c.row-item.is)) ∙ map_push (λ v. v.items) (take i rows) row in
    subst (λ xs. All P xs) (sym next)
    (All-append P (rows_of (take i rows)) (row.items ∷ []) c.loop-row.invariant (All-cons P row.items [] (record { len = long; digits = digits }) (All-nil P)))

pub returns-clause-yes : goal.returns-clause-yes
returns-clause-yes c e =
    subst (λ xs. AreVectors c.args.f c.args.r (rows_of xs)) (take_all c.loop-row.row-index c.args.rows.now c.loop-row-test.false) c.loop-row.invariant

pub returns-then-len-r-clause-no : goal.returns-then-len-r-clause-no
returns-then-len-r-clause-no c e h =
    let rows = c.args.rows.now in
    let i = c.loop-row.row-index in
    let row = c.row-item.result in
    let here : IsVector c.args.f c.args.r row.items =
    subst (λ v. IsVector c.args.f c.args.r v) (get_or-map (λ v. v.items) rows i row [] c.loop-row-test.true ∙ ap (λ v. v.items) (sym c.row-item.is))
    (h i [] (subst (λ n. i < n) (sym (length-map rows (λ v. v.items))) c.loop-row-test.true)) in
    elim c.then-len-r.branch [
      | then-len-r-via-then-len-r w ↦ omega (arith, w.if-len-r.true, c.len.ensures, here.len)
      | then-len-r-via-else-len-r+then-not-are_digits w ↦
          w.are_digits.ensures.no w.if-not-are_digits.true (subst (λ v. AreDigits c.args.f v) (sym w.deref.ensures.value) here.digits)
    ]
