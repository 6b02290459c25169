use Rattle.std.proofs.Common.{◌≡◌, ◌<◌, [], ◌∷◌, ◌++◌, All, length, map, sym, ap, subst, ◌∙◌, arith}
use Rattle.std.specs.List.{range_with_len}
use Rattle.std.proofs.lemmas.Result.{IfOk-weaker}
use Rattle.mm_matrix.specs.Columns.{column}
use Rattle.mm_matrix.specs.MatrixValue.{MatrixValue}
use Rattle.mm_matrix.proofs.FreeLemmas.{range_inside}
use Rattle.mm_present.proofs.RangeLemmas.{next_number}
use Rattle.mm_present.proofs.dependencies.columns_of.Goals as goal

pub loop-j-preserved : goal.loop-j-preserved
loop-j-preserved c = c.in_ok-push.ensures.items ∙ ap (λ xs. xs ++ c.loop-j.j ∷ []) c.loop-j.invariant ∙ next_number c.loop-j.j

pub columns-requires : goal.columns-requires
columns-requires c =
    let n = c.args.m.now.cols in
    let all : c.loop-j.j ≡ n =
    (let a = c.loop-j-test.false in let b = c.loop-j.auto.j-end in let e = c.cols-j-end.ensures in omega arith) in
    subst (λ xs. All (λ j. j < n) xs) (sym (c.deref.ensures.value ∙ c.loop-j.invariant ∙ ap (range_with_len 0) all)) (range_inside n)

pub returns : goal.returns
returns c =
    let m = c.args.m.now in
    let all : c.loop-j.j ≡ m.cols =
    (let a = c.loop-j-test.false in let b = c.loop-j.auto.j-end in let e = c.cols-j-end.ensures in omega arith) in
    IfOk-weaker c.columns.result (λ (k : MatrixValue). k ≡ record { f = m.f; cols = length m.rows; rows = map (column m.rows) c.deref.result.now })
    (λ (k : MatrixValue). k ≡ record { f = m.f; cols = length m.rows; rows = map (column m.rows) (range_with_len 0 m.cols) })
    (λ k e. e ∙ ap (λ ps. record { f = m.f; cols = length m.rows; rows = map (column m.rows) ps })
    (c.deref.ensures.value ∙ c.loop-j.invariant ∙ ap (range_with_len 0) all)) c.columns.ensures
