use Rattle.std.proofs.Common.{◌≡◌, ◌+◌, [], ap, ◌∙◌}
use Rattle.std.proofs.lemmas.Result.{IfOk-weaker, on_ok_weaker}
use Rattle.mm_matrix.specs.MatrixValue.{MatrixValue}
use Rattle.mm_present.specs.Dependencies.{joined_pairs, least_place, tails, with_boundary}
use Rattle.mm_present.proofs.WalkLemmas.{space_is, pairs_end, least_end}
use Rattle.mm_present.proofs.dependencies.join_pairs.Goals as goal

pub returns-clause-pairs : goal.returns-clause-pairs
returns-clause-pairs c =
    let op = c.args.op.now in
    let g = c.args.given in
    let l = c.args.left.rows in
    let r = c.args.right.rows in
    let space = c.into_matrix-space.result in
    let is = space_is op g l r c.in_ok-digits.digits.now c.t1.result c.t2.result c.t3.result c.c.result c.in_ok-cols.cols c.in_ok-width.field-0
    c.new-candidates.result c.put_candidates.new.candidates c.put_candidates-2.new.candidates space c.in_ok-digits.ensures c.t1.ensures c.t2.ensures
    c.t3.ensures c.c.ensures c.in_ok-cols.ensures c.in_ok-width.ensures
    (c.new-candidates.ensures ∙ ap (λ h. record { f = h; cols = c.in_ok-width.field-0; rows = [] }) c.field-2.ensures.field)
    c.in_ok-put_candidates.ensures c.in_ok-put_candidates-2.ensures (c.into_matrix-space.ensures ∙ c.in_ok-of.ensures.rows) in
    IfOk-weaker c.pairs_of_tails.result (λ (m : MatrixValue). m ≡ record { f = space.f; cols = c.in_ok-cols.cols; rows = with_boundary c.t3.result (tails c.c.result space.rows) })
    (λ (m : MatrixValue). m ≡ record { f = op.f; cols = op.op.t3 + g; rows = with_boundary op.op.t3 (joined_pairs op g l r) })
    (λ m e. e ∙ pairs_end op g l r c.c.result c.t3.result c.in_ok-cols.cols space c.c.ensures c.t3.ensures c.in_ok-cols.ensures is) c.pairs_of_tails.ensures.pairs

pub returns-clause-least : goal.returns-clause-least
returns-clause-least c =
    let op = c.args.op.now in
    let g = c.args.given in
    let l = c.args.left.rows in
    let r = c.args.right.rows in
    let space = c.into_matrix-space.result in
    let is = space_is op g l r c.in_ok-digits.digits.now c.t1.result c.t2.result c.t3.result c.c.result c.in_ok-cols.cols c.in_ok-width.field-0
    c.new-candidates.result c.put_candidates.new.candidates c.put_candidates-2.new.candidates space c.in_ok-digits.ensures c.t1.ensures c.t2.ensures
    c.t3.ensures c.c.ensures c.in_ok-cols.ensures c.in_ok-width.ensures
    (c.new-candidates.ensures ∙ ap (λ h. record { f = h; cols = c.in_ok-width.field-0; rows = [] }) c.field-2.ensures.field)
    c.in_ok-put_candidates.ensures c.in_ok-put_candidates-2.ensures (c.into_matrix-space.ensures ∙ c.in_ok-of.ensures.rows) in
    let before = c.args.least.now in
    let after = c.pairs_of_tails.new.least in
    on_ok_weaker {P = after ≡ least_place before (tails c.t3.result (tails c.c.result space.rows))} {Q = after ≡ least_place before (tails op.op.t3 (joined_pairs op g l r))}
    c.pairs_of_tails.result (least_end op g l r c.c.result c.t3.result space before after c.c.ensures c.t3.ensures is) c.pairs_of_tails.ensures.least
