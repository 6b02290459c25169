use Rattle.std.proofs.Common.{ℕ, ◌≡◌, List, length, map, drop, sym, ap, ◌∙◌}
use Rattle.std.proofs.Math.ListN.{set, length-set}
use Rattle.std.proofs.lemmas.List.{take_at}
use Rattle.mm_field.specs.Vectors.{vector_sum}
use Rattle.mm_linear.specs.Coordinates.{unit}
use Rattle.mm_linear.proofs.BasisLemmas.{IsVector-unit}
use Rattle.mm_matrix.specs.Projections.{left, kernel_vector}
use Rattle.mm_matrix.proofs.RowLemmas.{digits_of}
use Rattle.mm_matrix.proofs.NullLemmas.{IsVector-projected, leads_inside}
use Rattle.mm_matrix.proofs.ShareLemmas.{unit_written}
use Rattle.mm_matrix.proofs.orthogonality.kernel_vector.Goals as goal

pub returns : goal.returns
returns c =
    let f = c.args.f in
    let n = c.args.cols in
    let rows = map digits_of c.args.rows.now.items in
    let ks = c.args.leads.now.items in
    let j = c.args.j in
    let row = c.in_ok-row.row in
    let start : set row.items j 1 ≡ unit n j =
    ap (λ (x : List ℕ). set x j 1) (c.in_ok-row.ensures.items_if_clones_equal (λ y e. e)) ∙ unit_written n j c.requires.column in
    let size : length (set row.items j 1) ≡ n = ap length start ∙ (IsVector-unit f n j c.requires.column).len in
    let new : c.add_shares.new.row ≡ kernel_vector f n rows ks j =
    c.add_shares.ensures
    ∙ ap (λ (x : List ℕ). vector_sum f x (left f (length x) rows ks j 0)) (c.deref_mut.ensures.value ∙ start)
    ∙ ap (λ (k : ℕ). vector_sum f (unit n j) (left f k rows ks j 0)) (IsVector-unit f n j c.requires.column).len in
    let hn = IsVector-projected f n rows ks (unit n j) (leads_inside f n rows ks c.requires.reduced) (IsVector-unit f n j c.requires.column) in
    take_at c.add_shares.new.row (drop (length c.add_shares.new.row) (set row.items j 1)) row.len
    (ap length new ∙ hn.len ∙ sym size ∙ length-set row.items j 1 ∙ sym row.ok.0) ∙ new
