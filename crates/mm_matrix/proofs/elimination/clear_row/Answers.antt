use Rattle.std.proofs.Common.{◌≡◌, ◌-◌, [], ◌++◌, length, take, drop, get_or, sym, ap, ap₂, ◌∙◌, arith, append-nil, length-drop}
use Rattle.std.proofs.lemmas.List.{drop_all, take_all}
use Rattle.mm_field.specs.Digits.{negative}
use Rattle.mm_field.specs.Vectors.{vector_sum, multiple}
use Rattle.mm_field.proofs.VectorLemmas.{add_no_multiple}
use Rattle.mm_linear.proofs.EchelonLemmas.{negative-zero}
use Rattle.mm_matrix.proofs.LeadLemmas.{sum_from_lead}
use Rattle.mm_matrix.proofs.elimination.clear_row.Goals as goal

pub returns : goal.returns
returns c =
    let f = c.args.f in
    let p = c.args.lead in
    let row = c.args.row.now in
    let w = c.args.w.now in
    let n = length w in
    let k = length row - p in
    let place = c.requires.place in
    let lr : length row ≡ n = c.requires.row.len in
    let a = length-drop p row in
    let none : drop k (drop p row) ≡ [] = drop_all k (drop p row) (omega arith) in
    let whole : take k (drop p row) ≡ drop p row = take_all k (drop p row) (omega arith) in
    let b = length-drop p w in
    let all : take (length w - p) (drop p w) ≡ drop p w = take_all (length w - p) (drop p w) (omega arith) in
    ap (λ z. take p row ++ (c.axpy.new.y ++ z)) none
    ∙ ap (λ z. take p row ++ z) (append-nil c.axpy.new.y ∙ c.axpy.ensures ∙ ap₂ (λ u v. vector_sum f u (multiple f c.neg-factor.result v)) whole all)
    ∙ ap (λ a. take p row ++ vector_sum f (drop p row) (multiple f a (drop p w))) c.neg-factor.ensures.negative
    ∙ sum_from_lead f n p (negative f (get_or row p 0)) w row c.requires.row (omega arith) c.requires.start

pub returns-then-digit-eq0 : goal.returns-then-digit-eq0
returns-then-digit-eq0 c =
    let f = c.args.f in
    let none = c.if-digit-eq0.true in
    let w = c.requires.vector in
    let row = c.requires.row in
    add_no_multiple f (negative f (get_or c.args.row.now c.args.lead 0)) c.args.w.now c.args.row.now
    (ap (negative f) none ∙ negative-zero f) (w.len ∙ sym row.len) row.digits
