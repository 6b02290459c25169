use Rattle.std.proofs.Common.{ℕ, ◌≡◌, ◌≤◌, ◌-◌, List, [], ◌∷◌, length, drop, get_or, sym, subst, arith}
use Rattle.std.proofs.lemmas.List.Elements.{All-drop}
use Rattle.mm_field.specs.Vectors.{IsVector}
use Rattle.mm_linear.proofs.SumLemmas.{next_rows}
use Rattle.mm_ops.proofs.IndependenceSteps.{span_with}
use Rattle.mm_space.specs.SpaceValue.{IsSpanOf}
use Rattle.mm_cert_lines.proofs.BasisLemmas.{span_key}
use Rattle.mm_cert_lines.proofs.spaces.span.Goals as goal

pub loop-k-preserved : goal.loop-k-preserved
loop-k-preserved c =
    let f = c.args.f in
    let t = c.args.t in
    let g = c.args.rows.now in
    let k = c.loop-k.k in
    let within : k ≤ length g = omega (arith, c.rows-k.ensures) in
    let v = get_or g (k - 1) [] in
    let hv : IsVector f t v = c.requires.rows (k - 1) [] (omega arith) in
    let new : IsSpanOf c.loop-k.space.f c.loop-k.space.r (v ∷ c.loop-k.space.rows) c.add_vector.new.self =
    subst (λ (u : List ℕ). IsSpanOf c.loop-k.space.f c.loop-k.space.r (u ∷ c.loop-k.space.rows) c.add_vector.new.self) c.row.ensures c.add_vector.ensures in
    subst (λ (xs : List (List ℕ)). IsSpanOf f t xs c.add_vector.new.self) (sym (next_rows g k (omega arith) within))
    (span_with f t v (drop k g) c.loop-k.space c.add_vector.new.self hv (All-drop (λ u. IsVector f t u) k g c.requires.rows) c.loop-k.invariant new)

pub returns-clause-rows : goal.returns-clause-rows
returns-clause-rows c =
    let f = c.args.f in
    let t = c.args.t in
    let g = c.args.rows.now in
    let done : c.loop-k.k ≡ 0 = omega (arith, c.loop-k-test.false) in
    let all : IsSpanOf f t g c.loop-k.space = subst (λ (k : ℕ). IsSpanOf f t (drop k g) c.loop-k.space) done c.loop-k.invariant in
    (span_key f t g c.loop-k.space c.head.result c.requires.rows all c.head.ensures).basis
