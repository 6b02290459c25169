use Rattle.std.proofs.Common.{ℕ, ◌≡◌, ◌≤◌, ◌-◌, List, [], ◌∷◌, length, drop, get_or, sym, ap, ◌∙◌, subst, arith}
use Rattle.std.proofs.lemmas.List.{drop_all}
use Rattle.std.proofs.lemmas.List.Elements.{All-drop, All-cons}
use Rattle.std.proofs.lemmas.Bool.{both_ways}
use Rattle.mm_field.specs.Vectors.{IsVector, InSpan}
use Rattle.mm_linear.specs.Decide.{is_independent}
use Rattle.mm_linear.proofs.DecideLemmas.{no_rows_independent}
use Rattle.mm_linear.proofs.SumLemmas.{next_rows}
use Rattle.mm_space.specs.SpaceValue.{IsIn, IsSpanOf}
use Rattle.mm_ops.proofs.IndependenceSteps.{one_more, one_too_many, dependent_tail, in_span_of, span_with}
use Rattle.mm_ops.proofs.independence.are_independent.Goals as goal

pub loop-k-init : goal.loop-k-init
loop-k-init c =
    let none : drop c.rows-k.result c.args.g.now ≡ [] = drop_all c.rows-k.result c.args.g.now (omega (arith, c.rows-k.ensures)) in
    record {
      span = subst (λ (xs : List (List ℕ)). IsSpanOf c.args.f c.args.r xs c.zero-span.result) (sym none) c.zero-span.ensures;
      independent = ap (is_independent c.args.f c.args.r) none ∙ no_rows_independent c.args.f c.args.r;
    }

pub returns-then-contains : goal.returns-then-contains
returns-then-contains c =
    let f = c.args.f in
    let r = c.args.r in
    let g = c.args.g.now in
    let k = c.loop-k.k in
    let within : k ≤ length g = omega (arith, c.rows-k.ensures) in
    let more = next_rows g k (omega arith) within in
    let rest = All-drop (λ v. IsVector f r v) k g c.requires.rows in
    let hv : IsVector f r (get_or g (k - 1) []) = c.requires.rows (k - 1) [] (omega arith) in
    let inside : InSpan f r (drop k g) (get_or g (k - 1) []) =
    (in_span_of f r (drop k g) c.loop-k.span (get_or g (k - 1) []) rest c.loop-k.invariant.span).0
    (subst (λ (v : List ℕ). IsIn c.loop-k.span v) c.row-row.ensures (c.contains.ensures.0 c.if-contains.true)) in
    sym (dependent_tail f r (k - 1) g c.requires.rows
    (ap (is_independent f r) more
    ∙ one_too_many f r (get_or g (k - 1) []) (drop k g) (All-cons (λ v. IsVector f r v) (get_or g (k - 1) []) (drop k g) hv rest) inside))

pub loop-k-preserved : goal.loop-k-preserved
loop-k-preserved c =
    let f = c.args.f in
    let r = c.args.r in
    let g = c.args.g.now in
    let k = c.loop-k.k in
    let within : k ≤ length g = omega (arith, c.rows-k.ensures) in
    let more = next_rows g k (omega arith) within in
    let rest = All-drop (λ v. IsVector f r v) k g c.requires.rows in
    let v = get_or g (k - 1) [] in
    let hv : IsVector f r v = c.requires.rows (k - 1) [] (omega arith) in
    let outside : InSpan f r (drop k g) v → ⊥ = λ p.
    both_ways c.contains.result c.if-contains.false (c.contains.ensures.1
    (subst (λ (u : List ℕ). IsIn c.loop-k.span u) (sym c.row-row.ensures)
    ((in_span_of f r (drop k g) c.loop-k.span v rest c.loop-k.invariant.span).1 p))) in
    let new : IsSpanOf c.loop-k.span.f c.loop-k.span.r (v ∷ c.loop-k.span.rows) c.add_vector.new.self =
    subst (λ (u : List ℕ). IsSpanOf c.loop-k.span.f c.loop-k.span.r (u ∷ c.loop-k.span.rows) c.add_vector.new.self) c.row-row.ensures c.add_vector.ensures in
    record {
      span =
          subst (λ (xs : List (List ℕ)). IsSpanOf f r xs c.add_vector.new.self) (sym more)
          (span_with f r v (drop k g) c.loop-k.span c.add_vector.new.self hv rest c.loop-k.invariant.span new);
      independent =
          ap (is_independent f r) more
          ∙ one_more f r v (drop k g) (All-cons (λ v. IsVector f r v) v (drop k g) hv rest) c.loop-k.invariant.independent outside;
    }
