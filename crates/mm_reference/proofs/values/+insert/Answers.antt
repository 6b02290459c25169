use Rattle.std.proofs.Common.{◌≡◌, Box, Global, refl, sym, ap, ap₂, ◌∙◌}
use Rattle.std.specs.declared.cmp.Ordering.TheVariants.{Less, Equal, Greater}
use Rattle.mm_logic.specs.Value as value_spec
use Rattle.mm_logic.specs.Value.{value_cmp, set_of}
use Rattle.mm_reference.specs.Values.{value_of}
use Rattle.mm_reference.specs.declared.values.Value.{Value, Flag, Dead, Span, Pair', Empty, With'}
use Rattle.mm_reference.specs.declared.values.Value.TheViews.{With}
use Rattle.mm_reference_meaning.specs.Rows.{rows_of}
use Rattle.mm_reference.proofs.InsertionLemmas.{put_first, there_already, put_later, put_alone}
use Rattle.mm_reference.proofs.values.+insert.Goals as goal

pub returns-in_ok-new-in-Less : goal.returns-in_ok-new-in-Less
returns-in_ok-new-in-Less t c = λ ws e.
    let v = value_of c.args.value in
    let w = value_of c.in-With.least.value in
    let rest = value_of c.in-With.rest.value in
    let here : value_spec.Value.With w rest ≡ set_of ws = sym (ap value_of c.in-With.is) ∙ e in
    let minus_multiple : value_cmp v w ≡ Less = ap (λ x. value_cmp v (value_of x)) (sym c.deref.ensures) ∙ sym c.compare.ensures ∙ c.in-Less.is in
    ap₂ (λ x y. value_spec.Value.With (value_of x) (value_of y)) c.in_ok-new-in-Less.ensures.ok c.in_ok-others-in-Less.ensures.ok
    ∙ put_first v w rest ws here minus_multiple

pub returns-in-Equal : goal.returns-in-Equal
returns-in-Equal t c = λ ws e.
    let v = value_of c.args.value in
    let w = value_of c.in-With.least.value in
    let rest = value_of c.in-With.rest.value in
    let here : value_spec.Value.With w rest ≡ set_of ws = sym (ap value_of c.in-With.is) ∙ e in
    let equal : value_cmp v w ≡ Equal = ap (λ x. value_cmp v (value_of x)) (sym c.deref.ensures) ∙ sym c.compare.ensures ∙ c.in-Equal.is in
    there_already v w rest ws here equal

pub returns-in_ok-others-in-Greater : goal.returns-in_ok-others-in-Greater
returns-in_ok-others-in-Greater t c = λ ws e.
    let v = value_of c.args.value in
    let w = value_of c.in-With.least.value in
    let rest = value_of c.in-With.rest.value in
    let here : value_spec.Value.With w rest ≡ set_of ws = sym (ap value_of c.in-With.is) ∙ e in
    let greater : value_cmp v w ≡ Greater = ap (λ x. value_cmp v (value_of x)) (sym c.deref.ensures) ∙ sym c.compare.ensures ∙ c.in-Greater.is in
    ap (λ x. value_spec.Value.With w (value_of x)) c.in_ok-others-in-Greater.ensures.ok
    ∙ put_later v w rest (value_of c.in_ok-insert-in-Greater.field-0) ws here greater
    (λ xs k. c.in_ok-insert-in-Greater.ensures xs (ap value_of c.into_inner.ensures ∙ k))

-- what is no set with a least value in the code is none in the definitions
not_with : (u : Value) → ((x x' : Box Value Global) → u ≡ With x x' → ⊥) → (w rest : value_spec.Value) → value_of u ≡ value_spec.Value.With w rest → ⊥
not_with (Flag n) other w rest e = let clash : value_spec.Value.Flag n ≡ value_spec.Value.With w rest = e in cc
not_with Dead other w rest e = let clash : value_spec.Value.Dead ≡ value_spec.Value.With w rest = e in cc
not_with (Span t rows) other w rest e = let clash : value_spec.Value.Span t (rows_of rows.items) ≡ value_spec.Value.With w rest = e in cc
not_with (Pair' p a q b) other w rest e = let clash : value_spec.Value.Pair (value_of a) (value_of b) ≡ value_spec.Value.With w rest = e in cc
not_with Empty other w rest e = let clash : value_spec.Value.Empty ≡ value_spec.Value.With w rest = e in cc
not_with (With' p a q b) other w rest e = other (record { ptr = p.ptr; alloc = p.alloc; value = a }) (record { ptr = q.ptr; alloc = q.alloc; value = b }) refl

pub returns-in_ok-new-in_default-2 : goal.returns-in_ok-new-in_default-2
returns-in_ok-new-in_default-2 t c = λ ws e.
    ap₂ (λ x y. value_spec.Value.With (value_of x) (value_of y)) c.in_ok-new-in_default.ensures.ok c.in_ok-new-in_default-2.ensures.ok
    ∙ put_alone (value_of c.args.value) (value_of c.args.set) ws (not_with c.args.set c.in_default.not-With) e
