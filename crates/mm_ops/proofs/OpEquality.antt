-- Operators that are equal, field by field, are one operator.
use Rattle.std.proofs.Common.{ℕ, ◌≡◌, ◌&&◌, ◌==◌, List, true, refl, ap, ◌∙◌}
use Rattle.std.specs.Str.{bytes_eq}
use Rattle.std.specs.Cmp.Lexicographic.{pointwise}
use Rattle.std.proofs.lemmas.Slice.Eq.{bytes_eq-Decides, slice_eq-Decides}
use Rattle.std.proofs.lemmas.Bool.{and_parts, eqb-true}
use Rattle.mm_field.specs.contracts.FieldPartialEq.TheImpl.{eq-value as field_eq}
use Rattle.mm_field.specs.declared.Field.{Field}
use Rattle.mm_field.specs.declared.Field.TheVariants.{Two, Three, Four, Five}
use Rattle.mm_logic.specs.Operator.{row_length}
use Rattle.mm_ops.specs.OpValue.{OpValue, operator}
use Rattle.mm_ops.specs.contracts.op.OpPartialEq.TheImpl.{eq-value as op_eq}
use Rattle.mm_space.specs.contracts.generator.GenPartialEq.TheImpl.{eq-value as gen_eq}

rows_same : (g h : List (List ℕ)) → (gen_eq).it g h ≡ true → g ≡ h
rows_same g h e = (slice_eq-Decides bytes_eq-Decides g h (pointwise bytes_eq g h) refl).0 e

field_same : (f g : Field) → (field_eq).it f g ≡ true → f ≡ g
field_same Two Two e = refl
field_same Two Three e = cc
field_same Two Four e = cc
field_same Two Five e = cc
field_same Three Two e = cc
field_same Three Three e = refl
field_same Three Four e = cc
field_same Three Five e = cc
field_same Four Two e = cc
field_same Four Three e = cc
field_same Four Four e = refl
field_same Four Five e = cc
field_same Five Two e = cc
field_same Five Three e = cc
field_same Five Four e = cc
field_same Five Five e = refl

pub op_same : (a b : OpValue) → (op_eq).it a b ≡ true → a ≡ b
op_same a b e =
    let o = a.op in
    let p = b.op in
    let g3 = (gen_eq).it o.g3 p.g3 in
    let g2 = (gen_eq).it o.g2 p.g2 && g3 in
    let g1 = (gen_eq).it o.g1 p.g1 && g2 in
    let r = (row_length o == row_length p) && g1 in
    let f = (field_eq).it a.f b.f && r in
    let c = (o.c == p.c) && f in
    let t3 = (o.t3 == p.t3) && c in
    let t2 = (o.t2 == p.t2) && t3 in
    let at_t1 = and_parts (o.t1 == p.t1) t2 e in
    let at_t2 = and_parts (o.t2 == p.t2) t3 at_t1.1 in
    let at_t3 = and_parts (o.t3 == p.t3) c at_t2.1 in
    let at_c = and_parts (o.c == p.c) f at_t3.1 in
    let at_f = and_parts ((field_eq).it a.f b.f) r at_c.1 in
    let at_r = and_parts (row_length o == row_length p) g1 at_f.1 in
    let at_g1 = and_parts ((gen_eq).it o.g1 p.g1) g2 at_r.1 in
    let at_g2 = and_parts ((gen_eq).it o.g2 p.g2) g3 at_g1.1 in
    ap (λ f. record { f = f; op = o }) (field_same a.f b.f at_f.0)
    ∙ ap (λ n. record { f = b.f; op = operator n o.t2 o.t3 o.c o.g1 o.g2 o.g3 }) (eqb-true o.t1 p.t1 at_t1.0)
    ∙ ap (λ n. record { f = b.f; op = operator p.t1 n o.t3 o.c o.g1 o.g2 o.g3 }) (eqb-true o.t2 p.t2 at_t2.0)
    ∙ ap (λ n. record { f = b.f; op = operator p.t1 p.t2 n o.c o.g1 o.g2 o.g3 }) (eqb-true o.t3 p.t3 at_t3.0)
    ∙ ap (λ n. record { f = b.f; op = operator p.t1 p.t2 p.t3 n o.g1 o.g2 o.g3 }) (eqb-true o.c p.c at_c.0)
    ∙ ap (λ g. record { f = b.f; op = operator p.t1 p.t2 p.t3 p.c g o.g2 o.g3 }) (rows_same o.g1 p.g1 at_g1.0)
    ∙ ap (λ g. record { f = b.f; op = operator p.t1 p.t2 p.t3 p.c p.g1 g o.g3 }) (rows_same o.g2 p.g2 at_g2.0)
    ∙ ap (λ g. record { f = b.f; op = operator p.t1 p.t2 p.t3 p.c p.g1 p.g2 g }) (rows_same o.g3 p.g3 at_g2.1)
