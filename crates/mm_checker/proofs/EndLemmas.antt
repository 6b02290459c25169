-- When a value is put behind others.
use Rattle.std.proofs.Common.{◌≡◌, ◌==◌, ℕ, Bool, true, false, not, ◌&&◌, ◌||◌, List, [], ◌∷◌, ◌++◌, refl, sym, ap, ◌∙◌, arith, if◌then◌else◌}
use Rattle.std.proofs.lemmas.Cmp.{eq_by_cmp_equiv}
use Rattle.std.specs.List.{list_any}
use Rattle.std.proofs.lemmas.Bool.{eqb-true}
use Rattle.mm_field.specs.declared.Field.{Field}
use Rattle.mm_logic.specs.Occurrence.{same}
use Rattle.mm_logic.specs.Value.{Value}
use Rattle.mm_logic.specs.Value.Value.{Span}
use Rattle.mm_space.specs.KeyValue.{KeyValue, packed}
use Rattle.mm_space.specs.KeyView.{IsReduced}
use Rattle.mm_checker.specs.Contents.{is_same}
use Rattle.mm_checker.specs.Certificates.{is_valued}
use Rattle.mm_checker.specs.KeptValues.{IsOver, AreOver, IsNewValue}
use Rattle.mm_checker.specs.declared.certificate.Content.{Content}
use Rattle.mm_checker.specs.declared.certificate.Content.TheVariants as content
use Rattle.mm_checker.specs.declared.certificate.Valued.{Valued}
use Rattle.mm_checker.specs.contracts.certificate.ContentPartialEq.TheImpl.{eq-value as content_eq}
use Rattle.mm_checker.specs.contracts.certificate.ValuedPartialEq.TheImpl.{eq-value as valued_eq}
use Rattle.mm_logic.proofs.ValueLemmas.{value_total}
use Rattle.mm_checker.proofs.PackedLemmas.{packed_same}
use Rattle.mm_checker.proofs.RuleLemmas.{same_value}

same_self : (v : Value) → same v v ≡ true
same_self = (eq_by_cmp_equiv value_total).refl

both_ways : (a b : Bool) → (a ≡ true → b ≡ true) → (b ≡ true → a ≡ true) → a ≡ b
both_ways true b f g = sym (f refl)
both_ways false true f g = g refl
both_ways false false f g = refl

eqb-itself : (n : ℕ) → (n == n) ≡ true
eqb-itself n = grind (arith)

abbrev span_length : Value → ℕ
span_length (Span t rows) = t
span_length _ = 0

abbrev span_rows : Value → List (List ℕ)
span_rows (Span t rows) = rows
span_rows _ = []

-- equal keys of one field have equal values
keys_exact : (f : Field) (a b : KeyValue) → (a.f ≡ f) × IsReduced a → (b.f ≡ f) × IsReduced b → (packed a == packed b) ≡ same (Span a.t a.rows) (Span b.t b.rows)
keys_exact f a b h k =
    both_ways (packed a == packed b) (same (Span a.t a.rows) (Span b.t b.rows))
    (λ e.
    let z : a ≡ b = packed_same f a b h k (eqb-true (packed a) (packed b) e) in
    ap (λ (c : KeyValue). same (Span a.t a.rows) (Span c.t c.rows)) (sym z) ∙ same_self (Span a.t a.rows))
    (λ e.
    let v = same_value (Span a.t a.rows) (Span b.t b.rows) e in
    let z : a ≡ b = λ i. record { f = (h.0 ∙ sym k.0) i; t = ap span_length v i; rows = ap span_rows v i } in
    ap (λ (c : KeyValue). packed a == packed c) (sym z) ∙ eqb-itself (packed a))

contents_exact : (f : Field) (c d : Content) → IsOver f c → IsOver f d → (content_eq).it c d ≡ is_same c d
contents_exact f (content.Flag n) (content.Flag m) h i = refl
contents_exact f (content.Flag n) content.Dead h i = refl
contents_exact f (content.Flag n) (content.Space j) h i = refl
contents_exact f (content.Flag n) (content.Parts c d) h i = refl
contents_exact f (content.Flag n) (content.SetOf ms) h i = refl
contents_exact f (content.Flag n) (content.OneOf c ms) h i = refl
contents_exact f content.Dead (content.Flag m) h i = refl
contents_exact f content.Dead content.Dead h i = refl
contents_exact f content.Dead (content.Space j) h i = refl
contents_exact f content.Dead (content.Parts c d) h i = refl
contents_exact f content.Dead (content.SetOf ms) h i = refl
contents_exact f content.Dead (content.OneOf c ms) h i = refl
contents_exact f (content.Space k) (content.Flag m) h i = refl
contents_exact f (content.Space k) content.Dead h i = refl
contents_exact f (content.Space k) (content.Space j) h i = keys_exact f k j h i
contents_exact f (content.Space k) (content.Parts c d) h i = refl
contents_exact f (content.Space k) (content.SetOf ms) h i = refl
contents_exact f (content.Space k) (content.OneOf c ms) h i = refl
contents_exact f (content.Parts a b) (content.Flag m) h i = refl
contents_exact f (content.Parts a b) content.Dead h i = refl
contents_exact f (content.Parts a b) (content.Space j) h i = refl
contents_exact f (content.Parts a b) (content.Parts c d) h i = refl
contents_exact f (content.Parts a b) (content.SetOf ms) h i = refl
contents_exact f (content.Parts a b) (content.OneOf c ms) h i = refl
contents_exact f (content.SetOf ns) (content.Flag m) h i = refl
contents_exact f (content.SetOf ns) content.Dead h i = refl
contents_exact f (content.SetOf ns) (content.Space j) h i = refl
contents_exact f (content.SetOf ns) (content.Parts c d) h i = refl
contents_exact f (content.SetOf ns) (content.SetOf ms) h i = refl
contents_exact f (content.SetOf ns) (content.OneOf c ms) h i = refl
contents_exact f (content.OneOf a ns) (content.Flag m) h i = refl
contents_exact f (content.OneOf a ns) content.Dead h i = refl
contents_exact f (content.OneOf a ns) (content.Space j) h i = refl
contents_exact f (content.OneOf a ns) (content.Parts c d) h i = refl
contents_exact f (content.OneOf a ns) (content.SetOf ms) h i = refl
contents_exact f (content.OneOf a ns) (content.OneOf c ms) h i = refl

values_exact : (f : Field) (v w : Valued) → IsOver f v.content → IsOver f w.content → (valued_eq).it v w ≡ is_valued v w
values_exact f v w h k = ap (λ b. (v.place == w.place) && b) (contents_exact f v.content w.content h k)

-- whether two values are equal in the program
abbrev pub same_valued : Valued → Valued → Bool
same_valued = (valued_eq).it

any_exact : (f : Field) (v : Valued) (values : List Valued) → IsOver f v.content → AreOver f values → list_any ((valued_eq).it v) values ≡ list_any (is_valued v) values
any_exact f v [] h k = refl
any_exact f v (w ∷ values) h k = λ i. values_exact f v w h k.0 i || any_exact f v values h k.1 i

put_by : (values : List Valued) (v : Valued) (b r : Bool) (now : List Valued) → list_any (is_valued v) values ≡ b → r ≡ not b
    → now ≡ (if b then values else values ++ v ∷ []) → IsNewValue values v r now
put_by values v true true now e h k = let no : true ≡ false = h in cc
put_by values v true false now e h k = e
put_by values v false true now e h k = (e, k)
put_by values v false false now e h k = let no : false ≡ true = h in cc

pub put_is : (f : Field) (values : List Valued) (v : Valued) (r : Bool) (now : List Valued) → AreOver f values → IsOver f v.content
    → r ≡ not (list_any ((valued_eq).it v) values) → now ≡ (if list_any ((valued_eq).it v) values then values else values ++ v ∷ []) → IsNewValue values v r now
put_is f values v r now hs h e k = put_by values v (list_any ((valued_eq).it v) values) r now (sym (any_exact f v values h hs)) e k
