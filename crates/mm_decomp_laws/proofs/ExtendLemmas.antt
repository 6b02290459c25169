-- A list that is extended to the span of further rows.
use Rattle.std.proofs.Common.{ℕ, ◌<◌, ◌≡◌, Bool, true, false, List, [], ◌∷◌, ◌++◌, length, get_or, refl, sym, ap, subst, ◌∙◌, arith, append_assoc, append-nil, length-append}
use Rattle.std.specs.Prelude.{if◌then◌else◌}
use Rattle.std.proofs.lemmas.List.{get_or_append_left, get_or_push}
use Rattle.std.proofs.lemmas.List.Elements.{All-nil, All-cons, All-append, All-head, All-tail}
use Rattle.mm_field.specs.declared.Field.{Field}
use Rattle.mm_field.specs.Vectors.{IsVector, AreVectors, InSpan, AreIndependent, IsWithin}
use Rattle.mm_field.proofs.CombinationLemmas.{first_row, other_rows, InSpan-within, IsWithin-itself}
use Rattle.mm_linear.specs.Decide.{is_in_span}
use Rattle.mm_decomp.specs.Meets.{extended}
use Rattle.mm_linear.proofs.IndependenceLemmas.{independent_more}
use Rattle.mm_linear.proofs.MeetTest.{is_in_span_decides}
use Rattle.mm_linear.proofs.SpaceLemmas.{false_true}
use Rattle.mm_decomp_laws.proofs.IndependenceLemmas.{independent_swapped}

pub record IsExtension (f : Field) (n : ℕ) (base rows list : List (List ℕ)) : Type 0 where
  pub more : List (List ℕ)
  pub front : list ≡ base ++ more
  pub each : AreVectors f n list
  pub independent : AreIndependent f n list
  pub reaches : IsWithin f n rows list
  pub within : (sows : List (List ℕ)) → AreVectors f n sows → IsWithin f n base sows → IsWithin f n rows sows → IsWithin f n list sows

-- the front of a list is within it
front_within : (f : Field) (n : ℕ) (base more list : List (List ℕ)) → AreVectors f n list → list ≡ base ++ more → IsWithin f n base list
front_within f n base more list h e = λ k d l.
    let lk : k < length list = (let a = length-append base more in let b = ap length e in omega arith) in
    subst (λ v. InSpan f n list v) (ap (λ (vs : List (List ℕ)). get_or vs k d) e ∙ get_or_append_left base more d k l) (IsWithin-itself f n list h k d lk)

pub extended_is : (f : Field) (n : ℕ) (base rows : List (List ℕ)) → AreVectors f n base → AreVectors f n rows → AreIndependent f n base →
    IsExtension f n base rows (extended f n base rows)
extended_is f n base [] hb hr ind = record {
  more = [];
  front = sym (append-nil base);
  each = hb;
  independent = ind;
  reaches = All-nil (λ v. InSpan f n base v);
  within = λ sows hs wb wr. wb;
}
extended_is f n base (v ∷ vs) hb hr ind =
    go (λ b hb ind. extended_is f n b vs hb (other_rows f n v vs hr) ind) (is_in_span f n base v) refl
  where
    hv : IsVector f n v
    hv = first_row f n v vs hr

    hs : AreVectors f n vs
    hs = other_rows f n v vs hr

    none : AreVectors f n []
    none = All-nil (λ v. IsVector f n v)

    one : AreVectors f n (v ∷ [])
    one = All-cons (λ v. IsVector f n v) v [] hv none

    go : ((b : List (List ℕ)) → AreVectors f n b → AreIndependent f n b → IsExtension f n b vs (extended f n b vs)) →
        (b : Bool) → is_in_span f n base v ≡ b → IsExtension f n base (v ∷ vs) (extended f n (if b then base else base ++ v ∷ []) vs)
    go ih true t =
        let e = ih base hb ind in
        let inside : InSpan f n base v = (is_in_span_decides f n base v hb hv).0 t in
        let base_in : IsWithin f n base (extended f n base vs) = front_within f n base e.more (extended f n base vs) e.each e.front in
        record {
          more = e.more;
          front = e.front;
          each = e.each;
          independent = e.independent;
          reaches = All-cons (λ u. InSpan f n (extended f n base vs) u) v vs (InSpan-within f n base (extended f n base vs) v e.each base_in inside) e.reaches;
          within = λ sows hw wb wr. e.within sows hw wb (All-tail (λ u. InSpan f n sows u) v vs wr);
        }
    go ih false t =
        let out : InSpan f n base v → ⊥ = λ p. false_true ⊥ (sym t ∙ (is_in_span_decides f n base v hb hv).1 p) in
        let big = All-append (λ v. IsVector f n v) base (v ∷ []) hb one in
        let ind2 = independent_swapped f n (v ∷ []) base one hb (independent_more f n v base hv hb ind out) in
        let e = ih (base ++ v ∷ []) big ind2 in
        let base_in : IsWithin f n (base ++ v ∷ []) (extended f n (base ++ v ∷ []) vs) = front_within f n (base ++ v ∷ []) e.more (extended f n (base ++ v ∷ []) vs) e.each e.front in
        record {
          more = v ∷ e.more;
          front = e.front ∙ append_assoc base (v ∷ []) e.more;
          each = e.each;
          independent = e.independent;
          reaches = All-cons (λ u. InSpan f n (extended f n (base ++ v ∷ []) vs) u) v vs (subst (λ u. InSpan f n (extended f n (base ++ v ∷ []) vs) u) (get_or_push base v [] (length base) (let x : length base ≡ length base = refl in omega arith)) (base_in (length base) [] (let a = length-append base (v ∷ []) in omega arith))) e.reaches;
          within = λ sows hw wb wr. e.within sows hw (All-append (λ u. InSpan f n sows u) base (v ∷ []) wb (All-cons (λ u. InSpan f n sows u) v [] (All-head (λ u. InSpan f n sows u) v vs wr) (All-nil (λ u. InSpan f n sows u)))) (All-tail (λ u. InSpan f n sows u) v vs wr);
        }
