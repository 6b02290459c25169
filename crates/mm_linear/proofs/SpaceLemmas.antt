-- What the calls of `Space` owe, over plain values.
use Rattle.std.proofs.Common.{ℕ, ◌+◌, ◌-◌, ◌<◌, ◌≤◌, ◌≡◌, ◌≢◌, ◌↔◌, inl, inr, Bool, true, false, not, Option, Some, None, List, [], ◌∷◌, length, replicate, get_or, refl, sym, ap, ◌∙◌, arith, length-append}
use Rattle.std.specs.Prelude.{IsTrue, IfSome, IfNone, is_some}
use Rattle.std.proofs.lemmas.Bool.{cases_eq}
use Rattle.std.proofs.lemmas.List.{length-replicate, get_or-replicate, get_or-append_right}
use Rattle.std.proofs.lemmas.List.Elements.{All-append, All-replicate, All-cons}
use Rattle.mm_field.specs.declared.Field.{Field}
use Rattle.mm_field.specs.Digits.{order, times, negative, inverse}
use Rattle.mm_field.specs.Vectors.{zeros, AreDigits, IsVector, InSpan, SameRowSpace}
use Rattle.mm_field.proofs.Tables.{times-zero}
use Rattle.mm_field.proofs.VectorLemmas.{get_or-multiple, IsVector-zeros}
use Rattle.mm_field.proofs.CombinationLemmas.{IsWithin-itself, InSpan-one_more}
use Rattle.mm_linear.specs.Echelons.{entry, IsEchelon, ZeroFrom}
use Rattle.mm_linear.specs.Padded.{padded}
use Rattle.mm_linear.specs.Decide.{row_for}
use Rattle.mm_linear.specs.Eliminate.{residue, inserted}
use Rattle.mm_linear.proofs.EchelonLemmas.{combination_entry_zero}
use Rattle.mm_linear.proofs.InsertLemmas.{no_residue, in_span_with_no_residue, IsVector-residue, IsNewRow, inserted_new, inserted_entry, sum_of_zeros, residue_entry}

pub IsVector-padded : (f : Field) (n : ℕ) (v : List ℕ) → length v ≤ n → AreDigits f v → IsVector f n (padded n v)
IsVector-padded f n v l d = record {
  len = length-append v (zeros (n - length v)) ∙ ap (λ x. length v + x) (length-replicate (n - length v) 0) ∙ omega arith;
  digits = All-append (λ d. d < order f) v (zeros (n - length v)) d (IsVector-zeros f (n - length v)).digits;
}

pub padded_past : (n : ℕ) (v : List ℕ) (j : ℕ) → length v ≤ j → j < n → get_or (padded n v) j 0 ≡ 0
padded_past n v j l m =
    get_or-append_right v (zeros (n - length v)) (length v) j 0 refl l
    ∙ get_or-replicate (n - length v) (j - length v) 0 0 (omega arith)

zero_entry : (n i j : ℕ) → i < n → j < n → entry (replicate n (zeros n)) i j ≡ 0
zero_entry n i j l m =
    ap (λ r. get_or r j 0) (get_or-replicate n i (zeros n) [] l) ∙ get_or-replicate n j 0 0 m

pub IsEchelon-zeros : (f : Field) (n : ℕ) → IsEchelon f n (replicate n (zeros n))
IsEchelon-zeros f n = record {
  count = length-replicate n (zeros n);
  each = All-replicate (λ v. IsVector f n v) n (zeros n) (IsVector-zeros f n);
  after = λ i j lt l. zero_entry n i j (omega arith) l;
  pivot = λ i l. inl (get_or-replicate n i (zeros n) [] l);
  clear = λ i k li lk ne one. zero_entry n i k li lk;
}

pub zeros_within : (n r i j : ℕ) → i < n → r ≤ j → j < n → entry (replicate n (zeros n)) i j ≡ 0
zeros_within n r i j l m k = zero_entry n i j l k

pub false_true : (P : Type 0) → false ≡ true → P
false_true P e = cc

pub contains_decides : (f : Field) (n : ℕ) (rows : List (List ℕ)) (v rest : List ℕ) (o : Option ℕ) (b : Bool) →
    IsEchelon f n rows → IsVector f n v → rest ≡ residue f n v rows →
    IfSome o (λ p. (p < n) × (get_or rest p 0 ≢ 0)) → IfNone o (rest ≡ zeros n) →
    is_some o ≡ not b → IsTrue b ↔ InSpan f n rows v
contains_decides f n rows v rest None true h hv e found none i = (
  (λ t. in_span_with_no_residue f n v rows h hv (sym e ∙ none)),
  (λ s. refl),
)
contains_decides f n rows v rest None false h hv e found none i = false_true _ i
contains_decides f n rows v rest (Some p) true h hv e found none i = false_true _ (sym i)
contains_decides f n rows v rest (Some p) false h hv e found none i = (
  (λ t. false_true _ t),
  (λ s. absurd (found.1
      (ap (λ u. get_or u p 0) (e ∙ no_residue f n v rows h hv s)
      ∙ get_or-replicate n p 0 0 found.0))),
)

-- the residue has a zero where v and the rows have
pub residue_past : (f : Field) (n r : ℕ) (v : List ℕ) (rows : List (List ℕ)) → IsEchelon f n rows → IsVector f n v → ZeroFrom n r rows →
    (j : ℕ) → r ≤ j → j < n → get_or v j 0 ≡ 0 → get_or (residue f n v rows) j 0 ≡ 0
residue_past f n r v rows h hv z j lj l e =
    residue_entry f n v rows h.each hv j l
    ∙ sum_of_zeros f (get_or v j 0) _ e
    (ap (times f (negative f 1))
    (combination_entry_zero f n v rows j h.each l
    (λ i li. ap (times f (get_or v i 0)) (z i j (let c : length rows ≡ n = h.count in omega arith) lj l)
    ∙ times-zero f (get_or v i 0)))
    ∙ times-zero f (negative f 1))

pub inserted_within : (f : Field) (n r p : ℕ) (v : List ℕ) (rows : List (List ℕ)) → IsEchelon f n rows → IsVector f n v →
    ZeroFrom n r rows → ((j : ℕ) → r ≤ j → j < n → get_or v j 0 ≡ 0) → IsNewRow f n rows p (row_for f n p v rows) →
    ZeroFrom n r (inserted f p (row_for f n p v rows) rows)
inserted_within f n r p v rows h hv z zv new i j li lj l =
    let u = residue f n v rows in
    let a = inverse f (get_or u p 0) in
    let w = row_for f n p v rows in
    let lu : length u ≡ n = (IsVector-residue f n v rows h.each hv).len in
    let w_zero : get_or w j 0 ≡ 0 =
    get_or-multiple f a u j (omega arith) ∙ ap (times f a) (residue_past f n r v rows h hv z j lj l (zv j lj l))
    ∙ times-zero f a in
    elim (cases_eq i p) [
      | inl e ↦
          ap (λ m. entry (inserted f p w rows) m j) e
          ∙ ap (λ x. get_or x j 0) (inserted_new f n p w rows h.count new.place)
          ∙ w_zero
      | inr ne ↦
          inserted_entry f n p w rows h new.vector i j li l ne
          ∙ sum_of_zeros f (entry rows i j) _ (z i j li lj l)
          (ap (times f (negative f (entry rows i p))) w_zero ∙ times-zero f (negative f (entry rows i p)))
    ]

pub same_span_inside : (f : Field) (n : ℕ) (v : List ℕ) (rows : List (List ℕ)) → IsEchelon f n rows → IsVector f n v →
    residue f n v rows ≡ zeros n → SameRowSpace f n (v ∷ rows) rows
same_span_inside f n v rows h hv e = (
  All-cons (λ u. InSpan f n rows u) v rows (in_span_with_no_residue f n v rows h hv e) (IsWithin-itself f n rows h.each),
  λ k d l. InSpan-one_more f n v rows (get_or rows k d) hv h.each (IsWithin-itself f n rows h.each k d l),
)
