-- Linear maps that send zero alone to zero: spans, meets and independence stay.
use Rattle.std.proofs.Common.{ℕ, suc, ◌<◌, ◌≡◌, ◌↔◌, List, [], ◌∷◌, length, map, get_or, sym, ap, ◌∙◌, subst, arith}
use Rattle.std.proofs.lemmas.List.{length-map}
use Rattle.mm_field.specs.declared.Field.{Field}
use Rattle.mm_field.specs.Digits.{negative, times}
use Rattle.mm_field.specs.Vectors.{zeros, vector_sum, multiple, combination, times_matrix, IsVector, AreVectors, InSpan, AreIndependent}
use Rattle.mm_field.proofs.Tables.{times-zero}
use Rattle.mm_field.proofs.VectorLemmas.{opposite-vector_sum, IsVector-multiple, IsVector-vector_sum}
use Rattle.mm_field.proofs.CombinationLemmas.{IsVector-combination, first_row, other_rows}
use Rattle.mm_field.proofs.PartLemmas.{combination-map}
use Rattle.mm_linear.specs.Sums.{MeetTrivially}
use Rattle.mm_linear.specs.ReducedEchelon.{Leads}
use Rattle.mm_linear.proofs.BasisLemmas.{ended}
use Rattle.mm_linear.proofs.EchelonLemmas.{combination_entry_zero, zero_not_one}
use Rattle.mm_linear.proofs.IndependenceLemmas.{independent_more}
use Rattle.mm_linear.proofs.IndependenceLemmas.{none_independent}
use Rattle.mm_linear.proofs.PivotLemmas.{last-ended, late_rows, entry_of_cut}
use Rattle.mm_linear.proofs.SubspaceLemmas.{from_sum}
use Rattle.mm_linear.proofs.SubspaceTests.{IsLinear, IsLinear-times_matrix}
use Rattle.std.proofs.lemmas.List.{get_or-replicate}

pub record IsFaithful (f : Field) (r n : ℕ) (h : List ℕ → List ℕ) : Type 0 where
  pub linear : IsLinear f r n h
  pub apart : (u : List ℕ) → IsVector f r u → h u ≡ zeros n → u ≡ zeros r

pub mapped : (f : Field) (r n : ℕ) (h : List ℕ → List ℕ) → IsLinear f r n h → (cs : List ℕ) (rows : List (List ℕ)) → AreVectors f r rows →
    combination f n cs (map h rows) ≡ h (combination f r cs rows)
mapped f r n h lin cs rows hr = combination-map f r n h lin.sums lin.multiples lin.zero_kept cs rows hr

pub same_before : (f : Field) (r n : ℕ) (h : List ℕ → List ℕ) → IsFaithful f r n h → (u v : List ℕ) → IsVector f r u → IsVector f r v →
    h u ≡ h v → u ≡ v
same_before f r n h un u v hu hv e =
    let m = multiple f (negative f 1) v in
    let hm = IsVector-multiple f r (negative f 1) v hv.len in
    let w = un.linear.vectors v hv in
    let gone : h (vector_sum f u m) ≡ zeros n =
    un.linear.sums u m hu hm
    ∙ ap (vector_sum f (h u)) (un.linear.multiples (negative f 1) v hv)
    ∙ ap (λ x. vector_sum f x (multiple f (negative f 1) (h v))) e
    ∙ opposite-vector_sum f (h v) ∙ ap zeros w.len in
    let none = un.apart (vector_sum f u m) (IsVector-vector_sum f r u m hu.len hm.len) gone in
    sym (from_sum f r u m (zeros r) hu hm none)
    ∙ from_sum f r v m (zeros r) hv hm (opposite-vector_sum f v ∙ ap zeros hv.len)

pub independent_mapped : (f : Field) (r n : ℕ) (h : List ℕ → List ℕ) → IsFaithful f r n h → (rows : List (List ℕ)) → AreVectors f r rows →
    AreIndependent f r rows → AreIndependent f n (map h rows)
independent_mapped f r n h un rows hr ind cs each e =
    ind cs (subst (λ k. IsVector f k cs) (length-map rows h) each)
    (un.apart (combination f r cs rows) (IsVector-combination f r cs rows hr) (sym (mapped f r n h un.linear cs rows hr) ∙ e))
    ∙ ap zeros (sym (length-map rows h))

pub span_mapped : (f : Field) (r n : ℕ) (h : List ℕ → List ℕ) → IsFaithful f r n h → (rows : List (List ℕ)) → AreVectors f r rows →
    (z : List ℕ) → IsVector f r z → InSpan f n (map h rows) (h z) ↔ InSpan f r rows z
span_mapped f r n h un rows hr z hz = (
  (λ p. record {
    coefficients = p.coefficients;
    each = subst (λ k. IsVector f k p.coefficients) (length-map rows h) p.each;
    sum = same_before f r n h un (combination f r p.coefficients rows) z (IsVector-combination f r p.coefficients rows hr) hz
        (sym (mapped f r n h un.linear p.coefficients rows hr) ∙ p.sum);
  }),
  (λ p. record {
    coefficients = p.coefficients;
    each = subst (λ k. IsVector f k p.coefficients) (sym (length-map rows h)) p.each;
    sum = mapped f r n h un.linear p.coefficients rows hr ∙ ap h p.sum;
  }),
)

pub meet_mapped : (f : Field) (r n : ℕ) (h : List ℕ → List ℕ) → IsFaithful f r n h → (A B : List (List ℕ)) → AreVectors f r A → AreVectors f r B →
    MeetTrivially n (InSpan f n (map h A)) (InSpan f n (map h B)) ↔ MeetTrivially r (InSpan f r A) (InSpan f r B)
meet_mapped f r n h un A B ha hb = (
  (λ m z p q.
      let hz : IsVector f r z = subst (λ x. IsVector f r x) p.sum (IsVector-combination f r p.coefficients A ha) in
      un.apart z hz (m (h z) ((span_mapped f r n h un A ha z hz).1 p) ((span_mapped f r n h un B hb z hz).1 q))),
  (λ m y p q.
      let u = combination f r p.coefficients A in
      let hu = IsVector-combination f r p.coefficients A ha in
      let u_is : h u ≡ y = sym (mapped f r n h un.linear p.coefficients A ha) ∙ p.sum in
      let none = m u
      ((span_mapped f r n h un A ha u hu).0 (subst (λ x. InSpan f n (map h A) x) (sym u_is) p))
      ((span_mapped f r n h un B hb u hu).0 (subst (λ x. InSpan f n (map h B) x) (sym u_is) q)) in
      sym u_is ∙ ap h none ∙ un.linear.zero_kept),
)

-- independent rows
pub faithful_through : (f : Field) (r : ℕ) (g : List (List ℕ)) → AreVectors f r g → AreIndependent f r g →
    IsFaithful f (length g) r (times_matrix f r g)
faithful_through f r g hg ind = record {
  linear = IsLinear-times_matrix f (length g) r g hg;
  apart = λ u hu e. ind u hu e;
}

-- rows with leads are independent
pub leads_independent : (f : Field) (n from : ℕ) (rows : List (List ℕ)) (ks : List ℕ) → Leads n from rows ks → AreVectors f n rows →
    AreIndependent f n rows
leads_independent f n from [] [] h hr = none_independent f n
leads_independent f n from [] (x ∷ ks) h hr = absurd h
leads_independent f n from (v ∷ vs) [] h hr = absurd h
leads_independent f n from (v ∷ vs) (x ∷ ks) h hr =
    let hv = first_row f n v vs hr in
    let hs = other_rows f n v vs hr in
    let lx : x < n = h.1 in
    let late = late_rows n (suc x) vs ks h.3 in
    independent_more f n v vs hv hs (leads_independent f n (suc x) vs ks h.3 hs)
    (λ p.
    let one : get_or v x 0 ≡ 1 = entry_of_cut x v (ended x 1) h.2 ∙ last-ended x 1 in
    let none : get_or v x 0 ≡ 0 =
    ap (λ w. get_or w x 0) (sym p.sum)
    ∙ combination_entry_zero f n p.coefficients vs x hs lx
    (λ i l.
    ap (times f (get_or p.coefficients i 0)) (entry_of_cut x (get_or vs i []) (zeros (suc x)) (late i [] l) ∙ get_or-replicate (suc x) x 0 0 (omega arith))
    ∙ times-zero f (get_or p.coefficients i 0)) in
    zero_not_one (get_or v x 0) none one)
