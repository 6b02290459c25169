-- Reduced rows at their leads, and what is left of a vector after one more row.
use Rattle.std.proofs.Common.{ℕ, zero, suc, ◌+◌, ◌<◌, ◌≡◌, List, [], ◌∷◌, length, get_or, sym, ap, ◌∙◌, subst, arith, inl, inr}
use Rattle.std.proofs.Math.Nat.{eq-or-lt_of_le}
use Rattle.std.proofs.lemmas.List.{get_or-replicate, get_or_default}
use Rattle.mm_field.specs.declared.Field.{Field}
use Rattle.mm_field.specs.Digits.{times, negative}
use Rattle.mm_field.specs.Vectors.{zeros, vector_sum, multiple, IsVector, AreVectors, InSpan}
use Rattle.mm_field.proofs.Tables.{times-zero}
use Rattle.mm_field.proofs.VectorLemmas.{vector_sum_assoc, vector_sum-zeros, length-multiple, IsVector-vector_sum, sum_entry}
use Rattle.mm_field.proofs.CombinationLemmas.{InSpan-vector_sum, InSpan-multiple, InSpan-zeros, IsWithin-itself}
use Rattle.mm_linear.specs.ReducedEchelon.{Leads}
use Rattle.mm_linear.proofs.BasisLemmas.{ended}
use Rattle.mm_linear.proofs.PivotLemmas.{last-ended, late_rows, count_leads, entry_of_cut}
use Rattle.mm_linear.proofs.LeftUnique.{leads_above}
use Rattle.mm_linear.proofs.InsertLemmas.{cleared_at, sum_of_zeros}
use Rattle.mm_matrix.specs.Residues.{IsResidue}

-- ---- entries at the leads

pub one_at_lead : (n from : ℕ) (rows : List (List ℕ)) (ks : List ℕ) → Leads n from rows ks → (i : ℕ) → i < length rows →
    get_or (get_or rows i []) (get_or ks i 0) 0 ≡ 1
one_at_lead n from [] ks h i l = absurd (omega arith)
one_at_lead n from (v ∷ vs) [] h i l = absurd h
one_at_lead n from (v ∷ vs) (x ∷ ks) h zero l = entry_of_cut x v (ended x 1) h.2 ∙ last-ended x 1
one_at_lead n from (v ∷ vs) (x ∷ ks) h (suc i) l = one_at_lead n (suc x) vs ks h.3 i (omega arith)

pub zero_at_earlier : (n from : ℕ) (rows : List (List ℕ)) (ks : List ℕ) → Leads n from rows ks → (k i : ℕ) → k < i → i < length rows →
    get_or (get_or rows i []) (get_or ks k 0) 0 ≡ 0
zero_at_earlier n from [] ks h k i m l = absurd (omega arith)
zero_at_earlier n from (v ∷ vs) [] h k i m l = absurd h
zero_at_earlier n from (v ∷ vs) (x ∷ ks) h k zero m l = absurd (omega arith)
zero_at_earlier n from (v ∷ vs) (x ∷ ks) h zero (suc i) m l =
    entry_of_cut x (get_or vs i []) (zeros (suc x)) (late_rows n (suc x) vs ks h.3 i [] (omega arith))
    ∙ get_or-replicate (suc x) x 0 0 (omega arith)
zero_at_earlier n from (v ∷ vs) (x ∷ ks) h (suc k) (suc i) m l = zero_at_earlier n (suc x) vs ks h.3 k i (omega arith) (omega arith)

-- ---- one step of the reduction

-- what holds of a vector after the first i rows
pub record IsResidueUpTo (f : Field) (n : ℕ) (rows : List (List ℕ)) (ks : List ℕ) (v rest : List ℕ) (i : ℕ) : Type 0 where
  pub vector : IsVector f n rest
  pub part : List ℕ
  pub inside : InSpan f n rows part
  pub sum : vector_sum f v part ≡ rest
  pub zero : (k : ℕ) → k < i → get_or rest (get_or ks k 0) 0 ≡ 0

pub rest_at_start : (f : Field) (n : ℕ) (rows : List (List ℕ)) (ks v : List ℕ) → AreVectors f n rows → IsVector f n v →
    IsResidueUpTo f n rows ks v v 0
rest_at_start f n rows ks v h hv = record {
  vector = hv;
  part = zeros n;
  inside = InSpan-zeros f n rows h;
  sum = vector_sum-zeros f n v hv;
  zero = λ k l. absurd (omega arith);
}

pub rest_step : (f : Field) (n i : ℕ) (rows : List (List ℕ)) (ks v u : List ℕ) → AreVectors f n rows → Leads n 0 rows ks → IsVector f n v →
    i < length rows → IsResidueUpTo f n rows ks v u i →
    IsResidueUpTo f n rows ks v (vector_sum f u (multiple f (negative f (get_or u (get_or ks i 0) 0)) (get_or rows i []))) (i + 1)
rest_step f n i rows ks v u h leads hv l rest =
    let p = get_or ks i 0 in
    let c = negative f (get_or u p 0) in
    let r = get_or rows i [] in
    let hr : IsVector f n r = h i [] l in
    let lm = length-multiple f c r in
    let lc = count_leads n 0 rows ks leads in
    let next = vector_sum f u (multiple f c r) in
    let hn : IsVector f n next = IsVector-vector_sum f n u (multiple f c r) rest.vector.len (lm ∙ hr.len) in
    record {
      vector = hn;
      part = vector_sum f rest.part (multiple f c r);
      inside = InSpan-vector_sum f n rows rest.part (multiple f c r) rest.inside (InSpan-multiple f n c rows r (IsWithin-itself f n rows h i [] l));
      sum = sym (vector_sum_assoc f v rest.part (multiple f c r)) ∙ ap (λ x. vector_sum f x (multiple f c r)) rest.sum;
      zero = λ k m. at_lead f n i rows ks u leads rest.vector hr.len l rest.zero k m;
    }
  where
    at_lead : (f : Field) (n i : ℕ) (rows : List (List ℕ)) (ks u : List ℕ) → Leads n 0 rows ks → IsVector f n u →
        length (get_or rows i []) ≡ n → i < length rows → ((k : ℕ) → k < i → get_or u (get_or ks k 0) 0 ≡ 0) →
        (k : ℕ) → k < i + 1 →
        get_or (vector_sum f u (multiple f (negative f (get_or u (get_or ks i 0) 0)) (get_or rows i []))) (get_or ks k 0) 0 ≡ 0
    at_lead f n i rows ks u leads hu lr l before k m =
        let lc = count_leads n 0 rows ks leads in
        let a = get_or u (get_or ks i 0) 0 in
        let r = get_or rows i [] in
        let below : get_or ks k 0 < n = (leads_above n 0 rows ks leads k 0 (omega arith)).1 in
        elim (eq-or-lt_of_le {n = k} {m = i} (omega arith)) [
          | inl e ↦
              subst (λ (x : ℕ). get_or (vector_sum f u (multiple f (negative f a) r)) (get_or ks x 0) 0 ≡ 0) (sym e)
              (sum_entry f n (negative f a) u r (get_or ks i 0) hu.len lr (leads_above n 0 rows ks leads i 0 (omega arith)).1
              ∙ cleared_at f a (get_or r (get_or ks i 0) 0) (one_at_lead n 0 rows ks leads i l))
          | inr s ↦
              sum_entry f n (negative f a) u r (get_or ks k 0) hu.len lr below
              ∙ sum_of_zeros f (get_or u (get_or ks k 0) 0) _ (before k s)
              (ap (times f (negative f a)) (zero_at_earlier n 0 rows ks leads k i s l) ∙ times-zero f (negative f a))
        ]

pub rest_at_end : (f : Field) (n : ℕ) (rows : List (List ℕ)) (ks v rest : List ℕ) → Leads n 0 rows ks →
    IsResidueUpTo f n rows ks v rest (length rows) → IsResidue f n rows ks v rest
rest_at_end f n rows ks v rest leads h = record {
  vector = h.vector;
  part = h.part;
  inside = h.inside;
  sum = h.sum;
  zero = λ k d l. ap (λ (x : ℕ). get_or rest x 0) (get_or_default ks k d 0 l) ∙ h.zero k (let e = count_leads n 0 rows ks leads in omega arith);
}
