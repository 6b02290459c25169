-- Reduced rows after one more vector: they are the reduced echelon basis of the larger span.
use Rattle.std.proofs.Common.{ℕ, suc, ◌+◌, ◌<◌, ◌≡◌, ◌≢◌, inl, inr, List, [], ◌∷◌, ◌++◌, length, get_or, take, refl, sym, ap, ◌∙◌, subst, arith}
use Rattle.std.proofs.Math.Nat.{eq-or-lt_of_le}
use Rattle.std.proofs.Common.{ext_get_or, Vec, Global, ◌↔◌, Bool, true, false, not, Option, Some, None, rules}
use Rattle.std.specs.Bool.{IsTrue}
use Rattle.std.specs.Option.{MatchOption, is_some}
use Rattle.mm_matrix.specs.declared.elimination.NewRow.{NewRow}
use Rattle.std.specs.Vec.{with_items}
use Rattle.std.proofs.lemmas.List.{get_or-replicate, get_or-take, length-take-le, length-replicate, take_more, get_or_append_left, get_or_push, length-append, with_items_is}
use Rattle.std.proofs.lemmas.List.Elements.{All-cons, All-nil, All-append}
use Rattle.mm_field.specs.declared.Field.{Field}
use Rattle.mm_field.specs.Digits.{times, inverse, negative}
use Rattle.mm_field.specs.Vectors.{zeros, vector_sum, multiple, IsVector, AreVectors, InSpan, IsWithin, SameRowSpace}
use Rattle.mm_field.proofs.Tables.{times-zero, times_comm, times-inverse}
use Rattle.mm_field.proofs.VectorLemmas.{length-multiple, one-multiple, multiple-times, IsVector-multiple, get_or-multiple, opposite-vector_sum, vector_sum_assoc, vector_sum-zeros}
use Rattle.mm_field.proofs.CombinationLemmas.{InSpan-multiple, InSpan-first, InSpan-zeros, InSpan-within, IsWithin-itself, IsWithin-within, InSpan-one_more, InSpan-vector_sum, IsVector-combination}
use Rattle.mm_linear.specs.ReducedEchelon.{Leads, reduced_basis}
use Rattle.mm_linear.proofs.BasisLemmas.{ended, length-ended}
use Rattle.mm_linear.proofs.PivotLemmas.{last-ended}
use Rattle.mm_linear.proofs.EchelonLemmas.{zero_not_one}
use Rattle.mm_linear.proofs.ReducedEchelonLemmas.{reduced_basis_is, reduced_basis-same}
use Rattle.mm_linear.proofs.LeftUnique.{basis_of_reduced, leads_above, zero_at_leads}
use Rattle.mm_linear.proofs.SumLemmas.{more_within}
use Rattle.mm_matrix.specs.Residues.{AreReduced, IsResidue, IsNew, AddsAs}
use Rattle.mm_matrix.proofs.InsertionLemmas.{one_of_new}

-- ---- the rest, divided by its first digit other than 0

-- the first digit other than 0 of a vector stands at p
pub record IsFirstAt (n p : ℕ) (u : List ℕ) : Type 0 where
  pub inside : p < n
  pub nonzero : get_or u p 0 ≢ 0
  pub before : (k : ℕ) → k < p → get_or u k 0 ≡ 0

abbrev pub scaled : Field → ℕ → List ℕ → List ℕ
scaled f p u = multiple f (inverse f (get_or u p 0)) u

scaled_one : (f : Field) (n p : ℕ) (u : List ℕ) → IsVector f n u → IsFirstAt n p u → get_or (scaled f p u) p 0 ≡ 1
scaled_one f n p u h at =
    let a = get_or u p 0 in
    let l = h.len in
    let i = at.inside in
    get_or-multiple f (inverse f a) u p (omega arith) ∙ times_comm f (inverse f a) a
    ∙ times-inverse f a (h.digits p 0 (omega arith)) at.nonzero

scaled_zero : (f : Field) (n p k : ℕ) (u : List ℕ) → IsVector f n u → k < n → get_or u k 0 ≡ 0 → get_or (scaled f p u) k 0 ≡ 0
scaled_zero f n p k u h l z =
    let c = inverse f (get_or u p 0) in
    let m = h.len in
    get_or-multiple f c u k (omega arith) ∙ ap (λ x. times f c x) z ∙ times-zero f c

scaled_lead : (f : Field) (n p : ℕ) (u : List ℕ) → IsVector f n u → IsFirstAt n p u → take (suc p) (scaled f p u) ≡ ended p 1
scaled_lead f n p u h at =
    let w = scaled f p u in
    let lw : length w ≡ n = length-multiple f (inverse f (get_or u p 0)) u ∙ h.len in
    let i = at.inside in
    let lt : length (take (suc p) w) ≡ suc p = length-take-le (suc p) w (omega arith) in
    ext_get_or 0 (take (suc p) w) (ended p 1) (lt ∙ sym (length-ended p 1))
    (λ k l. get_or-take (suc p) w k 0 (omega arith) ∙ elim (eq-or-lt_of_le {n = k} {m = p} (omega arith)) [
      | inl e ↦ subst (λ (x : ℕ). get_or w x 0 ≡ get_or (ended p 1) x 0) (sym e) (scaled_one f n p u h at ∙ sym (last-ended p 1))
      | inr s ↦
          scaled_zero f n p k u h (omega arith) (at.before k s)
          ∙ sym (get_or_append_left (zeros p) (1 ∷ []) 0 k (let z : length (zeros p) ≡ p = length-replicate p 0 in omega arith)
          ∙ get_or-replicate p k 0 0 s)
    ])

new_of_rest : (f : Field) (n p : ℕ) (rows : List (List ℕ)) (ks v u : List ℕ) → Leads n 0 rows ks → IsResidue f n rows ks v u →
    IsFirstAt n p u → IsNew f n p (scaled f p u) ks
new_of_rest f n p rows ks v u leads rest at = record {
  vector = IsVector-multiple f n (inverse f (get_or u p 0)) u rest.vector.len;
  inside = at.inside;
  lead = scaled_lead f n p u rest.vector at;
  zero = λ i d l. scaled_zero f n p (get_or ks i d) u rest.vector (leads_above n 0 rows ks leads i d l).1 (rest.zero i d l);
}

-- ---- spans

-- the vector and its rest, each in the span of the other and the rows
pub rest_span : (f : Field) (n : ℕ) (rows : List (List ℕ)) (ks v u : List ℕ) → AreVectors f n rows → IsVector f n v → IsResidue f n rows ks v u →
    SameRowSpace f n (v ∷ rows) (u ∷ rows)
rest_span f n rows ks v u h hv rest =
    let hp = subst (λ w. IsVector f n w) rest.inside.sum (IsVector-combination f n rest.inside.coefficients rows h) in
    let minus = multiple f (negative f 1) rest.part in
    let back : vector_sum f u minus ≡ v =
    ap (λ w. vector_sum f w minus) (sym rest.sum) ∙ vector_sum_assoc f v rest.part minus
    ∙ ap (vector_sum f v) (opposite-vector_sum f rest.part ∙ ap zeros hp.len) ∙ vector_sum-zeros f n v hv in (
      All-cons (λ x. InSpan f n (u ∷ rows) x) v rows
          (subst (λ w. InSpan f n (u ∷ rows) w) back
          (InSpan-vector_sum f n (u ∷ rows) u minus (InSpan-first f n u rows rest.vector h)
          (InSpan-multiple f n (negative f 1) (u ∷ rows) rest.part (InSpan-one_more f n u rows rest.part rest.vector h rest.inside))))
          (more_within f n u rows rest.vector h),
      All-cons (λ x. InSpan f n (v ∷ rows) x) u rows
          (subst (λ w. InSpan f n (v ∷ rows) w) rest.sum
          (InSpan-vector_sum f n (v ∷ rows) v rest.part (InSpan-first f n v rows hv h) (InSpan-one_more f n v rows rest.part hv h rest.inside)))
          (more_within f n v rows hv h),
    )

scaled_span : (f : Field) (n p : ℕ) (rows : List (List ℕ)) (u : List ℕ) → AreVectors f n rows → IsVector f n u → IsFirstAt n p u →
    SameRowSpace f n (u ∷ rows) (scaled f p u ∷ rows)
scaled_span f n p rows u h hu at =
    let a = get_or u p 0 in
    let w = scaled f p u in
    let hw : IsVector f n w = IsVector-multiple f n (inverse f a) u hu.len in
    let l = hu.len in
    let i = at.inside in
    let back : multiple f a w ≡ u =
    sym (multiple-times f a (inverse f a) u) ∙ ap (λ c. multiple f c u) (times-inverse f a (hu.digits p 0 (omega arith)) at.nonzero)
    ∙ one-multiple f u hu.digits in (
      All-cons (λ x. InSpan f n (w ∷ rows) x) u rows
          (subst (λ x. InSpan f n (w ∷ rows) x) back (InSpan-multiple f n a (w ∷ rows) w (InSpan-first f n w rows hw h)))
          (more_within f n w rows hw h),
      All-cons (λ x. InSpan f n (u ∷ rows) x) w rows
          (InSpan-multiple f n (inverse f a) (u ∷ rows) u (InSpan-first f n u rows hu h))
          (more_within f n u rows hu h),
    )

pub span_trans : (f : Field) (n : ℕ) (A B C : List (List ℕ)) → AreVectors f n A → AreVectors f n C → SameRowSpace f n A B → SameRowSpace f n B C →
    SameRowSpace f n A C
span_trans f n A B C ha hc p q = (IsWithin-within f n A B C hc p.0 q.0, IsWithin-within f n C B A ha q.1 p.1)

-- ---- what a vector adds to reduced rows

-- a vector without a rest adds nothing
pub nothing_new : (f : Field) (n : ℕ) (rows : List (List ℕ)) (ks v u : List ℕ) → AreVectors f n rows → IsVector f n v →
    IsResidue f n rows ks v u → u ≡ zeros n → InSpan f n rows v
nothing_new f n rows ks v u h hv rest z =
    InSpan-within f n (zeros n ∷ rows) rows v h
    (All-cons (λ x. InSpan f n rows x) (zeros n) rows (InSpan-zeros f n rows h) (IsWithin-itself f n rows h))
    (subst (λ x. InSpan f n (x ∷ rows) v) z ((rest_span f n rows ks v u h hv rest).0 0 [] (omega arith)))

-- a vector with a rest adds what the scaled rest adds
pub adds_as_rest : (f : Field) (n p : ℕ) (rows : List (List ℕ)) (ks v u : List ℕ) → AreReduced f n rows ks → IsVector f n v →
    IsResidue f n rows ks v u → IsFirstAt n p u → AddsAs f n p (scaled f p u) rows ks v
adds_as_rest f n p rows ks v u h hv rest at =
    let new = new_of_rest f n p rows ks v u h.leads_are rest at in
    record {
      new = new;
      span =
          span_trans f n (v ∷ rows) (u ∷ rows) (scaled f p u ∷ rows) (All-cons (λ x. IsVector f n x) v rows hv h.each)
          (All-cons (λ x. IsVector f n x) (scaled f p u) rows new.vector h.each)
          (rest_span f n rows ks v u h.each hv rest) (scaled_span f n p rows u h.each rest.vector at);
    }

-- ---- the reduced echelon basis

pub basis_kept : (f : Field) (n : ℕ) (rows : List (List ℕ)) (ks v : List ℕ) → AreReduced f n rows ks → IsVector f n v →
    InSpan f n rows v → reduced_basis f n (v ∷ rows) ≡ rows
basis_kept f n rows ks v h hv p =
    reduced_basis-same f n (v ∷ rows) rows (All-cons (λ x. IsVector f n x) v rows hv h.each) h.each
    (All-cons (λ x. InSpan f n rows x) v rows p (IsWithin-itself f n rows h.each), more_within f n v rows hv h.each)
    ∙ basis_of_reduced f n rows ks h.each h.leads_are h.clear

pub basis_made : (f : Field) (n p : ℕ) (w : List ℕ) (rows : List (List ℕ)) (ks v : List ℕ) (more : List (List ℕ)) (more_ks : List ℕ) →
    AreReduced f n rows ks → IsVector f n v → AddsAs f n p w rows ks v → AreReduced f n more more_ks →
    SameRowSpace f n (w ∷ rows) more → reduced_basis f n (v ∷ rows) ≡ more
basis_made f n p w rows ks v more more_ks h hv adds r same =
    let hvs = All-cons (λ x. IsVector f n x) v rows hv h.each in
    reduced_basis-same f n (v ∷ rows) more hvs r.each (span_trans f n (v ∷ rows) (w ∷ rows) more hvs r.each adds.span same)
    ∙ basis_of_reduced f n more more_ks r.each r.leads_are r.clear

-- ---- row by row

pub basis_of_one_more : (f : Field) (n : ℕ) (rows : List (List ℕ)) (v : List ℕ) → AreVectors f n rows → IsVector f n v →
    reduced_basis f n (v ∷ reduced_basis f n rows) ≡ reduced_basis f n (rows ++ (v ∷ []))
basis_of_one_more f n rows v h hv =
    let b = reduced_basis_is f n rows h in
    let B = reduced_basis f n rows in
    let all = rows ++ (v ∷ []) in
    let none = All-nil (λ x. IsVector f n x) in
    let hv1 = All-cons (λ x. IsVector f n x) v [] hv none in
    let hall : AreVectors f n all = All-append (λ x. IsVector f n x) rows (v ∷ []) h hv1 in
    let hB = All-cons (λ x. IsVector f n x) v B hv b.each in
    let it = IsWithin-itself f n all hall in
    let rows_in : IsWithin f n rows all = λ k d l.
    subst (λ (x : List ℕ). InSpan f n all x) (get_or_append_left rows (v ∷ []) d k l)
    (it k d (let e : length all ≡ length rows + 1 = length-append rows (v ∷ []) in omega arith)) in
    let v_in : InSpan f n all v =
    subst (λ (x : List ℕ). InSpan f n all x) (get_or_push rows v [] (length rows) refl)
    (it (length rows) [] (let e : length all ≡ length rows + 1 = length-append rows (v ∷ []) in omega arith)) in
    let first : IsWithin f n (v ∷ B) all = All-cons (λ x. InSpan f n all x) v B v_in (IsWithin-within f n B rows all hall b.span.1 rows_in) in
    let in_B : IsWithin f n rows (v ∷ B) = IsWithin-within f n rows B (v ∷ B) hB b.span.0 (more_within f n v B hv b.each) in
    let second : IsWithin f n all (v ∷ B) =
    All-append (λ x. InSpan f n (v ∷ B) x) rows (v ∷ []) in_B
    (All-cons (λ x. InSpan f n (v ∷ B) x) v [] (InSpan-first f n v B hv b.each) (All-nil (λ x. InSpan f n (v ∷ B) x))) in
    reduced_basis-same f n (v ∷ B) all hB hall (first, second)

-- ---- the scaled rest as the code keeps it

pub scaled_in_place : (f : Field) (n p : ℕ) (u : Vec ℕ Global) (w : List ℕ) → IsVector f n u.items → w ≡ scaled f p u.items →
    (with_items u w).items ≡ scaled f p u.items
scaled_in_place f n p u w h e =
    with_items_is u w (ap length e ∙ length-multiple f (inverse f (get_or u.items p 0)) u.items ∙ sym u.ok.0) ∙ e

-- ---- outside the span

-- a vector that adds a new row is no combination of the rows
pub new_is_outside : (f : Field) (n p : ℕ) (w : List ℕ) (rows : List (List ℕ)) (ks v : List ℕ) → AreReduced f n rows ks →
    AddsAs f n p w rows ks v → InSpan f n rows v → ⊥
new_is_outside f n p w rows ks v h adds inside =
    let same : IsWithin f n (v ∷ rows) rows = All-cons (λ x. InSpan f n rows x) v rows inside (IsWithin-itself f n rows h.each) in
    let w_in : InSpan f n rows w = InSpan-within f n (v ∷ rows) rows w h.each same (adds.span.1 0 [] (omega arith)) in
    let z : w ≡ zeros n = zero_at_leads f n 0 rows ks h.leads_are h.each w w_in (λ i d l. adds.new.zero i d l) in
    zero_not_one (get_or w p 0) (ap (λ (x : List ℕ). get_or x p 0) z ∙ get_or-replicate n p 0 0 adds.new.inside)
    (one_of_new f n p w ks adds.new)

pub no_new_decides : (f : Field) (n : ℕ) (rows : List (List ℕ)) (ks v : List ℕ) → AreReduced f n rows ks → (o : Option NewRow) →
    MatchOption o (InSpan f n rows v) (λ w. AddsAs f n w.lead w.digits.items rows ks v) → (b : Bool) → is_some o ≡ not b →
    (IsTrue b ↔ InSpan f n rows v)
no_new_decides f n rows ks v h None p true e = ((λ t. p), (λ q. search rules))
no_new_decides f n rows ks v h None p false e = cc
no_new_decides f n rows ks v h (Some w) adds true e = cc
no_new_decides f n rows ks v h (Some w) adds false e =
    ((λ t. absurd (search rules)), (λ q. absurd (new_is_outside f n w.lead w.digits.items rows ks v h adds q)))

-- ---- row by row, outside or not

pub within_more : (f : Field) (n i : ℕ) (rows others : List (List ℕ)) → i < length others → IsWithin f n (take i others) rows →
    InSpan f n rows (get_or others i []) → IsWithin f n (take (i + 1) others) rows
within_more f n i rows others l before here =
    subst (λ (x : List (List ℕ)). IsWithin f n x rows) (sym (take_more others i [] l))
    (All-append (λ v. InSpan f n rows v) (take i others) (get_or others i [] ∷ []) before
    (All-cons (λ v. InSpan f n rows v) (get_or others i []) [] here (All-nil (λ v. InSpan f n rows v))))
