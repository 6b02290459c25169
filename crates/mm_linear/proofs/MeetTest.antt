-- The test of a meet decides it.
use Rattle.std.proofs.Common.{ℕ, ◌≡◌, ◌↔◌, inl, inr, Bool, true, false, not, ◌&&◌, ◌||◌, Option, Some, None, List, [], ◌∷◌, ◌++◌, get_or, refl, sym, ap, ◌∙◌}
use Rattle.std.specs.Prelude.{IsTrue, is_none}
use Rattle.std.proofs.lemmas.Bool.{and_parts, and_from, or_cases, both_ways, not-true}
use Rattle.std.proofs.lemmas.List.Elements.{All-append, All-cons}
use Rattle.mm_field.specs.declared.Field.{Field}
use Rattle.mm_field.specs.Vectors.{IsVector, AreVectors, InSpan, IsWithin}
use Rattle.mm_field.proofs.CombinationLemmas.{first_row, other_rows, InSpan-within, InSpan-one_more, IsWithin-itself}
use Rattle.mm_linear.proofs.SpanLemmas.{InSum-from_append, InSum-swapped, append_left_in, append_right_in}
use Rattle.mm_linear.specs.Decide.{new_place, echelon_of, is_in_span, meets_in_zero}
use Rattle.mm_linear.specs.Sums.{MeetTrivially, MeetNontrivially}
use Rattle.mm_linear.proofs.InsertLemmas.{in_span_with_no_residue}
use Rattle.mm_linear.proofs.SpaceLemmas.{false_true}
use Rattle.mm_linear.proofs.SubspaceLemmas.{meet_more, meet_fails, common_of_sum}
use Rattle.mm_linear.proofs.SumLemmas.{meet_none}
use Rattle.mm_linear.proofs.DecideLemmas.{IsRowsOf, echelon_of_is, new_place-none, new_is_outside}

pub is_in_span_decides : (f : Field) (n : ℕ) (vs : List (List ℕ)) (v : List ℕ) → AreVectors f n vs → IsVector f n v →
    IsTrue (is_in_span f n vs v) ↔ InSpan f n vs v
unfolding is_in_span
is_in_span_decides f n vs v h hv = go (echelon_of_is f n vs h) (new_place f n v (echelon_of f n vs)) refl
  where
    go : IsRowsOf f n vs (echelon_of f n vs) → (o : Option ℕ) → new_place f n v (echelon_of f n vs) ≡ o →
        IsTrue (is_none (new_place f n v (echelon_of f n vs))) ↔ InSpan f n vs v
    go r None e = (
      (λ t. InSpan-within f n (echelon_of f n vs) vs v h r.span.1
          (in_span_with_no_residue f n v (echelon_of f n vs) r.echelon hv (new_place-none f n v (echelon_of f n vs) r.echelon hv e))),
      (λ s. ap is_none e),
    )
    go r (Some p) e = (
      (λ t. false_true _ (sym (ap is_none e) ∙ t)),
      (λ s. absurd (new_is_outside f n v (echelon_of f n vs) p r.echelon hv e
          (InSpan-within f n vs (echelon_of f n vs) v r.echelon.each r.span.0 s))),
    )

meet_less : (f : Field) (n : ℕ) (A S : List (List ℕ)) (b : List ℕ) → IsVector f n b → AreVectors f n S →
    MeetTrivially n (InSpan f n A) (InSpan f n (b ∷ S)) → MeetTrivially n (InSpan f n A) (InSpan f n S)
meet_less f n A S b hb hs meet z p q = meet z p (InSpan-one_more f n b S z hb hs q)

meet_inside : (f : Field) (n : ℕ) (A S : List (List ℕ)) (b : List ℕ) → AreVectors f n S → InSpan f n S b →
    MeetTrivially n (InSpan f n A) (InSpan f n S) → MeetTrivially n (InSpan f n A) (InSpan f n (b ∷ S))
meet_inside f n A S b hs inside meet z p q =
    meet z p (InSpan-within f n (b ∷ S) S z hs (All-cons (λ u. InSpan f n S u) b S inside (IsWithin-itself f n S hs)) q)

both_within : (f : Field) (n : ℕ) (A S : List (List ℕ)) → AreVectors f n A → AreVectors f n S →
    IsWithin f n A (S ++ A) × IsWithin f n S (S ++ A)
both_within f n A S ha hs = (
  (λ k d l. append_right_in f n S A (get_or A k d) hs ha (IsWithin-itself f n A ha k d l)),
  (λ k d l. append_left_in f n S A (get_or S k d) hs ha (IsWithin-itself f n S hs k d l)),
)

one_step : (f : Field) (n : ℕ) (A S : List (List ℕ)) (b : List ℕ) → AreVectors f n A → AreVectors f n S → IsVector f n b →
    (x y : Bool) → (IsTrue x ↔ InSpan f n S b) → (IsTrue y ↔ InSpan f n (S ++ A) b) →
    (m : Bool) → (IsTrue m ↔ MeetTrivially n (InSpan f n A) (InSpan f n S)) → IsTrue (m && (x || not y)) ↔ MeetTrivially n (InSpan f n A) (InSpan f n (b ∷ S))
one_step f n A S b ha hs hb x y dx dy m dm = (
  (λ t.
      let parts = and_parts m (x || not y) t in
      elim (or_cases x (not y) parts.1) [
        | inl t1 ↦ meet_inside f n A S b hs (dx.0 t1) (dm.0 parts.0)
        | inr t2 ↦
            let w = both_within f n A S ha hs in
            meet_more f n A S (S ++ A) b ha hs (All-append (λ u. IsVector f n u) S A hs ha) hb w.0 w.1
            (λ q. both_ways y (not-true y t2) (dy.1 q)) (dm.0 parts.0)
      ]),
  (λ meet. and_from m (x || not y) (dm.1 (meet_less f n A S b hb hs meet)) (or_step x y dx dy meet)),
)
  where
    or_step : (x y : Bool) → (IsTrue x ↔ InSpan f n S b) → (IsTrue y ↔ InSpan f n (S ++ A) b) → MeetTrivially n (InSpan f n A) (InSpan f n (b ∷ S)) →
        (x || not y) ≡ true
    or_step true y dx dy meet = refl
    or_step false false dx dy meet = refl
    or_step false true dx dy meet =
        absurd (meet_fails f n A S b ha hs hb (InSum-swapped f (InSpan f n S) (InSpan f n A) b (InSum-from_append f n S A b ha (dy.0 refl)))
        (λ q. false_true _ (dx.1 q)) meet)

pub meets_in_zero_decides : (f : Field) (n : ℕ) (A B : List (List ℕ)) → AreVectors f n A → AreVectors f n B →
    IsTrue (meets_in_zero f n A B) ↔ MeetTrivially n (InSpan f n A) (InSpan f n B)
unfolding meets_in_zero
meets_in_zero_decides f n A [] ha hb = ((λ t. meet_none f n A), (λ m. refl))
meets_in_zero_decides f n A (b ∷ S) ha hb =
    let h1 = first_row f n b S hb in
    let hs = other_rows f n b S hb in
    one_step f n A S b ha hs h1 (is_in_span f n S b) (is_in_span f n (S ++ A) b)
    (is_in_span_decides f n S b hs h1)
    (is_in_span_decides f n (S ++ A) b (All-append (λ u. IsVector f n u) S A hs ha) h1)
    (meets_in_zero f n A S) (meets_in_zero_decides f n A S ha hs)

-- where the test fails, some vector other than zero is in both spans
pub meets_nontrivially : (f : Field) (n : ℕ) (A B : List (List ℕ)) → AreVectors f n A → AreVectors f n B → meets_in_zero f n A B ≡ false →
    MeetNontrivially n (InSpan f n A) (InSpan f n B)
unfolding meets_in_zero
meets_nontrivially f n A [] ha hb e = false_true _ (sym e)
meets_nontrivially f n A (b ∷ S) ha hb e =
    go (first_row f n b S hb) (other_rows f n b S hb) (meets_in_zero f n A S) refl (is_in_span f n S b) refl (is_in_span f n (S ++ A) b) refl e
    (meets_nontrivially f n A S ha (other_rows f n b S hb))
  where
    go : IsVector f n b → AreVectors f n S → (m : Bool) → meets_in_zero f n A S ≡ m → (x : Bool) → is_in_span f n S b ≡ x →
        (y : Bool) → is_in_span f n (S ++ A) b ≡ y → (m && (x || not y)) ≡ false →
        (meets_in_zero f n A S ≡ false → MeetNontrivially n (InSpan f n A) (InSpan f n S)) →
        MeetNontrivially n (InSpan f n A) (InSpan f n (b ∷ S))
    go h1 hs false em x ex y ey e ih =
        let w = ih em in
        record { common = w.common; in_first = w.in_first; in_second = InSpan-one_more f n b S w.common h1 hs w.in_second; nonzero = w.nonzero }
    go h1 hs true em true ex y ey e ih = false_true _ (sym e)
    go h1 hs true em false ex false ey e ih = false_true _ (sym e)
    go h1 hs true em false ex true ey e ih =
        let in_both = (is_in_span_decides f n (S ++ A) b (All-append (λ u. IsVector f n u) S A hs ha) h1).0 ey in
        common_of_sum f n A S b ha hs h1 (InSum-swapped f (InSpan f n S) (InSpan f n A) b (InSum-from_append f n S A b ha in_both))
        (λ q. false_true _ (sym ex ∙ (is_in_span_decides f n S b hs h1).1 q))
