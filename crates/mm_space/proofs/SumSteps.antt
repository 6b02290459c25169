-- Steps of adding the rows of one space to those of another, from the last to the first.
use Rattle.std.proofs.Common.{ℕ, ◌-◌, ◌<◌, ◌≤◌, ◌≡◌, ◌↔◌, true, false, List, [], ◌++◌, get_or, drop, refl, subst, arith}
use Rattle.std.specs.Prelude.{IsTrue}
use Rattle.mm_field.specs.declared.Field.{Field}
use Rattle.mm_field.specs.Vectors.{InSpan, SameRowSpace}
use Rattle.mm_linear.specs.Echelons.{entry}
use Rattle.mm_linear.specs.Sums.{MeetTrivially}
use Rattle.mm_linear.proofs.SpaceLemmas.{false_true}
use Rattle.mm_linear.proofs.SumLemmas.{span_next, span_next_zero, meet_next, meet_next_zero, meet_refuted}
use Rattle.mm_space.specs.Insertion.{IsHeld, IsInserted}
use Rattle.mm_space.proofs.KeptLemmas.{late_start, late_meet}

-- all has the span of the rows and of more from row i on
pub record IsAdding (f : Field) (n r : ℕ) (rows more : List (List ℕ)) (i : ℕ) (all : List (List ℕ)) : Type 0 where
  pub low : i ≤ r
  pub held : IsHeld f n r all
  pub span : SameRowSpace f n (drop i more ++ rows) all

pub adding_start : (f : Field) (n r : ℕ) (rows more : List (List ℕ)) → IsHeld f n r rows → IsHeld f n r more →
    IsAdding f n r rows more r rows
adding_start f n r rows more h k = record {
  low = omega arith;
  held = h;
  span = late_start f n r rows more h.echelon.each k;
}

pub adding_step : (f : Field) (n r : ℕ) (rows more : List (List ℕ)) (i : ℕ) (all new : List (List ℕ)) → IsHeld f n r rows →
    IsHeld f n r more → 0 < i → IsAdding f n r rows more i all → IsInserted f n r (get_or more (i - 1) []) all new →
    IsAdding f n r rows more (i - 1) new
adding_step f n r rows more i all new h k p a ins =
    let low = a.low in
    let narrow = k.narrow in
    record {
      low = omega arith;
      held = record { narrow = narrow; echelon = ins.echelon; within = ins.within };
      span = span_next f n rows more all new i k.echelon h.echelon.each a.held.echelon.each ins.echelon.each p (omega arith) a.span ins.span;
    }

pub adding_zero : (f : Field) (n r : ℕ) (rows more : List (List ℕ)) (i : ℕ) (all : List (List ℕ)) → IsHeld f n r rows →
    IsHeld f n r more → 0 < i → IsAdding f n r rows more i all → entry more (i - 1) (i - 1) ≡ 0 → IsAdding f n r rows more (i - 1) all
adding_zero f n r rows more i all h k p a none =
    let low = a.low in
    let narrow = k.narrow in
    record {
      low = omega arith;
      held = a.held;
      span = span_next_zero f n rows more all i k.echelon h.echelon.each a.held.echelon.each p (omega arith) none a.span;
    }

pub adding_end : (f : Field) (n r : ℕ) (rows more : List (List ℕ)) (i : ℕ) (all : List (List ℕ)) → i ≡ 0 → IsAdding f n r rows more i all →
    SameRowSpace f n (more ++ rows) all
adding_end f n r rows more i all e a = subst (λ k. SameRowSpace f n (drop k more ++ rows) all) e a.span

-- the same, where none of the rows so far was inside
pub record IsApart (f : Field) (n r : ℕ) (rows more : List (List ℕ)) (i : ℕ) (all : List (List ℕ)) : Type 0 where
  pub adding : IsAdding f n r rows more i all
  pub meet : MeetTrivially n (InSpan f n rows) (InSpan f n (drop i more))

pub apart_start : (f : Field) (n r : ℕ) (rows more : List (List ℕ)) → IsHeld f n r rows → IsHeld f n r more →
    IsApart f n r rows more r rows
apart_start f n r rows more h k = record { adding = adding_start f n r rows more h k; meet = late_meet f n r rows more k }

pub apart_step : (f : Field) (n r : ℕ) (rows more : List (List ℕ)) (i : ℕ) (all new : List (List ℕ)) → IsHeld f n r rows →
    IsHeld f n r more → 0 < i → IsApart f n r rows more i all → IsInserted f n r (get_or more (i - 1) []) all new →
    (InSpan f n all (get_or more (i - 1) []) → ⊥) → IsApart f n r rows more (i - 1) new
apart_step f n r rows more i all new h k p a ins out =
    let low = a.adding.low in
    let narrow = k.narrow in
    record {
      adding = adding_step f n r rows more i all new h k p a.adding ins;
      meet = meet_next f n rows more all i k.echelon h.echelon.each a.adding.held.echelon.each p (omega arith) a.adding.span out a.meet;
    }

pub apart_zero : (f : Field) (n r : ℕ) (rows more : List (List ℕ)) (i : ℕ) (all : List (List ℕ)) → IsHeld f n r rows →
    IsHeld f n r more → 0 < i → IsApart f n r rows more i all → entry more (i - 1) (i - 1) ≡ 0 → IsApart f n r rows more (i - 1) all
apart_zero f n r rows more i all h k p a none =
    let low = a.adding.low in
    let narrow = k.narrow in
    record {
      adding = adding_zero f n r rows more i all h k p a.adding none;
      meet = meet_next_zero f n rows more i k.echelon p (omega arith) none a.meet;
    }

pub apart_end : (f : Field) (n r : ℕ) (rows more : List (List ℕ)) (i : ℕ) (all : List (List ℕ)) → i ≡ 0 → IsApart f n r rows more i all →
    IsTrue true ↔ MeetTrivially n (InSpan f n rows) (InSpan f n more)
apart_end f n r rows more i all e a = ((λ t. subst (λ k. MeetTrivially n (InSpan f n rows) (InSpan f n (drop k more))) e a.meet), (λ m. refl))

-- a row that is inside already shows that the spaces meet
pub apart_fails : (f : Field) (n r : ℕ) (rows more : List (List ℕ)) (i : ℕ) (all : List (List ℕ)) → IsHeld f n r rows →
    IsHeld f n r more → 0 < i → IsApart f n r rows more i all → (entry more (i - 1) (i - 1) ≡ 0 → ⊥) →
    InSpan f n all (get_or more (i - 1) []) → IsTrue false ↔ MeetTrivially n (InSpan f n rows) (InSpan f n more)
apart_fails f n r rows more i all h k p a some inside =
    let low = a.adding.low in
    let narrow = k.narrow in (
      (λ t. false_true _ t),
      (λ m. absurd (meet_refuted f n rows more all i k.echelon h.echelon.each p (omega arith) some a.adding.span inside m)),
    )
