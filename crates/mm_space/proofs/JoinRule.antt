-- The calls of a join of types compute the join rule: whether the images meet in zero alone, and the key of what their sum holds.
use Rattle.std.proofs.Common.{ℕ, ◌≡◌, ◌↔◌, Bool, List, ◌++◌, sym, ap, ◌∙◌, subst}
use Rattle.std.specs.Prelude.{IsTrue}
use Rattle.std.proofs.lemmas.List.Elements.{All-append}
use Rattle.mm_field.specs.declared.Field.{Field}
use Rattle.mm_field.specs.Vectors.{times_matrix, IsVector, AreVectors, InSpan, SameRowSpace}
use Rattle.mm_field.proofs.CombinationLemmas.{InSpan-within, IsVector-combination}
use Rattle.mm_linear.specs.Decide.{is_in_span, meets_in_zero}
use Rattle.mm_linear.specs.Sums.{MeetTrivially}
use Rattle.mm_linear.specs.Subspaces.{preimage}
use Rattle.mm_linear.proofs.MeetTest.{is_in_span_decides, meets_in_zero_decides}
use Rattle.mm_linear.proofs.SumLemmas.{same_itself}
use Rattle.mm_linear.proofs.SubspaceTests.{subspace_same, same_test}
use Rattle.mm_space.specs.SpaceValue.{SpaceValue, IsSpanOf}
use Rattle.mm_space.specs.KeyValue.{KeyValue}
use Rattle.mm_space.specs.Preimages.{IsPreimage}
use Rattle.mm_space.proofs.KeptLemmas.{same_append}

-- ---- over rows that span the same

pub meet_same : (f : Field) (n : ℕ) (A B C D : List (List ℕ)) → AreVectors f n C → AreVectors f n D → SameRowSpace f n A C → SameRowSpace f n B D →
    MeetTrivially n (InSpan f n C) (InSpan f n D) → MeetTrivially n (InSpan f n A) (InSpan f n B)
meet_same f n A B C D hc hd s t m z p q = m z (InSpan-within f n A C z hc s.0 p) (InSpan-within f n B D z hd t.0 q)

pub reversed_same : (f : Field) (n : ℕ) (A B : List (List ℕ)) → SameRowSpace f n A B → SameRowSpace f n B A
reversed_same f n A B s = (s.1, s.0)

preimage_same : (f : Field) (t r : ℕ) (g A B : List (List ℕ)) → AreVectors f r g → AreVectors f r A → AreVectors f r B → SameRowSpace f r A B →
    preimage f t r g A ≡ preimage f t r g B
unfolding preimage
preimage_same f t r g A B hg ha hb s =
    subspace_same f t (λ b. is_in_span f r A (times_matrix f r g b)) (λ b. is_in_span f r B (times_matrix f r g b))
    (λ b h.
    let v = times_matrix f r g b in
    let hv = IsVector-combination f r b g hg in
    same_test (InSpan f r A v) (InSpan f r B v) (is_in_span f r A v) (is_in_span f r B v)
    (is_in_span_decides f r A v ha hv) (is_in_span_decides f r B v hb hv)
    ((λ p. InSpan-within f r A B v hb s.0 p), (λ p. InSpan-within f r B A v ha s.1 p)))

-- ---- the join rule

-- spaces of F^r that span the images of two keys
pub record AreImages (f : Field) (r : ℕ) (A B : List (List ℕ)) (left right : SpaceValue) : Type 0 where
  pub first : IsSpanOf f r A left
  pub second : IsSpanOf f r B right
  pub first_each : AreVectors f r A
  pub second_each : AreVectors f r B

-- whether the spaces meet in zero alone is the test of the images
pub meets_rule : (f : Field) (r : ℕ) (A B : List (List ℕ)) (left right : SpaceValue) (b : Bool) → AreImages f r A B left right →
    IsTrue b ↔ MeetTrivially left.r (InSpan left.f left.r left.rows) (InSpan left.f left.r right.rows) → b ≡ meets_in_zero f r A B
meets_rule f r A B left right b h both =
    let here : IsTrue b ↔ MeetTrivially r (InSpan f r left.rows) (InSpan f r right.rows) =
    subst (λ g. IsTrue b ↔ MeetTrivially r (InSpan g r left.rows) (InSpan g r right.rows)) h.first.field
    (subst (λ n. IsTrue b ↔ MeetTrivially n (InSpan left.f n left.rows) (InSpan left.f n right.rows)) h.first.length both) in
    same_test (MeetTrivially r (InSpan f r left.rows) (InSpan f r right.rows)) (MeetTrivially r (InSpan f r A) (InSpan f r B)) b (meets_in_zero f r A B) here
    (meets_in_zero_decides f r A B h.first_each h.second_each) (
      (λ m. meet_same f r A B left.rows right.rows h.first.each h.second.each h.first.span h.second.span m),
      (λ m. meet_same f r left.rows right.rows A B h.first_each h.second_each (reversed_same f r A left.rows h.first.span)
          (reversed_same f r B right.rows h.second.span) m),
    )

-- the preimage of the sum is that of all images
pub key_rule : (f : Field) (r : ℕ) (A B : List (List ℕ)) (left right all : SpaceValue) (g : List (List ℕ)) (t : ℕ) (key : KeyValue) →
    AreImages f r A B left right → AreVectors f r g → IsSpanOf left.f left.r (left.rows ++ right.rows) all → IsPreimage all g t key →
    key.rows ≡ preimage f t r g (A ++ B)
key_rule f r A B left right all g t key h hg sum p =
    let field = sum.field ∙ h.first.field in
    let width = sum.length ∙ h.first.length in
    let span : SameRowSpace f r (left.rows ++ right.rows) all.rows =
    subst (λ k. SameRowSpace k r (left.rows ++ right.rows) all.rows) h.first.field
    (subst (λ n. SameRowSpace left.f n (left.rows ++ right.rows) all.rows) h.first.length sum.span) in
    let each : AreVectors f r all.rows =
    subst (λ k. AreVectors k r all.rows) h.first.field (subst (λ n. AreVectors left.f n all.rows) h.first.length sum.each) in
    let both = All-append (λ v. IsVector f r v) A B h.first_each h.second_each in
    let swapped : SameRowSpace f r (right.rows ++ left.rows) all.rows =
    same_append f r right.rows left.rows right.rows left.rows all.rows h.second.each h.first.each h.second.each h.first.each each
    (same_itself f r right.rows h.second.each) (same_itself f r left.rows h.first.each) span in
    let same = same_append f r A B left.rows right.rows all.rows h.first.each h.second.each h.first_each h.second_each each
    h.first.span h.second.span swapped in
    p.rows
    ∙ ap (λ k. preimage k t all.r g all.rows) field
    ∙ ap (λ n. preimage f t n g all.rows) width
    ∙ sym (preimage_same f t r g (A ++ B) all.rows hg both each same)
