-- The join rule of `ind` for every pair of spaces.
use Rattle.std.proofs.Common.{ℕ, ◌≡◌, ◌↔◌, Bool, true, false, if◌then◌else◌, List, ◌++◌, refl, subst}
use Rattle.std.proofs.lemmas.List.Elements.{All-append}
use Rattle.mm_field.specs.declared.Field.{Field}
use Rattle.mm_field.specs.Vectors.{IsVector, AreVectors, InSpan, times_matrix}
use Rattle.mm_linear.specs.Decide.{meets_in_zero}
use Rattle.mm_linear.specs.Subspaces.{preimage}
use Rattle.mm_linear.specs.Sums.{InSum}
use Rattle.mm_linear.proofs.MeetTest.{is_in_span_decides, meets_in_zero_decides, meets_nontrivially}
use Rattle.mm_linear.proofs.SpanLemmas.{InSum-from_append, append_from_InSum, span_of_images, image_of_span, AreVectors-images}
use Rattle.mm_linear.proofs.SubspaceTests.{preimage_is, subspace_is_reduced}
use Rattle.mm_logic.specs.BoundarySpaces.{images, ind_join}
use Rattle.mm_logic.specs.Operator.{Op, row_length, IsValidOp}
use Rattle.mm_logic.specs.Value.{Value}
use Rattle.mm_logic.specs.Value.Value.{Flag, Dead, Span, Pair, Empty, With}
use Rattle.mm_logic_laws.specs.SpaceLaws.{SpansAreDecided, LeftImage, RightImage, IsSpaceOfSum, IsJoinOfSpaces, JoinOfSpacesIsMeant}

pub spans_decided : SpansAreDecided
spans_decided f n rows h =
    ((λ v hv. is_in_span_decides f n rows v h hv), (λ sows hs. meets_in_zero_decides f n rows sows h hs))

-- ---- the images of rows are W1 and W2

module _ (f : Field) (op : Op) (ok : IsValidOp f op) (rows sows : List (List ℕ)) (hr : AreVectors f op.t1 rows) (hs : AreVectors f op.t2 sows) where
  left : (z : List ℕ) → InSpan f (row_length op) (images f (row_length op) op.g1 rows) z ↔ LeftImage f op rows z
  left z = (
    (λ p. span_of_images f op.t1 (row_length op) rows op.g1 z hr ok.first.rows p),
    (λ p. subst (λ v. InSpan f (row_length op) (images f (row_length op) op.g1 rows) v) p.gives
        (image_of_span f op.t1 (row_length op) rows op.g1 p.source hr ok.first.rows p.inside)),
  )

  right : (z : List ℕ) → InSpan f (row_length op) (images f (row_length op) op.g2 sows) z ↔ RightImage f op sows z
  right z = (
    (λ p. span_of_images f op.t2 (row_length op) sows op.g2 z hs ok.second.rows p),
    (λ p. subst (λ v. InSpan f (row_length op) (images f (row_length op) op.g2 sows) v) p.gives
        (image_of_span f op.t2 (row_length op) sows op.g2 p.source hs ok.second.rows p.inside)),
  )

  -- b times G3 is in the span of all images exactly where it is in W1 + W2
  sums : (z : List ℕ) → InSpan f (row_length op) (images f (row_length op) op.g1 rows ++ images f (row_length op) op.g2 sows) z
      ↔ InSum f (LeftImage f op rows) (RightImage f op sows) z
  sums z =
      let A = images f (row_length op) op.g1 rows in
      let B = images f (row_length op) op.g2 sows in
      let hb : AreVectors f (row_length op) B = AreVectors-images f (row_length op) sows op.g2 op.t2 hs ok.second.rows in (
        (λ p.
            let s = InSum-from_append f (row_length op) A B z hb p in
            record { one = s.one; other = s.other; in_first = (left s.one).0 s.in_first; in_second = (right s.other).0 s.in_second; sum = s.sum }),
        (λ s.
            append_from_InSum f (row_length op) A B z hb
            (record { one = s.one; other = s.other; in_first = (left s.one).1 s.in_first; in_second = (right s.other).1 s.in_second; sum = s.sum })),
      )

  joined_space : IsJoinOfSpaces f op rows sows (ind_join f op (Span op.t1 rows) (Span op.t2 sows))
  unfolding preimage
  joined_space = go (meets_in_zero f r A B) refl
    where
      r : ℕ
      r = row_length op

      A : List (List ℕ)
      A = images f (row_length op) op.g1 rows

      B : List (List ℕ)
      B = images f (row_length op) op.g2 sows

      ha : AreVectors f r A
      ha = AreVectors-images f (row_length op) rows op.g1 op.t1 hr ok.first.rows

      hb : AreVectors f r B
      hb = AreVectors-images f (row_length op) sows op.g2 op.t2 hs ok.second.rows

      space : IsSpaceOfSum f op rows sows (preimage f op.t3 r op.g3 (A ++ B))
      space = record {
        reduced = subspace_is_reduced f op.t3 _;
        all = λ b h.
            let d = (preimage_is f op.t3 r op.g3 (A ++ B) ok.third.rows (All-append (λ v. IsVector f r v) A B ha hb)).decides b h in
            let e = sums (times_matrix f r op.g3 b) in
            ((λ p. e.0 (d.0 p)), (λ q. d.1 (e.1 q)));
      }

      go : (m : Bool) → meets_in_zero f r A B ≡ m → IsJoinOfSpaces f op rows sows (if m then Span op.t3 (preimage f op.t3 r op.g3 (A ++ B)) else Dead)
      go true e = record {
        dead = (
          (λ (q : Span op.t3 (preimage f op.t3 r op.g3 (A ++ B)) ≡ Dead). cc),
          (λ w. absurd (w.nonzero ((meets_in_zero_decides f r A B ha hb).0 e w.common ((left w.common).1 w.in_first) ((right w.common).1 w.in_second)))),
        );
        alive = λ live. (preimage f op.t3 r op.g3 (A ++ B), refl, space);
      }
      go false e =
          let w = meets_nontrivially f r A B ha hb e in
          record {
            dead = (
              (λ q. record { common = w.common; in_first = (left w.common).0 w.in_first; in_second = (right w.common).0 w.in_second; nonzero = w.nonzero }),
              (λ q. refl),
            );
            alive = λ live. absurd (live refl);
          }

pub join_of_spaces_meant : JoinOfSpacesIsMeant
join_of_spaces_meant f op ok = (
  (λ rows sows hr hs. joined_space f op ok rows sows hr hs),
  (λ v. (refl, dead_right v)),
)
  where
    dead_right : (v : Value) → ind_join f op v Dead ≡ Dead
    dead_right (Flag n) = refl
    dead_right Dead = refl
    dead_right (Span t rows) = refl
    dead_right (Pair v w) = refl
    dead_right Empty = refl
    dead_right (With v w) = refl
