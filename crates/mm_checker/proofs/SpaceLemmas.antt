-- What `ind` says at leaves and joins, as the calls on keys and spaces compute it.
use Rattle.std.proofs.Common.{◌≡◌, ◌↔◌, ◌==◌, ℕ, Bool, true, false, List, [], ◌∷◌, ◌++◌, length, map, refl, sym, ap, ◌∙◌, subst, if◌then◌else◌}
use Rattle.std.specs.Prelude.{IsTrue}
use Rattle.std.specs.List.{list_all}
use Rattle.std.proofs.lemmas.List.Elements.{All-nil, All-cons}
use Rattle.mm_field.specs.declared.Field.{Field}
use Rattle.mm_field.specs.Vectors.{AreDigits, IsVector, AreVectors, InSpan, times_matrix}
use Rattle.mm_field.proofs.CombinationLemmas.{IsVector-combination}
use Rattle.mm_linear.specs.Decide.{is_in_span}
use Rattle.mm_linear.specs.ReducedEchelon.{reduced_basis}
use Rattle.mm_linear.specs.Subspaces.{preimage}
use Rattle.mm_linear.specs.Sums.{MeetTrivially}
use Rattle.mm_linear.proofs.MeetTest.{is_in_span_decides}
use Rattle.mm_linear.proofs.SubspaceTests.{subspace-of_rows}
use Rattle.mm_logic.specs.BoundarySpaces.{span_of, ind_elem, ind_void, ind_join, images}
use Rattle.mm_logic.specs.Operator.{Op, IsValidOp, row_length}
use Rattle.mm_logic.specs.Order.{normal}
use Rattle.mm_logic.specs.Value.{Value, set_of, value_cmp}
use Rattle.mm_logic.specs.Value.Value.{Dead, Span}
use Rattle.mm_space.specs.KeyValue.{KeyValue, IsKeyOf}
use Rattle.mm_space.specs.Preimages.{IsPreimage}
use Rattle.mm_space.specs.SpaceValue.{SpaceValue, IsSpanOf}
use Rattle.mm_space.proofs.JoinRule.{AreImages, meets_rule, key_rule}
use Rattle.mm_checker.specs.Claims.{atom_content, atom_value}
use Rattle.mm_checker.specs.declared.certificate.Content.{Content}
use Rattle.mm_checker.specs.declared.certificate.Content.TheVariants as content

-- the span of rows, as it is written
span_basis : (f : Field) (t : ℕ) (rows : List (List ℕ)) → AreVectors f t rows → reduced_basis f t rows ≡ span_of f t rows
span_basis f t rows h =
    sym (subspace-of_rows f t (λ b. is_in_span f t rows b) rows h (λ b hb. let d = is_in_span_decides f t rows b h hb in (d.1, d.0)))

-- ---- at a leaf

pub zero_is : (f : Field) (t : ℕ) (key : KeyValue) → IsKeyOf f t [] key → content.Space key ≡ atom_content f (ind_void f t)
zero_is f t key k =
    (λ i. content.Space (record { f = k.field i; t = k.length i; rows = k.basis i }))
    ∙ ap (λ rows. content.Space (record { f = f; t = t; rows = rows })) (span_basis f t [] (All-nil (λ v. IsVector f t v)))

-- `ind` of a vector by whether it is zero
abbrev at_vector : Field → List ℕ → Bool → Value
at_vector f vec b = if b then Dead else Span (length vec) (span_of f (length vec) (vec ∷ []))

pub span_is : (f : Field) (vec : List ℕ) (key : KeyValue) → AreDigits f vec → IsKeyOf f (length vec) (vec ∷ []) key → list_all (λ d. d == 0) vec ≡ false
    → content.Space key ≡ atom_content f (ind_elem f vec true)
span_is f vec key h k e =
    (λ i. content.Space (record { f = k.field i; t = k.length i; rows = k.basis i }))
    ∙ ap (λ rows. content.Space (record { f = f; t = length vec; rows = rows }))
    (span_basis f (length vec) (vec ∷ []) (All-cons (λ v. IsVector f (length vec) v) vec [] (record { len = refl; digits = h }) (All-nil (λ v. IsVector f (length vec) v))))
    ∙ sym (ap (λ b. atom_content f (at_vector f vec b)) e)

pub dead_is : (f : Field) (vec : List ℕ) → list_all (λ d. d == 0) vec ≡ true → content.Dead ≡ atom_content f (ind_elem f vec true)
dead_is f vec e = sym (ap (λ b. atom_content f (at_vector f vec b)) e)

-- ---- at a join

images_are : (f : Field) (r : ℕ) (g bs : List (List ℕ)) → AreVectors f r g → AreVectors f r (map (times_matrix f r g) bs)
images_are f r g [] h = All-nil (λ v. IsVector f r v)
images_are f r g (b ∷ bs) h =
    All-cons (λ v. IsVector f r v) (times_matrix f r g b) (map (times_matrix f r g) bs) (IsVector-combination f r b g h) (images_are f r g bs h)

pub spans_images : (f f' : Field) (r r' : ℕ) (g g' rows : List (List ℕ)) (s : SpaceValue) → f' ≡ f → r' ≡ r → g' ≡ g
    → IsSpanOf f' r' (map (times_matrix f' r' g') rows) s → IsSpanOf f r (images f r g rows) s
spans_images f f' r r' g g' rows s ef er eg h =
    subst (λ x. IsSpanOf x r (map (times_matrix x r g) rows) s) ef
    (subst (λ x. IsSpanOf f' x (map (times_matrix f' x g) rows) s) er (subst (λ x. IsSpanOf f' r' (map (times_matrix f' r' x) rows) s) eg h))

pub is_preimage : (s : SpaceValue) (g g' : List (List ℕ)) (t t' : ℕ) (key : KeyValue) → g' ≡ g → t' ≡ t → IsPreimage s g' t' key → IsPreimage s g t key
is_preimage s g g' t t' key eg et h = subst (λ x. IsPreimage s x t key) eg (subst (λ x. IsPreimage s g' x key) et h)

-- spaces that span the images of two keys under an operator
pub record Sides (f : Field) (op : Op) (left right : KeyValue) (first second : SpaceValue) : Type 0 where
  pub valid : IsValidOp f op
  pub left_images : IsSpanOf f (row_length op) (images f (row_length op) op.g1 left.rows) first
  pub right_images : IsSpanOf f (row_length op) (images f (row_length op) op.g2 right.rows) second

module _ (f : Field) (op : Op) (left right : KeyValue) (first second : SpaceValue) (h : Sides f op left right first second) where
  abbrev lefts : List (List ℕ)
  lefts = images f (row_length op) op.g1 left.rows

  abbrev rights : List (List ℕ)
  rights = images f (row_length op) op.g2 right.rows

  are_images : AreImages f (row_length op) lefts rights first second
  are_images = record {
    first = h.left_images;
    second = h.right_images;
    first_each = images_are f (row_length op) op.g1 left.rows h.valid.first.rows;
    second_each = images_are f (row_length op) op.g2 right.rows h.valid.second.rows;
  }

  -- `ind` of the join by whether the images meet in zero alone
  abbrev by_meet : Bool → Value
  by_meet b = if b then Span op.t3 (preimage f op.t3 (row_length op) op.g3 (lefts ++ rights)) else Dead

  abbrev MeetsAs : Bool → Type 0
  MeetsAs b = IsTrue b ↔ MeetTrivially first.r (InSpan first.f first.r first.rows) (InSpan first.f first.r second.rows)

  tested : (b : Bool) → MeetsAs b → atom_content f (by_meet b) ≡ atom_content f (ind_join f op (Span left.t left.rows) (Span right.t right.rows))
  tested b m = ap (λ x. atom_content f (by_meet x)) (meets_rule f (row_length op) lefts rights first second b are_images m)

  pub meet_is : (b : Bool) → MeetsAs b → b ≡ false → content.Dead ≡ atom_content f (ind_join f op (Span left.t left.rows) (Span right.t right.rows))
  meet_is b m e = sym (ap (λ x. atom_content f (by_meet x)) e) ∙ tested b m

  pub joined_is : (all : SpaceValue) (key : KeyValue) → IsSpanOf first.f first.r (first.rows ++ second.rows) all → IsPreimage all op.g3 op.t3 key →
      (b : Bool) → MeetsAs b → b ≡ true → content.Space key ≡ atom_content f (ind_join f op (Span left.t left.rows) (Span right.t right.rows))
  joined_is all key sum p b m e =
      (λ i. content.Space (record {
        f = (p.field ∙ sum.field ∙ h.left_images.field) i;
        t = p.length i;
        rows = key_rule f (row_length op) lefts rights first second all op.g3 op.t3 key are_images h.valid.third.rows sum p i;
      }))
      ∙ sym (ap (λ x. atom_content f (by_meet x)) e)
      ∙ tested b m

-- ---- where one of two is no space

abbrev Joins : Field → Op → Content → Content → Type 0
Joins f op x y = content.Dead ≡ atom_content f (ind_join f op (atom_value x) (atom_value y))

module _ (f : Field) (op : Op) where
  set_left : (vs : List Value) (w : Value) → content.Dead ≡ atom_content f (ind_join f op (set_of vs) w)
  set_left [] w = refl
  set_left (v ∷ vs) w = refl

  set_right : (t : ℕ) (rows : List (List ℕ)) (vs : List Value) → content.Dead ≡ atom_content f (ind_join f op (Span t rows) (set_of vs))
  set_right t rows [] = refl
  set_right t rows (v ∷ vs) = refl

  pub dead_left : (x y : Content) → ((key : KeyValue) → x ≡ content.Space key → ⊥) → Joins f op x y
  dead_left (content.Flag n) y h = refl
  dead_left content.Dead y h = refl
  dead_left (content.Space key) y h = absurd (h key refl)
  dead_left (content.Parts a b) y h = refl
  dead_left (content.SetOf ns) y h = set_left (normal value_cmp (map (λ n. Dead) ns)) (atom_value y)
  dead_left (content.OneOf a ns) y h = refl

  after_space : (key : KeyValue) (y : Content) → ((other : KeyValue) → y ≡ content.Space other → ⊥) → Joins f op (content.Space key) y
  after_space key (content.Flag n) h = refl
  after_space key content.Dead h = refl
  after_space key (content.Space other) h = absurd (h other refl)
  after_space key (content.Parts a b) h = refl
  after_space key (content.SetOf ns) h = set_right key.t key.rows (normal value_cmp (map (λ n. Dead) ns))
  after_space key (content.OneOf a ns) h = refl

  pub dead_right : (x y : Content) → ((key : KeyValue) → y ≡ content.Space key → ⊥) → Joins f op x y
  dead_right (content.Flag n) y h = refl
  dead_right content.Dead y h = refl
  dead_right (content.Space key) y h = after_space key y h
  dead_right (content.Parts a b) y h = refl
  dead_right (content.SetOf ns) y h = set_left (normal value_cmp (map (λ n. Dead) ns)) (atom_value y)
  dead_right (content.OneOf a ns) y h = refl
