-- One elimination for both images of a join: the steps of its loops, and what it shows.
use Rattle.std.proofs.Common.{ℕ, zero, suc, ◌+◌, ◌-◌, ◌<◌, ◌≤◌, ◌≡◌, ◌↔◌, inl, inr, set, append_assoc, List, [], ◌∷◌, ◌++◌, length, map, get_or, take, drop, reverse, refl, sym, ap, ap₂, ◌∙◌, subst, arith, length-append, length-drop, replicate}
use Rattle.std.proofs.lemmas.Bool.{cases_lt}
use Rattle.std.proofs.lemmas.List.{length-map, length-replicate, get_or-drop, take-append-drop, length-take-le, drop_all, get_or-replicate, get_or-append_right, get_or_append_left, get_or-take, get_or-map, ext_get_or, take_at, take_more, take_more_set}
use Rattle.mm_linear.specs.Padded.{padded}
use Rattle.mm_space.proofs.KeptLemmas.{padded_is}
use Rattle.mm_field.proofs.PartLemmas.{zeros-append}
use Rattle.std.proofs.lemmas.List.Elements.{All-map, All-append, All-drop}
use Rattle.mm_field.specs.declared.Field.{Field}
use Rattle.mm_field.specs.Digits.{times}
use Rattle.mm_field.specs.Vectors.{zeros, combination, times_matrix, IsVector, AreVectors, InSpan, IsWithin, AreIndependent, SameRowSpace}
use Rattle.mm_field.proofs.Tables.{times-zero}
use Rattle.mm_field.proofs.VectorLemmas.{vector_sum_comm}
use Rattle.mm_field.proofs.CombinationLemmas.{IsVector-combination, InSpan-within, IsWithin-itself, IsWithin-within, other_rows, first_row}
use Rattle.mm_linear.specs.Decide.{is_in_span}
use Rattle.mm_linear.specs.Echelons.{EndsAt, ZeroFrom}
use Rattle.mm_linear.specs.ReducedEchelon.{reduced_basis}
use Rattle.mm_linear.specs.Sums.{MeetTrivially}
use Rattle.mm_linear.specs.Subspaces.{preimage}
use Rattle.mm_linear.proofs.EchelonLemmas.{combination_entry_zero, echelon_unique}
use Rattle.mm_linear.proofs.DecideLemmas.{echelon_of_is}
use Rattle.mm_linear.proofs.SpaceLemmas.{IsEchelon-zeros}
use Rattle.mm_space.proofs.PreimageLemmas.{tagged_are}
use Rattle.mm_linear.proofs.HeadLemmas.{IsEchelon-head, InSpan-head}
use Rattle.mm_linear.proofs.IndependenceLemmas.{independent_rest, independent_outside}
use Rattle.mm_linear.proofs.ReducedEchelonLemmas.{AreVectors-reversed, IsVector-reverse, reduced_basis_is}
use Rattle.mm_linear.proofs.MeetTest.{is_in_span_decides}
use Rattle.mm_linear.proofs.SubspaceLemmas.{meet_more, meet_fails}
use Rattle.mm_linear.proofs.SubspaceTests.{IsLinear, subspace-of_rows}
use Rattle.mm_linear.proofs.SumLemmas.{next_rows, same_more, same_itself, meet_none}
use Rattle.mm_linear.proofs.SpanLemmas.{InSum-from_append, append_from_InSum, append_left_in, append_right_in}
use Rattle.mm_space.specs.Insertion.{IsHeld, IsInserted}
use Rattle.mm_space.specs.JoinForms.{FormValue, HaveForm, moved, normal, no_rows, third_rows, form_rows, IsApartFrom, form_images, image_list, sum_of_images}
use Rattle.mm_space.specs.FormView.{IsFormed, value_of}
use Rattle.mm_space.specs.declared.joining.JoinForm.TheInside.{Inside}
use Rattle.mm_space.specs.KeyValue.{KeyValue, IsKeyOf}
use Rattle.mm_space.specs.KeyView.{IsReduced}
use Rattle.mm_space.specs.Preimages.{IsPreimage, tagged_rows}
use Rattle.mm_space.specs.SpaceValue.{corner}
use Rattle.mm_space.proofs.FaithfulLemmas.{IsFaithful, mapped, independent_mapped, meet_mapped, faithful_through, leads_independent}
use Rattle.mm_space.proofs.FormLemmas.{IsBeside, IsVector-moved, normal_is_faithful, third_decides}
use Rattle.mm_space.proofs.JoinRule.{meet_same, reversed_same}
use Rattle.mm_space.proofs.RowLemmas.{residue_ends}
use Rattle.mm_space.proofs.ReversedLemmas.{InSpan-reversed_back, reduced_basis-twice}

-- ---- the rows of a form

pub combination_ends : (f : Field) (w : ℕ) (b : List ℕ) (rows : List (List ℕ)) → AreVectors f 24 rows →
    ((k : ℕ) (d : List ℕ) → k < length rows → EndsAt 24 w (get_or rows k d)) → EndsAt 24 w (combination f 24 b rows)
combination_ends f w b rows hr ends j low m =
    combination_entry_zero f 24 b rows j hr m
    (λ i li. ap (times f (get_or b i 0)) (ends i [] li j low m) ∙ times-zero f (get_or b i 0))

pub form_images_are : (f : Field) (t : ℕ) (form rows : List (List ℕ)) → AreVectors f 24 (take t form) → AreVectors f 24 (form_images f t form rows)
form_images_are f t form rows h =
    All-map (λ v. IsVector f 24 v) (λ b. combination f 24 b (take t form)) rows (λ k d l. IsVector-combination f 24 (get_or rows k d) (take t form) h)

pub moved_ends : (r : ℕ) (u : List ℕ) → r ≤ 18 → length u ≡ r → EndsAt 24 (6 + r) (moved r u)
moved_ends r u l e j low m =
    get_or-append_right (zeros 6) (u ++ zeros (18 - r)) 6 j 0 refl (omega arith)
    ∙ get_or-append_right u (zeros (18 - r)) r (j - 6) 0 e (omega arith)
    ∙ get_or-replicate (18 - r) (j - 6 - r) 0 0 (omega arith)

pub record AreFormRows (f : Field) (w t : ℕ) (form : List (List ℕ)) : Type 0 where
  pub vectors : AreVectors f 24 (take t form)
  pub ends : (k : ℕ) (d : List ℕ) → k < length (take t form) → EndsAt 24 w (get_or (take t form) k d)

pub form_rows_are : (f : Field) (r t : ℕ) (g3 g E form : List (List ℕ)) → IsBeside f r g3 E → IsHeld f 24 (6 + r) E → AreVectors f r g → t ≡ length g →
    take (length g) form ≡ map (normal f r E) g → AreFormRows f (6 + r) t form
form_rows_are f r t g3 g E form b h hg et e =
    let is : take t form ≡ map (normal f r E) g = ap (λ k. take k form) et ∙ e in
    record {
      vectors = subst (λ X. AreVectors f 24 X) (sym is)
          (All-map (λ v. IsVector f 24 v) (normal f r E) g
          (λ k d l. (normal_is_faithful f r g3 E b).linear.vectors (get_or g k d) (hg k d l)));
      ends = subst (λ X. (k : ℕ) (d : List ℕ) → k < length X → EndsAt 24 (6 + r) (get_or X k d)) (sym is)
          (All-map (λ v. EndsAt 24 (6 + r) v) (normal f r E) g
          (λ k d l.
          let u = get_or g k d in
          let hu = hg k d l in
          residue_ends f 24 (6 + r) (moved r u) E h.echelon (IsVector-moved f r u b.narrow hu) h.within (moved_ends r u b.narrow hu.len)));
    }

-- ---- the rows of a key are independent

key_independent : (key : KeyValue) → IsReduced key → AreIndependent key.f key.t key.rows
key_independent key h =
    let b = reduced_basis_is key.f key.t key.rows h.each in
    subst (λ X. AreIndependent key.f key.t X) h.basis
    (leads_independent key.f key.t 0 (reduced_basis key.f key.t key.rows) b.leads b.echelon b.each)

pub images_independent : (f : Field) (form : List (List ℕ)) (key : KeyValue) → IsReduced key → key.f ≡ f → key.t ≤ length form →
    AreVectors f 24 (take key.t form) → AreIndependent f 24 (take key.t form) → AreIndependent f 24 (form_images f key.t form key.rows)
images_independent f form key red ef room h ind =
    let G = take key.t form in
    let lg : length G ≡ key.t = length-take-le key.t form room in
    let rows = subst (λ x. AreVectors x key.t key.rows) ef red.each in
    let free = subst (λ x. AreIndependent x key.t key.rows) ef (key_independent key red) in
    independent_mapped f key.t 24 (times_matrix f 24 G)
    (subst (λ n. IsFaithful f n 24 (times_matrix f 24 G)) lg (faithful_through f 24 G h ind)) key.rows rows free

independent_drop : (f : Field) (n i : ℕ) (R : List (List ℕ)) → AreVectors f n R → AreIndependent f n R → AreIndependent f n (drop i R)
independent_drop f n zero R h ind = ind
independent_drop f n (suc i) [] h ind = ind
independent_drop f n (suc i) (v ∷ R) h ind =
    independent_drop f n i R (other_rows f n v R h) (independent_rest f n v R (first_row f n v R h) ind)

-- ---- the right rows, one by one

pub apart_start : (f : Field) (n r : ℕ) (L R : List (List ℕ)) (i : ℕ) → i ≡ length R → IsHeld f n r L → IsApartFrom f n r L R i L
apart_start f n r L R i e h =
    let none = drop_all i R (omega arith) in
    record {
      low = omega arith;
      held = h;
      span = subst (λ X. SameRowSpace f n (X ++ L) L) (sym none) (same_itself f n L h.echelon.each);
      meet = subst (λ X. MeetTrivially n (InSpan f n L) (InSpan f n X)) (sym none) (meet_none f n L);
    }

pub apart_step : (f : Field) (n r : ℕ) (L R : List (List ℕ)) (i : ℕ) (v : List ℕ) (all new : List (List ℕ)) → AreVectors f n L → AreVectors f n R →
    0 < i → IsApartFrom f n r L R i all → v ≡ get_or R (i - 1) [] → IsInserted f n r v all new → (InSpan f n all v → ⊥) →
    IsApartFrom f n r L R (i - 1) new
apart_step f n r L R i v all new hl hr p a e ins out =
    let low = a.low in
    let S = drop i R in
    let hs = All-drop (λ u. IsVector f n u) i R hr in
    let hv : IsVector f n v = subst (λ u. IsVector f n u) (sym e) (hr (i - 1) [] (omega arith)) in
    let hSL = All-append (λ u. IsVector f n u) S L hs hl in
    let next : v ∷ S ≡ drop (i - 1) R = ap (λ u. u ∷ S) e ∙ sym (next_rows R i p low) in
    let he = a.held.echelon.each in
    let wl = λ (k : ℕ) (d : List ℕ) (l : k < length L).
    InSpan-within f n (S ++ L) all (get_or L k d) he a.span.0 (append_right_in f n S L (get_or L k d) hs hl (IsWithin-itself f n L hl k d l)) in
    let ws = λ (k : ℕ) (d : List ℕ) (l : k < length S).
    InSpan-within f n (S ++ L) all (get_or S k d) he a.span.0 (append_left_in f n S L (get_or S k d) hs hl (IsWithin-itself f n S hs k d l)) in
    record {
      low = omega arith;
      held = record { narrow = a.held.narrow; echelon = ins.echelon; within = ins.within };
      span = subst (λ X. SameRowSpace f n (X ++ L) new) next (same_more f n v (S ++ L) all new hv hSL he ins.echelon.each a.span ins.span);
      meet = subst (λ X. MeetTrivially n (InSpan f n L) (InSpan f n X)) next (meet_more f n L S all v hl hs he hv wl ws out a.meet);
    }

pub apart_fails : (f : Field) (n r : ℕ) (L R : List (List ℕ)) (i : ℕ) (v : List ℕ) (all : List (List ℕ)) → AreVectors f n L → AreVectors f n R →
    AreIndependent f n R → 0 < i → IsApartFrom f n r L R i all → v ≡ get_or R (i - 1) [] → InSpan f n all v → MeetTrivially n (InSpan f n L) (InSpan f n R) → ⊥
apart_fails f n r L R i v all hl hr ind p a e inside meet =
    let low = a.low in
    let S = drop i R in
    let hs = All-drop (λ u. IsVector f n u) i R hr in
    let hv : IsVector f n v = subst (λ u. IsVector f n u) (sym e) (hr (i - 1) [] (omega arith)) in
    let hSL = All-append (λ u. IsVector f n u) S L hs hl in
    let next : v ∷ S ≡ drop (i - 1) R = ap (λ u. u ∷ S) e ∙ sym (next_rows R i p low) in
    let free = subst (λ X. AreIndependent f n X) (sym next) (independent_drop f n (i - 1) R hr ind) in
    let sum = InSum-from_append f n S L v hl (InSpan-within f n all (S ++ L) v hSL a.span.1 inside) in
    meet_fails f n L S v hl hs hv
    (record { one = sum.other; other = sum.one; in_first = sum.in_second; in_second = sum.in_first; sum = vector_sum_comm f sum.other sum.one ∙ sum.sum })
    (λ q. independent_outside f n v S hv free q)
    (λ z zl zs. meet z zl
    (InSpan-within f n (drop (i - 1) R) R z hr (All-drop (λ u. InSpan f n R u) (i - 1) R (IsWithin-itself f n R hr))
    (subst (λ X. InSpan f n X z) next zs)))

-- ---- the whole join

-- the matrices of an operator, and the rows of g1 and g2 in their normal form beside the tagged rows of g3
pub record IsJoinForm (f : Field) (r : ℕ) (g1 g2 g3 first second : List (List ℕ)) : Type 0 where
  pub narrow : r ≤ 18
  pub few1 : length g1 ≤ 6
  pub few2 : length g2 ≤ 6
  pub few3 : length g3 ≤ 6
  pub each1 : AreVectors f r g1
  pub each2 : AreVectors f r g2
  pub each3 : AreVectors f r g3
  pub independent2 : AreIndependent f r g2
  pub independent3 : AreIndependent f r g3
  pub within : ZeroFrom 24 (6 + r) (third_rows f g3)
  pub first_is : take (length g1) first ≡ map (normal f r (third_rows f g3)) g1
  pub second_is : take (length g2) second ≡ map (normal f r (third_rows f g3)) g2

front_of_form : (f : Field) (r : ℕ) (g3 g form : List (List ℕ)) → form_rows f r g3 g ≡ form → take (length g) form ≡ map (normal f r (third_rows f g3)) g
front_of_form f r g3 g form e =
    let h = normal f r (third_rows f g3) in
    ap (take (length g)) (sym e) ∙ take_at (map h g) (replicate (6 - length g) (zeros 24)) (length g) (length-map g h)

join_form_of : (f : Field) (r : ℕ) (g1 g2 g3 first second : List (List ℕ)) → HaveForm f r g1 g2 g3 → form_rows f r g3 g1 ≡ first →
    form_rows f r g3 g2 ≡ second → IsJoinForm f r g1 g2 g3 first second
join_form_of f r g1 g2 g3 first second h e1 e2 = record {
  narrow = h.narrow;
  few1 = h.few1;
  few2 = h.few2;
  few3 = h.few3;
  each1 = h.each1;
  each2 = h.each2;
  each3 = h.each3;
  independent2 = h.independent2;
  independent3 = h.independent3;
  within = h.within;
  first_is = front_of_form f r g3 g1 first e1;
  second_is = front_of_form f r g3 g2 second e2;
}

-- what is kept is a form over the field that is named
pub form_over : (f : Field) (s : Inside) (v : FormValue) → IsFormed s → value_of s ≡ v → f ≡ v.f →
    IsJoinForm f s.r s.g1 s.g2 s.g3 s.first s.second
form_over f s v h e ef =
    subst (λ (x : Field). IsJoinForm x s.r s.g1 s.g2 s.g3 s.first s.second) (ap (λ (u : FormValue). u.f) e ∙ sym ef)
    (join_form_of s.field s.r s.g1 s.g2 s.g3 s.first s.second h.form h.first_is h.second_is)

pub value_over : (f : Field) (s : Inside) (v : FormValue) → value_of s ≡ v → f ≡ v.f →
    record { f = f; r = s.r; g1 = s.g1; g2 = s.g2; g3 = s.g3 } ≡ v
value_over f s v e ef =
    ap (λ (x : Field). record { f = x; r = s.r; g1 = s.g1; g2 = s.g2; g3 = s.g3 }) (ef ∙ sym (ap (λ (u : FormValue). u.f) e)) ∙ e

-- zero rows after the rows of a form
pub form_end : (h : List ℕ → List ℕ) (g out : List (List ℕ)) → length g ≤ 6 → length out ≡ 6 → take (length g) out ≡ map h g →
    ((k : ℕ) → length g ≤ k → k < 6 → get_or out k [] ≡ zeros 24) → out ≡ map h g ++ replicate (6 - length g) (zeros 24)
form_end h g out few size front rest =
    let n = length g in
    let Z = replicate (6 - n) (zeros 24) in
    let ld : length (drop n out) ≡ 6 - n = omega (arith, length-drop n out, size) in
    let lz : length Z ≡ 6 - n = length-replicate (6 - n) (zeros 24) in
    sym (take-append-drop n out)
    ∙ ap₂ (λ x y. x ++ y) front
    (ext_get_or [] (drop n out) Z (ld ∙ sym lz)
    (λ k l.
    get_or-drop n out k [] ∙ rest (n + k) (omega arith) (omega (arith, l, ld, few)) ∙ sym (get_or-replicate (6 - n) k (zeros 24) [] (omega (arith, l, ld)))))

pub beside_of : (f : Field) (r : ℕ) (g1 g2 g3 first second : List (List ℕ)) → (h : IsJoinForm f r g1 g2 g3 first second) → IsBeside f r g3 (third_rows f g3)
beside_of f r g1 g2 g3 first second h =
    let l = h.narrow in
    let T = tagged_rows f (length g3) g3 no_rows in
    let e = echelon_of_is f 24 T (tagged_are f r (length g3) g3 no_rows h.few3 (omega arith) refl h.each3 (IsEchelon-zeros f 24)) in
    record {
      narrow = l;
      few = h.few3;
      each = h.each3;
      independent = h.independent3;
      echelon = e.echelon;
      span = e.span;
    }

-- the held rows are those of the form
pub third_is : (f : Field) (r : ℕ) (g3 E : List (List ℕ)) → r ≤ 18 → length g3 ≤ 6 → AreVectors f r g3 → IsHeld f 24 (6 + r) E →
    SameRowSpace f 24 (tagged_rows f (length g3) g3 no_rows) E → E ≡ third_rows f g3
third_is f r g3 E l few h he s =
    let T = tagged_rows f (length g3) g3 no_rows in
    let hT = tagged_are f r (length g3) g3 no_rows few (omega arith) refl h (IsEchelon-zeros f 24) in
    let e = echelon_of_is f 24 T hT in
    echelon_unique f 24 E (third_rows f g3) he.echelon e.echelon (
      IsWithin-within f 24 E T (third_rows f g3) e.echelon.each s.1 e.span.0,
      IsWithin-within f 24 (third_rows f g3) T E he.echelon.each e.span.1 s.0,
    )

mapped_images : (f : Field) (r n : ℕ) (h : List ℕ → List ℕ) → IsLinear f r n h → (g rows : List (List ℕ)) → AreVectors f r g →
    map (λ b. combination f n b (map h g)) rows ≡ map h (map (times_matrix f r g) rows)
mapped_images f r n h lin g [] hg = refl
mapped_images f r n h lin g (b ∷ rows) hg = ap₂ (λ x y. x ∷ y) (mapped f r n h lin b g hg) (mapped_images f r n h lin g rows hg)

pub images_moved : (f : Field) (r t : ℕ) (g3 g E form rows : List (List ℕ)) → IsBeside f r g3 E → AreVectors f r g → t ≡ length g →
    take (length g) form ≡ map (normal f r E) g → form_images f t form rows ≡ map (normal f r E) (image_list f r g rows)
images_moved f r t g3 g E form rows b hg et e =
    ap (λ X. map (λ c. combination f 24 c X) rows) (ap (λ k. take k form) et ∙ e)
    ∙ mapped_images f r 24 (normal f r E) (normal_is_faithful f r g3 E b).linear g rows hg

pub image_vectors : (f : Field) (r : ℕ) (g rows : List (List ℕ)) → AreVectors f r g → AreVectors f r (image_list f r g rows)
image_vectors f r g rows hg = All-map (λ v. IsVector f r v) (times_matrix f r g) rows (λ k d l. IsVector-combination f r (get_or rows k d) g hg)

pub second_independent : (f : Field) (r t : ℕ) (g1 g2 g3 first second : List (List ℕ)) → (h : IsJoinForm f r g1 g2 g3 first second) → t ≡ length g2 →
    AreIndependent f 24 (take t second)
second_independent f r t g1 g2 g3 first second h et =
    subst (λ X. AreIndependent f 24 X) (sym (ap (λ k. take k second) et ∙ h.second_is))
    (independent_mapped f r 24 (normal f r (third_rows f g3)) (normal_is_faithful f r g3 (third_rows f g3) (beside_of f r g1 g2 g3 first second h)) g2 h.each2 h.independent2)

-- what both loops made of the images
pub record IsJoined (f : Field) (r t u : ℕ) (first second rows sows L : List (List ℕ)) : Type 0 where
  pub left : SameRowSpace f 24 (form_images f t first rows) L
  pub each : AreVectors f 24 L

pub meet_of_images : (f : Field) (r t u : ℕ) (g1 g2 g3 first second rows sows L : List (List ℕ)) → IsJoinForm f r g1 g2 g3 first second →
    t ≡ length g1 → u ≡ length g2 → IsJoined f r t u first second rows sows L →
    MeetTrivially 24 (InSpan f 24 L) (InSpan f 24 (form_images f u second sows)) ↔ MeetTrivially r (InSpan f r (image_list f r g1 rows)) (InSpan f r (image_list f r g2 sows))
meet_of_images f r t u g1 g2 g3 first second rows sows L h et eu j =
    let b = beside_of f r g1 g2 g3 first second h in
    let n = normal f r (third_rows f g3) in
    let un = normal_is_faithful f r g3 (third_rows f g3) b in
    let A = image_list f r g1 rows in
    let B = image_list f r g2 sows in
    let ha = image_vectors f r g1 rows h.each1 in
    let hb = image_vectors f r g2 sows h.each2 in
    let ma = images_moved f r t g3 g1 (third_rows f g3) first rows b h.each1 et h.first_is in
    let mb = images_moved f r u g3 g2 (third_rows f g3) second sows b h.each2 eu h.second_is in
    let hA : AreVectors f 24 (map n A) = All-map (λ v. IsVector f 24 v) n A (λ k d l. un.linear.vectors (get_or A k d) (ha k d l)) in
    let hB : AreVectors f 24 (map n B) = All-map (λ v. IsVector f 24 v) n B (λ k d l. un.linear.vectors (get_or B k d) (hb k d l)) in
    let left : SameRowSpace f 24 (map n A) L = subst (λ X. SameRowSpace f 24 X L) ma j.left in
    let both = meet_mapped f r 24 n un A B ha hb in
    let self = same_itself f 24 (map n B) hB in (
      (λ m. both.0 (meet_same f 24 (map n A) (map n B) L (map n B) j.each hB left self (subst (λ X. MeetTrivially 24 (InSpan f 24 L) (InSpan f 24 X)) mb m))),
      (λ m. subst (λ X. MeetTrivially 24 (InSpan f 24 L) (InSpan f 24 X)) (sym mb) (meet_same f 24 L (map n B) (map n A) (map n B) hA hB (reversed_same f 24 (map n A) L left) self (both.1 m))),
    )

swapped : (f : Field) (n : ℕ) (A B : List (List ℕ)) (z : List ℕ) → AreVectors f n A → AreVectors f n B → InSpan f n (A ++ B) z → InSpan f n (B ++ A) z
swapped f n A B z ha hb p =
    let s = InSum-from_append f n A B z hb p in
    append_from_InSum f n B A z ha
    (record { one = s.other; other = s.one; in_first = s.in_second; in_second = s.in_first; sum = vector_sum_comm f s.other s.one ∙ s.sum })

map-append-two : (h : List ℕ → List ℕ) (A B : List (List ℕ)) → map h A ++ map h B ≡ map h (A ++ B)
map-append-two h [] B = refl
map-append-two h (x ∷ A) B = ap (λ y. h x ∷ y) (map-append-two h A B)

-- b is in the turned corner exactly where b*G3 is in the sum of the images
join_decides : (f : Field) (r t u : ℕ) (g1 g2 g3 first second rows sows L all : List (List ℕ)) → IsJoinForm f r g1 g2 g3 first second →
    t ≡ length g1 → u ≡ length g2 → IsJoined f r t u first second rows sows L →
    IsApartFrom f 24 (6 + r) L (form_images f u second sows) 0 all → (b : List ℕ) → IsVector f (length g3) b →
    InSpan f (length g3) (map reverse (corner (length g3) all)) b ↔ InSpan f r (image_list f r g1 rows ++ image_list f r g2 sows) (times_matrix f r g3 b)
join_decides f r t u g1 g2 g3 first second rows sows L all h et eu j a b hb =
    let be = beside_of f r g1 g2 g3 first second h in
    let few = h.few3 in
    let k = length g3 in
    let n = normal f r (third_rows f g3) in
    let un = normal_is_faithful f r g3 (third_rows f g3) be in
    let A = image_list f r g1 rows in
    let B = image_list f r g2 sows in
    let ha = image_vectors f r g1 rows h.each1 in
    let hb' = image_vectors f r g2 sows h.each2 in
    let ma = images_moved f r t g3 g1 (third_rows f g3) first rows be h.each1 et h.first_is in
    let mb = images_moved f r u g3 g2 (third_rows f g3) second sows be h.each2 eu h.second_is in
    let hA : AreVectors f 24 (map n A) = All-map (λ v. IsVector f 24 v) n A (λ i d l. un.linear.vectors (get_or A i d) (ha i d l)) in
    let hB : AreVectors f 24 (map n B) = All-map (λ v. IsVector f 24 v) n B (λ i d l. un.linear.vectors (get_or B i d) (hb' i d l)) in
    let left : SameRowSpace f 24 (map n A) L = subst (λ X. SameRowSpace f 24 X L) ma j.left in
    let span : SameRowSpace f 24 (map n B ++ L) all = subst (λ X. SameRowSpace f 24 (X ++ L) all) mb a.span in
    let he = a.held.echelon in
    let hBA = All-append (λ v. IsVector f 24 v) (map n B) (map n A) hB hA in
    let hBL = All-append (λ v. IsVector f 24 v) (map n B) L hB j.each in
    let itself = IsWithin-itself f 24 (map n B) hB in
    let b_in = λ (i : ℕ) (d : List ℕ) (l : i < length (map n B)). append_left_in f 24 (map n B) (map n A) (get_or (map n B) i d) hB hA (itself i d l) in
    let l_in = λ (i : ℕ) (d : List ℕ) (l : i < length L).
    append_right_in f 24 (map n B) (map n A) (get_or L i d) hB hA (left.1 i d l) in
    let b_all = λ (i : ℕ) (d : List ℕ) (l : i < length (map n B)). append_left_in f 24 (map n B) L (get_or (map n B) i d) hB j.each (itself i d l) in
    let a_all = λ (i : ℕ) (d : List ℕ) (l : i < length (map n A)).
    append_right_in f 24 (map n B) L (get_or (map n A) i d) hB j.each (left.0 i d l) in
    let x = reverse b ++ zeros (24 - k) in
    let hC = IsEchelon-head f 24 k all he (omega arith) in
    let turned = InSpan-reversed_back f k (corner k all) b hC.each in
    let head = InSpan-head f 24 k all he (omega arith) (reverse b) (IsVector-reverse f k b hb) in
    let third = third_decides f r g3 (third_rows f g3) be (B ++ A) (All-append (λ v. IsVector f r v) B A hb' ha) b hb in
    let z = times_matrix f r g3 b in
    let down : InSpan f 24 all x → InSpan f 24 (map n (B ++ A)) x = λ p.
    subst (λ X. InSpan f 24 X x) (map-append-two n B A)
    (InSpan-within f 24 (map n B ++ L) (map n B ++ map n A) x hBA (All-append (λ v. InSpan f 24 (map n B ++ map n A) v) (map n B) L b_in l_in)
    (InSpan-within f 24 all (map n B ++ L) x hBL span.1 p)) in
    let up : InSpan f 24 (map n (B ++ A)) x → InSpan f 24 all x = λ p.
    InSpan-within f 24 (map n B ++ L) all x he.each span.0
    (InSpan-within f 24 (map n B ++ map n A) (map n B ++ L) x hBL (All-append (λ v. InSpan f 24 (map n B ++ L) v) (map n B) (map n A) b_all a_all)
    (subst (λ X. InSpan f 24 X x) (sym (map-append-two n B A)) p)) in (
      (λ p. swapped f r B A z hb' ha (third.0 (down (head.0 (turned.0 p))))),
      (λ p. turned.1 (head.1 (up (third.1 (swapped f r A B z ha hb' p))))),
    )

pub key_of_join : (f : Field) (r t u : ℕ) (g1 g2 g3 first second rows sows L all : List (List ℕ)) (key : KeyValue) → IsJoinForm f r g1 g2 g3 first second →
    t ≡ length g1 → u ≡ length g2 → IsJoined f r t u first second rows sows L →
    IsApartFrom f 24 (6 + r) L (form_images f u second sows) 0 all → IsKeyOf f (length g3) (map reverse (corner (length g3) all)) key →
    IsPreimage (sum_of_images f r g1 g2 rows sows) g3 (length g3) key
unfolding preimage
key_of_join f r t u g1 g2 g3 first second rows sows L all key h et eu j a k =
    let few = h.few3 in
    let n = length g3 in
    let A = image_list f r g1 rows in
    let B = image_list f r g2 sows in
    let hAB = All-append (λ v. IsVector f r v) A B (image_vectors f r g1 rows h.each1) (image_vectors f r g2 sows h.each2) in
    let hC = IsEchelon-head f 24 n all a.held.echelon (omega arith) in
    let R = map reverse (corner n all) in
    let hR = AreVectors-reversed f n (corner n all) hC.each in
    let decides = join_decides f r t u g1 g2 g3 first second rows sows L all h et eu j a in
    let b = reduced_basis_is f n R hR in
    let tests = λ (b : List ℕ). is_in_span_decides f r (A ++ B) (times_matrix f r g3 b) hAB (IsVector-combination f r b g3 h.each3) in
    record {
      field = k.field;
      length = k.length;
      each = k.each;
      reduced = ap (reduced_basis f n) k.basis ∙ reduced_basis-twice f n R hR ∙ sym k.basis;
      all = λ b hb. (
        (λ p. (decides b hb).0 (InSpan-within f n key.rows R b hR (subst (λ X. IsWithin f n X R) (sym k.basis) (reduced_basis_is f n R hR).span.1) p)),
        (λ p. InSpan-within f n R key.rows b k.each (subst (λ X. IsWithin f n R X) (sym k.basis) (reduced_basis_is f n R hR).span.0) ((decides b hb).1 p)),
      );
      rows =
          k.basis
          ∙ sym (subspace-of_rows f n (λ b. is_in_span f r (A ++ B) (times_matrix f r g3 b)) R hR
          (λ b hb. ((λ p. (tests b).1 ((decides b hb).0 p)), (λ p. (decides b hb).1 ((tests b).0 p)))));
    }

-- ---- one row moved in its array

pub moved_from_entries : (x out : List ℕ) → length x ≡ 24 → length out ≡ 24 → ((i : ℕ) → i < 6 → get_or out i 0 ≡ 0) →
    ((i : ℕ) → i < 18 → get_or out (6 + i) 0 ≡ get_or x i 0) → out ≡ zeros 6 ++ take 18 x
moved_from_entries x out lx lo front back =
    let lt : length (take 18 x) ≡ 18 = length-take-le 18 x (omega arith) in
    let la : length (zeros 6 ++ take 18 x) ≡ 24 = length-append (zeros 6) (take 18 x) ∙ ap (λ n. 6 + n) lt in
    ext_get_or 0 out (zeros 6 ++ take 18 x) (lo ∙ sym la)
    (λ i l.
    elim (cases_lt i 6) [
      | inl early ↦ front i early ∙ sym (get_or_append_left (zeros 6) (take 18 x) 0 i early ∙ get_or-replicate 6 i 0 0 early)
      | inr late ↦
          let e : 6 + (i - 6) ≡ i = omega arith in
          ap (λ k. get_or out k 0) (sym e)
          ∙ back (i - 6) (omega arith)
          ∙ sym (get_or-append_right (zeros 6) (take 18 x) 6 i 0 refl late ∙ get_or-take 18 x (i - 6) 0 (omega arith))
    ])

-- the stored row of g, moved
pub stored_moved : (f : Field) (r : ℕ) (v : List ℕ) → r ≤ 18 → IsVector f r v → zeros 6 ++ take 18 (padded 24 v) ≡ moved r v
stored_moved f r v l hv =
    let s : 18 - r + 6 ≡ 24 - r = omega arith in
    let w : r + (18 - r) ≡ 18 = omega arith in
    let len : length (v ++ zeros (18 - r)) ≡ 18 = length-append v (zeros (18 - r)) ∙ ap₂ (λ x y. x + y) hv.len (length-replicate (18 - r) 0) ∙ w in
    ap (λ y. zeros 6 ++ y)
    (ap (take 18) (padded_is 24 r v hv.len)
    ∙ ap (λ x. take 18 (v ++ x)) (sym (zeros-append (18 - r) 6 ∙ ap zeros s))
    ∙ ap (take 18) (sym (append_assoc v (zeros (18 - r)) (zeros 6)))
    ∙ take_at (v ++ zeros (18 - r)) (zeros 6) 18 len)

-- one row more of a form
pub form_step : (h : List ℕ → List ℕ) (g out : List (List ℕ)) (i : ℕ) (v : List ℕ) → i < length g → i < length out → take i out ≡ take i (map h g) →
    v ≡ h (get_or g i []) → take (i + 1) (set out i v) ≡ take (i + 1) (map h g)
form_step h g out i v lg lo e v_is =
    let lh = length-map g h in
    take_more_set out i v lo
    ∙ ap₂ (λ x y. x ++ y ∷ []) e (v_is ∙ sym (get_or-map h g i [] [] lg))
    ∙ sym (take_more (map h g) i [] (omega arith))

pub held_of_form : (f : Field) (r : ℕ) (g1 g2 g3 first second : List (List ℕ)) → (h : IsJoinForm f r g1 g2 g3 first second) →
    IsHeld f 24 (6 + r) (third_rows f g3)
held_of_form f r g1 g2 g3 first second h =
    let l = h.narrow in
    record { narrow = omega arith; echelon = (beside_of f r g1 g2 g3 first second h).echelon; within = h.within }
