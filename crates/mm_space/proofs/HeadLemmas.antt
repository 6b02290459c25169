-- The head of a space is its preimage under the first unit vectors.
use Rattle.std.proofs.Common.{ℕ, suc, ◌+◌, ◌-◌, ◌<◌, ◌≤◌, ◌≡◌, ◌↔◌, inl, inr, List, [], ◌∷◌, ◌++◌, length, map, get_or, take, set, refl, sym, ap, ap₂, ◌∙◌, subst, arith, length-set, append-nil, take_all}
use Rattle.std.specs.List.{range_with_len}
use Rattle.std.proofs.lemmas.Bool.{cases_order}
use Rattle.std.proofs.lemmas.List.{length-take-le, length-replicate, get_or-take, get_or-replicate, get_or-set_same, get_or-set_other, get_or-append_right, get_or_append_left, ext_get_or, get_or-map, take_more, drop_at}
use Rattle.std.proofs.lemmas.List.FromFn.{length-range_with_len, get_or-range_with_len, length-map-range_with_len, take-map-range_with_len}
use Rattle.std.proofs.lemmas.List.Elements.{All-drop, All-cons, All-nil}
use Rattle.mm_field.specs.declared.Field.{Field}
use Rattle.mm_field.specs.declared.Field.TheVariants.{Two}
use Rattle.mm_field.specs.Vectors.{zeros, vector_sum, combination, times_matrix, IsVector, AreVectors, InSpan, SameRowSpace}
use Rattle.mm_field.proofs.VectorLemmas.{IsVector-zeros, vector_sum-zeros}
use Rattle.mm_field.proofs.CombinationLemmas.{InSpan-within, IsWithin-itself, combination-append, combination-zeros, IsVector-combination}
use Rattle.mm_field.proofs.PartLemmas.{IsVector-append}
use Rattle.mm_linear.specs.Coordinates.{unit, free_columns}
use Rattle.mm_linear.specs.Decide.{is_in_span}
use Rattle.mm_linear.specs.Subspaces.{head_of_span, preimage}
use Rattle.mm_linear.proofs.BasisLemmas.{IsVector-unit, completed_is_basis}
use Rattle.mm_linear.proofs.FirstUnits.{first_units, combination-first_units, first_units_independent, first_units_are, first_units_count}
use Rattle.mm_linear.proofs.ReducedEchelonLemmas.{reduced_basis-same}
use Rattle.mm_linear.proofs.SumLemmas.{same_more}
use Rattle.mm_linear.proofs.SubspaceTests.{subspace_same}
use Rattle.mm_space.specs.SpaceValue.{SpaceValue, IsIn, IsSpanOf}
use Rattle.mm_space.specs.KeyValue.{KeyValue, IsKeyOf}
use Rattle.mm_space.specs.Preimages.{IsPreimage, IsHead}

-- ---- one unit vector in its array

unit-get : (r k i : ℕ) → r ≤ 24 → k < r → i < r → get_or (unit r k) i 0 ≡ get_or (set (zeros 24) k 1) i 0
unit-get r k i lr lk li =
    let m = r - suc k in
    let lz : length (zeros k) ≡ k = length-replicate k 0 in
    elim (cases_order i k) [
      | inl e ↦
          let z : i - k ≡ 0 = omega arith in
          get_or-append_right (zeros k) (1 ∷ zeros m) k i 0 lz (omega arith)
          ∙ ap (λ j. get_or (1 ∷ zeros m) j 0) z
          ∙ sym (ap (λ j. get_or (set (zeros 24) k 1) j 0) e ∙ get_or-set_same (zeros 24) k 1 0 (omega arith))
      | inr o ↦ elim o [
        | inl before ↦
            get_or_append_left (zeros k) (1 ∷ zeros m) 0 i (omega arith)
            ∙ get_or-replicate k i 0 0 before
            ∙ sym (get_or-set_other (zeros 24) k i 1 0 (λ e. absurd (omega arith)) ∙ get_or-replicate 24 i 0 0 (omega arith))
        | inr after ↦
            let s : i - k ≡ suc (i - suc k) = omega arith in
            get_or-append_right (zeros k) (1 ∷ zeros m) k i 0 lz (omega arith)
            ∙ ap (λ j. get_or (1 ∷ zeros m) j 0) s
            ∙ get_or-replicate m (i - suc k) 0 0 (omega arith)
            ∙ sym (get_or-set_other (zeros 24) k i 1 0 (λ e. absurd (omega arith)) ∙ get_or-replicate 24 i 0 0 (omega arith))
      ]
    ]

pub unit_taken : (r k : ℕ) → r ≤ 24 → k < r → take r (set (zeros 24) k 1) ≡ unit r k
unit_taken r k lr lk =
    let a = set (zeros 24) k 1 in
    let la : length a ≡ 24 = length-set (zeros 24) k 1 in
    let lt : length (take r a) ≡ r = length-take-le r a (omega arith) in
    let lu : length (unit r k) ≡ r = (IsVector-unit Two r k lk).len in
    ext_get_or 0 (take r a) (unit r k) (lt ∙ sym lu)
    (λ i l.
    let li : i < r = omega arith in
    get_or-take r a i 0 li ∙ sym (unit-get r k i lr lk li))

pub units_more : (r k : ℕ) → map (unit r) (range_with_len 0 (k + 1)) ≡ map (unit r) (range_with_len 0 k) ++ unit r k ∷ []
units_more r k =
    let X = map (unit r) (range_with_len 0 (k + 1)) in
    let lx : length X ≡ k + 1 = length-map-range_with_len (unit r) 0 (k + 1) in
    sym (take_all (k + 1) X (omega arith))
    ∙ take_more X k [] (omega arith)
    ∙ ap₂ (λ x y. x ++ y ∷ []) (take-map-range_with_len (unit r) 0 (k + 1) k (omega arith))
    (get_or-map (unit r) (range_with_len 0 (k + 1)) k 0 [] (omega (arith, length-range_with_len 0 (k + 1)))
    ∙ ap (unit r) (get_or-range_with_len 0 (k + 1) k 0 (omega arith) ∙ omega arith))

-- ---- b times the first unit vectors

units_keep : (f : Field) (t c : ℕ) (b : List ℕ) → IsVector f t b → times_matrix f (t + c) (first_units (t + c) t) b ≡ b ++ zeros c
units_keep f t c b hb =
    let r = t + c in
    let us = first_units r t in
    let ws = map (unit r) (free_columns f r us) in
    let hu = first_units_are f t c in
    let lu : length us ≡ t = first_units_count r t in
    let basis = completed_is_basis f r us hu (first_units_independent f t c) in
    let hw : AreVectors f r ws =
    subst (λ X. AreVectors f r X) (drop_at us ws (length us) refl) (All-drop (λ v. IsVector f r v) (length us) (us ++ ws) basis.each) in
    let hc = IsVector-combination f r b us hu in
    sym (vector_sum-zeros f r (combination f r b us) hc)
    ∙ ap (vector_sum f (combination f r b us)) (sym (combination-zeros f r c ws hw))
    ∙ sym (combination-append f r b (zeros c) us ws (hb.len ∙ sym lu) hw)
    ∙ combination-first_units f t c (b ++ zeros c) (IsVector-append f t c b (zeros c) hb (IsVector-zeros f c))

pub first_units_keep : (f : Field) (r t : ℕ) (b : List ℕ) → t ≤ r → IsVector f t b → times_matrix f r (first_units r t) b ≡ b ++ zeros (r - t)
first_units_keep f r t b l hb =
    let w : t + (r - t) ≡ r = omega arith in
    subst (λ n. times_matrix f n (first_units n t) b ≡ b ++ zeros (r - t)) w (units_keep f t (r - t) b hb)

pub first_units_vectors : (f : Field) (r t : ℕ) → t ≤ r → AreVectors f r (first_units r t)
first_units_vectors f r t l =
    let w : t + (r - t) ≡ r = omega arith in
    subst (λ n. AreVectors f n (first_units n t)) w (first_units_are f t (r - t))

-- ---- the head

pub head_of_preimage : (s : SpaceValue) (t : ℕ) (key : KeyValue) → t ≤ s.r → IsPreimage s (first_units s.r t) t key → IsHead s t key
unfolding preimage head_of_span
head_of_preimage s t key l p =
    let w : s.r ≡ t + (s.r - t) = omega arith in
    let keep = λ (b : List ℕ) (hb : IsVector s.f t b). first_units_keep s.f s.r t b l hb in
    record {
      field = p.field;
      length = p.length;
      each = p.each;
      reduced = p.reduced;
      all = λ b hb. subst (λ v. InSpan s.f t key.rows b ↔ IsIn s v) (keep b hb) (p.all b hb);
      rows =
          p.rows
          ∙ subspace_same s.f t (λ b. is_in_span s.f s.r s.rows (times_matrix s.f s.r (first_units s.r t) b))
          (λ b. is_in_span s.f (t + (s.r - t)) s.rows (b ++ zeros (s.r - t)))
          (λ b hb. ap₂ (λ n v. is_in_span s.f n s.rows v) w (keep b hb));
    }

-- the head of a whole space has its vectors
pub key_of_head : (s : SpaceValue) (vectors : List (List ℕ)) (key : KeyValue) → AreVectors s.f s.r vectors → AreVectors s.f s.r s.rows →
    SameRowSpace s.f s.r vectors s.rows → IsHead s s.r key → IsKeyOf s.f s.r vectors key
key_of_head s vectors key hv hs same head =
    let none : s.r - s.r ≡ 0 = omega arith in
    let bare = λ (b : List ℕ). ap (λ n. b ++ zeros n) none ∙ append-nil b in
    let within : SameRowSpace s.f s.r key.rows vectors = (
      (λ k d l.
          let b = get_or key.rows k d in
          InSpan-within s.f s.r s.rows vectors b hv same.1
          (subst (λ v. IsIn s v) (bare b) ((head.all b (head.each k d l)).0 (IsWithin-itself s.f s.r key.rows head.each k d l)))),
      (λ k d l.
          let b = get_or vectors k d in
          (head.all b (hv k d l)).1 (subst (λ v. IsIn s v) (sym (bare b)) (same.0 k d l))),
    ) in
    record {
      field = head.field;
      length = head.length;
      each = head.each;
      basis = sym head.reduced ∙ reduced_basis-same s.f s.r key.rows vectors head.each hv within;
    }

-- the space of one vector
pub span_of_one : (f : Field) (v : List ℕ) (none one : SpaceValue) (key : KeyValue) → IsVector f (length v) v → IsSpanOf f (length v) [] none →
    IsSpanOf none.f none.r (v ∷ none.rows) one → IsHead one (length v) key → IsKeyOf f (length v) (v ∷ []) key
span_of_one f v none one key hv z o head =
    let t = length v in
    let field = o.field ∙ z.field in
    let width = o.length ∙ z.length in
    let same : SameRowSpace f t (v ∷ none.rows) one.rows =
    subst (λ g. SameRowSpace g t (v ∷ none.rows) one.rows) z.field (subst (λ n. SameRowSpace none.f n (v ∷ none.rows) one.rows) z.length o.span) in
    let each : AreVectors f t one.rows =
    subst (λ g. AreVectors g t one.rows) z.field (subst (λ n. AreVectors none.f n one.rows) z.length o.each) in
    let both : SameRowSpace f t (v ∷ []) one.rows =
    same_more f t v [] none.rows one.rows hv (All-nil (λ u. IsVector f t u)) z.each each z.span same in
    let vectors : AreVectors f t (v ∷ []) = All-cons (λ u. IsVector f t u) v [] hv (All-nil (λ u. IsVector f t u)) in
    go one.f one.r (sym field) (sym width) vectors each both head
  where
    go : (g : Field) (n : ℕ) → f ≡ g → length v ≡ n → AreVectors f (length v) (v ∷ []) → AreVectors f (length v) one.rows →
        SameRowSpace f (length v) (v ∷ []) one.rows → IsHead (record { f = g; r = n; rows = one.rows }) (length v) key →
        IsKeyOf f (length v) (v ∷ []) key
    go g n ef en vectors each both head =
        let h : IsHead (record { f = f; r = length v; rows = one.rows }) (length v) key =
        subst (λ x. IsHead (record { f = x; r = length v; rows = one.rows }) (length v) key) (sym ef)
        (subst (λ m. IsHead (record { f = g; r = m; rows = one.rows }) (length v) key) (sym en) head) in
        key_of_head (record { f = f; r = length v; rows = one.rows }) (v ∷ []) key vectors each both h
