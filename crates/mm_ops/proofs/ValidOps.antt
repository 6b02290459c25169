-- Numbers and matrices without a fault are a valid operator, and a valid operator has no fault.
use Rattle.std.proofs.Common.{ℕ, ◌≡◌, ◌<◌, ◌+◌, ◌==◌, ◌&&◌, nat_le, not, if◌then◌else◌, Bool, true, false, List, [], ◌∷◌, length, map, Option, Some, None, refl, sym, ap, ap₂, ◌↔◌, ◌∙◌, subst, arith}
use Rattle.std.specs.List.{All, list_all, range_with_len}
use Rattle.std.proofs.lemmas.Bool.{leb-true, le-leb, and_parts, eqb-true, eq-eqb}
use Rattle.std.proofs.lemmas.List.{length-map, get_or-map}
use Rattle.std.proofs.lemmas.List.FromFn.{length-range_with_len, get_or-range_with_len}
use Rattle.std.proofs.lemmas.List.Elements.{All-head, All-tail, All-cons, All-nil}
use Rattle.mm_field.specs.declared.Field.{Field}
use Rattle.mm_field.specs.Vectors.{AreDigits, IsVector, AreVectors}
use Rattle.mm_linear.specs.Decide.{is_independent}
use Rattle.mm_linear.specs.Coordinates.{unit}
use Rattle.mm_linear.proofs.DecideLemmas.{is_independent_decides}
use Rattle.mm_linear.proofs.BasisLemmas.{IsVector-unit}
use Rattle.mm_logic.specs.Operator.{Op, IsBoundary, IsValidOp, row_length}
use Rattle.mm_ops.specs.OpFaults.{is_within_bounds, has_shape, has_shapes, first_dependent, dependence, fault_of}
use Rattle.mm_ops.specs.declared.op.OpFault.TheVariants.{Bound, Shape}

shaped_rows : (f : Field) (r : ℕ) (g : List (List ℕ)) → All (λ v. AreDigits f v) g → list_all (λ v. length v == r) g ≡ true → AreVectors f r g
shaped_rows f r [] h e = All-nil (λ v. IsVector f r v)
shaped_rows f r (v ∷ vs) h e =
    let parts = and_parts (length v == r) (list_all (λ v. length v == r) vs) e in
    All-cons (λ v. IsVector f r v) v vs
    (record { len = eqb-true (length v) r parts.0; digits = All-head (λ v. AreDigits f v) v vs h })
    (shaped_rows f r vs (All-tail (λ v. AreDigits f v) v vs h) parts.1)

pub shaped : (f : Field) (t r : ℕ) (g : List (List ℕ)) → All (λ v. AreDigits f v) g → has_shape t r g ≡ true → AreVectors f r g
shaped f t r g h e = shaped_rows f r g h (and_parts (length g == t) (list_all (λ v. length v == r) g) e).1

boundary_of : (f : Field) (t r : ℕ) (g : List (List ℕ)) → All (λ v. AreDigits f v) g → has_shape t r g ≡ true →
    is_independent f r g ≡ true → IsBoundary f t r g
boundary_of f t r g h e ind =
    let rows = shaped f t r g h e in
    record {
      count = eqb-true (length g) t (and_parts (length g == t) (list_all (λ v. length v == r) g) e).0;
      rows = rows;
      independent = (is_independent_decides f r g rows).0 ind;
    }

abbrev chosen : Bool → Bool → Bool → Option ℕ
chosen a b c = if not a then Some 1 else (if not b then Some 2 else (if not c then Some 3 else None))

none_dependent : (f : Field) (r : ℕ) (g1 g2 g3 : List (List ℕ)) → first_dependent f r g1 g2 g3 ≡ None →
    (is_independent f r g1 ≡ true) × (is_independent f r g2 ≡ true) × (is_independent f r g3 ≡ true)
none_dependent f r g1 g2 g3 e = go (is_independent f r g1) (is_independent f r g2) (is_independent f r g3) e
  where
    go : (a b c : Bool) → chosen a b c ≡ None →
        (a ≡ true) × (b ≡ true) × (c ≡ true)
    go true true true e = (refl, refl, refl)
    go true true false e = cc
    go true false c e = cc
    go false b c e = cc

pub valid_op : (f : Field) (op : Op) → is_within_bounds op ≡ true → All (λ v. AreDigits f v) op.g1 → All (λ v. AreDigits f v) op.g2 →
    All (λ v. AreDigits f v) op.g3 → has_shape op.t1 (row_length op) op.g1 ≡ true → has_shape op.t2 (row_length op) op.g2 ≡ true →
    has_shape op.t3 (row_length op) op.g3 ≡ true → first_dependent f (row_length op) op.g1 op.g2 op.g3 ≡ None → IsValidOp f op
valid_op f op b h1 h2 h3 s1 s2 s3 d =
    let p = and_parts (nat_le op.t1 6 && nat_le op.t2 6 && nat_le op.t3 6) (nat_le op.c 12) b in
    let q = and_parts (nat_le op.t1 6 && nat_le op.t2 6) (nat_le op.t3 6) p.0 in
    let r = and_parts (nat_le op.t1 6) (nat_le op.t2 6) q.0 in
    let ind = none_dependent f (row_length op) op.g1 op.g2 op.g3 d in
    record {
      sizes = (leb-true op.t1 6 r.0, leb-true op.t2 6 r.1, leb-true op.t3 6 q.1, leb-true op.c 12 p.1);
      first = boundary_of f op.t1 (row_length op) op.g1 h1 s1 ind.0;
      second = boundary_of f op.t2 (row_length op) op.g2 h2 s2 ind.1;
      third = boundary_of f op.t3 (row_length op) op.g3 h3 s3 ind.2;
    }

-- the digits of the first unit vectors
pub unit_digits : (f : Field) (t c : ℕ) → All (λ v. AreDigits f v) (map (unit (t + c)) (range_with_len 0 t))
unit_digits f t c = λ i d l.
    let k : i < t = (let a = length-map (range_with_len 0 t) (unit (t + c)) in let b = length-range_with_len 0 t in omega arith) in
    subst (λ (v : List ℕ). AreDigits f v)
    (sym (get_or-map (unit (t + c)) (range_with_len 0 t) i 0 d (let b = length-range_with_len 0 t in omega arith)
    ∙ ap (unit (t + c)) (get_or-range_with_len 0 t i 0 k)))
    (IsVector-unit f (t + c) (0 + i) (omega arith)).digits

-- ---- both ways

has_its_shape : (f : Field) (t r : ℕ) (g : List (List ℕ)) → IsBoundary f t r g → has_shape t r g ≡ true
has_its_shape f t r g b =
    ap₂ (λ (x y : Bool). x && y) (eq-eqb (length g) t b.count) (rows g b.rows)
  where
    rows : (g : List (List ℕ)) → AreVectors f r g → list_all (λ v. length v == r) g ≡ true
    rows [] h = refl
    rows (v ∷ vs) h =
        ap₂ (λ (x y : Bool). x && y) (eq-eqb (length v) r (All-head (λ v. IsVector f r v) v vs h).len) (rows vs (All-tail (λ v. IsVector f r v) v vs h))

is_its_own : (f : Field) (t r : ℕ) (g : List (List ℕ)) → IsBoundary f t r g → is_independent f r g ≡ true
is_its_own f t r g b = (is_independent_decides f r g b.rows).1 b.independent

no_fault : (a b : Bool) (o : Option ℕ) → a ≡ true → b ≡ true → o ≡ None →
    (if not a then Some Bound else (if not b then Some Shape else dependence o)) ≡ None
no_fault true true None p q r = refl
no_fault true true (Some k) p q r = cc
no_fault true false o p q r = cc
no_fault false b o p q r = cc

fault_parts : (a b : Bool) (o : Option ℕ) → (if not a then Some Bound else (if not b then Some Shape else dependence o)) ≡ None →
    (a ≡ true) × (b ≡ true) × (o ≡ None)
fault_parts true true None e = (refl, refl, refl)
fault_parts true true (Some k) e = cc
fault_parts true false o e = cc
fault_parts false b o e = cc

pub valid_ops_exactly : (f : Field) (op : Op) → All (λ v. AreDigits f v) op.g1 → All (λ v. AreDigits f v) op.g2 → All (λ v. AreDigits f v) op.g3 →
    (fault_of f op ≡ None) ↔ IsValidOp f op
unfolding fault_of
valid_ops_exactly f op h1 h2 h3 = (there, back)
  where
    there : fault_of f op ≡ None → IsValidOp f op
    there e =
        let p = fault_parts (is_within_bounds op) (has_shapes op) (first_dependent f (row_length op) op.g1 op.g2 op.g3) e in
        let s = and_parts (has_shape op.t1 (row_length op) op.g1 && has_shape op.t2 (row_length op) op.g2) (has_shape op.t3 (row_length op) op.g3) p.1 in
        let q = and_parts (has_shape op.t1 (row_length op) op.g1) (has_shape op.t2 (row_length op) op.g2) s.0 in
        valid_op f op p.0 h1 h2 h3 q.0 q.1 s.1 p.2

    back : IsValidOp f op → fault_of f op ≡ None
    back v =
        no_fault (is_within_bounds op) (has_shapes op) (first_dependent f (row_length op) op.g1 op.g2 op.g3)
        (ap₂ (λ (x y : Bool). x && y)
        (ap₂ (λ (x y : Bool). x && y) (ap₂ (λ (x y : Bool). x && y) (le-leb op.t1 6 v.sizes.0) (le-leb op.t2 6 v.sizes.1)) (le-leb op.t3 6 v.sizes.2))
        (le-leb op.c 12 v.sizes.3))
        (ap₂ (λ (x y : Bool). x && y)
        (ap₂ (λ (x y : Bool). x && y) (has_its_shape f op.t1 (row_length op) op.g1 v.first) (has_its_shape f op.t2 (row_length op) op.g2 v.second))
        (has_its_shape f op.t3 (row_length op) op.g3 v.third))
        (ap (λ (b : Bool). if not b then Some 1 else (if not (is_independent f (row_length op) op.g2) then Some 2 else (if not (is_independent f (row_length op) op.g3) then Some 3 else None)))
        (is_its_own f op.t1 (row_length op) op.g1 v.first)
        ∙ ap (λ (b : Bool). if not b then Some 2 else (if not (is_independent f (row_length op) op.g3) then Some 3 else None)) (is_its_own f op.t2 (row_length op) op.g2 v.second)
        ∙ ap (λ (b : Bool). if not b then Some 3 else None) (is_its_own f op.t3 (row_length op) op.g3 v.third))
