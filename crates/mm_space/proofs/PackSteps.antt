-- Steps of packing the rows of a corner, from the last basis row to the first.
use Rattle.std.proofs.Common.{ℕ, ◌+◌, ◌*◌, ◌^◌, ◌<◌, ◌≤◌, ◌≡◌, List, [], ◌∷◌, length, map, get_or, take, reverse, refl, sym, ap, ap₂, ◌∙◌, subst, arith}
use Rattle.std.specs.Prelude.{All}
use Rattle.std.proofs.lemmas.List.Elements.{All-weaker, All-nil}
use Rattle.mm_field.specs.declared.Field.{Field}
use Rattle.mm_field.specs.Vectors.{IsVector, AreVectors}
use Rattle.mm_field.proofs.Tables.{order-most}
use Rattle.mm_linear.specs.Echelons.{entry, IsEchelon}
use Rattle.mm_linear.specs.ReducedEchelon.{reversed_rows, reduced_basis}
use Rattle.mm_linear.proofs.HeadLemmas.{IsEchelon-head}
use Rattle.mm_linear.proofs.ReducedEchelonLemmas.{AreVectors-reversed, reduced_basis_is}
use Rattle.mm_linear.proofs.LeftUnique.{basis_of_none}
use Rattle.mm_space.specs.SpaceValue.{corner}
use Rattle.mm_space.specs.KeyValue.{KeyValue, IsKeyOf, number_onto, joined_rows, packed, unpacked, code_of}
use Rattle.mm_space.specs.KeyView.{IsReduced, IsPacked}
use Rattle.mm_space.proofs.PackLemmas.{number_onto-append, Fits, unpacked-packed}
use Rattle.mm_space.proofs.ReversedLemmas.{corner_row, corner_entry, reversed_rows-taken, reversed_rows-left_out, reversed_rows-few, reduced_basis-reversed, reduced_basis-twice}

pub record IsPacking (t : ℕ) (rows : List (List ℕ)) (j packed rank : ℕ) : Type 0 where
  pub packed_is : packed ≡ number_onto 0 (joined_rows (reversed_rows (corner t rows) j))
  pub rank_is : rank ≡ length (reversed_rows (corner t rows) j)
  pub few : rank ≤ j
  pub room : packed < 2 ^ (18 * rank)

pub packing_step : (t : ℕ) (rows : List (List ℕ)) (j packed rank new : ℕ) → j < t → t ≤ length rows → IsPacking t rows j packed rank →
    (entry rows j j ≡ 0 → ⊥) → new ≡ number_onto packed (reverse (take t (get_or rows j []))) →
    ((b : ℕ) → packed < 2 ^ b → new < 2 ^ (b + 18)) → IsPacking t rows (j + 1) new (rank + 1)
packing_step t rows j packed rank new lj lt h ne new_is room =
    let C = corner t rows in
    let T = reversed_rows C j in
    let taken = reversed_rows-taken C j (λ e. ne (sym (corner_entry t rows j j lj lj lt) ∙ e)) in
    let few = h.few in
    let rank_is = h.rank_is in
    record {
      packed_is =
          new_is
          ∙ ap₂ (λ p v. number_onto p (reverse v)) h.packed_is (sym (corner_row t rows j lj lt))
          ∙ sym (number_onto-append 0 (reverse (get_or C j [])) (joined_rows T))
          ∙ ap (λ X. number_onto 0 (joined_rows X)) (sym taken);
      rank_is = let e : length (reversed_rows C (j + 1)) ≡ length (reverse (get_or C j []) ∷ T) = ap length taken in omega arith;
      few = omega arith;
      room = let e : 18 * rank + 18 ≡ 18 * (rank + 1) = omega arith in subst (λ b. new < 2 ^ b) e (room (18 * rank) h.room);
    }

pub packing_zero : (t : ℕ) (rows : List (List ℕ)) (j packed rank : ℕ) → j < t → t ≤ length rows → IsPacking t rows j packed rank →
    entry rows j j ≡ 0 → IsPacking t rows (j + 1) packed rank
packing_zero t rows j packed rank lj lt h e =
    let C = corner t rows in
    let same = reversed_rows-left_out C j (corner_entry t rows j j lj lj lt ∙ e) in
    let few = h.few in
    record {
      packed_is = h.packed_is ∙ ap (λ X. number_onto 0 (joined_rows X)) (sym same);
      rank_is = h.rank_is ∙ ap length (sym same);
      few = omega arith;
      room = h.room;
    }

pub small_digits : (f : Field) (n : ℕ) (rows : List (List ℕ)) → AreVectors f n rows → All (λ row. All (λ d. d < 8) row) rows
small_digits f n rows h k d l i e m = let a = (h k d l).digits i e m in let b = order-most f in omega arith

-- ---- the whole key

pub corner_basis : Field → ℕ → List (List ℕ) → KeyValue
corner_basis f t rows = record { f = f; t = t; rows = reversed_rows (corner t rows) t }

pub record IsCornerKey (f : Field) (t : ℕ) (rows : List (List ℕ)) (key : KeyValue) : Type 0 where
  pub reduced : IsReduced key
  pub fits : Fits key
  pub basis : IsKeyOf f t (map reverse (corner t rows)) key

pub corner_key : (f : Field) (n t : ℕ) (rows : List (List ℕ)) → t ≤ 6 → t ≤ n → IsEchelon f n rows → IsCornerKey f t rows (corner_basis f t rows)
unfolding corner_basis
corner_key f n t rows l m h =
    let C = corner t rows in
    let hC = IsEchelon-head f n t rows h m in
    let back = AreVectors-reversed f t C hC.each in
    let is = reduced_basis-reversed f t C hC in
    let b = reduced_basis_is f t (map reverse C) back in
    let each = subst (λ X. AreVectors f t X) is b.each in
    let few = reversed_rows-few C t in
    record {
      reduced = record {
        narrow = l;
        few = few;
        each = each;
        basis = ap (reduced_basis f t) (sym is) ∙ reduced_basis-twice f t (map reverse C) back ∙ is;
      };
      fits = record {
        narrow = omega arith;
        few = omega arith;
        each = All-weaker (λ v. IsVector f t v) (λ v. length v ≡ t) (λ v hv. hv.len) (reversed_rows C t) each;
        small = small_digits f t (reversed_rows C t) each;
      };
      basis = record { field = refl; length = refl; each = each; basis = sym is };
    }

-- a number that packs a reduced key
pub packed_of : (key : KeyValue) (bits : ℕ) → IsReduced key → Fits key → bits ≡ packed key → IsPacked (record { bits = bits })
packed_of key bits r h e =
    let is : unpacked bits ≡ key = ap unpacked e ∙ unpacked-packed key h in
    record {
      reduced = subst (λ k. IsReduced k) (sym is) r;
      back = ap packed is ∙ sym e;
    }

-- what the code packs is the key of the corner
pub packs_corner : (f : Field) (t : ℕ) (rows : List (List ℕ)) (code rank all : ℕ) → code ≡ code_of f →
    rank ≡ length (reversed_rows (corner t rows) t) → all ≡ number_onto 0 (joined_rows (reversed_rows (corner t rows) t)) →
    t + 8 * (code + 8 * (rank + 8 * all)) ≡ packed (corner_basis f t rows)
unfolding corner_basis
packs_corner f t rows code rank all ec er ea =
    ap₂ (λ x y. t + 8 * (x + 8 * y)) ec (ap₂ (λ x y. x + 8 * y) er ea)

-- ---- the zero key

abbrev pub no_rows : Field → ℕ → KeyValue
no_rows f t = record { f = f; t = t; rows = [] }

pub record IsZeroKey (f : Field) (t : ℕ) : Type 0 where
  pub reduced : IsReduced (no_rows f t)
  pub fits : Fits (no_rows f t)
  pub basis : IsKeyOf f t [] (no_rows f t)

pub zero_key : (f : Field) (t : ℕ) → t ≤ 6 → IsZeroKey f t
zero_key f t l = record {
  reduced = record { narrow = l; few = omega arith; each = All-nil (λ v. IsVector f t v); basis = basis_of_none f t };
  fits = record { narrow = omega arith; few = omega arith; each = All-nil (λ v. length v ≡ t); small = All-nil (λ v. All (λ d. d < 8) v) };
  basis = record { field = refl; length = refl; each = All-nil (λ v. IsVector f t v); basis = sym (basis_of_none f t) };
}

pub packs_zero : (f : Field) (t code : ℕ) → code ≡ code_of f → t + 8 * code ≡ packed (no_rows f t)
packs_zero f t code e = ap (λ x. t + 8 * x) e ∙ omega arith
