-- Rows moved after those of a matrix, the last first.
use Rattle.std.proofs.Common.{ℕ, suc, ◌+◌, ◌≡◌, List, [], ◌∷◌, ◌++◌, length, map, reverse, refl, sym, ap, subst, ◌∙◌, arith, append_assoc, append-nil, length-append, Option, Some}
use Rattle.std.specs.Prelude.{option_to_list}
use Rattle.std.specs.declared.vec.Vec.{Vec}
use Rattle.std.proofs.lemmas.List.{reverse-append, map-append}
use Rattle.std.proofs.lemmas.List.Elements.{All-nil, All-cons}
use Rattle.mm_field.specs.declared.Field.{Field}
use Rattle.mm_field.specs.Vectors.{IsVector, AreVectors}
use Rattle.mm_matrix.specs.MatrixValue.{MatrixValue}

-- the matrix with the rows that are left is the first matrix with all rows
pub record IsStacking (first : MatrixValue) (all : List (List ℕ)) (m : MatrixValue) (left : List (List ℕ)) : Type 0 where
  pub matrix : m ≡ record first { rows = m.rows }
  pub whole : m.rows ++ reverse left ≡ first.rows ++ reverse all
  pub each : AreVectors first.f first.cols left

parts : (f : Field) (n : ℕ) (rest : List (List ℕ)) (row : List ℕ) → AreVectors f n (rest ++ row ∷ []) → AreVectors f n rest × IsVector f n row
parts f n [] row h = (All-nil (λ v. IsVector f n v), h 0 [] (omega arith))
parts f n (v ∷ rest) row h =
    let p = parts f n rest row (λ i d l. h (suc i) d (omega arith)) in
    (All-cons (λ v. IsVector f n v) v rest (h 0 [] (omega arith)) p.0, p.1)

pub stacks : (first m : MatrixValue) (all left rest : List (List ℕ)) (row : List ℕ) → IsStacking first all m left → left ≡ rest ++ row ∷ [] →
    IsVector m.f m.cols row
stacks first m all left rest row h e =
    subst (λ (x : MatrixValue). IsVector x.f x.cols row) (sym h.matrix)
    (parts first.f first.cols rest row (subst (λ vs. AreVectors first.f first.cols vs) e h.each)).1

pub stacked : (first m new : MatrixValue) (all left rest : List (List ℕ)) (row : List ℕ) → IsStacking first all m left → left ≡ rest ++ row ∷ [] →
    new ≡ record m { rows = m.rows ++ row ∷ [] } → IsStacking first all new rest
stacked first m new all left rest row h e en = record {
  matrix = en ∙ ap (λ (x : MatrixValue). record x { rows = m.rows ++ row ∷ [] }) h.matrix
      ∙ ap (λ r. record first { rows = r }) (sym (ap (λ (x : MatrixValue). x.rows) en));
  whole = ap (λ (x : MatrixValue). x.rows ++ reverse rest) en
      ∙ append_assoc m.rows (row ∷ []) (reverse rest)
      ∙ ap (λ r. m.rows ++ r) (sym (reverse-append rest (row ∷ [])) ∙ ap reverse (sym e))
      ∙ h.whole;
  each = (parts first.f first.cols rest row (subst (λ vs. AreVectors first.f first.cols vs) e h.each)).0;
}

pub stack_done : (first m : MatrixValue) (all left : List (List ℕ)) → IsStacking first all m left → left ≡ [] →
    m ≡ record first { rows = first.rows ++ reverse all }
stack_done first m all left h e =
    h.matrix ∙ ap (λ r. record first { rows = r }) (sym (append-nil m.rows) ∙ ap (λ l. m.rows ++ reverse l) (sym e) ∙ h.whole)

module _ {A : Type 0} where
  pub popped : (old new : List (Vec ℕ A)) (out : Option (Vec ℕ A)) (row : Vec ℕ A) → old ≡ new ++ option_to_list out → out ≡ Some row →
      map (λ r. r.items) old ≡ map (λ r. r.items) new ++ row.items ∷ []
  popped old new out row e s =
      ap (map (λ r. r.items)) (e ∙ ap (λ o. new ++ option_to_list o) s) ∙ map-append (λ r. r.items) new (row ∷ [])

  pub popped_count : (old new : List (Vec ℕ A)) (out : Option (Vec ℕ A)) (row : Vec ℕ A) → old ≡ new ++ option_to_list out → out ≡ Some row →
      length old ≡ length new + 1
  popped_count old new out row e s = ap length (e ∙ ap (λ o. new ++ option_to_list o) s) ∙ length-append new (row ∷ [])

  pub none_left : (rows : List (Vec ℕ A)) → length rows ≡ 0 → map (λ r. r.items) rows ≡ []
  none_left [] e = refl
  none_left (r ∷ rows) e = absurd (omega arith)
