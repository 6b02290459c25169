-- Equal numbers are hashed alike.
use Rattle.std.specs.Prelude.{◌≡◌, ℕ, true, false, List, [], ◌∷◌, nat_eq, IsTrue, refl}
use Rattle.std.specs.Cmp.Lexicographic.{pointwise}
use Rattle.std.specs.Hash as fed
use Rattle.std.proofs.Common.{ap}
use Rattle.std.proofs.lemmas.Bool.{and_parts, eqb-true}

-- lists that are equal number by number are one
pub same_numbers : (xs ys : List ℕ) → pointwise nat_eq xs ys ≡ true → xs ≡ ys
same_numbers [] [] h = refl
same_numbers [] (y ∷ ys) h = let e : false ≡ true = h in cc
same_numbers (x ∷ xs) [] h = let e : false ≡ true = h in cc
same_numbers (x ∷ xs) (y ∷ ys) h = let p = and_parts _ _ h in λ i. eqb-true x y p.0 i ∷ same_numbers xs ys p.1 i

pub same_numbers_fed : (x y : List ℕ) → IsTrue (pointwise nat_eq x y) → fed.slice fed.u32 x ≡ fed.slice fed.u32 y
same_numbers_fed x y h = ap (λ z. fed.slice fed.u32 z) (same_numbers x y h)
