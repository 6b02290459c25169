-- Equal vectors, and equal lists of vectors, are hashed alike.
use Rattle.std.specs.Prelude.{◌≡◌, ℕ, List, [], ◌∷◌, IsTrue, refl}
use Rattle.std.proofs.Common.{ap}
use Rattle.std.specs.Str.{bytes_eq}
use Rattle.std.specs.Cmp.Lexicographic.{pointwise}
use Rattle.std.specs.Hash as fed
use Rattle.std.proofs.lemmas.Slice.Eq.{bytes_eq-Decides, slice_eq-Decides}

abbrev digits_fed : List ℕ → List (List ℕ)
digits_fed v = v ∷ []

pub same_digits_fed : (a b : List ℕ) → IsTrue (bytes_eq a b) → digits_fed a ≡ digits_fed b
same_digits_fed a b e = ap digits_fed ((bytes_eq-Decides a b).0 e)

pub same_rows_fed : (a b : List (List ℕ)) → IsTrue (pointwise bytes_eq a b) → fed.slice digits_fed a ≡ fed.slice digits_fed b
same_rows_fed a b e =
    ap (λ (rows : List (List ℕ)). fed.slice digits_fed rows) ((slice_eq-Decides bytes_eq-Decides a b (pointwise bytes_eq a b) refl).0 e)
