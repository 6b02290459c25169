-- Lists of variables stay without repeats where a new one is put at their end.
use Rattle.std.proofs.Common.{◌≡◌, ℕ, false, List, [], ◌∷◌, ◌++◌, refl}
use Rattle.std.proofs.lemmas.Bool.{or_parts}
use Rattle.std.specs.Str.{bytes_eq}
use Rattle.mm_formula.specs.Repeats.{has, IsDistinct}
use Rattle.mm_formula.proofs.SameLemmas.{same_swap}

pub has_with : (vs : List (List ℕ)) (v w : List ℕ) → has w vs ≡ false → bytes_eq w v ≡ false → has w (vs ++ v ∷ []) ≡ false
has_with [] v w h e = rw e refl
has_with (u ∷ vs) v w h e = let p = or_parts (bytes_eq w u) (has w vs) h in rw p.0 (has_with vs v w p.1 e)

pub distinct_with : (vs : List (List ℕ)) (v : List ℕ) → IsDistinct vs → has v vs ≡ false → IsDistinct (vs ++ v ∷ [])
distinct_with [] v d h = (refl, tt)
distinct_with (w ∷ vs) v d h = let p = or_parts (bytes_eq v w) (has v vs) h in
    (has_with vs v w d.0 (same_swap v w p.0), distinct_with vs v d.1 p.1)
