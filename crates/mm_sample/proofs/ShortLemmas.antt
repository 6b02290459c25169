-- The short form of a line.
use Rattle.std.proofs.Common.{◌≡◌, List, ◌∷◌, ◌++◌, ℕ, Bool, true, false, length, refl, ap, sym, ◌∙◌, append_assoc, if◌then◌else◌}
use Rattle.std.specs.Prelude.{codes}
use Rattle.std.specs.Fmt.{decimal}
use Rattle.std.specs.Str.{bytes_eq}
use Rattle.mm_lines.specs.Tokens.{tokens}
use Rattle.mm_sample.specs.Summary.{least_line, short_line, shortened}

chosen : (b : Bool) (some other : List ℕ) → b ≡ true → some ≡ (if b then some else other)
chosen true some other e = refl
chosen false some other e = cc

pub short_of_least : (text line word weight : List ℕ) (names : List (List ℕ)) → tokens line ≡ word ∷ weight ∷ names
    → bytes_eq word (codes "least") ≡ true
    → (((text ++ codes "least ") ++ weight) ++ codes " ") ++ decimal (length names) ≡ text ++ short_line line
short_of_least text line word weight names e h =
    append_assoc ((text ++ codes "least ") ++ weight) (codes " ") (decimal (length names))
    ∙ append_assoc (text ++ codes "least ") weight (32 ∷ decimal (length names))
    ∙ append_assoc text (codes "least ") (weight ++ 32 ∷ decimal (length names))
    ∙ ap (λ (t : List ℕ). text ++ t) (chosen (bytes_eq word (codes "least")) (least_line weight (length names)) line h)
    ∙ ap (λ (ts : List (List ℕ)). text ++ shortened line ts) (sym e)
