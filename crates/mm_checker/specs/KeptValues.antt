-- How the checker keeps the values of a certificate.
use Rattle.std.specs.Prelude.{◌≡◌, Bool, true, false, List, [], ◌∷◌, ◌++◌, Option, Some, None}
use Rattle.std.specs.List.{list_any}
use Rattle.mm_field.specs.declared.Field.{Field}
use Rattle.mm_space.specs.KeyView.{IsReduced}
use Rattle.mm_checker.specs.Certificates.{is_valued}
use Rattle.mm_checker.specs.declared.certificate.Content.{Content}
use Rattle.mm_checker.specs.declared.certificate.Content.TheVariants as content
use Rattle.mm_checker.specs.declared.certificate.Valued.{Valued}

-- A space is over f, by its reduced echelon rows.
abbrev pub IsOver : Field → Content → Type 0
IsOver f (content.Space key) = (key.f ≡ f) × IsReduced key
IsOver f c = Unit {0}

abbrev pub AreOver : Field → List Valued → Type 0
AreOver f [] = Unit {0}
AreOver f (v ∷ values) = IsOver f v.content × AreOver f values

-- A value is put behind the others where none of them is the same.
abbrev pub IsNewValue : List Valued → Valued → Bool → List Valued → Type 0
IsNewValue values v true now = (list_any (is_valued v) values ≡ false) × (now ≡ values ++ v ∷ [])
IsNewValue values v false now = list_any (is_valued v) values ≡ true

-- The last value is ended, where there is one and it is new.
abbrev pub IsEnded : List Valued → Option Valued → Bool → List Valued → Type 0
IsEnded values None good now = (good ≡ true) × (now ≡ values)
IsEnded values (Some v) good now = IsNewValue values v good now
