-- How a variable lies in its fields, and that its text gives them back.
use Rattle.std.specs.Prelude.{◌≡◌, ℕ, ◌≤◌, ◌-◌, ◌++◌, true, List, length, take, drop, replicate}
use Rattle.std.proofs.Common.{◌∙◌, ap, sym, arith, length-take, take-append-drop}
use Rattle.mm_formula.specs.Variables.{is_var}
use Rattle.mm_formula.specs.declared.var.Var.TheInside.{Inside}

abbrev pub text_of : Inside → List ℕ
text_of v = take v.len v.bytes

-- the text is a variable, and the bytes after it are 0
pub record IsPadded (v : Inside) : Type 0 where
  pub size : length v.bytes ≡ 16
  pub within : v.len ≤ 16
  pub zeros : drop v.len v.bytes ≡ replicate (16 - v.len) 0
  pub word : is_var (text_of v) ≡ true

abbrev pub fields_of : List ℕ → Inside
fields_of bs = record { bytes = bs ++ replicate (16 - length bs) 0; len = length bs }

pub fields_of-text_of : (v : Inside) → IsPadded v → fields_of (text_of v) ≡ v
fields_of-text_of v h =
    let len : length (text_of v) ≡ v.len = length-take v.len v.bytes ∙ omega (arith, h.size, h.within) in
    let bytes : text_of v ++ replicate (16 - length (text_of v)) 0 ≡ v.bytes =
    ap (λ (k : ℕ). text_of v ++ replicate (16 - k) 0) len ∙ ap (λ (z : List ℕ). text_of v ++ z) (sym h.zeros) ∙ take-append-drop v.len v.bytes in
    ap (λ (b : List ℕ). let r : Inside = record { bytes = b; len = length (text_of v) } in r) bytes ∙ ap (λ (k : ℕ). let r : Inside = record { bytes = v.bytes; len = k } in r) len
