-- A variable's bytes with zeros after them are the fields of that variable.
use Rattle.std.proofs.Common.{◌≡◌, ℕ, ◌≤◌, true, List, ◌++◌, length, drop, sym, ap, subst, ◌∙◌, arith, length-append, length-drop, replicate}
use Rattle.std.proofs.Math.Seq.{take-append_seam, drop-append_seam}
use Rattle.std.proofs.lemmas.List.{drop-replicate}
use Rattle.mm_formula.specs.Variables.{is_var}
use Rattle.mm_formula.specs.VarFields.{IsPadded}
use Rattle.mm_formula.specs.declared.var.Var.TheInside.{Inside}

pub padded : (bs front : List ℕ) → front ≡ bs → is_var bs ≡ true → length bs ≤ 16
    → IsPadded (let r : Inside = record { bytes = front ++ drop (length bs) (replicate 16 0); len = length bs } in r)
padded bs front e h le =
    let rest : List ℕ = drop (length bs) (replicate 16 0) in
    let P : List ℕ → Type 0 = λ f. IsPadded (let r : Inside = record { bytes = f ++ rest; len = length bs } in r) in
    subst P (sym e) (record {
      size = omega (arith, length-append bs rest, length-drop (length bs) (let z : List ℕ = replicate 16 0 in z), le);
      within = le;
      zeros = drop-append_seam bs rest ∙ drop-replicate (length bs) 16 0;
      word = ap is_var (take-append_seam bs rest) ∙ h;
    })
