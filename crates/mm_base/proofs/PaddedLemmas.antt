-- A name's bytes with zeros after them are the fields of that name.
use Rattle.std.proofs.Common.{◌≡◌, ◌≤◌, ℕ, true, List, [], ◌∷◌, ◌++◌, length, drop, replicate, sym, ap, subst, ◌∙◌, arith, length-append, length-drop}
use Rattle.std.specs.List.{list_all}
use Rattle.std.specs.Prelude.{nat_le, ◌&&◌}
use Rattle.std.specs.Char.{is_ascii_lowercase}
use Rattle.std.proofs.Math.Seq.{take-append_seam, drop-append_seam}
use Rattle.std.proofs.lemmas.Bool.{and_parts, leb-true}
use Rattle.std.proofs.lemmas.List.{drop-replicate}
use Rattle.mm_base.specs.NameFields.{IsPadded}
use Rattle.mm_base.specs.Names.{is_name, is_name_byte}
use Rattle.mm_base.specs.declared.name.Name.TheInside.{Inside}

-- a name has at most 16 bytes
pub name_short : (bs : List ℕ) → is_name bs ≡ true → length bs ≤ 16
name_short [] h = omega arith
name_short (b ∷ bs) h =
    let front = (and_parts (is_ascii_lowercase b && nat_le (length bs) 15) (list_all is_name_byte bs) h).0 in
    omega (arith, leb-true (length bs) 15 (and_parts (is_ascii_lowercase b) (nat_le (length bs) 15) front).1)

pub padded_name : (bs front : List ℕ) → front ≡ bs → is_name bs ≡ true
    → IsPadded (let r : Inside = record { bytes = front ++ drop (length bs) (replicate 16 0); len = length bs } in r)
padded_name bs front e h =
    let rest : List ℕ = drop (length bs) (replicate 16 0) in
    let le : length bs ≤ 16 = name_short bs h in
    let P : List ℕ → Type 0 = λ f. IsPadded (let r : Inside = record { bytes = f ++ rest; len = length bs } in r) in
    subst P (sym e) (record {
      size = omega (arith, length-append bs rest, length-drop (length bs) (let z : List ℕ = replicate 16 0 in z), le);
      within = le;
      zeros = drop-append_seam bs rest ∙ drop-replicate (length bs) 16 0;
      form = ap is_name (take-append_seam bs rest) ∙ h;
    })
