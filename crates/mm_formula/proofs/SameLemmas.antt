-- The test of two variables holds exactly where they are one.
use Rattle.std.proofs.Common.{◌≡◌, ℕ, false, inl, inr, List, sym}
use Rattle.std.specs.Str.{bytes_eq}
use Rattle.std.proofs.lemmas.Slice.Eq.{bytes_eq-Decides}
use Rattle.std.proofs.lemmas.Bool.{both_ways, cases_Bool}
use Rattle.mm_base.proofs.NameLemmas.{padded_eq, same_bytes}
use Rattle.mm_formula.specs.contracts.var.VarPartialEq.TheImpl.{eq-value}

pub apart : (v w : List ℕ) → bytes_eq v w ≡ false → v ≡ w → ⊥
apart v w h e = both_ways (bytes_eq v w) h ((bytes_eq-Decides v w).1 e)

pub same_swap : (v w : List ℕ) → bytes_eq v w ≡ false → bytes_eq w v ≡ false
same_swap v w h = elim (cases_Bool (bytes_eq w v)) [ inl t ↦ absurd (apart v w h (sym (same_bytes w v t))) | inr f ↦ f ]

-- variables are equal, field by field, exactly where their bytes are
pub var_eq : (v w : List ℕ) → (eq-value).it v w ≡ bytes_eq v w
var_eq v w = padded_eq v w
