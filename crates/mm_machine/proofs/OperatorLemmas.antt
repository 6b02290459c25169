-- An operator that is put among those with numbers.
use Rattle.std.proofs.Common.{◌≡◌, ◌++◌, ℕ, Bool, true, false, List, [], ◌∷◌, slice_get, Some, refl, sym, ap, ◌∙◌, subst, if◌then◌else◌}
use Rattle.std.specs.List.{list_any}
use Rattle.indexmap.specs.IndexSet.{insert_key}
use Rattle.mm_ops.specs.OpValue.{OpValue}
use Rattle.mm_ops.proofs.OpEquality.{op_same as one_operator}
use Rattle.mm_states.specs.Numbered.{op_same}
use Rattle.mm_machine.specs.declared.part.Parts.{Parts}
use Rattle.mm_machine.specs.Operators.{KeepsTables}
use Rattle.mm_machine.proofs.NodeLemmas.{keeps_more}

-- the operators stay, or there is one more
put_cases : (ops news : List OpValue) (op : OpValue) → news ≡ insert_key op_same ops op → (b : Bool) → list_any (op_same op) ops ≡ b → news ≡ (if b then ops else ops ++ op ∷ [])
put_cases ops news op e b h = e ∙ ap (λ (c : Bool). if c then ops else ops ++ op ∷ []) h

pub put_number : (news : List OpValue) (op : OpValue) (n : ℕ) → (x : OpValue) × (slice_get news n ≡ Some x) × (op_same op x ≡ true) → slice_get news n ≡ Some op
put_number news op n h = h.1 ∙ ap Some (sym (one_operator op h.0 h.2))

-- an operator that is the one with a number
pub known_number : (ops : List OpValue) (op known : OpValue) (n : ℕ) → slice_get ops n ≡ Some known → op_same known op ≡ true → slice_get ops n ≡ Some op
known_number ops op known n at h = at ∙ ap Some (one_operator known op h)

module _ (ps : Parts) (news : List OpValue) (last : ℕ) (op : OpValue) where
  kept_by : (b : Bool) → news ≡ (if b then ps.ops else ps.ops ++ op ∷ []) → KeepsTables ps (record { ops = news; list = ps.list; last = last })
  kept_by true e = subst (λ z. KeepsTables ps (record { ops = z; list = ps.list; last = last })) (sym e) (record { nodes = refl; sound = λ s. s; marked = λ s. s })
  kept_by false e = keeps_more ps (record { ops = news; list = ps.list; last = last }) op refl e

  pub put_keeps : news ≡ insert_key op_same ps.ops op → KeepsTables ps (record { ops = news; list = ps.list; last = last })
  put_keeps e = kept_by (list_any (op_same op) ps.ops) (put_cases ps.ops news op e (list_any (op_same op) ps.ops) refl)
