-- The order of values is total, and only equal values tie.
use Rattle.std.proofs.Common.{◌≡◌, Bool, List, [], ◌∷◌, ◌++◌, refl, sym, ap, ◌∙◌}
use Rattle.std.specs.List.{list_any}
use Rattle.std.specs.Cmp.{IsTotalOrder}
use Rattle.std.specs.FinMap.{IsAntisymmetric, nat_cmp-IsAntisymmetric, slice_cmp-IsAntisymmetric}
use Rattle.std.proofs.lemmas.Cmp.{nat_list_cmp_total, lists_total, on_total}
use Rattle.mm_logic.specs.Order as order
use Rattle.mm_logic.specs.Order.{SameMembers}
use Rattle.mm_logic.specs.Value.{Value, members, set_of, collected, written, value_cmp, spelled, spelled-written, head_or}
use Rattle.mm_logic.specs.Value.Value.{Dead}
use Rattle.mm_logic.proofs.SetLemmas.{list_any-normal, normal-same}

-- values that are written alike are one
pub written-injective : (v w : Value) → written v ≡ written w → v ≡ w
written-injective v w e = ap (head_or Dead) (sym (spelled-written v []) ∙ ap (λ ps. spelled (ps ++ [])) e ∙ spelled-written w [])

pub value_total : IsTotalOrder value_cmp
value_total = on_total written (lists_total (lists_total nat_list_cmp_total))

pub value_exact : IsAntisymmetric value_cmp
value_exact v w e = written-injective v w (slice_cmp-IsAntisymmetric (slice_cmp-IsAntisymmetric (slice_cmp-IsAntisymmetric nat_cmp-IsAntisymmetric)) (written v) (written w) e)

pub members-set_of : (vs : List Value) → members (set_of vs) ≡ vs
members-set_of [] = refl
members-set_of (v ∷ vs) = ap (λ ws. v ∷ ws) (members-set_of vs)

-- ---- sets of values

-- a test of the members of a set is a test of the values that it was made of
pub list_any-collected : (p : Value → Bool) (vs : List Value) → list_any p (members (collected vs)) ≡ list_any p vs
list_any-collected p vs = ap (list_any p) (members-set_of (order.normal value_cmp vs)) ∙ list_any-normal value_total value_exact p vs

pub collected-same : (vs ws : List Value) → SameMembers vs ws → collected vs ≡ collected ws
collected-same vs ws same = ap set_of (normal-same value_total value_exact vs ws same)
