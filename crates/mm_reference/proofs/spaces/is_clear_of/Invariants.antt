use Rattle.std.proofs.Common.{◌≡◌, ◌<◌, ℕ, slice_index}
use Rattle.mm_reference.specs.Spaces.{HasLead}
use Rattle.mm_reference.proofs.spaces.is_clear_of.Given as goal

abbrev pub invariant-loop-l : goal.invariant-loop-l
invariant-loop-l l = (x : ℕ) → l.k < x → x < l.l → HasLead x l.vector → slice_index l.row x ≡ 0
