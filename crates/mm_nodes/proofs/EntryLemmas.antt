-- One entry made and counted.
use Rattle.std.proofs.Common.{◌≡◌, ◌<◌, ◌≤◌, ◌+◌, ℕ, List, length, Err, arith}
use Rattle.mm_logic.specs.Formula.{Formula}
use Rattle.mm_logic.specs.Value.{Value}
use Rattle.mm_logic.specs.Occurrence.{nodes, occurring, distinct, list_cells}
use Rattle.mm_logic.specs.Growth.{missing_cells}
use Rattle.mm_logic.proofs.GrowthLemmas.{list_cells-grown}
use Rattle.mm_nodes.specs.declared.TheConstants.{MOST_ROWS}
use Rattle.mm_nodes.specs.Demands.{IsExact}
use Rattle.mm_nodes.specs.Calls.{Exceeds, IsRoom, AddsEntry, MakesEntry}
use Rattle.mm_nodes.specs.declared.keeps.KeepFault.{KeepFault}
use Rattle.mm_nodes.specs.declared.keeps.KeepFault.TheVariants.{Full}
use Rattle.mm_nodes.proofs.RoomLemmas.{exceeds_call}

module _ (F : Formula) (olds : List (List Value)) (vs : List Value) (limit before : ℕ) where
  pub no_room : (e : KeepFault) → IsExact F olds → IsRoom (list_cells (nodes F) olds + before) limit (Err e) → e ≡ Full → Exceeds F olds vs (before + length (distinct vs)) limit
  no_room e x r full = exceeds_call F olds vs (before + length (distinct vs)) limit x (omega (arith, r.1))

  pub refused : (room : ℕ) (e : KeepFault) → IsExact F olds → list_cells (nodes F) olds + before + room ≡ limit → (e ≡ Full → room < missing_cells F olds vs + length (distinct vs))
      → e ≡ Full → Exceeds F olds vs (before + length (distinct vs)) limit
  refused room e x r h full = exceeds_call F olds vs (before + length (distinct vs)) limit x (omega (arith, r, h full))

  pub entry_added : {N : Type 0} (count : N → ℕ) (nows : List (List Value)) (Is : N → Type 0) (room after : ℕ) (n : N) → list_cells (nodes F) olds + before + room ≡ limit
      → MakesEntry F olds nows (Is n) vs room → after ≡ before + count n → after ≤ MOST_ROWS → AddsEntry count F olds nows Is vs limit before after n
  entry_added count nows Is room after n r m s t = record {
    is = m.is;
    grown = m.grown;
    cells = omega (arith, r, m.within, list_cells-grown (nodes F) olds nows (occurring F vs) m.grown);
    rows = s;
    small = t;
  }
