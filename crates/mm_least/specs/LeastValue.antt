-- Rows of a whole tree as contracts see them, and how they are kept.
use Rattle.std.specs.Prelude.{ℕ, List, [], None, length}
use Rattle.std.proofs.Common.{refl}
use Rattle.std.specs.Coded.{Coded, code_by, coded×, coded_ℕ}
use Rattle.mm_logic.specs.Formula.{Formula}
use Rattle.mm_logic.specs.Value.{Value}
use Rattle.mm_nodes.specs.KeptTrees.{KeptTree, top}
use Rattle.mm_nodes.specs.KeptNodes.{tree_of}
use Rattle.mm_nodes.specs.KeptCode.{kept_code}
use Rattle.mm_nodes.specs.Changes.{IsSettled}
use Rattle.mm_nodes.specs.declared.kept.Kept.{Kept}
use Rattle.mm_least.specs.NodeRowsValue.{NodeValue, node_code}
use Rattle.mm_least.specs.Rows.{shown}
use Rattle.mm_least.specs.Passes.{AreWithin}
use Rattle.mm_least.specs.LeastSets.{AreLinked}

-- An automaton, the limit, and the rows of each node, in the shape of the tree.
pub record LeastValue (A : Type 0) : Type 0 where
  pub automaton : A
  pub limit : ℕ
  pub rows : KeptTree NodeValue

abbrev no_rows : NodeValue
no_rows = record { name = None; rows = []; known = None; nothing = None }

abbrev pub least_code : {A : Type 0} → Coded A → Coded (LeastValue A)
least_code {A} code =
    code_by (A × (ℕ × KeptTree NodeValue)) (coded× code (coded× coded_ℕ (kept_code no_rows node_code))) (λ v. (v.automaton, (v.limit, v.rows)))
    (λ p. record { automaton = p.0; limit = p.1.0; rows = p.1.1 }) (λ _. refl)

-- All is settled, the numbers of the root's rows are in the list of the root, and each row comes from rows that are there.
pub record IsKept (F : Formula) (lists marked : List (List Value)) (limit : ℕ) (kept : Kept NodeValue) : Type 0 where
  pub settled : IsSettled (λ n. length n.rows) F lists marked limit kept
  pub within : AreWithin F lists (shown (top (tree_of kept)).rows)
  pub links : AreLinked (tree_of kept)
