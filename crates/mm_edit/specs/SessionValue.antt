-- Sessions as contracts see them.
use Rattle.std.specs.Prelude.{◌≡◌, ℕ, List, [], None}
use Rattle.std.proofs.Common.{refl, ◌⊎◌, inl, inr}
use Rattle.std.specs.Coded.{Coded, code_by, coded×, coded⊎, coded_ℕ, coded_list}
use Rattle.mm_logic.specs.Value.{Value, value_code}
use Rattle.mm_logic.specs.StateSize.{Query, asked}
use Rattle.mm_logic.specs.Growth.{root}
use Rattle.mm_tree.specs.TreeValue.{TreeValue, tree_value_code}
use Rattle.mm_nodes.specs.KeptTrees.{KeptTree}
use Rattle.mm_nodes.specs.KeptCode.{kept_code}
use Rattle.mm_least.specs.NodeRowsValue.{NodeValue, node_code}
use Rattle.mm_edit.specs.FormulaCode.{query_code}

-- What the nodes of a tree keep: runs where a formula is decided, rows where a least set is sought.
pub data Entries : Type 0 where
  Runs : KeptTree ℕ → Entries
  Rows : KeptTree NodeValue → Entries

-- A session: its tree, what is asked of it, the limit on state sizes, the values that the automaton has numbered at each node of the
-- formula, what the nodes of the tree keep, and how many rebuilds there were.
pub record SessionValue : Type 0 where
  pub tree : TreeValue
  pub query : Query
  pub limit : ℕ
  pub lists : List (List Value)
  pub entries : Entries
  pub rebuilds : ℕ

-- The kept types: the automaton's list for the whole formula.
abbrev pub kept_types : SessionValue → List Value
kept_types s = root (asked s.query) s.lists

-- ---- how proofs tell sessions apart

abbrev of_entries : Entries → KeptTree ℕ ⊎ KeptTree NodeValue
of_entries (Runs R) = inl R
of_entries (Rows R) = inr R

abbrev to_entries : KeptTree ℕ ⊎ KeptTree NodeValue → Entries
to_entries (inl R) = Runs R
to_entries (inr R) = Rows R

pub entries_back : (E : Entries) → to_entries (of_entries E) ≡ E
entries_back (Runs R) = refl
entries_back (Rows R) = refl

abbrev no_rows : NodeValue
no_rows = record { name = None; rows = []; known = None; nothing = None }

abbrev entries_code : Coded Entries
entries_code =
    code_by (KeptTree ℕ ⊎ KeptTree NodeValue) (coded⊎ (kept_code 0 coded_ℕ) (kept_code no_rows node_code))
    of_entries to_entries entries_back

abbrev pub session_code : Coded SessionValue
session_code =
    code_by (TreeValue × (Query × (ℕ × (List (List Value) × (Entries × ℕ)))))
    (coded× tree_value_code (coded× query_code (coded× coded_ℕ
    (coded× (coded_list (coded_list value_code)) (coded× entries_code coded_ℕ)))))
    (λ s. (s.tree, (s.query, (s.limit, (s.lists, (s.entries, s.rebuilds))))))
    (λ p. record { tree = p.0; query = p.1.0; limit = p.1.1.0; lists = p.1.1.1.0; entries = p.1.1.1.1.0; rebuilds = p.1.1.1.1.1 })
    (λ _. refl)
