-- Runs as contracts see them.
use Rattle.std.specs.Prelude.{ℕ}
use Rattle.std.proofs.Common.{refl}
use Rattle.std.specs.Coded.{Coded, code_by, coded×, coded_ℕ}
use Rattle.mm_nodes.specs.KeptTrees.{KeptTree}
use Rattle.mm_nodes.specs.KeptCode.{kept_code}

-- An automaton, the limit, and the number of the type at each node, in the shape of the tree.
pub record RunsValue (A : Type 0) : Type 0 where
  pub automaton : A
  pub limit : ℕ
  pub runs : KeptTree ℕ

abbrev pub runs_code : {A : Type 0} → Coded A → Coded (RunsValue A)
runs_code {A} code =
    code_by (A × (ℕ × KeptTree ℕ)) (coded× code (coded× coded_ℕ (kept_code 0 coded_ℕ))) (λ v. (v.automaton, (v.limit, v.runs))) (λ p. record { automaton = p.0; limit = p.1.0; runs = p.1.1 }) (λ _. refl)
