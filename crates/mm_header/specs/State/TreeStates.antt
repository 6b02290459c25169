-- Between code and definitions: how the trees of some lines are counted, and what a builder's answers are to a line.
use Rattle.std.specs.Prelude.{◌≡◌, ℕ, ◌+◌, ◌≤◌, nat_lt, List, length, Option, Some, None, Ok, Err, if◌then◌else◌}
use Rattle.std.specs.declared.result.Result.{Result}
use Rattle.mm_header.specs.declared.tree_lines.Trees.TheInside.{Inside}
use Rattle.mm_job_text.specs.TreeLines.{tree_refusal}
use Rattle.mm_job_text.specs.declared.refusal.Limit.TheVariants as limit
use Rattle.mm_job_text.specs.declared.refusal.Refusal.{Refusal}
use Rattle.mm_job_text.specs.declared.refusal.Refusal.TheVariants as refusal
use Rattle.mm_job_text.specs.declared.refusal.Stop.{Stop}
use Rattle.mm_job_text.specs.declared.refusal.Stop.TheVariants.{Refused, NoMemory}
use Rattle.mm_tree.specs.Building.{BuilderValue, names_in}
use Rattle.mm_tree.specs.NamedTree.{Tree}
use Rattle.mm_tree.specs.ValidTree.{most_leaves}
use Rattle.mm_tree.specs.declared.builder.BuildFault.{BuildFault}

-- The leaves of some trees are counted, and are not too many.
pub record IsCounted (leaves : ℕ) (trees : List Tree) : Type 0 where
  pub count : leaves ≡ length (names_in trees)
  pub few : leaves ≤ most_leaves

-- what callers see of the fields
abbrev pub builder_of : Inside → BuilderValue
builder_of s = s.builder

abbrev pub AreCounted : Inside → Type 0
AreCounted s = IsCounted s.leaves s.builder.trees

-- A fault without a refusal is want of memory.
abbrev pub stop_for : Option Refusal → Stop
stop_for None = NoMemory
stop_for (Some why) = Refused why

-- Why the line with number n is not taken.
abbrev pub stop_of : ℕ → BuildFault → Stop
stop_of n e = stop_for (tree_refusal n (Some e))

-- What a builder answers to the line with number n.
abbrev pub stopped : ℕ → Result (Unit {0}) BuildFault → Result (Unit {0}) Stop
stopped n (Ok u) = Ok u
stopped n (Err e) = Err (stop_of n e)

-- The same for a leaf, where there were so many leaves before, of at most so many.
abbrev pub leaf_answer : (most before n : ℕ) → Result (Unit {0}) BuildFault → Result (Unit {0}) Stop
leaf_answer most before n (Ok u) = if nat_lt before most then Ok tt else Err (Refused (refusal.Over limit.Leaves n))
leaf_answer most before n (Err e) = Err (stop_of n e)

-- How many leaves there are after it.
abbrev pub counted : ℕ → Result (Unit {0}) BuildFault → ℕ
counted before (Ok u) = before + 1
counted before (Err e) = before
