-- Between code and definitions: what the editors of the program are to the definitions.
use Rattle.std.specs.Prelude.{◌≡◌, ℕ, false, List, Option, Some, None}
use Rattle.mm_edit.specs.SessionValue.{kept_types}
use Rattle.mm_edit.specs.declared.query.Query.{Query as Kind}
use Rattle.mm_edit.specs.declared.query.Query.TheVariants.{Decide, Least}
use Rattle.mm_formula.specs.declared.scope.Scoped.{Scoped}
use Rattle.mm_header.specs.declared.state.HeaderData.{HeaderData}
use Rattle.mm_job.specs.Header.{Session}
use Rattle.mm_job.specs.declared.editor.Editor.{Editor}
use Rattle.mm_logic.specs.Meaning.{WellSorted}
use Rattle.mm_logic.specs.StateSize.{Query, asked}
use Rattle.mm_logic.specs.Value.{Value}
use Rattle.mm_tree.specs.Building.{AreOver}
use Rattle.mm_tree.specs.NamedTree.{Tree}
use Rattle.mm_tree.specs.ValidTree.{IsValidTree}

abbrev pub session_of : Editor → Session
session_of e = record { f = e.field; ops = e.ops; query = e.session.query; limit = e.session.limit; tree = e.session.tree.tree }

-- The session that a header and its tree begin, for a query.
abbrev pub session_with : ℕ → HeaderData → Query → Tree → Session
session_with limit h query tree = record { f = h.field; ops = h.ops; query = query; limit = limit; tree = tree }

-- What a scoped formula asks: whether it holds, or for the least set that is its free variable.
abbrev pub kind_by : Option (List ℕ) → Kind
kind_by None = Decide
kind_by (Some v) = Least

abbrev pub kind_of : Scoped → Kind
kind_of s = kind_by s.free

-- The types that its session keeps.
abbrev pub kept_of : Editor → List Value
kept_of e = kept_types e.session

-- The tree is valid over the field, the operators are over it, and element variables of the formula stand where elements are spoken of.
pub record IsEditor (e : Editor) : Type 0 where
  pub field : e.session.tree.f ≡ e.field
  pub tree : IsValidTree e.field e.session.tree.tree
  pub ops : AreOver e.field e.ops
  pub sorted : WellSorted (λ k. false) (asked e.session.query)
