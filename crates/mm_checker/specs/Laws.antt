-- What a certificate that passes says.
use Rattle.std.specs.Prelude.{◌≡◌, ◌↔◌, Bool, true, false, Some, List, length}
use Rattle.std.specs.List.{items_where_true}
use Rattle.mm_logic.specs.Least.{IsLeastSet, Satisfies, weight}
use Rattle.mm_logic.specs.Marks.{unmarked}
use Rattle.mm_logic.specs.Meaning.{Holds, WellSorted}
use Rattle.mm_logic.specs.Tree.{size, IsValid}
use Rattle.mm_tree.specs.NamedTree.{Tree, shape, weights, element_names}
use Rattle.mm_tree.specs.NamedTree.Tree.{Elem, Void, Join}
use Rattle.mm_checker.specs.Certificates.{Subject, Answer, op_named, start, Passes}
use Rattle.mm_checker.specs.Certificates.Answer.{Truth, Least, Nothing}
use Rattle.mm_cert_lines.specs.declared.certificate.CertLine.{CertLine}

-- The answer is right: whether the formula holds; a least set, with its weight and the names of its elements; or that no set satisfies
-- the formula.
abbrev pub IsRight : Subject → Answer → Type 0
IsRight s (Truth b) = (b ≡ true) ↔ Holds s.f s.formula (shape s.tree) (unmarked (size (shape s.tree)))
IsRight s (Least w names) =
    (A : List Bool) × IsLeastSet s.f s.formula (shape s.tree) (weights s.tree) A
    × (w ≡ weight (weights s.tree) A) × (names ≡ items_where_true A (element_names s.tree))
IsRight s Nothing = (A : List Bool) → length A ≡ size (shape s.tree) → Satisfies s.f s.formula (shape s.tree) A → ⊥

-- each join of the tree has the operator that its name has in the whole
abbrev pub NamesOne : Tree → Tree → Type 0
NamesOne whole (Elem name vec weight) = Unit {0}
NamesOne whole (Void name t) = Unit {0}
NamesOne whole (Join name op left right) = (op_named name whole ≡ Some op) × NamesOne whole left × NamesOne whole right

-- A certificate may be about a valid tree in which joins of one name have one operator, and a formula in which elements and sets are
-- spoken of by variables of their sort.
pub record IsSubject (s : Subject) : Type 0 where
  pub valid : IsValid s.f (shape s.tree)
  pub one_each : NamesOne s.tree s.tree
  pub sorted : WellSorted (λ _. false) s.formula

-- A certificate that passes gives the right answer, whoever made it.
abbrev pub PassingCertificatesAreRight : Type 0
PassingCertificatesAreRight =
    (s : Subject) → IsSubject s → (lines : List CertLine) (a : Answer) → Passes s (start s) lines a → IsRight s a
