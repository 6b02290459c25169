-- What a letter means, and the leaf rule and the join rule as calls have them.
use Rattle.std.specs.Prelude.{◌≡◌, ◌≤◌, ℕ, ◌==◌, Bool, true, false, ◌||◌, List, length, Option, Some, None}
use Rattle.std.specs.Int.{bit_at}
use Rattle.mm_field.specs.declared.Field.{Field}
use Rattle.mm_field.specs.Vectors.{AreDigits}
use Rattle.mm_logic.specs.Formula.{Formula}
use Rattle.mm_logic.specs.Formula.Formula.{Const, Ind, Member, SameElem, Sub, SameSet, Not, Bin, ExSet, AllSet, ExElem, AllElem}
use Rattle.mm_logic.specs.Value.{Value}
use Rattle.mm_logic.specs.Marks.{Marks}
use Rattle.mm_logic.specs.LeafRule.{elem_type, void_type}
use Rattle.mm_logic.specs.JoinRule.{join_type}
use Rattle.mm_ops.specs.OpValue.{OpValue}
use Rattle.mm_states.specs.declared.letter.Letter.{Letter}

-- bit k says that the element is in, or is, the variable of slot k
abbrev pub marks_of : ℕ → Marks
marks_of n = λ k. bit_at n k == 1

-- the leaf rule at a leaf with a vector, or without one
abbrev pub type_at_leaf : Field → Formula → ℕ → Marks → Option (List ℕ) → Value
type_at_leaf f F t m (Some vec) = elem_type f F vec m
type_at_leaf f F t m None = void_type f F t

-- the leaf rule
abbrev pub leaf_type : Formula → Letter → Value
leaf_type F letter = type_at_leaf letter.field F letter.t (marks_of letter.marks) letter.vec

-- the join rule
abbrev pub joined_type : Formula → OpValue → Value → Value → Value
joined_type F op v w = join_type op.f F op.op v w

-- a vector of t digits, where there is one
abbrev pub IsVectorOf : Field → ℕ → Option (List ℕ) → Type 0
IsVectorOf f t (Some vec) = (length vec ≡ t) × AreDigits f vec
IsVectorOf f t None = Unit {0}

-- The boundary is within its limit, and the vector, where there is one, has so many digits of the field.
pub record IsLetter (letter : Letter) : Type 0 where
  pub boundary : letter.t ≤ 6
  pub vector : IsVectorOf letter.field letter.t letter.vec

-- whether a formula speaks of independence
abbrev pub has_ind : Formula → Bool
has_ind (Const b) = false
has_ind (Ind u) = true
has_ind (Member x a) = false
has_ind (SameElem x y) = false
has_ind (Sub a b) = false
has_ind (SameSet a b) = false
has_ind (Not F) = has_ind F
has_ind (Bin o F G) = has_ind F || has_ind G
has_ind (ExSet k F) = has_ind F
has_ind (AllSet k F) = has_ind F
has_ind (ExElem k F) = has_ind F
has_ind (AllElem k F) = has_ind F

-- An automaton over g takes letters and operators over f: only `ind` asks for one field.
abbrev pub IsOver : Formula → (g f : Field) → Type 0
IsOver F g f = has_ind F ≡ true → g ≡ f
