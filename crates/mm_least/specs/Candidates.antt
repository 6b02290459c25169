-- Sets of elements as candidates for rows: by their types and weights, and what a node offers.
use Rattle.std.specs.Prelude.{ℕ, suc, ℤ, pos, ◌+ℤ◌, int_lt, true, false, if◌then◌else◌, List, [], ◌∷◌, ◌++◌, map}
use Rattle.mm_field.specs.declared.Field.{Field}
use Rattle.mm_logic.specs.Formula.{Formula}
use Rattle.mm_logic.specs.Value.{Value}
use Rattle.mm_logic.specs.Marks.{mark, no_marks}
use Rattle.mm_logic.specs.Occurrence.{same}
use Rattle.mm_logic.specs.LeafRule.{elem_type, void_type}
use Rattle.mm_logic.specs.Growth.{type_at}
use Rattle.mm_tree.specs.NamedTree.{Tree}
use Rattle.mm_tree.specs.NamedTree.Tree.{Elem, Void, Join}
use Rattle.mm_least.specs.declared.row.Row.{Row}
use Rattle.mm_least.specs.declared.row.Origin.{Origin}
use Rattle.mm_least.specs.declared.row.Origin.TheVariants.{Out, Taken, Pair}

-- A set of a node's elements: its type, its weight, and where it comes from.
pub record Candidate (From : Type 0) : Type 0 where
  pub type : Value
  pub weight : ℤ
  pub origin : From

abbrev pub candidate : {From : Type 0} → Value → ℤ → From → Candidate From
candidate type weight origin = record { type = type; weight = weight; origin = origin }

module _ {From : Type 0} where
  -- A candidate beside the best of each type so far: it goes last, in place of the one of its type where it weighs less.
  abbrev pub put : Candidate From → List (Candidate From) → List (Candidate From)
  put c [] = c ∷ []
  put c (d ∷ ds) = if same d.type c.type then (if int_lt c.weight d.weight then ds ++ c ∷ [] else d ∷ ds) else d ∷ put c ds

  -- The best of each type among some and these, in the order of these: the first of those that weigh least.
  abbrev pub put_all : List (Candidate From) → List (Candidate From) → List (Candidate From)
  put_all [] ds = ds
  put_all (c ∷ cs) ds = put_all cs (put c ds)

  abbrev pub types_of : List (Candidate From) → List Value
  types_of cs = map (λ c. c.type) cs

-- the candidates that rows hold, by what numbers stand for
abbrev pub held_by : (ℕ → Value) → List Row → List (Candidate Origin)
held_by type rows = map (λ r. candidate (type r.id) r.weight r.origin) rows

-- what rows show, by what numbers stand for
abbrev pub typed_by : (ℕ → Value) → List (ℕ × ℤ) → List (Value × ℤ)
typed_by type ps = map (λ p. (type p.0, p.1)) ps

-- the candidates that rows hold, where numbers stand for types
abbrev pub held : Formula → List (List Value) → List Row → List (Candidate Origin)
held F lists rows = held_by (type_at F lists) rows

-- what rows show, by their types
abbrev pub typed : Formula → List (List Value) → List (ℕ × ℤ) → List (Value × ℤ)
typed F lists ps = typed_by (type_at F lists) ps

-- What a leaf offers: its element left out, and taken.
abbrev pub leaf_candidates : Field → Formula → Tree → List (Candidate Origin)
leaf_candidates f F (Elem name vec weight) = candidate (elem_type f F vec (mark 0 false no_marks)) (pos 0) Out ∷ candidate (elem_type f F vec (mark 0 true no_marks)) weight Taken ∷ []
leaf_candidates f F (Void name t) = candidate (void_type f F t) (pos 0) Out ∷ []
leaf_candidates f F (Join name op l r) = []

module _ (join : Value → Value → Value) where
  -- a left set, number i, with each right one, numbered from j
  abbrev pub pairs_with : Value × ℤ → ℕ → List (Value × ℤ) → ℕ → List (Candidate Origin)
  pairs_with p i [] j = []
  pairs_with p i (q ∷ qs) j = candidate (join p.0 q.0) (p.1 +ℤ q.1) (Pair i j) ∷ pairs_with p i qs (suc j)

  -- What a join offers: each left set, numbered from i, with each right one.
  abbrev pub pairs_of : List (Value × ℤ) → ℕ → List (Value × ℤ) → List (Candidate Origin)
  pairs_of [] i qs = []
  pairs_of (p ∷ ps) i qs = pairs_with p i qs 0 ++ pairs_of ps (suc i) qs
