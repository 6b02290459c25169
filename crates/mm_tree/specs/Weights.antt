-- The weight of an element.
use Rattle.std.specs.Prelude.{ℕ, ℤ, List, Option, Some, None, if◌then◌else◌}
use Rattle.std.specs.Str.{bytes_eq}
use Rattle.mm_tree.specs.NamedTree.{Tree}
use Rattle.mm_tree.specs.NamedTree.Tree.{Elem, Void, Join}

abbrev pub first_weight : Option ℤ → Option ℤ → Option ℤ
first_weight (Some weight) other = Some weight
first_weight None other = other

-- The weight of the element of a name, if there is one.
unfoldable pub weight_named : List ℕ → Tree → Option ℤ
weight_named name (Elem n vec weight) = if bytes_eq name n then Some weight else None
weight_named name (Void n t) = None
weight_named name (Join n op left right) = first_weight (weight_named name left) (weight_named name right)
