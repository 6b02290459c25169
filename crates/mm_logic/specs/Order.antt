-- Sets as lists that rise in an order. R is a total order in which only equal values tie.
use Rattle.std.specs.Prelude.{◌≡◌, Bool, List, [], ◌∷◌}
use Rattle.std.specs.List.{list_any}
use Rattle.std.specs.declared.cmp.Ordering.{Ordering}
use Rattle.std.specs.declared.cmp.Ordering.TheVariants.{Less, Equal, Greater}

-- Two lists have the same members where each test that some value of one passes, some value of the other passes.
abbrev pub SameMembers : {A : Type 0} → List A → List A → Type 0
SameMembers {A} xs ys = (p : A → Bool) → list_any p xs ≡ list_any p ys

-- x, y or z, by an answer of the order
abbrev pub by_order : {A : Type 0} → Ordering → A → A → A → A
by_order Less x y z = x
by_order Equal x y z = y
by_order Greater x y z = z

module _ {A : Type 0} (R : A → A → Ordering) where
  -- the list with v put at its place, unless it is there
  abbrev pub insert : A → List A → List A
  insert v [] = v ∷ []
  insert v (w ∷ ws) = by_order (R v w) (v ∷ w ∷ ws) (w ∷ ws) (w ∷ insert v ws)

  -- the set of these values: in order, each once
  abbrev pub normal : List A → List A
  normal [] = []
  normal (v ∷ vs) = insert v (normal vs)

  -- x is below each of these
  abbrev pub Below : A → List A → Type 0
  Below x [] = Unit {0}
  Below x (y ∷ ys) = (R x y ≡ Less) × Below x ys

  -- the list rises: each value is below all that follow
  abbrev pub Rising : List A → Type 0
  Rising [] = Unit {0}
  Rising (x ∷ xs) = Below x xs × Rising xs
