-- How the checker keeps the places of a formula, and leaves.
use Rattle.std.specs.Prelude.{◌≡◌, ◌<◌, ◌≤◌, ◌++◌, ℕ, Bool, true, false, List, Option, Some, None, length, All, IfSome}
use Rattle.std.specs.Ordering.{nat_cmp}
use Rattle.mm_logic.specs.Order.{normal}
use Rattle.mm_field.specs.declared.Field.{Field}
use Rattle.mm_field.specs.Vectors.{AreDigits}
use Rattle.mm_logic.specs.Formula.{Formula}
use Rattle.mm_logic.specs.Formula.Formula.{Const, Ind, Member, SameElem, Sub, SameSet, Bin, ExSet, AllSet, ExElem, AllElem}
use Rattle.mm_tree.specs.declared.node.Leaf.{Leaf}
use Rattle.mm_checker.specs.Places.{second_part}
use Rattle.mm_checker.specs.Contents.{with_members}
use Rattle.mm_checker.specs.Claims.{all_numbers}
use Rattle.mm_checker.specs.declared.certificate.Content.{Content}
use Rattle.mm_checker.specs.declared.certificate.Content.TheVariants as content
use Rattle.mm_checker.specs.declared.certificate.Valued.{Valued}
use Rattle.mm_checker.specs.declared.places.Place.{Place}
use Rattle.mm_checker.specs.declared.places.Place.TheVariants as place

-- what is kept of place p, which has this formula
abbrev pub IsPlace : ℕ → Formula → Place → Type 0
IsPlace p (Const b) place.Const = Unit {0}
IsPlace p (Ind t) (place.Ind whole slots) = (whole ≡ t.whole) × (slots.items ≡ t.slots)
IsPlace p (Member x a) (place.Member y b) = (y ≡ x) × (b ≡ a)
IsPlace p (SameElem x y) (place.SameElem u v) = (u ≡ x) × (v ≡ y)
IsPlace p (Sub a b) (place.Sub c d) = (c ≡ a) × (d ≡ b)
IsPlace p (SameSet a b) (place.SameSet c d) = (c ≡ a) × (d ≡ b)
IsPlace p (Bin o F G) (place.Pair k) = k ≡ second_part p F
IsPlace p (ExSet k F) (place.Set s) = s ≡ k
IsPlace p (AllSet k F) (place.Set s) = s ≡ k
IsPlace p (ExElem k F) (place.One s) = s ≡ k
IsPlace p (AllElem k F) (place.One s) = s ≡ k
IsPlace p F c = ⊥

-- Its slots are below 16.
abbrev pub HasSlots : Place → Type 0
HasSlots place.Const = Unit {0}
HasSlots (place.Ind whole slots) = All (λ s. s < 16) slots.items
HasSlots (place.Member x a) = (x < 16) × (a < 16)
HasSlots (place.SameElem x y) = (x < 16) × (y < 16)
HasSlots (place.Sub a b) = (a < 16) × (b < 16)
HasSlots (place.SameSet a b) = (a < 16) × (b < 16)
HasSlots (place.Pair k) = Unit {0}
HasSlots (place.Set s) = s < 16
HasSlots (place.One s) = s < 16

-- which contents the values of a place may have
abbrev pub IsFlag : Content → Type 0
IsFlag (content.Flag n) = Unit {0}
IsFlag c = ⊥

abbrev pub IsOfInd : Content → Type 0
IsOfInd content.Dead = Unit {0}
IsOfInd (content.Space key) = Unit {0}
IsOfInd c = ⊥

abbrev pub AreParts : Content → Type 0
AreParts (content.Parts a b) = Unit {0}
AreParts c = ⊥

abbrev pub IsSet : Content → Type 0
IsSet (content.SetOf ns) = Unit {0}
IsSet c = ⊥

abbrev pub IsOne : Content → Type 0
IsOne (content.OneOf a ns) = Unit {0}
IsOne c = ⊥

abbrev pub HasContent : Place → Content → Type 0
HasContent place.Const c = IsFlag c
HasContent (place.Ind whole slots) c = IsOfInd c
HasContent (place.Member x a) c = IsFlag c
HasContent (place.SameElem x y) c = IsFlag c
HasContent (place.Sub a b) c = IsFlag c
HasContent (place.SameSet a b) c = IsFlag c
HasContent (place.Pair k) c = AreParts c
HasContent (place.Set s) c = IsSet c
HasContent (place.One s) c = IsOne c

-- A space is over f, of F^t.
abbrev pub IsSide : Field → ℕ → Content → Type 0
IsSide f t (content.Space key) = (key.f ≡ f) × (key.t ≡ t)
IsSide f t c = Unit {0}

-- A value is begun where the place may have its content.
abbrev pub IsOpened : ℕ → Option Content → Bool → Option Valued → Type 0
IsOpened p None began unended = began ≡ false
IsOpened p (Some c) began unended = (began ≡ true) × (unended ≡ Some (record { place = p; content = c }))

-- The last value gets more members, where there is one and it may have them.
abbrev pub HasMore : List Valued → List ℕ → Option Valued → Bool → Option Valued → Type 0
HasMore values ms None good unended = good ≡ false
HasMore values ms (Some v) good unended = IsOpened v.place (with_members values v.place v.content ms) good unended

-- ---- numbers that are put behind others

-- Whether all of these are there; then they stand behind the old ones.
abbrev pub IsPut : List ℕ → List (Option ℕ) → Bool → List ℕ → Type 0
IsPut old more true new = (ns : List ℕ) × (all_numbers more ≡ Some ns) × (new ≡ old ++ ns)
IsPut old more false new = all_numbers more ≡ None

-- The set of all of these, where each is there.
abbrev pub IsSetOf : Option (List ℕ) → Option (List ℕ) → Type 0
IsSetOf None all = all ≡ None
IsSetOf (Some set) all = (ns : List ℕ) × (all ≡ Some ns) × (set ≡ normal nat_cmp ns)

-- a leaf of a valid tree
pub record IsLeaf (l : Leaf) : Type 0 where
  pub short : l.t ≤ 6
  pub vector : IfSome l.item (λ i. (length i.vec ≤ 6) × AreDigits l.field i.vec)
