-- What the walks over a formula find of its scope.
use Rattle.std.proofs.Common.{◌≡◌, ℕ, ◌+◌, ◌-◌, ◌<◌, Bool, true, false, List, [], ◌∷◌, ◌++◌, length, Option, Some, None, refl, arith}
use Rattle.std.specs.Prelude.{nat_le, nat_lt, if◌then◌else◌, slice_get, filter}
use Rattle.std.specs.List.{find, list_all}
use Rattle.std.proofs.lemmas.Bool.{ltb-false, lt-leb}
use Rattle.mm_formula.specs.Variables.{is_set}
use Rattle.mm_formula.specs.Syntax.{Syntax, nodes, is_well_sorted}
use Rattle.mm_formula.specs.Syntax.Syntax.{Const, Ind, Member, SameElem, Sub, SameSet, Not, Bin, Ex, All}
use Rattle.mm_formula.specs.Scope.{unbound, outermost, depth, scope_fault, fault_of, IsScoped}
use Rattle.mm_formula.specs.declared.scope.ScopeFault.TheVariants.{Unbound, TooManyInScope, TooManyNodes}

-- each formula has a node
pub some_node : (F : Syntax) → 0 < nodes F
some_node (Not F) = omega arith
some_node (Bin c F G) = omega arith
some_node (Ex v F) = omega arith
some_node (All v F) = omega arith
some_node (Const b) = omega arith
some_node (Ind t) = omega arith
some_node (Member x a) = omega arith
some_node (SameElem x y) = omega arith
some_node (Sub a b) = omega arith
some_node (SameSet a b) = omega arith

pub no_room : (F : Syntax) (room : ℕ) → room ≡ 0 → None ≡ (if nat_le (nodes F) room then Some (room - nodes F) else None)
no_room F room z =
    let above : room < nodes F = omega (arith, some_node F, z) in
    rw (lt-leb (nodes F) room above) refl

-- the first that a test keeps is the first that it finds
pub first_kept : {X : Type 0} (p : X → Bool) (xs : List X) → find p xs ≡ slice_get (filter p xs) 0
first_kept p [] = refl
first_kept p (x ∷ xs) = elim (p x) as (λ b. (if b then Some x else find p xs) ≡ slice_get (if b then x ∷ filter p xs else filter p xs) 0)
    [ true ↦ refl | false ↦ first_kept p xs ]

-- the first of two lists, one after the other
pub first_of_front : {X : Type 0} (xs ys : List X) (x : X) → slice_get xs 0 ≡ Some x → slice_get (xs ++ ys) 0 ≡ Some x
first_of_front [] ys x h = let e : None ≡ Some x = h in absurd (cc)
first_of_front (y ∷ xs) ys x h = h

pub first_after : {X : Type 0} (xs ys : List X) → slice_get xs 0 ≡ None → slice_get (xs ++ ys) 0 ≡ slice_get ys 0
first_after [] ys h = refl
first_after (y ∷ xs) ys h = let e : Some y ≡ None = h in absurd (cc)

pub none_first : {X : Type 0} (xs : List X) → slice_get xs 0 ≡ None → xs ≡ []
none_first [] h = refl
none_first (x ∷ xs) h = let e : Some x ≡ None = h in absurd (cc)

-- no fault: nothing is unbound, deep or large
pub no_fault : (o : Option (List ℕ)) (deep large : Bool) → fault_of o deep large ≡ None → (o ≡ None) × (deep ≡ false) × (large ≡ false)
no_fault None false false h = (refl, refl, refl)
no_fault None false true h = let e : Some TooManyNodes ≡ None = h in absurd (cc)
no_fault None true large h = let e : Some TooManyInScope ≡ None = h in absurd (cc)
no_fault (Some v) deep large h = let e : Some (Unbound v) ≡ None = h in absurd (cc)

-- a formula with no fault keeps each rule
pub scoped : (F : Syntax) (free : Option (List ℕ)) → is_well_sorted F ≡ true → list_all is_set (outermost free) ≡ true
    → scope_fault F free ≡ None → IsScoped F free
scoped F free sorted set h =
    let parts = no_fault (slice_get (unbound (outermost free) F) 0) (nat_lt 16 (length (outermost free) + depth F)) (nat_lt 512 (nodes F)) h in
    record {
      sorted = sorted;
      free_is_set = set;
      bound = none_first (unbound (outermost free) F) parts.0;
      in_scope = ltb-false 16 (length (outermost free) + depth F) parts.1;
      size = ltb-false 512 (nodes F) parts.2;
    }
