-- The items of a list that are chosen by tests.
use Rattle.std.proofs.Common.{◌≡◌, Bool, true, false, List, [], ◌∷◌, ◌++◌, length, map, refl, ap, arith}
use Rattle.std.specs.List.{items_where_true}

-- the chosen items of a list in two parts
pub chosen-append : {X : Type 0} (bs cs : List Bool) (xs ys : List X) → length bs ≡ length xs →
    items_where_true (bs ++ cs) (xs ++ ys) ≡ items_where_true bs xs ++ items_where_true cs ys
chosen-append [] cs [] ys e = refl
chosen-append [] cs (x ∷ xs) ys e = cc
chosen-append (b ∷ bs) cs [] ys e = cc
chosen-append (true ∷ bs) cs (x ∷ xs) ys e = ap (λ t. x ∷ t) (chosen-append bs cs xs ys (omega arith))
chosen-append (false ∷ bs) cs (x ∷ xs) ys e = chosen-append bs cs xs ys (omega arith)

pub chosen-map : {X Y : Type 0} (f : X → Y) (bs : List Bool) (xs : List X) →
    items_where_true bs (map f xs) ≡ map f (items_where_true bs xs)
chosen-map f [] xs = refl
chosen-map f (b ∷ bs) [] = refl
chosen-map f (true ∷ bs) (x ∷ xs) = ap (λ t. f x ∷ t) (chosen-map f bs xs)
chosen-map f (false ∷ bs) (x ∷ xs) = chosen-map f bs xs
