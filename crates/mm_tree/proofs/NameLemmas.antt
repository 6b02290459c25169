-- Lists of different names.
use Rattle.std.proofs.Common.{ℕ, ◌≡◌, ◌||◌, ◌++◌, Bool, true, false, List, [], ◌∷◌, refl, sym, ap, ap₂, ◌∙◌, subst}
use Rattle.std.specs.List.{IsDistinct, AllByRecursion}
use Rattle.std.specs.Str.{bytes_eq}
use Rattle.std.proofs.lemmas.List.Folds.{list_any-append}
use Rattle.std.proofs.lemmas.Bool.{or_parts, or_right, or_left}
use Rattle.mm_tree.specs.NamedTree.{is_one_of}
use Rattle.mm_base.proofs.NameLemmas.{same_bytes, bytes_same}

-- no name is in both lists
abbrev pub AreApart : (xs ys : List (List ℕ)) → Type 0
AreApart xs ys = (x : List ℕ) → is_one_of x xs ≡ true → is_one_of x ys ≡ false

pub none_equal : (x : List ℕ) (ys : List (List ℕ)) → AllByRecursion (λ y. bytes_eq x y ≡ false) ys → is_one_of x ys ≡ false
none_equal x [] a = refl
none_equal x (y ∷ ys) a = ap₂ (λ (p q : Bool). p || q) a.0 (none_equal x ys a.1)

pub all_unequal : (x : List ℕ) (ys : List (List ℕ)) → is_one_of x ys ≡ false → AllByRecursion (λ y. bytes_eq x y ≡ false) ys
all_unequal x [] e = tt
all_unequal x (y ∷ ys) e =
    let p = or_parts (bytes_eq x y) (is_one_of x ys) e in
    (p.0, all_unequal x ys p.1)

pub one_of_append : (x : List ℕ) (xs ys : List (List ℕ)) → is_one_of x (xs ++ ys) ≡ (is_one_of x xs || is_one_of x ys)
one_of_append x xs ys = list_any-append (bytes_eq x) xs ys

pub distinct_right : (xs ys : List (List ℕ)) → IsDistinct bytes_eq (xs ++ ys) → IsDistinct bytes_eq ys
unfolding IsDistinct
distinct_right [] ys d = d
distinct_right (x ∷ xs) ys d = distinct_right xs ys d.1

pub distinct_left : (xs ys : List (List ℕ)) → IsDistinct bytes_eq (xs ++ ys) → IsDistinct bytes_eq xs
unfolding IsDistinct
distinct_left [] ys d = tt
distinct_left (x ∷ xs) ys d =
    (all_unequal x xs (or_parts (is_one_of x xs) (is_one_of x ys) (sym (one_of_append x xs ys) ∙ none_equal x (xs ++ ys) d.0)).0, distinct_left xs ys d.1)

pub distinct_apart : (xs ys : List (List ℕ)) → IsDistinct bytes_eq (xs ++ ys) → AreApart xs ys
unfolding IsDistinct
distinct_apart [] ys d n e = cc
distinct_apart (x ∷ xs) ys d n e = go (distinct_apart xs ys d.1 n) (bytes_eq n x) refl
  where
    go : (is_one_of n xs ≡ true → is_one_of n ys ≡ false) → (b : Bool) → bytes_eq n x ≡ b → is_one_of n ys ≡ false
    go more true q =
        subst (λ (z : List ℕ). is_one_of z ys ≡ false) (sym (same_bytes n x q))
        (or_parts (is_one_of x xs) (is_one_of x ys) (sym (one_of_append x xs ys) ∙ none_equal x (xs ++ ys) d.0)).1
    go more false q = more (sym (ap (λ (b : Bool). b || is_one_of n xs) q) ∙ e)

pub distinct_append : (xs ys : List (List ℕ)) → IsDistinct bytes_eq xs → IsDistinct bytes_eq ys → AreApart xs ys →
    IsDistinct bytes_eq (xs ++ ys)
unfolding IsDistinct
distinct_append [] ys dx dy a = dy
distinct_append (x ∷ xs) ys dx dy a = (
  all_unequal x (xs ++ ys) (one_of_append x xs ys
      ∙ ap₂ (λ (p q : Bool). p || q) (none_equal x xs dx.0) (a x (or_left (bytes_eq x x) (is_one_of x xs) (bytes_same x)))),
  distinct_append xs ys dx.1 dy (λ n e. a n (or_right (bytes_eq n x) (is_one_of n xs) e)),
)
