-- The order of values, kind by kind.
use Rattle.std.proofs.Common.{◌≡◌, ◌<◌, ℕ, suc, List, [], ◌∷◌, ◌++◌, length, refl, sym, ap, ap₂, ◌∙◌, append_assoc, arith}
use Rattle.std.specs.Ordering.{nat_cmp, ordering_then, MatchOrdering}
use Rattle.std.specs.Cmp.{nat_cmp_is, ranks}
use Rattle.std.specs.Cmp.Lexicographic.{slice_cmp}
use Rattle.std.specs.declared.cmp.Ordering.{Ordering}
use Rattle.std.specs.declared.cmp.Ordering.TheVariants.{Less, Equal, Greater}
use Rattle.std.specs.declared.vec.Vec.{Vec}
use Rattle.mm_logic.specs.Value.{Value, members, written, value_cmp}
use Rattle.mm_logic.specs.Value.Value.{Flag, Dead, Span, Pair, Empty, With}
use Rattle.mm_reference_meaning.specs.Rows.{rows_of}

-- the order of one part of what is written
abbrev pub part_cmp : List (List ℕ) → List (List ℕ) → Ordering
part_cmp = slice_cmp (slice_cmp nat_cmp)

pub then_nothing : (o : Ordering) → ordering_then o Equal ≡ o
then_nothing Less = refl
then_nothing Equal = refl
then_nothing Greater = refl

pub then_assoc : (a b c : Ordering) → ordering_then (ordering_then a b) c ≡ ordering_then a (ordering_then b c)
then_assoc Less b c = refl
then_assoc Equal b c = refl
then_assoc Greater b c = refl

one_part : (p : Ordering) (r : Ordering) → ordering_then p r ≡ ordering_then (ordering_then p Equal) r
one_part p r = ap (λ o. ordering_then o r) (sym (then_nothing p))

two_parts : (h a b r x y : Ordering) → x ≡ ordering_then a (ordering_then b r) → y ≡ ordering_then a b →
    ordering_then h x ≡ ordering_then (ordering_then h y) r
two_parts h a b r x y e k =
    ap (ordering_then h) e
    ∙ ap (ordering_then h) (sym (then_assoc a b r))
    ∙ ap (λ o. ordering_then h (ordering_then o r)) (sym k)
    ∙ sym (then_assoc h y r)

decided : (o r s u d : Ordering) → o ≡ d → ordering_then d r ≡ ordering_then (ordering_then d s) u → ordering_then o r ≡ ordering_then (ordering_then o s) u
decided o r s u d e k =
    ap (λ x. ordering_then x r) e ∙ k ∙ sym (ap (λ x. ordering_then (ordering_then x s) u) e)

pub nothing_first : (n : ℕ) → nat_cmp 0 (suc n) ≡ Less
nothing_first n = sym (nat_cmp_is 0 (suc n) Less (omega arith))

pub nothing_later : (n : ℕ) → nat_cmp (suc n) 0 ≡ Greater
nothing_later n = sym (nat_cmp_is (suc n) 0 Greater (omega arith))

suc_cmp : (m n : ℕ) → nat_cmp (suc m) (suc n) ≡ nat_cmp m n
suc_cmp m n = by (nat_cmp m n) (ranks m n)
  where
    by : (o : Ordering) → MatchOrdering o (m < n) (m ≡ n) (n < m) → nat_cmp (suc m) (suc n) ≡ o
    by Less h = sym (nat_cmp_is (suc m) (suc n) Less (omega arith))
    by Equal h = sym (nat_cmp_is (suc m) (suc n) Equal (ap suc h))
    by Greater h = sym (nat_cmp_is (suc m) (suc n) Greater (omega arith))

-- what is written of two values decides, unless they are equal, whatever comes after
pub after : (v w : Value) (xs ys : List (List (List ℕ))) →
    slice_cmp part_cmp (written v ++ xs) (written w ++ ys) ≡ ordering_then (value_cmp v w) (slice_cmp part_cmp xs ys)
after (Flag m) (Flag n) xs ys =
    one_part (part_cmp ((0 ∷ m ∷ []) ∷ []) ((0 ∷ n ∷ []) ∷ [])) (slice_cmp part_cmp xs ys)
after (Flag m) Dead xs ys = refl
after (Flag m) (Span u others) xs ys = refl
after (Flag m) (Pair c d) xs ys = refl
after (Flag m) Empty xs ys = refl
after (Flag m) (With c d) xs ys = refl
after Dead (Flag n) xs ys = refl
after Dead Dead xs ys = refl
after Dead (Span u others) xs ys = refl
after Dead (Pair c d) xs ys = refl
after Dead Empty xs ys = refl
after Dead (With c d) xs ys = refl
after (Span t rows) (Flag n) xs ys = refl
after (Span t rows) Dead xs ys = refl
after (Span t rows) (Span u others) xs ys =
    one_part (part_cmp ((2 ∷ t ∷ length rows ∷ []) ∷ rows) ((2 ∷ u ∷ length others ∷ []) ∷ others)) (slice_cmp part_cmp xs ys)
after (Span t rows) (Pair c d) xs ys = refl
after (Span t rows) Empty xs ys = refl
after (Span t rows) (With c d) xs ys = refl
after (Pair a b) (Flag n) xs ys = refl
after (Pair a b) Dead xs ys = refl
after (Pair a b) (Span u others) xs ys = refl
after (Pair a b) (Pair c d) xs ys =
    two_parts Equal (value_cmp a c) (value_cmp b d) (slice_cmp part_cmp xs ys) _ _
    (ap₂ (slice_cmp part_cmp) (append_assoc (written a) (written b) xs) (append_assoc (written c) (written d) ys)
    ∙ after a c (written b ++ xs) (written d ++ ys) ∙ ap (ordering_then (value_cmp a c)) (after b d xs ys))
    (after a c (written b) (written d))
after (Pair a b) Empty xs ys = refl
after (Pair a b) (With c d) xs ys = refl
after Empty (Flag n) xs ys = refl
after Empty Dead xs ys = refl
after Empty (Span u others) xs ys = refl
after Empty (Pair c d) xs ys = refl
after Empty Empty xs ys = refl
after Empty (With c d) xs ys =
    decided (part_cmp ((4 ∷ 0 ∷ []) ∷ []) ((4 ∷ suc (length (members d)) ∷ []) ∷ [])) _ _ _ Less
    (ap (λ o. ordering_then (ordering_then o Equal) Equal) (nothing_first (length (members d)))) refl
after (With a b) (Flag n) xs ys = refl
after (With a b) Dead xs ys = refl
after (With a b) (Span u others) xs ys = refl
after (With a b) (Pair c d) xs ys = refl
after (With a b) Empty xs ys =
    decided (part_cmp ((4 ∷ suc (length (members b)) ∷ []) ∷ []) ((4 ∷ 0 ∷ []) ∷ [])) _ _ _ Greater
    (ap (λ o. ordering_then (ordering_then o Equal) Equal) (nothing_later (length (members b)))) refl
after (With a b) (With c d) xs ys =
    two_parts (part_cmp ((4 ∷ suc (length (members b)) ∷ []) ∷ []) ((4 ∷ suc (length (members d)) ∷ []) ∷ [])) (value_cmp a c) (value_cmp b d) (slice_cmp part_cmp xs ys) _ _
    (ap₂ (slice_cmp part_cmp) (append_assoc (written a) (written b) xs) (append_assoc (written c) (written d) ys)
    ∙ after a c (written b ++ xs) (written d ++ ys) ∙ ap (ordering_then (value_cmp a c)) (after b d xs ys))
    (after a c (written b) (written d))

pub cmp_spaces : (t u : ℕ) (rows others : List (List ℕ)) →
    ordering_then (ordering_then (nat_cmp t u) (nat_cmp (length rows) (length others))) (part_cmp rows others) ≡ value_cmp (Span t rows) (Span u others)
cmp_spaces t u rows others =
    ap (λ o. ordering_then (ordering_then (nat_cmp t u) o) (part_cmp rows others)) (sym (then_nothing (nat_cmp (length rows) (length others))))
    ∙ sym (then_nothing _)

pub cmp_pairs : (a b c d : Value) → ordering_then (value_cmp a c) (value_cmp b d) ≡ value_cmp (Pair a b) (Pair c d)
cmp_pairs a b c d = sym (after a c (written b) (written d))

pub cmp_sets : (a b c d : Value) →
    ordering_then (ordering_then (nat_cmp (length (members b)) (length (members d))) (value_cmp a c)) (value_cmp b d) ≡ value_cmp (With a b) (With c d)
cmp_sets a b c d =
    then_assoc (nat_cmp (length (members b)) (length (members d))) (value_cmp a c) (value_cmp b d)
    ∙ ap₂ ordering_then (sym (then_nothing _ ∙ then_nothing _ ∙ suc_cmp (length (members b)) (length (members d)))) (sym (after a c (written b) (written d)))

pub rows_cmp : {A : Type 0} (rows others : List (Vec ℕ A)) →
    slice_cmp (λ x y. slice_cmp nat_cmp x.items y.items) rows others ≡ part_cmp (rows_of rows) (rows_of others)
rows_cmp [] [] = refl
rows_cmp [] (y ∷ ys) = refl
rows_cmp (x ∷ xs) [] = refl
rows_cmp (x ∷ xs) (y ∷ ys) = ap (ordering_then (slice_cmp nat_cmp x.items y.items)) (rows_cmp xs ys)
