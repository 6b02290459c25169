-- Quantifiers over a list of sets, one set after the other.
use Rattle.std.proofs.Common.{◌≡◌, ◌<◌, ◌+◌, ℕ, Bool, true, false, not, ◌&&◌, ◌||◌, All, List, [], ◌∷◌, length, get_or, take, refl, sym, ap, ap₂, ◌∙◌}
use Rattle.std.specs.Bool.{beq}
use Rattle.std.specs.List.{list_any, list_all}
use Rattle.std.proofs.lemmas.List.Folds.{list_any-append, list_all-append}
use Rattle.mm_logic_laws.proofs.LeastLemmas.{length-sets}
use Rattle.mm_reference_meaning.specs.declared.meaning.Domain.{Domain}
use Rattle.mm_reference_meaning.specs.declared.meaning.Domain.TheVariants.{Sets, Elements}
use Rattle.mm_reference_meaning.specs.Evaluation.{choices_of, truth_of}
use Rattle.mm_reference_meaning.proofs.AssignmentLemmas.{take_next, some_passes, one_fails, length-singles}

-- each choice has one test for each element
pub length-choices : (d : Domain) (n : ℕ) → All (λ X. length X ≡ n) (choices_of d n)
length-choices Sets n = length-sets n
length-choices Elements n = length-singles n

-- a set that passes decides `some`, and one that fails decides `each`
pub one_decides : (b : Bool) (p : List Bool → Bool) (xs : List (List Bool)) (i : ℕ) (d : List Bool) → i < length xs → p (get_or xs i d) ≡ b →
    truth_of b p xs ≡ b
one_decides true p xs i d l h = some_passes p xs i d l h
one_decides false p xs i d l h = one_fails p xs i d l h

pub same : (a b : Bool) → beq a b ≡ true → a ≡ b
same true true h = refl
same true false h = sym h
same false true h = h
same false false h = refl

pub other : (a b : Bool) → beq a b ≡ false → a ≡ not b
other true true h = h
other true false h = refl
other false true h = refl
other false false h = sym h

-- where the sets up to a place decide nothing, and the one there does not, those up to the next place decide nothing
pub next_undecided : (b : Bool) (p : List Bool → Bool) (xs : List (List Bool)) (i : ℕ) (d : List Bool) → i < length xs →
    truth_of b p (take i xs) ≡ not b → p (get_or xs i d) ≡ not b → truth_of b p (take (i + 1) xs) ≡ not b
next_undecided true p xs i d l h e =
    ap (list_any p) (take_next i xs d l) ∙ list_any-append p (take i xs) (get_or xs i d ∷ [])
    ∙ ap₂ (λ a c. a || (c || false)) h e
next_undecided false p xs i d l h e =
    ap (list_all p) (take_next i xs d l) ∙ list_all-append p (take i xs) (get_or xs i d ∷ [])
    ∙ ap₂ (λ a c. a && (c && true)) h e
