-- The two operators have no fault.
use Rattle.std.proofs.Common.{◌≡◌, List, ℕ, [], ◌∷◌, Some, None, refl, sym, ap₂, ◌∙◌}
use Rattle.std.specs.Prelude.{codes}
use Rattle.mm_field.specs.declared.Field.{Field}
use Rattle.mm_field.specs.declared.Field.TheVariants.{Two, Three, Four, Five}
use Rattle.mm_field.specs.Digits as digits
use Rattle.mm_linear.specs.Decide as decide
use Rattle.mm_ops.specs.OpFaults.{fault_of}
use Rattle.mm_ops.specs.declared.op.OpFault.{OpFault}
use Rattle.mm_sample.specs.SampleTree.{on_pairs, operator_p, operator_s}
use Rattle.mm_space.specs.DigitTexts.{vectors_of}

some_is_not_none : (fault : OpFault) → Some fault ≡ None → ⊥
some_is_not_none fault e = cc

the_same : (g h : List (List ℕ)) → Some g ≡ Some h → g ≡ h
the_same g h e = cc

pub p_has_no_fault : (f : Field) → fault_of f operator_p ≡ None
unfolding fault_of decide.is_independent decide.new_place decide.echelon_of digits.plus digits.times digits.negative digits.inverse
p_has_no_fault Two = refl
p_has_no_fault Three = refl
p_has_no_fault Four = refl
p_has_no_fault Five = refl

pub s_has_no_fault : (f : Field) → fault_of f operator_s ≡ None
unfolding fault_of decide.is_independent decide.new_place decide.echelon_of digits.plus digits.times digits.negative digits.inverse
s_has_no_fault Two = refl
s_has_no_fault Three = refl
s_has_no_fault Four = refl
s_has_no_fault Five = refl

-- ---- what is made of their texts

p_rows : (f : Field) → vectors_of f (codes "10/01") ≡ Some ((1 ∷ 0 ∷ []) ∷ (0 ∷ 1 ∷ []) ∷ [])
p_rows Two = refl
p_rows Three = refl
p_rows Four = refl
p_rows Five = refl

s_left : (f : Field) → vectors_of f (codes "100/011") ≡ Some ((1 ∷ 0 ∷ 0 ∷ []) ∷ (0 ∷ 1 ∷ 1 ∷ []) ∷ [])
s_left Two = refl
s_left Three = refl
s_left Four = refl
s_left Five = refl

s_right : (f : Field) → vectors_of f (codes "010/001") ≡ Some ((0 ∷ 1 ∷ 0 ∷ []) ∷ (0 ∷ 0 ∷ 1 ∷ []) ∷ [])
s_right Two = refl
s_right Three = refl
s_right Four = refl
s_right Five = refl

pub p_is_made : (f : Field) (left right : List (List ℕ)) (fault : OpFault) → vectors_of f (codes "10/01") ≡ Some left
    → vectors_of f (codes "10/01") ≡ Some right → fault_of f (on_pairs 0 left right) ≡ Some fault → ⊥
p_is_made f left right fault l r h =
    let a : left ≡ (1 ∷ 0 ∷ []) ∷ (0 ∷ 1 ∷ []) ∷ [] = the_same left _ (sym l ∙ p_rows f) in
    let b : right ≡ (1 ∷ 0 ∷ []) ∷ (0 ∷ 1 ∷ []) ∷ [] = the_same right _ (sym r ∙ p_rows f) in
    some_is_not_none fault (sym h ∙ ap₂ (λ (x y : List (List ℕ)). fault_of f (on_pairs 0 x y)) a b ∙ p_has_no_fault f)

pub s_is_made : (f : Field) (left right : List (List ℕ)) (fault : OpFault) → vectors_of f (codes "100/011") ≡ Some left
    → vectors_of f (codes "010/001") ≡ Some right → fault_of f (on_pairs 1 left right) ≡ Some fault → ⊥
s_is_made f left right fault l r h =
    let a : left ≡ (1 ∷ 0 ∷ 0 ∷ []) ∷ (0 ∷ 1 ∷ 1 ∷ []) ∷ [] = the_same left _ (sym l ∙ s_left f) in
    let b : right ≡ (0 ∷ 1 ∷ 0 ∷ []) ∷ (0 ∷ 0 ∷ 1 ∷ []) ∷ [] = the_same right _ (sym r ∙ s_right f) in
    some_is_not_none fault (sym h ∙ ap₂ (λ (x y : List (List ℕ)). fault_of f (on_pairs 1 x y)) a b ∙ s_has_no_fault f)
