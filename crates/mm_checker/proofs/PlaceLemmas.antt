-- The parts of a place are the places that begin where their numbers say.
use Rattle.std.proofs.Common.{◌≡◌, ℕ, zero, suc, ◌+◌, List, [], ◌∷◌, ◌++◌, length, drop, Some, None, refl, sym, ap, ◌∙◌, append-nil, append_assoc, ◌⊎◌, inl, inr}
use Rattle.std.specs.List.{slice_get}
use Rattle.std.proofs.lemmas.List.{drop_at, drop-drop}
use Rattle.mm_field.specs.declared.Field.{Field}
use Rattle.mm_logic.specs.Formula.{Formula, Connective}
use Rattle.mm_logic.specs.Formula.Formula.{Const, Ind, Member, SameElem, Sub, SameSet, Not, Bin, ExSet, AllSet, ExElem, AllElem}
use Rattle.mm_logic.specs.JoinRule.{join_type}
use Rattle.mm_logic.specs.LeafRule.{elem_type, void_type}
use Rattle.mm_logic.specs.Marks.{Marks}
use Rattle.mm_logic.specs.Operator.{Op}
use Rattle.mm_logic.specs.Value.{Value}
use Rattle.mm_checker.specs.Places.{places, first_part, second_part}

-- the formula without the `not`s that it begins with: its own place
abbrev pub top : Formula → Formula
top (Const b) = Const b
top (Ind t) = Ind t
top (Member x a) = Member x a
top (SameElem x y) = SameElem x y
top (Sub a b) = Sub a b
top (SameSet a b) = SameSet a b
top (Not F) = top F
top (Bin o F G) = Bin o F G
top (ExSet k F) = ExSet k F
top (AllSet k F) = AllSet k F
top (ExElem k F) = ExElem k F
top (AllElem k F) = AllElem k F

pub at_top : (F : Formula) (rest : List Formula) → slice_get (places F ++ rest) 0 ≡ Some (top F)
at_top (Const b) rest = refl
at_top (Ind t) rest = refl
at_top (Member x a) rest = refl
at_top (SameElem x y) rest = refl
at_top (Sub a b) rest = refl
at_top (SameSet a b) rest = refl
at_top (Not F) rest = at_top F rest
at_top (Bin o F G) rest = refl
at_top (ExSet k F) rest = refl
at_top (AllSet k F) rest = refl
at_top (ExElem k F) rest = refl
at_top (AllElem k F) rest = refl

pub elem_type-top : (f : Field) (F : Formula) (vec : List ℕ) (m : Marks) → elem_type f (top F) vec m ≡ elem_type f F vec m
elem_type-top f (Const b) vec m = refl
elem_type-top f (Ind t) vec m = refl
elem_type-top f (Member x a) vec m = refl
elem_type-top f (SameElem x y) vec m = refl
elem_type-top f (Sub a b) vec m = refl
elem_type-top f (SameSet a b) vec m = refl
elem_type-top f (Not F) vec m = elem_type-top f F vec m
elem_type-top f (Bin o F G) vec m = refl
elem_type-top f (ExSet k F) vec m = refl
elem_type-top f (AllSet k F) vec m = refl
elem_type-top f (ExElem k F) vec m = refl
elem_type-top f (AllElem k F) vec m = refl

pub void_type-top : (f : Field) (F : Formula) (t : ℕ) → void_type f (top F) t ≡ void_type f F t
void_type-top f (Const b) t = refl
void_type-top f (Ind u) t = refl
void_type-top f (Member x a) t = refl
void_type-top f (SameElem x y) t = refl
void_type-top f (Sub a b) t = refl
void_type-top f (SameSet a b) t = refl
void_type-top f (Not F) t = void_type-top f F t
void_type-top f (Bin o F G) t = refl
void_type-top f (ExSet k F) t = refl
void_type-top f (AllSet k F) t = refl
void_type-top f (ExElem k F) t = refl
void_type-top f (AllElem k F) t = refl

pub join_type-top : (f : Field) (F : Formula) (op : Op) (v w : Value) → join_type f (top F) op v w ≡ join_type f F op v w
join_type-top f (Const b) op v w = refl
join_type-top f (Ind u) op v w = refl
join_type-top f (Member x a) op v w = refl
join_type-top f (SameElem x y) op v w = refl
join_type-top f (Sub a b) op v w = refl
join_type-top f (SameSet a b) op v w = refl
join_type-top f (Not F) op v w = join_type-top f F op v w
join_type-top f (Bin o F G) op v w = refl
join_type-top f (ExSet k F) op v w = refl
join_type-top f (AllSet k F) op v w = refl
join_type-top f (ExElem k F) op v w = refl
join_type-top f (AllElem k F) op v w = refl

-- ---- where places begin

some_is : {A : Type 0} (x y : A) → Some x ≡ Some y → x ≡ y
some_is x y e = cc

pub slice_get-drop : {A : Type 0} (xs : List A) (n : ℕ) → slice_get xs n ≡ slice_get (drop n xs) 0
slice_get-drop [] zero = refl
slice_get-drop [] (suc n) = refl
slice_get-drop (x ∷ xs) zero = refl
slice_get-drop (x ∷ xs) (suc n) = slice_get-drop xs n

-- the places of F begin at p
abbrev pub Begin : List Formula → ℕ → Formula → Type 0
Begin ps p F = (rest : List Formula) × (drop p ps ≡ places F ++ rest)

pub begin-top : (ps : List Formula) (p : ℕ) (F : Formula) → Begin ps p F → slice_get ps p ≡ Some (top F)
begin-top ps p F h = slice_get-drop ps p ∙ ap (λ xs. slice_get xs 0) h.1 ∙ at_top F h.0

drop-left : {A : Type 0} (xs ys : List A) (n : ℕ) (x : A) → slice_get xs n ≡ Some x → drop n (xs ++ ys) ≡ drop n xs ++ ys
drop-left [] ys n x e = let no : None ≡ Some x = e in cc
drop-left (z ∷ xs) ys zero x e = refl
drop-left (z ∷ xs) ys (suc n) x e = drop-left xs ys n x e

-- an element of a list after another is of one of them
abbrev Side : {A : Type 0} → List A → List A → ℕ → A → Type 0
Side xs ys n x = (k : ℕ) × (slice_get ys k ≡ Some x) × (drop n (xs ++ ys) ≡ drop k ys)

sides : {A : Type 0} (xs ys : List A) (n : ℕ) (x : A) → slice_get (xs ++ ys) n ≡ Some x → (slice_get xs n ≡ Some x) ⊎ Side xs ys n x
sides [] ys n x e = inr (n, e, refl)
sides (z ∷ xs) ys zero x e = inl e
sides (z ∷ xs) ys (suc n) x e = sides xs ys n x e

here : (F G : Formula) → Some F ≡ Some G → Begin (places F) 0 G
here F G e = ([], ap places (some_is F G e) ∙ sym (append-nil (places G)))

pub begins : (F : Formula) (p : ℕ) (G : Formula) → slice_get (places F) p ≡ Some G → Begin (places F) p G
begins (Const b) zero G e = here (Const b) G e
begins (Ind t) zero G e = here (Ind t) G e
begins (Member x a) zero G e = here (Member x a) G e
begins (SameElem x y) zero G e = here (SameElem x y) G e
begins (Sub a b) zero G e = here (Sub a b) G e
begins (SameSet a b) zero G e = here (SameSet a b) G e
begins (Not F) p G e = begins F p G e
begins (Bin o F H) zero G e = here (Bin o F H) G e
begins (ExSet k F) zero G e = here (ExSet k F) G e
begins (AllSet k F) zero G e = here (AllSet k F) G e
begins (ExElem k F) zero G e = here (ExElem k F) G e
begins (AllElem k F) zero G e = here (AllElem k F) G e
begins (Const b) (suc p) G e = let no : None ≡ Some G = e in cc
begins (Ind t) (suc p) G e = let no : None ≡ Some G = e in cc
begins (Member x a) (suc p) G e = let no : None ≡ Some G = e in cc
begins (SameElem x y) (suc p) G e = let no : None ≡ Some G = e in cc
begins (Sub a b) (suc p) G e = let no : None ≡ Some G = e in cc
begins (SameSet a b) (suc p) G e = let no : None ≡ Some G = e in cc
begins (Bin o F H) (suc p) G e = elim (sides (places F) (places H) p G e) [
  | inl h ↦
      let b = begins F p G h in
      (b.0 ++ places H, drop-left (places F) (places H) p G h ∙ ap (λ xs. xs ++ places H) b.1 ∙ append_assoc (places G) b.0 (places H))
  | inr h ↦ let b = begins H h.0 G h.1 in (b.0, h.2 ∙ b.1)
]
begins (ExSet k F) (suc p) G e = begins F p G e
begins (AllSet k F) (suc p) G e = begins F p G e
begins (ExElem k F) (suc p) G e = begins F p G e
begins (AllElem k F) (suc p) G e = begins F p G e

-- ---- the parts of a place

next : (ps : List Formula) (p : ℕ) (x : Formula) (xs : List Formula) → drop p ps ≡ x ∷ xs → drop (p + 1) ps ≡ xs
next ps p x xs e = sym (drop-drop 1 p ps) ∙ ap (drop 1) e

-- the place below a quantifier, whose places are itself and those of its formula
pub below : (ps : List Formula) (p : ℕ) (Q F : Formula) → (rest : List Formula) × (drop p ps ≡ Q ∷ (places F ++ rest)) → Begin ps (first_part p) F
below ps p Q F h = (h.0, next ps p Q (places F ++ h.0) h.1)

pub first_of_pair : (ps : List Formula) (p : ℕ) (o : Connective) (F G : Formula) → Begin ps p (Bin o F G) → Begin ps (first_part p) F
first_of_pair ps p o F G h =
    (places G ++ h.0, next ps p (Bin o F G) ((places F ++ places G) ++ h.0) h.1 ∙ append_assoc (places F) (places G) h.0)

pub second_of_pair : (ps : List Formula) (p : ℕ) (o : Connective) (F G : Formula) → Begin ps p (Bin o F G) → Begin ps (second_part p F) G
unfolding first_of_pair
second_of_pair ps p o F G h =
    let b = first_of_pair ps p o F G h in (
      h.0,
      sym (drop-drop (length (places F)) (p + 1) ps)
          ∙ ap (drop (length (places F))) b.1
          ∙ drop_at (places F) (places G ++ h.0) (length (places F)) refl,
    )
