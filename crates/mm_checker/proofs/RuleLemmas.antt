-- Claims of true values give true values.
use Rattle.std.proofs.Common.{◌≡◌, ℕ, zero, suc, ◌+◌, ◌^◌, ◌==◌, Bool, true, false, ◌&&◌, ◌||◌, max, ◌%◌, ◌<◌, bit_or, bit_xor, if◌then◌else◌, List, [], ◌∷◌, ◌++◌, map, Option, Some, None, refl, sym, ap, ap₂, ◌∙◌, subst, arith}
use Rattle.std.specs.Int.{bit_at}
use Rattle.std.specs.List.{slice_get, list_all}
use Rattle.std.specs.Ordering.{nat_cmp, is_eq}
use Rattle.std.specs.Str.{bytes_eq}
use Rattle.std.specs.declared.cmp.Ordering.{Ordering}
use Rattle.std.specs.declared.cmp.Ordering.TheVariants.{Less, Equal, Greater}
use Rattle.std.proofs.lemmas.Bool.{and_parts, eqb-true}
use Rattle.std.proofs.lemmas.Nat.Bits.{bit_at_or, bit_at_xor, bit_at-pow_same, bit_at-pow_other, bit_at-lt}
use Rattle.mm_field.specs.declared.Field.{Field}
use Rattle.mm_logic.specs.AtomValues.{unseen, member, same_elem, holding, member_join, same_elem_join, holding_join}
use Rattle.mm_logic.specs.BoundarySpaces.{ind_elem, ind_join}
use Rattle.mm_logic.specs.Formula.{Formula, Term, Connective, implies, iff}
use Rattle.mm_logic.specs.Formula.Formula.{Const, Ind, Member, SameElem, Sub, SameSet, Not, Bin, ExSet, AllSet, ExElem, AllElem}
use Rattle.mm_logic.specs.JoinRule.{join_type, all_pairs, set_join, elem_join}
use Rattle.mm_logic.specs.Marks.{Marks, mark, in_term}
use Rattle.mm_logic.specs.Occurrence.{same}
use Rattle.mm_logic.specs.Operator.{Op}
use Rattle.mm_logic.specs.Order.{normal}
use Rattle.mm_logic.specs.Value.{Value, collected, members, value_cmp}
use Rattle.mm_logic.specs.Value.{Value as value}
use Rattle.mm_logic.proofs.SetLemmas.{list_any-map}
use Rattle.mm_logic.proofs.ValueLemmas.{value_exact, collected-same, list_any-collected}
use Rattle.mm_logic_laws.proofs.TypeLemmas.{set_join-collected}
use Rattle.std.proofs.lemmas.List.Folds.{list_any-append}
use Rattle.mm_tree.specs.NamedTree.{Tree}
use Rattle.mm_tree.specs.NamedTree.Tree.{Elem, Void, Join}
use Rattle.mm_cert_lines.specs.Hashing.{same_numbers}
use Rattle.mm_checker.specs.Places.{first_part, second_part}
use Rattle.mm_checker.specs.Contents.{value_of, is_same, is_same_list}
use Rattle.mm_checker.specs.Claims.{LeafClaims, GlueClaims, at_element, is_atom, glued, glued_pairs, both_parts, all_members, on_either_side, of_atoms, is_same_leaf, is_same_glue, claimed, at_leaf, at_glue, with_number, all_numbers, parts_of, set_of, one_of, atom_content, marks_of, without_slot, with_slot, has_element, leaf_type, leaf_content, atom_value, glue_content}
use Rattle.mm_checker.specs.declared.certificate.Content.{Content}
use Rattle.mm_checker.specs.declared.certificate.Content.TheVariants as content
use Rattle.mm_cert_lines.specs.declared.certificate.GlueKey.{GlueKey}
use Rattle.mm_cert_lines.specs.declared.certificate.LeafKey.{LeafKey}
use Rattle.mm_checker.proofs.PlaceLemmas.{top, elem_type-top, void_type-top, join_type-top, Begin, begin-top, below, first_of_pair, second_of_pair}
use Rattle.mm_checker.proofs.MeaningLemmas.{collected-normal}

-- ---- contents that are the same have one value

pub same_value : (v w : Value) → same v w ≡ true → v ≡ w
same_value v w h = value_exact v w (equal (value_cmp v w) h)
  where
    equal : (o : Ordering) → is_eq o ≡ true → o ≡ Equal
    equal Less e = let no : false ≡ true = e in cc
    equal Equal e = refl
    equal Greater e = let no : false ≡ true = e in cc

pub same_content : (g : ℕ → Value) (c d : Content) → is_same c d ≡ true → value_of g c ≡ value_of g d
same_content g (content.Flag n) (content.Flag m) h = ap value.Flag (eqb-true n m h)
same_content g (content.Flag n) content.Dead h = let no : false ≡ true = h in cc
same_content g (content.Flag n) (content.Space j) h = let no : false ≡ true = h in cc
same_content g (content.Flag n) (content.Parts c d) h = let no : false ≡ true = h in cc
same_content g (content.Flag n) (content.SetOf ms) h = let no : false ≡ true = h in cc
same_content g (content.Flag n) (content.OneOf e ms) h = let no : false ≡ true = h in cc
same_content g content.Dead (content.Flag m) h = let no : false ≡ true = h in cc
same_content g content.Dead content.Dead h = refl
same_content g content.Dead (content.Space j) h = let no : false ≡ true = h in cc
same_content g content.Dead (content.Parts c d) h = let no : false ≡ true = h in cc
same_content g content.Dead (content.SetOf ms) h = let no : false ≡ true = h in cc
same_content g content.Dead (content.OneOf e ms) h = let no : false ≡ true = h in cc
same_content g (content.Space k) (content.Flag m) h = let no : false ≡ true = h in cc
same_content g (content.Space k) content.Dead h = let no : false ≡ true = h in cc
same_content g (content.Space k) (content.Space j) h = same_value _ _ h
same_content g (content.Space k) (content.Parts c d) h = let no : false ≡ true = h in cc
same_content g (content.Space k) (content.SetOf ms) h = let no : false ≡ true = h in cc
same_content g (content.Space k) (content.OneOf e ms) h = let no : false ≡ true = h in cc
same_content g (content.Parts a b) (content.Flag m) h = let no : false ≡ true = h in cc
same_content g (content.Parts a b) content.Dead h = let no : false ≡ true = h in cc
same_content g (content.Parts a b) (content.Space j) h = let no : false ≡ true = h in cc
same_content g (content.Parts a b) (content.Parts c d) h = let p = and_parts (a == c) (b == d) h in ap₂ (λ x y. value.Pair (g x) (g y)) (eqb-true a c p.0) (eqb-true b d p.1)
same_content g (content.Parts a b) (content.SetOf ms) h = let no : false ≡ true = h in cc
same_content g (content.Parts a b) (content.OneOf e ms) h = let no : false ≡ true = h in cc
same_content g (content.SetOf ns) (content.Flag m) h = let no : false ≡ true = h in cc
same_content g (content.SetOf ns) content.Dead h = let no : false ≡ true = h in cc
same_content g (content.SetOf ns) (content.Space j) h = let no : false ≡ true = h in cc
same_content g (content.SetOf ns) (content.Parts c d) h = let no : false ≡ true = h in cc
same_content g (content.SetOf ns) (content.SetOf ms) h = ap (λ xs. collected (map g xs)) (same_numbers ns ms h)
same_content g (content.SetOf ns) (content.OneOf e ms) h = let no : false ≡ true = h in cc
same_content g (content.OneOf a ns) (content.Flag m) h = let no : false ≡ true = h in cc
same_content g (content.OneOf a ns) content.Dead h = let no : false ≡ true = h in cc
same_content g (content.OneOf a ns) (content.Space j) h = let no : false ≡ true = h in cc
same_content g (content.OneOf a ns) (content.Parts c d) h = let no : false ≡ true = h in cc
same_content g (content.OneOf a ns) (content.SetOf ms) h = let no : false ≡ true = h in cc
same_content g (content.OneOf a ns) (content.OneOf e ms) h = let p = and_parts (a == e) (is_same_list ns ms) h in ap₂ (λ x xs. value.Pair (g x) (collected (map g xs))) (eqb-true a e p.0) (same_numbers ns ms p.1)

-- ---- marks

same_bit : (b : ℕ) → b < 2 → (max b 1 == 1) ≡ true
same_bit b l = grind arith

flipped : (b : ℕ) → b < 2 → ((b + 1) % 2 == 1) ≡ (if b == 1 then false else true)
flipped zero l = refl
flipped (suc zero) l = refl
flipped (suc (suc b)) l = absurd (omega (arith, l))

kept : (b : ℕ) → b < 2 → (b + 0) % 2 ≡ b
kept zero l = refl
kept (suc zero) l = refl
kept (suc (suc b)) l = absurd (omega (arith, l))

max_zero : (b : ℕ) → max b 0 ≡ b
max_zero b = omega arith

different : (j s : ℕ) → (j == s) ≡ false → j ≡ s → ⊥
different j s e h = let no : true ≡ false = sym (itself s) ∙ ap (λ k. k == s) (sym h) ∙ e in cc
  where
    itself : (s : ℕ) → (s == s) ≡ true
    itself s = grind arith

with_slot-at : (s m j : ℕ) (b : Bool) → (j == s) ≡ b → (bit_at (with_slot s m) j == 1) ≡ (if b then true else bit_at m j == 1)
with_slot-at s m j true e =
    subst (λ k. (bit_at (bit_or m (2 ^ s)) k == 1) ≡ true) (sym (eqb-true j s e))
    (ap (λ b. b == 1) (bit_at_or m (2 ^ s) s ∙ ap (λ b. max (bit_at m s) b) (bit_at-pow_same s)) ∙ same_bit (bit_at m s) (bit_at-lt m s))
with_slot-at s m j false e =
    ap (λ b. b == 1) (bit_at_or m (2 ^ s) j ∙ ap (λ b. max (bit_at m j) b) (bit_at-pow_other s j (different j s e)) ∙ max_zero (bit_at m j))

pub marks_with : (s m : ℕ) → marks_of (with_slot s m) ≡ mark s true (marks_of m)
marks_with s m = λ i j. with_slot-at s m j (j == s) refl i

cleared : (s m : ℕ) (b : Bool) → (bit_at m s == 1) ≡ b → (bit_at (if b then bit_xor m (2 ^ s) else m) s == 1) ≡ false
cleared s m true e =
    ap (λ b. b == 1) (bit_at_xor m (2 ^ s) s ∙ ap (λ b. (bit_at m s + b) % 2) (bit_at-pow_same s)) ∙ flipped (bit_at m s) (bit_at-lt m s)
    ∙ ap (λ (b : Bool). if b then false else true) e
cleared s m false e = e

untouched : (s m j : ℕ) (b : Bool) → (j == s) ≡ false → (bit_at (if b then bit_xor m (2 ^ s) else m) j == 1) ≡ (bit_at m j == 1)
untouched s m j true e =
    ap (λ b. b == 1) (bit_at_xor m (2 ^ s) j ∙ ap (λ b. (bit_at m j + b) % 2) (bit_at-pow_other s j (different j s e)) ∙ kept (bit_at m j) (bit_at-lt m j))
untouched s m j false e = refl

without_slot-at : (s m j : ℕ) (b : Bool) → (j == s) ≡ b → (bit_at (without_slot s m) j == 1) ≡ (if b then false else bit_at m j == 1)
without_slot-at s m j true e =
    subst (λ k. (bit_at (without_slot s m) k == 1) ≡ false) (sym (eqb-true j s e)) (cleared s m (bit_at m s == 1) refl)
without_slot-at s m j false e = untouched s m j (bit_at m s == 1) e

pub marks_without : (s m : ℕ) → marks_of (without_slot s m) ≡ mark s false (marks_of m)
marks_without s m = λ i j. without_slot-at s m j (j == s) refl i

-- ---- look-ups

same_leaf_is : (a b : LeafKey) → is_same_leaf a b ≡ true → a ≡ b
same_leaf_is a b h =
    let p = and_parts ((a.place == b.place) && (a.leaf == b.leaf)) (a.marks == b.marks) h in
    let q = and_parts (a.place == b.place) (a.leaf == b.leaf) p.0 in
    λ i. record { place = eqb-true a.place b.place q.0 i; leaf = eqb-true a.leaf b.leaf q.1 i; marks = eqb-true a.marks b.marks p.1 i }

same_glue_is : (a b : GlueKey) → is_same_glue a b ≡ true → a ≡ b
same_glue_is a b h =
    let p = and_parts ((a.place == b.place) && bytes_eq a.op b.op && (a.left == b.left)) (a.right == b.right) h in
    let q = and_parts ((a.place == b.place) && bytes_eq a.op b.op) (a.left == b.left) p.0 in
    let r = and_parts (a.place == b.place) (bytes_eq a.op b.op) q.0 in
    λ i. record {
      place = eqb-true a.place b.place r.0 i;
      op = same_numbers a.op b.op r.1 i;
      left = eqb-true a.left b.left q.1 i;
      right = eqb-true a.right b.right p.1 i;
    }

-- what is true of each claim
abbrev pub Each : {K : Type 0} → (K → ℕ → Type 0) → List (K × ℕ) → Type 0
Each P [] = Unit {0}
Each P (claim ∷ claims) = P claim.0 claim.1 × Each P claims

pub each-push : {K : Type 0} (P : K → ℕ → Type 0) (claims : List (K × ℕ)) (key : K) (v : ℕ) → Each P claims → P key v → Each P (claims ++ (key, v) ∷ [])
each-push P [] key v h p = (p, tt)
each-push P (claim ∷ claims) key v h p = (h.0, each-push P claims key v h.1 p)

claimed-each : {K : Type 0} (eq : K → K → Bool) → ((a b : K) → eq a b ≡ true → a ≡ b) → (P : K → ℕ → Type 0) (claims : List (K × ℕ)) → Each P claims
    → (key : K) (v : ℕ) → claimed eq claims key ≡ Some v → P key v
claimed-each eq is P [] h key v e = let no : None ≡ Some v = e in cc
claimed-each eq is P (claim ∷ claims) h key v e = by (claimed-each eq is P claims h.1 key v) (eq key claim.0) refl e
  where
    by : (claimed eq claims key ≡ Some v → P key v) → (b : Bool) → eq key claim.0 ≡ b → (if b then Some claim.1 else claimed eq claims key) ≡ Some v → P key v
    by ih true same e =
        let at : claim.1 ≡ v = cc in
        subst (λ k. P k v) (sym (is key claim.0 same)) (subst (P claim.0) at h.0)
    by ih false same e = ih e

-- ---- atoms

abbrev IsAtomic : Value → Type 0
IsAtomic (value.Flag n) = Unit {0}
IsAtomic value.Dead = Unit {0}
IsAtomic (value.Span t rows) = Unit {0}
IsAtomic v = ⊥

atom_back : (f : Field) (g : ℕ → Value) (v : Value) → IsAtomic v → value_of g (atom_content f v) ≡ v
atom_back f g (value.Flag n) h = refl
atom_back f g value.Dead h = refl
atom_back f g (value.Span t rows) h = refl
atom_back f g (value.Pair v w) h = absurd h
atom_back f g value.Empty h = absurd h
atom_back f g (value.With v w) h = absurd h

flag_if : (b : Bool) (v w : Value) → IsAtomic v → IsAtomic w → IsAtomic (if b then v else w)
flag_if true v w h k = h
flag_if false v w h k = k

member_atomic : (b : Bool) → IsAtomic (member b)
member_atomic true = tt
member_atomic false = tt

same_atomic : (x y b : Bool) → IsAtomic (same_elem x y b)
same_atomic false false b = tt
same_atomic true false b = tt
same_atomic false true b = tt
same_atomic true true true = tt
same_atomic true true false = tt

holding_atomic : (b : Bool) → IsAtomic (holding b)
holding_atomic true = tt
holding_atomic false = tt

ind_atomic : (f : Field) (vec : List ℕ) (b : Bool) → IsAtomic (ind_elem f vec b)
ind_atomic f vec true = flag_if (list_all (λ d. d == 0) vec) value.Dead _ tt tt
ind_atomic f vec false = tt

pub const_leaf : (f : Field) (b : Bool) (leaf : Tree) (m : Marks) → IsAtomic (leaf_type f (Const b) leaf m)
const_leaf f b (Elem name vec w) m = tt
const_leaf f b (Void name t) m = tt
const_leaf f b (Join name op l r) m = tt

ind_leaf : (f : Field) (t : Term) (leaf : Tree) (m : Marks) → IsAtomic (leaf_type f (Ind t) leaf m)
ind_leaf f t (Elem name vec w) m = ind_atomic f vec (in_term t m)
ind_leaf f t (Void name u) m = tt
ind_leaf f t (Join name op l r) m = tt

member_leaf : (f : Field) (x a : ℕ) (leaf : Tree) (m : Marks) → IsAtomic (leaf_type f (Member x a) leaf m)
member_leaf f x a (Elem name vec w) m = flag_if (m x) (member (m a)) unseen (member_atomic (m a)) tt
member_leaf f x a (Void name u) m = tt
member_leaf f x a (Join name op l r) m = tt

same_leaf : (f : Field) (x y : ℕ) (leaf : Tree) (m : Marks) → IsAtomic (leaf_type f (SameElem x y) leaf m)
same_leaf f x y (Elem name vec w) m = same_atomic (m x) (m y) true
same_leaf f x y (Void name u) m = tt
same_leaf f x y (Join name op l r) m = tt

sub_leaf : (f : Field) (a b : ℕ) (leaf : Tree) (m : Marks) → IsAtomic (leaf_type f (Sub a b) leaf m)
sub_leaf f a b (Elem name vec w) m = holding_atomic (implies (m a) (m b))
sub_leaf f a b (Void name u) m = tt
sub_leaf f a b (Join name op l r) m = tt

same_set_leaf : (f : Field) (a b : ℕ) (leaf : Tree) (m : Marks) → IsAtomic (leaf_type f (SameSet a b) leaf m)
same_set_leaf f a b (Elem name vec w) m = holding_atomic (iff (m a) (m b))
same_set_leaf f a b (Void name u) m = tt
same_set_leaf f a b (Join name op l r) m = tt

-- ---- joins of atoms

ind_join_atomic : (f : Field) (op : Op) (v w : Value) → IsAtomic (ind_join f op v w)
ind_join_atomic f op (value.Span t rows) (value.Span u sows) = flag_if _ (value.Span op.t3 _) value.Dead tt tt
ind_join_atomic f op (value.Span t rows) (value.Flag n) = tt
ind_join_atomic f op (value.Span t rows) value.Dead = tt
ind_join_atomic f op (value.Span t rows) (value.Pair a b) = tt
ind_join_atomic f op (value.Span t rows) value.Empty = tt
ind_join_atomic f op (value.Span t rows) (value.With a b) = tt
ind_join_atomic f op (value.Flag n) w = tt
ind_join_atomic f op value.Dead w = tt
ind_join_atomic f op (value.Pair a b) w = tt
ind_join_atomic f op value.Empty w = tt
ind_join_atomic f op (value.With a b) w = tt

member_join_atomic : (v w : Value) → IsAtomic v → IsAtomic w → IsAtomic (member_join v w)
member_join_atomic (value.Flag zero) w h k = k
member_join_atomic (value.Flag (suc n)) w h k = tt
member_join_atomic value.Dead w h k = tt
member_join_atomic (value.Span t rows) w h k = tt
member_join_atomic (value.Pair a b) w h k = absurd h
member_join_atomic value.Empty w h k = absurd h
member_join_atomic (value.With a b) w h k = absurd h

holding_join_atomic : (v w : Value) → IsAtomic v → IsAtomic w → IsAtomic (holding_join v w)
holding_join_atomic (value.Flag zero) w h k = k
holding_join_atomic (value.Flag (suc n)) w h k = tt
holding_join_atomic value.Dead w h k = tt
holding_join_atomic (value.Span t rows) w h k = tt
holding_join_atomic (value.Pair a b) w h k = absurd h
holding_join_atomic value.Empty w h k = absurd h
holding_join_atomic (value.With a b) w h k = absurd h

same_join_atomic : (v w : Value) → IsAtomic v → IsAtomic w → IsAtomic (same_elem_join v w)
same_join_atomic (value.Flag zero) w h k = k
same_join_atomic (value.Flag (suc zero)) (value.Flag zero) h k = tt
same_join_atomic (value.Flag (suc zero)) (value.Flag (suc zero)) h k = tt
same_join_atomic (value.Flag (suc zero)) (value.Flag (suc (suc zero))) h k = tt
same_join_atomic (value.Flag (suc zero)) (value.Flag (suc (suc (suc n)))) h k = tt
same_join_atomic (value.Flag (suc zero)) value.Dead h k = tt
same_join_atomic (value.Flag (suc zero)) (value.Span t rows) h k = tt
same_join_atomic (value.Flag (suc zero)) (value.Pair a b) h k = absurd k
same_join_atomic (value.Flag (suc zero)) value.Empty h k = absurd k
same_join_atomic (value.Flag (suc zero)) (value.With a b) h k = absurd k
same_join_atomic (value.Flag (suc (suc zero))) (value.Flag zero) h k = tt
same_join_atomic (value.Flag (suc (suc zero))) (value.Flag (suc zero)) h k = tt
same_join_atomic (value.Flag (suc (suc zero))) (value.Flag (suc (suc n))) h k = tt
same_join_atomic (value.Flag (suc (suc zero))) value.Dead h k = tt
same_join_atomic (value.Flag (suc (suc zero))) (value.Span t rows) h k = tt
same_join_atomic (value.Flag (suc (suc zero))) (value.Pair a b) h k = absurd k
same_join_atomic (value.Flag (suc (suc zero))) value.Empty h k = absurd k
same_join_atomic (value.Flag (suc (suc zero))) (value.With a b) h k = absurd k
same_join_atomic (value.Flag (suc (suc (suc n)))) w h k = tt
same_join_atomic value.Dead w h k = tt
same_join_atomic (value.Span t rows) w h k = tt
same_join_atomic (value.Pair a b) w h k = absurd h
same_join_atomic value.Empty w h k = absurd h
same_join_atomic (value.With a b) w h k = absurd h

-- the value of a content of an atom does not depend on numbers
atoms_alike : (g : ℕ → Value) (c : Content) → is_atom c ≡ true → (atom_value c ≡ value_of g c) × IsAtomic (atom_value c)
atoms_alike g (content.Flag n) h = (refl, tt)
atoms_alike g content.Dead h = (refl, tt)
atoms_alike g (content.Space key) h = (refl, tt)
atoms_alike g (content.Parts a b) h = let no : false ≡ true = h in cc
atoms_alike g (content.SetOf ns) h = let no : false ≡ true = h in cc
atoms_alike g (content.OneOf a ns) h = let no : false ≡ true = h in cc

-- ---- numbers that stand for values

module _ (g : ℕ → Value) where
  -- each number, where it is there, is that of the value beside it
  abbrev pub Are : List (Option ℕ) → List Value → Type 0
  Are [] [] = Unit {0}
  Are (o ∷ os) (v ∷ vs) = ((n : ℕ) → o ≡ Some n → g n ≡ v) × Are os vs
  Are [] (v ∷ vs) = ⊥
  Are (o ∷ os) [] = ⊥

  are-append : (os ps : List (Option ℕ)) (vs ws : List Value) → Are os vs → Are ps ws → Are (os ++ ps) (vs ++ ws)
  are-append [] ps [] ws h k = k
  are-append (o ∷ os) ps (v ∷ vs) ws h k = (h.0, are-append os ps vs ws h.1 k)
  are-append [] ps (v ∷ vs) ws h k = absurd h
  are-append (o ∷ os) ps [] ws h k = absurd h

  are_values : (os : List (Option ℕ)) (vs : List Value) → Are os vs → (ns : List ℕ) → all_numbers os ≡ Some ns → map g ns ≡ vs
  are_values [] [] h ns e = let at : [] ≡ ns = cc in sym (ap (map g) at)
  are_values [] (v ∷ vs) h ns e = absurd h
  are_values (o ∷ os) [] h ns e = absurd h
  are_values (None ∷ os) (v ∷ vs) h ns e = let no : None ≡ Some ns = e in cc
  are_values (Some n ∷ os) (v ∷ vs) h ns e = by (are_values os vs h.1) (all_numbers os) refl e
    where
      by : ((ms : List ℕ) → all_numbers os ≡ Some ms → map g ms ≡ vs) → (r : Option (List ℕ)) → all_numbers os ≡ r → with_number (Some n) r ≡ Some ns → map g ns ≡ v ∷ vs
      by ih None q e = let no : None ≡ Some ns = e in cc
      by ih (Some ms) q e =
          let at : n ∷ ms ≡ ns = cc in
          sym (ap (map g) at) ∙ ap₂ (λ x xs. x ∷ xs) (h.0 n refl) (ih ms q)

  set_case : (os : List (Option ℕ)) (vs : List Value) → Are os vs → (c : Content) → set_of (all_numbers os) ≡ Some c → value_of g c ≡ collected vs
  set_case os vs h c e = by (all_numbers os) refl e
    where
      by : (r : Option (List ℕ)) → all_numbers os ≡ r → set_of r ≡ Some c → value_of g c ≡ collected vs
      by None q e = let no : None ≡ Some c = e in cc
      by (Some ns) q e =
          let at : content.SetOf (normal nat_cmp ns) ≡ c = cc in
          sym (ap (value_of g) at) ∙ collected-normal g ns ∙ ap collected (are_values os vs h ns q)

  one_case : (o : Option ℕ) (os : List (Option ℕ)) (v : Value) (vs : List Value) → ((n : ℕ) → o ≡ Some n → g n ≡ v) → Are os vs → (c : Content)
      → one_of o (all_numbers os) ≡ Some c → value_of g c ≡ value.Pair v (collected vs)
  one_case None os v vs a h c e = let no : None ≡ Some c = e in cc
  one_case (Some n) os v vs a h c e = by (all_numbers os) refl e
    where
      by : (r : Option (List ℕ)) → all_numbers os ≡ r → one_of (Some n) r ≡ Some c → value_of g c ≡ value.Pair v (collected vs)
      by None q e = let no : None ≡ Some c = e in cc
      by (Some ns) q e =
          let at : content.OneOf n (normal nat_cmp ns) ≡ c = cc in
          sym (ap (value_of g) at) ∙ ap₂ value.Pair (a n refl) (collected-normal g ns ∙ ap collected (are_values os vs h ns q))

  parts_case : (o p : Option ℕ) (v w : Value) → ((n : ℕ) → o ≡ Some n → g n ≡ v) → ((n : ℕ) → p ≡ Some n → g n ≡ w) → (c : Content)
      → parts_of o p ≡ Some c → value_of g c ≡ value.Pair v w
  parts_case None p v w a b c e = let no : None ≡ Some c = e in cc
  parts_case (Some n) None v w a b c e = let no : None ≡ Some c = e in cc
  parts_case (Some n) (Some m) v w a b c e =
      let at : content.Parts n m ≡ c = cc in sym (ap (value_of g) at) ∙ ap₂ value.Pair (a n refl) (b m refl)

  atom_case : (f : Field) (v : Value) → IsAtomic v → (c : Content) → Some (atom_content f v) ≡ Some c → value_of g c ≡ v
  atom_case f v h c e = let at : atom_content f v ≡ c = cc in sym (ap (value_of g) at) ∙ atom_back f g v h

-- ---- the leaf rule

leaf_type-top : (f : Field) (F : Formula) (leaf : Tree) (m : Marks) → leaf_type f (top F) leaf m ≡ leaf_type f F leaf m
leaf_type-top f F (Elem name vec w) m = elem_type-top f F vec m
leaf_type-top f F (Void name t) m = void_type-top f F t
leaf_type-top f F (Join name op l r) m = void_type-top f F op.t3

pair_leaf : (f : Field) (o : Connective) (F G : Formula) (leaf : Tree) (m : Marks) → value.Pair (leaf_type f F leaf m) (leaf_type f G leaf m) ≡ leaf_type f (Bin o F G) leaf m
pair_leaf f o F G (Elem name vec w) m = refl
pair_leaf f o F G (Void name t) m = refl
pair_leaf f o F G (Join name op l r) m = refl

-- the values of the part that a quantifier asks for at a leaf
abbrev taken_types : Field → Formula → ℕ → Tree → Marks → List Value
taken_types f F s leaf m = if has_element leaf then leaf_type f F leaf (mark s true m) ∷ [] else []

module _ (f : Field) (s : ℕ) (F : Formula) (m : Marks) where
  set_leaf : (leaf : Tree) → collected (leaf_type f F leaf (mark s false m) ∷ taken_types f F s leaf m) ≡ leaf_type f (ExSet s F) leaf m
  set_leaf (Elem name vec w) = refl
  set_leaf (Void name t) = refl
  set_leaf (Join name op l r) = refl

  all_set_leaf : (leaf : Tree) → collected (leaf_type f F leaf (mark s false m) ∷ taken_types f F s leaf m) ≡ leaf_type f (AllSet s F) leaf m
  all_set_leaf (Elem name vec w) = refl
  all_set_leaf (Void name t) = refl
  all_set_leaf (Join name op l r) = refl

  one_leaf : (leaf : Tree) → value.Pair (leaf_type f F leaf (mark s false m)) (collected (taken_types f F s leaf m)) ≡ leaf_type f (ExElem s F) leaf m
  one_leaf (Elem name vec w) = refl
  one_leaf (Void name t) = refl
  one_leaf (Join name op l r) = refl

  all_one_leaf : (leaf : Tree) → value.Pair (leaf_type f F leaf (mark s false m)) (collected (taken_types f F s leaf m)) ≡ leaf_type f (AllElem s F) leaf m
  all_one_leaf (Elem name vec w) = refl
  all_one_leaf (Void name t) = refl
  all_one_leaf (Join name op l r) = refl

module _ (f : Field) (ps : List Formula) (ls : List Tree) (g : ℕ → Value) where
  -- the claim is true of each leaf and place with its numbers
  abbrev pub IsTrueAtLeaf : LeafKey → ℕ → Type 0
  IsTrueAtLeaf key v =
      (F : Formula) (leaf : Tree) → slice_get ps key.place ≡ Some F → slice_get ls key.leaf ≡ Some leaf
      → g v ≡ leaf_type f F leaf (marks_of key.marks)

  module _ (claims : LeafClaims) (true_claims : Each IsTrueAtLeaf claims) (k : ℕ) (leaf : Tree) (at : slice_get ls k ≡ Some leaf) where
    pub asked : (p : ℕ) (F : Formula) → Begin ps p F → (m n : ℕ) → at_leaf claims p k m ≡ Some n → g n ≡ leaf_type f F leaf (marks_of m)
    asked p F b m n e =
        claimed-each is_same_leaf same_leaf_is IsTrueAtLeaf claims true_claims (record { place = p; leaf = k; marks = m }) n e (top F) leaf
        (begin-top ps p F b) at
        ∙ leaf_type-top f F leaf (marks_of m)

    module _ (p : ℕ) (F : Formula) (b : Begin ps (first_part p) F) (m s : ℕ) where
      away : (n : ℕ) → at_leaf claims (first_part p) k (without_slot s m) ≡ Some n → g n ≡ leaf_type f F leaf (mark s false (marks_of m))
      away n e = asked (first_part p) F b (without_slot s m) n e ∙ ap (leaf_type f F leaf) (marks_without s m)

      there : (n : ℕ) → at_leaf claims (first_part p) k (with_slot s m) ≡ Some n → g n ≡ leaf_type f F leaf (mark s true (marks_of m))
      there n e = asked (first_part p) F b (with_slot s m) n e ∙ ap (leaf_type f F leaf) (marks_with s m)

      taken : Are g (at_element claims p k m (has_element leaf) s) (taken_types f F s leaf (marks_of m))
      taken = by (has_element leaf)
        where
          by : (e : Bool) → Are g (if e then at_leaf claims (first_part p) k (with_slot s m) ∷ [] else []) (if e then leaf_type f F leaf (mark s true (marks_of m)) ∷ [] else [])
          by true = (there, tt)
          by false = tt

    pub leaf_rule : (p m : ℕ) (F : Formula) → Begin ps p F → (c : Content) → leaf_content f claims p k m leaf F ≡ Some c
        → value_of g c ≡ leaf_type f F leaf (marks_of m)
    leaf_rule p m (Const b) at c e = atom_case g f _ (const_leaf f b leaf (marks_of m)) c e
    leaf_rule p m (Ind t) at c e = atom_case g f _ (ind_leaf f t leaf (marks_of m)) c e
    leaf_rule p m (Member x a) at c e = atom_case g f _ (member_leaf f x a leaf (marks_of m)) c e
    leaf_rule p m (SameElem x y) at c e = atom_case g f _ (same_leaf f x y leaf (marks_of m)) c e
    leaf_rule p m (Sub a b) at c e = atom_case g f _ (sub_leaf f a b leaf (marks_of m)) c e
    leaf_rule p m (SameSet a b) at c e = atom_case g f _ (same_set_leaf f a b leaf (marks_of m)) c e
    leaf_rule p m (Not F) at c e = let no : None ≡ Some c = e in cc
    leaf_rule p m (Bin o F G) at c e =
        parts_case g _ _ (leaf_type f F leaf (marks_of m)) (leaf_type f G leaf (marks_of m))
        (asked (first_part p) F (first_of_pair ps p o F G at) m)
        (asked (second_part p F) G (second_of_pair ps p o F G at) m) c e
        ∙ pair_leaf f o F G leaf (marks_of m)
    leaf_rule p m (ExSet s F) at c e =
        let b = below ps p (ExSet s F) F at in
        set_case g (at_leaf claims (first_part p) k (without_slot s m) ∷ at_element claims p k m (has_element leaf) s)
        (leaf_type f F leaf (mark s false (marks_of m)) ∷ taken_types f F s leaf (marks_of m)) (away p F b m s, taken p F b m s) c e
        ∙ set_leaf f s F (marks_of m) leaf
    leaf_rule p m (AllSet s F) at c e =
        let b = below ps p (AllSet s F) F at in
        set_case g (at_leaf claims (first_part p) k (without_slot s m) ∷ at_element claims p k m (has_element leaf) s)
        (leaf_type f F leaf (mark s false (marks_of m)) ∷ taken_types f F s leaf (marks_of m)) (away p F b m s, taken p F b m s) c e
        ∙ all_set_leaf f s F (marks_of m) leaf
    leaf_rule p m (ExElem s F) at c e =
        let b = below ps p (ExElem s F) F at in
        one_case g _ _ _ _ (away p F b m s) (taken p F b m s) c e ∙ one_leaf f s F (marks_of m) leaf
    leaf_rule p m (AllElem s F) at c e =
        let b = below ps p (AllElem s F) F at in
        one_case g _ _ _ _ (away p F b m s) (taken p F b m s) c e ∙ all_one_leaf f s F (marks_of m) leaf

-- ---- the join rule

-- the joins of the members of two sets of an element quantifier do not depend on the order of members
elem_join-collected : (j : Value → Value → Value) (v w : Value) (vs ws : List Value)
    → elem_join j (value.Pair v (collected vs)) (value.Pair w (collected ws)) ≡ value.Pair (j v w) (collected (map (λ x. j x w) vs ++ map (j v) ws))
elem_join-collected j v w vs ws = ap (value.Pair (j v w)) (collected-same _ _ (λ p.
    list_any-append p (map (λ x. j x w) (members (collected vs))) (map (j v) (members (collected ws)))
    ∙ (λ i.
    (list_any-map p (λ x. j x w) (members (collected vs)) ∙ list_any-collected (λ x. p (j x w)) vs ∙ sym (list_any-map p (λ x. j x w) vs)) i
    || (list_any-map p (j v) (members (collected ws)) ∙ list_any-collected (λ y. p (j v y)) ws ∙ sym (list_any-map p (j v) ws)) i)
    ∙ sym (list_any-append p (map (λ x. j x w) vs) (map (j v) ws))))

module _ (f : Field) (ps : List Formula) (ops : List ℕ → Option Op) (g : ℕ → Value) where
  -- the claim is true of the place and of the operator with its number and its name
  abbrev pub IsTrueAtJoin : GlueKey → ℕ → Type 0
  IsTrueAtJoin key v =
      (F : Formula) (op : Op) → slice_get ps key.place ≡ Some F → ops key.op ≡ Some op → g v ≡ join_type f F op (g key.left) (g key.right)

  module _ (claims : GlueClaims) (true_claims : Each IsTrueAtJoin claims) (name : List ℕ) (op : Op) (at : ops name ≡ Some op) where
    pub glued_is : (p : ℕ) (F : Formula) → Begin ps p F → (a b n : ℕ) → at_glue claims p name a b ≡ Some n → g n ≡ join_type f F op (g a) (g b)
    glued_is p F here a b n e =
        claimed-each is_same_glue same_glue_is IsTrueAtJoin claims true_claims (record { place = p; op = name; left = a; right = b }) n e (top F) op
        (begin-top ps p F here) at
        ∙ join_type-top f F op (g a) (g b)

    module _ (p : ℕ) (F : Formula) (here : Begin ps (first_part p) F) where
      row : (a : ℕ) (ms : List ℕ) → Are g (map (glued claims p name a) ms) (map (join_type f F op (g a)) (map g ms))
      row a [] = tt
      row a (m ∷ ms) = (glued_is (first_part p) F here a m, row a ms)

      column : (b : ℕ) (ns : List ℕ) → Are g (map (λ n. glued claims p name n b) ns) (map (λ x. join_type f F op x (g b)) (map g ns))
      column b [] = tt
      column b (n ∷ ns) = (glued_is (first_part p) F here n b, column b ns)

      pairs : (ns ms : List ℕ) → Are g (glued_pairs claims p name ns ms) (all_pairs (join_type f F op) (map g ns) (map g ms))
      pairs [] ms = tt
      pairs (n ∷ ns) ms = are-append g _ _ _ _ (row n ms) (pairs ns ms)

      sets : (x y c : Content) → all_members claims p name x y ≡ Some c → value_of g c ≡ set_join (join_type f F op) (value_of g x) (value_of g y)
      sets (content.SetOf ns) (content.SetOf ms) c e =
          set_case g _ _ (pairs ns ms) c e ∙ sym (set_join-collected (join_type f F op) (map g ns) (map g ms))
      sets (content.SetOf ns) (content.Flag n) c e = let no : None ≡ Some c = e in cc
      sets (content.SetOf ns) content.Dead c e = let no : None ≡ Some c = e in cc
      sets (content.SetOf ns) (content.Space k) c e = let no : None ≡ Some c = e in cc
      sets (content.SetOf ns) (content.Parts a b) c e = let no : None ≡ Some c = e in cc
      sets (content.SetOf ns) (content.OneOf a b) c e = let no : None ≡ Some c = e in cc
      sets (content.Flag n) y c e = let no : None ≡ Some c = e in cc
      sets content.Dead y c e = let no : None ≡ Some c = e in cc
      sets (content.Space k) y c e = let no : None ≡ Some c = e in cc
      sets (content.Parts a b) y c e = let no : None ≡ Some c = e in cc
      sets (content.OneOf a b) y c e = let no : None ≡ Some c = e in cc

      ones : (x y c : Content) → on_either_side claims p name x y ≡ Some c → value_of g c ≡ elem_join (join_type f F op) (value_of g x) (value_of g y)
      ones (content.OneOf a ns) (content.OneOf b ms) c e =
          one_case g _ _ _ _ (glued_is (first_part p) F here a b) (are-append g _ _ _ _ (column b ns) (row a ms)) c e
          ∙ sym (elem_join-collected (join_type f F op) (g a) (g b) (map g ns) (map g ms))
      ones (content.OneOf a ns) (content.Flag n) c e = let no : None ≡ Some c = e in cc
      ones (content.OneOf a ns) content.Dead c e = let no : None ≡ Some c = e in cc
      ones (content.OneOf a ns) (content.Space k) c e = let no : None ≡ Some c = e in cc
      ones (content.OneOf a ns) (content.Parts i k) c e = let no : None ≡ Some c = e in cc
      ones (content.OneOf a ns) (content.SetOf ms) c e = let no : None ≡ Some c = e in cc
      ones (content.Flag n) y c e = let no : None ≡ Some c = e in cc
      ones content.Dead y c e = let no : None ≡ Some c = e in cc
      ones (content.Space k) y c e = let no : None ≡ Some c = e in cc
      ones (content.Parts a b) y c e = let no : None ≡ Some c = e in cc
      ones (content.SetOf ns) y c e = let no : None ≡ Some c = e in cc

    pairs_of_parts : (p : ℕ) (o : Connective) (F G : Formula) → Begin ps p (Bin o F G) → (x y c : Content)
        → both_parts claims p name (second_part p F) x y ≡ Some c → value_of g c ≡ join_type f (Bin o F G) op (value_of g x) (value_of g y)
    pairs_of_parts p o F G at (content.Parts a b) (content.Parts i k) c e =
        parts_case g _ _ _ _ (glued_is (first_part p) F (first_of_pair ps p o F G at) a i) (glued_is (second_part p F) G (second_of_pair ps p o F G at) b k) c e
    pairs_of_parts p o F G at (content.Parts a b) (content.Flag n) c e = let no : None ≡ Some c = e in cc
    pairs_of_parts p o F G at (content.Parts a b) content.Dead c e = let no : None ≡ Some c = e in cc
    pairs_of_parts p o F G at (content.Parts a b) (content.Space k) c e = let no : None ≡ Some c = e in cc
    pairs_of_parts p o F G at (content.Parts a b) (content.SetOf ns) c e = let no : None ≡ Some c = e in cc
    pairs_of_parts p o F G at (content.Parts a b) (content.OneOf i ns) c e = let no : None ≡ Some c = e in cc
    pairs_of_parts p o F G at (content.Flag n) y c e = let no : None ≡ Some c = e in cc
    pairs_of_parts p o F G at content.Dead y c e = let no : None ≡ Some c = e in cc
    pairs_of_parts p o F G at (content.Space k) y c e = let no : None ≡ Some c = e in cc
    pairs_of_parts p o F G at (content.SetOf ns) y c e = let no : None ≡ Some c = e in cc
    pairs_of_parts p o F G at (content.OneOf i ns) y c e = let no : None ≡ Some c = e in cc

    -- an atom, whose joins are of atoms
    atoms : (p : ℕ) (F : Formula) → ((v w : Value) → IsAtomic v → IsAtomic w → IsAtomic (join_type f F op v w)) → (x y c : Content)
        → of_atoms f claims p name op F x y ≡ Some c → value_of g c ≡ join_type f F op (value_of g x) (value_of g y)
    atoms p F atomic x y c e = by (is_atom x && is_atom y) refl e
      where
        by : (b : Bool) → (is_atom x && is_atom y) ≡ b
            → (if b then Some (atom_content f (join_type f F op (atom_value x) (atom_value y))) else None) ≡ Some c
            → value_of g c ≡ join_type f F op (value_of g x) (value_of g y)
        by false q e = let no : None ≡ Some c = e in cc
        by true q e =
            let both = and_parts (is_atom x) (is_atom y) q in
            let first = atoms_alike g x both.0 in
            let second = atoms_alike g y both.1 in
            atom_case g f _ (atomic (atom_value x) (atom_value y) first.1 second.1) c e ∙ ap₂ (join_type f F op) first.0 second.0

    pub glue_rule : (p : ℕ) (F : Formula) → Begin ps p F → (x y c : Content) → glue_content f claims p name op F x y ≡ Some c
        → value_of g c ≡ join_type f F op (value_of g x) (value_of g y)
    glue_rule p (Const b) at x y c e = atoms p (Const b) (λ v w h k. tt) x y c e
    glue_rule p (Ind t) at x y c e = atoms p (Ind t) (λ v w h k. ind_join_atomic f op v w) x y c e
    glue_rule p (Member a b) at x y c e = atoms p (Member a b) member_join_atomic x y c e
    glue_rule p (SameElem a b) at x y c e = atoms p (SameElem a b) same_join_atomic x y c e
    glue_rule p (Sub a b) at x y c e = atoms p (Sub a b) holding_join_atomic x y c e
    glue_rule p (SameSet a b) at x y c e = atoms p (SameSet a b) holding_join_atomic x y c e
    glue_rule p (Not F) at x y c e = let no : None ≡ Some c = e in cc
    glue_rule p (Bin o F G) at x y c e = pairs_of_parts p o F G at x y c e
    glue_rule p (ExSet s F) at x y c e = sets p F (below ps p (ExSet s F) F at) x y c e
    glue_rule p (AllSet s F) at x y c e = sets p F (below ps p (AllSet s F) F at) x y c e
    glue_rule p (ExElem s F) at x y c e = ones p F (below ps p (ExElem s F) F at) x y c e
    glue_rule p (AllElem s F) at x y c e = ones p F (below ps p (AllElem s F) F at) x y c e
