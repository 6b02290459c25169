-- What each step adds to a tree while it is built.
use Rattle.std.proofs.Common.{ℕ, ℤ, ◌+◌, ◌<◌, ◌≤◌, ◌≡◌, Bool, true, false, List, [], ◌∷◌, ◌++◌, length, take, drop, get_or, reverse, refl, sym, ap, ap₂, ◌∙◌, subst, arith, append_assoc, length-append, ◌-◌, ◌||◌, Option, Some, None}
use Rattle.std.specs.List.{All}
use Rattle.std.specs.Prelude.{if◌then◌else◌, ◌==◌}
use Rattle.std.proofs.Math.Seq.{drop-cons, take-add, drop-drop}
use Rattle.std.specs.Str.{bytes_eq}
use Rattle.std.proofs.lemmas.Bool.{both_ways}
use Rattle.std.proofs.lemmas.Option.{none-some}
use Rattle.std.proofs.lemmas.List.{reverse-append, reverse-reverse, length-reverse, get_or_append_left, get_or_push, take_at}
use Rattle.mm_base.proofs.NameLemmas.{bytes_same}
use Rattle.mm_linear.proofs.ReducedEchelonLemmas.{reverse-cons}
use Rattle.std.proofs.lemmas.List.Elements.{All-nil, All-cons, All-append, All-head, All-tail}
use Rattle.mm_field.specs.declared.Field.{Field}
use Rattle.mm_field.specs.Digits.{order}
use Rattle.mm_field.specs.Vectors.{AreDigits}
use Rattle.mm_linear.specs.ReducedEchelon.{reduced_basis}
use Rattle.mm_logic.specs.Operator.{Op}
use Rattle.mm_ops.specs.OpValue.{OpValue}
use Rattle.mm_ops.specs.Tables.{OperatorList, op_named, has_name}
use Rattle.mm_tree.specs.Building.{BuilderValue, joined}
use Rattle.mm_tree.specs.NamedTree as named
use Rattle.mm_tree.specs.NamedTree.{Tree}
use Rattle.mm_decomp.specs.BuiltTree.{first_digit, built_operator, join_name}
use Rattle.mm_decomp.specs.Forms.{IsFormOf, IsLeafForm, IsJoinForm, products}
use Rattle.mm_decomp.specs.Shapes.{Shape, joins}
use Rattle.mm_decomp.specs.Shapes.Shape.{Leaf, Join}
use Rattle.mm_decomp.specs.Stack.{LeafColumns, leaves, part, found_space, made_tree, found_boundaries, leaves_in, joins_in, made_trees, boundaries_in, IsFormAt, AreFormsOf}
use Rattle.mm_decomp.specs.Steps.{IsBuilding, Fit, LastFit, IsJoined, IsWide, PutsJoin}
use Rattle.mm_decomp.specs.declared.build.Building.{Building}
use Rattle.mm_decomp.specs.declared.build.Joined.{Joined}
use Rattle.mm_decomp.specs.declared.form.Form.{Form}
use Rattle.mm_decomp.proofs.RankLemmas.{basis_is_few}

pub first_digit_digits : (f : Field) (ds : List ℕ) → AreDigits f ds → AreDigits f (first_digit ds)
first_digit_digits f [] h = h
first_digit_digits f (d ∷ ds) h = go (d == 0) (first_digit_digits f ds (All-tail (λ d. d < order f) d ds h))
  where
    go : (b : Bool) → AreDigits f (first_digit ds) → AreDigits f (if b then first_digit ds else d ∷ [])
    go true ih = ih
    go false ih = All-cons (λ d. d < order f) d [] (All-head (λ d. d < order f) d ds h) (All-nil (λ d. d < order f))

pub first_digit_short : (ds : List ℕ) → length (first_digit ds) ≤ 6
first_digit_short [] = omega arith
first_digit_short (d ∷ ds) = go (d == 0) (first_digit_short ds)
  where
    go : (b : Bool) → length (first_digit ds) ≤ 6 → length (if b then first_digit ds else d ∷ []) ≤ 6
    go true ih = ih
    go false ih = omega arith

-- ---- parts

pub part_of_leaf : (p : ℕ) (name : List ℕ) (weight : ℤ) (vectors : List (List ℕ)) → p < length vectors →
    part p (Leaf name weight) vectors ≡ get_or vectors p [] ∷ []
unfolding leaves
part_of_leaf p name weight vectors l = ap (take 1) (drop-cons vectors p [] l)

-- ---- a leaf

leaf_at : (c : LeafColumns) (p : ℕ) (name : List ℕ) (weight : ℤ) (form : Form) (h m : List ℕ) → p < length c.hs → p < length c.ms →
    h ≡ get_or c.hs p [] → m ≡ get_or c.ms p [] → IsLeafForm c.f c.k c.g h m form → IsFormAt c p (Leaf name weight) form
leaf_at c p name weight form h m lh lm eh em r =
    let hs : part p (Leaf name weight) c.hs ≡ h ∷ [] = part_of_leaf p name weight c.hs lh ∙ ap (λ v. v ∷ []) (sym eh) in
    let ms : part p (Leaf name weight) c.ms ≡ m ∷ [] = part_of_leaf p name weight c.ms lm ∙ ap (λ v. v ∷ []) (sym em) in
    let few = basis_is_few c.f c.g (m ∷ []) r.form_of.each_column in
    record {
      sizes = r.sizes;
      form_of =
          subst (λ vs. IsFormOf c.f c.k c.g vs (part p (Leaf name weight) c.ms) form) (sym hs)
          (subst (λ vs. IsFormOf c.f c.k c.g (h ∷ []) vs form) (sym ms) r.form_of);
      basis = r.basis ∙ ap (λ v. reduced_basis c.f c.g (v ∷ [])) em;
      reduced = r.reduced;
      few = omega (arith, few, ap length r.basis);
    }

pub leaf_added : (c : LeafColumns) (shapes : List Shape) (old new : Building) (form : Form) (h m name : List ℕ) (weight : ℤ) →
    IsBuilding c shapes old → leaves_in shapes < length c.hs → leaves_in shapes < length c.ms →
    h ≡ get_or c.hs (leaves_in shapes) [] → m ≡ get_or c.ms (leaves_in shapes) [] → length h ≡ c.k → length m ≡ c.g →
    IsLeafForm old.field (length h) (length m) h m form → new.field ≡ old.field →
    new.builder ≡ record old.builder { trees = named.Tree.Elem name (first_digit m) weight ∷ old.builder.trees } →
    new.forms.items ≡ old.forms.items ++ form ∷ [] → new.leaves ≡ old.leaves + 1 → new.joins ≡ old.joins →
    IsBuilding c (Leaf name weight ∷ shapes) new
unfolding leaves joins made_tree found_boundaries
leaf_added c shapes old new form h m name weight b lh lm eh em ek eg r ef eb efs el ej =
    let p = leaves_in shapes in
    let lf : IsLeafForm c.f c.k c.g h m form =
    subst (λ (x : Field). IsLeafForm x c.k c.g h m form) b.field
    (subst (λ (k : ℕ). IsLeafForm old.field k c.g h m form) ek (subst (λ (g : ℕ). IsLeafForm old.field (length h) g h m form) eg r)) in
    let at = leaf_at c p name weight form h m lh lm eh em lf in
    let few = at.few in
    record {
      field = ef ∙ b.field;
      builder_field = ap (λ (x : BuilderValue). x.f) eb ∙ b.builder_field;
      trees =
          ap (λ (x : BuilderValue). x.trees) eb
          ∙ ap₂ (λ (d : List ℕ) (ts : List Tree). named.Tree.Elem name (first_digit d) weight ∷ ts) em b.trees;
      forms = subst (λ fs. AreFormsOf c (Leaf name weight ∷ shapes) fs) (sym (ap reverse efs ∙ reverse-append old.forms.items (form ∷ []))) (at, b.forms);
      leaves = el ∙ ap (λ n. n + 1) b.leaves;
      joins = ej ∙ b.joins ∙ omega arith;
      narrow = All-append (λ t. t ≤ 6) (boundaries_in c shapes) _ b.narrow
          (All-cons (λ t. t ≤ 6) (length (found_space c p (Leaf name weight))) [] (omega (arith, few, ap length at.basis)) (All-nil (λ t. t ≤ 6)));
    }

-- ---- the last two forms

pub record EndsWith (forms : List Form) : Type 0 where
  pub rest : List Form
  pub left : Form
  pub right : Form
  pub turned : reverse forms ≡ right ∷ left ∷ rest
  pub items : forms ≡ (reverse rest ++ left ∷ []) ++ right ∷ []
  pub fit : Fit left right

pub ends_with : (forms : List Form) → LastFit (reverse forms) → EndsWith forms
ends_with forms h = go (reverse forms) refl h
  where
    go : (turned : List Form) → reverse forms ≡ turned → LastFit turned → EndsWith forms
    go [] e h = absurd h
    go (right ∷ []) e h = absurd h
    go (right ∷ left ∷ rest) e h = record {
      rest = rest;
      left = left;
      right = right;
      turned = e;
      items = sym (reverse-reverse forms) ∙ ap reverse e ∙ reverse-cons right (left ∷ rest) ∙ ap (λ xs. xs ++ right ∷ []) (reverse-cons left rest);
      fit = h;
    }

pub last_two : (forms : List Form) (w : EndsWith forms) → length forms ≡ length w.rest + 2
last_two forms w =
    ap length w.items ∙ length-append (reverse w.rest ++ w.left ∷ []) (w.right ∷ [])
    ∙ ap (λ n. n + 1) (length-append (reverse w.rest) (w.left ∷ []) ∙ ap (λ n. n + 1) (length-reverse w.rest)) ∙ omega arith

pub left_form : (forms : List Form) (w : EndsWith forms) (d : Form) → get_or forms (length forms - 2) d ≡ w.left
left_form forms w d =
    let l = last_two forms w in
    let k : length forms - 2 ≡ length (reverse w.rest) = (let r = length-reverse w.rest in omega arith) in
    ap₂ (λ xs n. get_or xs n d) w.items k
    ∙ get_or_append_left (reverse w.rest ++ w.left ∷ []) (w.right ∷ []) d (length (reverse w.rest)) (let a = length-append (reverse w.rest) (w.left ∷ []) in omega arith)
    ∙ get_or_push (reverse w.rest) w.left d (length (reverse w.rest)) (let q : length (reverse w.rest) ≡ length (reverse w.rest) = refl in omega arith)

pub right_form : (forms : List Form) (w : EndsWith forms) (d : Form) → get_or forms (length forms - 1) d ≡ w.right
right_form forms w d =
    let l = last_two forms w in
    let front = reverse w.rest ++ w.left ∷ [] in
    let a = length-append (reverse w.rest) (w.left ∷ []) in
    let r = length-reverse w.rest in
    ap₂ (λ xs n. get_or xs n d) w.items (let k : length forms - 1 ≡ length front = omega arith in k)
    ∙ get_or_push front w.right d (length front) (let q : length front ≡ length front = refl in omega arith)

pub rest_forms : (forms : List Form) (w : EndsWith forms) (form : Form) → reverse (take (length forms - 2) forms ++ form ∷ []) ≡ form ∷ w.rest
rest_forms forms w form =
    let l = last_two forms w in
    let k : length forms - 2 ≡ length (reverse w.rest) = (let r = length-reverse w.rest in omega arith) in
    reverse-append (take (length forms - 2) forms) (form ∷ [])
    ∙ ap (λ xs. form ∷ reverse xs)
    (ap₂ take k (w.items ∙ append_assoc (reverse w.rest) (w.left ∷ []) (w.right ∷ [])) ∙ take_at (reverse w.rest) (w.left ∷ w.right ∷ []) (length (reverse w.rest)) refl)
    ∙ ap (λ xs. form ∷ xs) (reverse-reverse w.rest)

-- ---- a join

pub part_of_join : (p : ℕ) (left right : Shape) (vectors : List (List ℕ)) →
    part p (Join left right) vectors ≡ part p left vectors ++ part (p + leaves left) right vectors
unfolding leaves
part_of_join p left right vectors =
    take-add (leaves left) (leaves right) (drop p vectors)
    ∙ ap (λ vs. part p left vectors ++ take (leaves right) vs) (drop-drop (leaves left) p vectors)

-- the forms of the last two shapes
pub record AreLast (c : LeafColumns) (shapes : List Shape) (left right : Shape) (l r : Form) (rest : List Form) : Type 0 where
  pub left_at : IsFormAt c (leaves_in shapes) left l
  pub right_at : IsFormAt c (leaves_in shapes + leaves left) right r
  pub others : AreFormsOf c shapes rest

pub are_last : (c : LeafColumns) (shapes : List Shape) (left right : Shape) (old : Building) (w : EndsWith old.forms.items) →
    IsBuilding c (right ∷ left ∷ shapes) old → AreLast c shapes left right w.left w.right w.rest
are_last c shapes left right old w b =
    let all : AreFormsOf c (right ∷ left ∷ shapes) (w.right ∷ w.left ∷ w.rest) =
    subst (λ fs. AreFormsOf c (right ∷ left ∷ shapes) fs) w.turned b.forms in
    record { left_at = all.1.0; right_at = all.0; others = all.1.1 }

-- the form of their join, over the columns of all leaves
pub form_in : (c : LeafColumns) (p : ℕ) (left : Shape) (l r form : Form) → IsFormAt c p left l →
    IsJoinForm l.basis.f l.functionals.cols l.basis.cols l r form → IsJoinForm c.f c.k c.g l r form
form_in c p left l r form at j =
    subst (λ (f : Field). IsJoinForm f c.k c.g l r form) at.sizes.basis_field
    (subst (λ (k : ℕ). IsJoinForm l.basis.f k c.g l r form) at.sizes.size
    (subst (λ (g : ℕ). IsJoinForm l.basis.f l.functionals.cols g l r form) at.sizes.basis_size j))

pub space_in : (c : LeafColumns) (p : ℕ) (left right : Shape) (l r form : Form) → IsFormAt c p left l → IsFormAt c (p + leaves left) right r →
    IsJoinForm c.f c.k c.g l r form → form.basis.rows ≡ found_space c p (Join left right)
space_in c p left right l r form al ar j =
    j.space (part p left c.hs) (part p left c.ms) (part (p + leaves left) right c.hs) (part (p + leaves left) right c.ms) al.form_of ar.form_of
    ∙ ap₂ (λ hs ms. reduced_basis c.f c.g (products c.f c.k c.g hs ms)) (sym (part_of_join p left right c.hs)) (sym (part_of_join p left right c.ms))

join_at : (c : LeafColumns) (p : ℕ) (left right : Shape) (l r form : Form) → IsFormAt c p left l → IsFormAt c (p + leaves left) right r →
    IsJoinForm c.f c.k c.g l r form → length form.basis.rows ≤ 6 → IsFormAt c p (Join left right) form
join_at c p left right l r form al ar j few = record {
  sizes = j.sizes;
  form_of =
      subst (λ hs. IsFormOf c.f c.k c.g hs (part p (Join left right) c.ms) form) (sym (part_of_join p left right c.hs))
      (subst (λ ms. IsFormOf c.f c.k c.g (part p left c.hs ++ part (p + leaves left) right c.hs) ms form) (sym (part_of_join p left right c.ms))
      (j.keeps (part p left c.hs) (part p left c.ms) (part (p + leaves left) right c.hs) (part (p + leaves left) right c.ms) al.form_of ar.form_of));
  basis = space_in c p left right l r form al ar j;
  reduced = j.reduced;
  few = few;
}

pub join_made : (c : LeafColumns) (left right : Shape) (shapes : List Shape) (old new : Building) (made : Joined) (w : EndsWith old.forms.items) →
    IsBuilding c (right ∷ left ∷ shapes) old → IsJoined w.left w.right made → PutsJoin old new made → IsBuilding c (Join left right ∷ shapes) new
unfolding leaves joins made_tree found_boundaries
join_made c left right shapes old new made w b j puts =
    let p = leaves_in shapes in
    let l = w.left in
    let r = w.right in
    let last = are_last c shapes left right old w b in
    let jf = form_in c p left l r made.form last.left_at j.is_form in
    let at = join_at c p left right l r made.form last.left_at last.right_at jf j.narrow in
    let few = at.few in
    let op : made.op.op ≡ built_operator c.f c.g (found_space c p (Join left right)) (found_space c p left) (found_space c (p + leaves left) right) =
    ap (λ (o : OpValue). o.op) j.operator
    ∙ ap₂ (λ (f : Field) (g : ℕ). built_operator f g made.form.basis.rows l.basis.rows r.basis.rows) last.left_at.sizes.basis_field last.left_at.sizes.basis_size
    ∙ ap₂ (λ (x y : List (List ℕ)). built_operator c.f c.g x y r.basis.rows) at.basis last.left_at.basis
    ∙ ap (built_operator c.f c.g (found_space c p (Join left right)) (found_space c p left)) last.right_at.basis in
    let number : old.joins + 1 ≡ joins_in shapes + joins left + joins right + 1 = ap (λ n. n + 1) b.joins in
    let assoc : boundaries_in c (Join left right ∷ shapes) ≡ boundaries_in c (right ∷ left ∷ shapes) ++ length (found_space c p (Join left right)) ∷ [] =
    sym (append_assoc (boundaries_in c shapes) (found_boundaries c p left) (found_boundaries c (p + leaves left) right ++ length (found_space c p (Join left right)) ∷ []))
    ∙ sym (append_assoc (boundaries_in c shapes ++ found_boundaries c p left) (found_boundaries c (p + leaves left) right) (length (found_space c p (Join left right)) ∷ [])) in
    record {
      field = puts.field ∙ b.field;
      builder_field = ap (λ (x : BuilderValue). x.f) puts.builder ∙ b.builder_field;
      trees =
          ap (λ (x : BuilderValue). x.trees) puts.builder
          ∙ ap (λ (ts : List Tree). joined (join_name (old.joins + 1)) made.op ts) b.trees
          ∙ ap₂ (λ (n : ℕ) (o : Op). named.Tree.Join (join_name n) o (made_tree c (joins_in shapes) p left)
          (made_tree c (joins_in shapes + joins left) (p + leaves left) right) ∷ made_trees c shapes) number op;
      forms = subst (λ fs. AreFormsOf c (Join left right ∷ shapes) fs) (sym (ap reverse puts.forms ∙ rest_forms old.forms.items w made.form)) (at, last.others);
      leaves = puts.leaves ∙ b.leaves ∙ omega arith;
      joins = puts.joins ∙ ap (λ n. n + 1) b.joins ∙ omega arith;
      narrow =
          subst (λ ts. All (λ t. t ≤ 6) ts) (sym assoc)
          (All-append (λ t. t ≤ 6) (boundaries_in c (right ∷ left ∷ shapes)) (length (found_space c p (Join left right)) ∷ []) b.narrow
          (All-cons (λ t. t ≤ 6) (length (found_space c p (Join left right))) [] (omega (arith, few, ap length at.basis)) (All-nil (λ t. t ≤ 6))));
    }

pub wide_space : (c : LeafColumns) (left right : Shape) (shapes : List Shape) (old : Building) (w : EndsWith old.forms.items) →
    IsBuilding c (right ∷ left ∷ shapes) old → IsWide w.left w.right → 6 < length (found_space c (leaves_in shapes) (Join left right))
wide_space c left right shapes old w b wide =
    let p = leaves_in shapes in
    let last = are_last c shapes left right old w b in
    let jf = form_in c p left w.left w.right wide.form last.left_at wide.is_form in
    let e = ap length (space_in c p left right w.left w.right wide.form last.left_at last.right_at jf) in
    let h = wide.wide in
    omega (arith, e, h)
