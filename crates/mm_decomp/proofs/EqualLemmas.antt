-- What is found is what is meant: spaces, boundaries and the tree.
use Rattle.std.proofs.Common.{ℕ, ℤ, ◌+◌, ◌≤◌, ◌≡◌, List, [], ◌∷◌, ◌++◌, length, map, take, drop, get_or, refl, sym, ap, ap₂, ◌∙◌, subst, arith, length-append, length-take-le, length-drop}
use Rattle.std.proofs.lemmas.List.{length-map, map-append, take_at, drop_at}
use Rattle.std.proofs.lemmas.List.Elements.{All-append, All-take, All-drop}
use Rattle.mm_field.specs.declared.Field.{Field}
use Rattle.mm_field.specs.Vectors.{IsVector, AreVectors}
use Rattle.mm_linear.specs.ReducedEchelon.{reduced_basis}
use Rattle.mm_logic.specs.Operator.{Op}
use Rattle.mm_tree.specs.NamedTree as named
use Rattle.mm_tree.specs.NamedTree.{Tree}
use Rattle.mm_decomp.specs.BuiltTree.{first_digit, built, built_operator, join_name}
use Rattle.mm_decomp.specs.Meets.{meet}
use Rattle.mm_decomp.specs.Shapes.{Shape, names, joins}
use Rattle.mm_decomp.specs.Shapes.Shape.{Leaf, Join}
use Rattle.mm_decomp.specs.Spaces.{Given, column_of, space, boundaries}
use Rattle.mm_decomp.specs.Stack.{LeafColumns, leaves, part, found_space, made_tree, found_boundaries}
use Rattle.mm_decomp.proofs.BuildLemmas.{part_of_join, part_of_leaf}
use Rattle.mm_decomp.proofs.CutLemmas.{IsCut, cut_left, cut_right}
use Rattle.mm_decomp.proofs.FormLemmas.{meet_of_cut}

-- the given columns are those of the leaves
pub record AreOfGiven (c : LeafColumns) (given : Given) : Type 0 where
  pub field : c.f ≡ given.f
  pub size : c.g ≡ length given.rows
  pub each : AreVectors c.f c.k c.hs
  pub each_column : AreVectors c.f c.g c.ms
  pub count : length c.hs ≡ length c.ms

-- a shape that begins at leaf p, and the names outside it
pub record IsPlaced (c : LeafColumns) (given : Given) (p : ℕ) (outside : List (List ℕ)) (s : Shape) : Type 0 where
  pub room : p + leaves s ≤ length c.ms
  pub columns : part p s c.ms ≡ map (column_of given) (names s)
  pub each_outside : AreVectors c.f c.g (map (column_of given) outside)
  pub others : List (List ℕ)
  pub cut : IsCut c.f c.k c.g (part p s c.hs) (part p s c.ms) others (map (column_of given) outside)

count_names : (s : Shape) → length (names s) ≡ leaves s
unfolding names leaves
count_names (Leaf name weight) = refl
count_names (Join left right) = length-append (names left) (names right) ∙ ap₂ (λ a b. a + b) (count_names left) (count_names right)

vectors_of_part : (f : Field) (n p : ℕ) (s : Shape) (vectors : List (List ℕ)) → AreVectors f n vectors → AreVectors f n (part p s vectors)
vectors_of_part f n p s vectors h = All-take (λ v. IsVector f n v) (leaves s) (drop p vectors) (All-drop (λ v. IsVector f n v) p vectors h)

length_of_part : (p : ℕ) (s : Shape) (vectors : List (List ℕ)) → p + leaves s ≤ length vectors → length (part p s vectors) ≡ leaves s
length_of_part p s vectors l = length-take-le (leaves s) (drop p vectors) (let d = length-drop p vectors in omega arith)

join_leaves : (left right : Shape) → leaves (Join left right) ≡ leaves left + leaves right
unfolding leaves
join_leaves left right = refl

join_names : (left right : Shape) → names (Join left right) ≡ names left ++ names right
unfolding names
join_names left right = refl

-- what is known of the children of a join
pub record ArePlaced (c : LeafColumns) (given : Given) (p : ℕ) (outside : List (List ℕ)) (left right : Shape) : Type 0 where
  pub left_placed : IsPlaced c given p (outside ++ names right) left
  pub right_placed : IsPlaced c given (p + leaves left) (outside ++ names left) right

pub are_placed : (c : LeafColumns) (given : Given) (p : ℕ) (outside : List (List ℕ)) (left right : Shape) → AreOfGiven c given →
    IsPlaced c given p outside (Join left right) → ArePlaced c given p outside left right
are_placed c given p outside left right a h =
    let q = p + leaves left in
    let col = column_of given in
    let lj = join_leaves left right in
    let room = h.room in
    let hl = part p left c.hs in
    let ml = part p left c.ms in
    let hr = part q right c.hs in
    let mr = part q right c.ms in
    let mo = map col outside in
    let rl : p + leaves left ≤ length c.ms = omega arith in
    let rr : q + leaves right ≤ length c.ms = omega arith in
    let nm = a.count in
    let el : length hl ≡ length ml = length_of_part p left c.hs (omega arith) ∙ sym (length_of_part p left c.ms rl) in
    let er : length hr ≡ length mr = length_of_part q right c.hs (omega arith) ∙ sym (length_of_part q right c.ms rr) in
    let both = append_columns ml mr (map col (names left)) (map col (names right))
    (length_of_part p left c.ms rl ∙ sym (length-map (names left) col ∙ count_names left))
    (sym (part_of_join p left right c.ms) ∙ h.columns ∙ ap (map col) (join_names left right) ∙ map-append col (names left) (names right)) in
    let vl = vectors_of_part c.f c.g p left c.ms a.each_column in
    let vr = vectors_of_part c.f c.g q right c.ms a.each_column in
    let cut : IsCut c.f c.k c.g (hl ++ hr) (ml ++ mr) h.others mo =
    subst (λ hs. IsCut c.f c.k c.g hs (ml ++ mr) h.others mo) (part_of_join p left right c.hs)
    (subst (λ ms. IsCut c.f c.k c.g (part p (Join left right) c.hs) ms h.others mo) (part_of_join p left right c.ms) h.cut) in
    let more : (ns : List (List ℕ)) (ms : List (List ℕ)) → ms ≡ map col ns → mo ++ ms ≡ map col (outside ++ ns) =
    λ ns ms e. ap (λ xs. mo ++ xs) e ∙ sym (map-append col outside ns) in
    record {
      left_placed = record {
        room = rl;
        columns = both.0;
        each_outside = subst (λ xs. AreVectors c.f c.g xs) (more (names right) mr both.1) (All-append (λ v. IsVector c.f c.g v) mo mr h.each_outside vr);
        others = h.others ++ hr;
        cut =
            subst (λ xs. IsCut c.f c.k c.g hl ml (h.others ++ hr) xs) (more (names right) mr both.1)
            (cut_left c.f c.k c.g hl ml hr mr h.others mo vl vr h.each_outside el er cut);
      };
      right_placed = record {
        room = rr;
        columns = both.1;
        each_outside = subst (λ xs. AreVectors c.f c.g xs) (more (names left) ml both.0) (All-append (λ v. IsVector c.f c.g v) mo ml h.each_outside vl);
        others = h.others ++ hl;
        cut =
            subst (λ xs. IsCut c.f c.k c.g hr mr (h.others ++ hl) xs) (more (names left) ml both.0)
            (cut_right c.f c.k c.g hl ml hr mr h.others mo vl vr h.each_outside el er cut);
      };
    }
  where
    append_columns : (xs ys us vs : List (List ℕ)) → length xs ≡ length us → xs ++ ys ≡ us ++ vs → (xs ≡ us) × (ys ≡ vs)
    append_columns xs ys us vs e h = (
      sym (take_at xs ys (length xs) refl) ∙ ap (take (length xs)) h ∙ take_at us vs (length xs) (sym e),
      sym (drop_at xs ys (length xs) refl) ∙ ap (drop (length xs)) h ∙ drop_at us vs (length xs) (sym e),
    )

leaf_column : (c : LeafColumns) (given : Given) (p : ℕ) (outside : List (List ℕ)) (name : List ℕ) (weight : ℤ) →
    IsPlaced c given p outside (Leaf name weight) → get_or c.ms p [] ≡ column_of given name
unfolding names leaves
leaf_column c given p outside name weight h =
    let room = h.room in
    ap (λ (vs : List (List ℕ)). get_or vs 0 []) (sym (part_of_leaf p name weight c.ms (omega arith)) ∙ h.columns)

pub equal_space : (c : LeafColumns) (given : Given) (p : ℕ) (outside : List (List ℕ)) (s : Shape) → AreOfGiven c given → IsPlaced c given p outside s →
    found_space c p s ≡ space given outside s
equal_space c given p outside (Leaf name weight) a h =
    ap (λ v. reduced_basis c.f c.g (v ∷ [])) (leaf_column c given p outside name weight h)
    ∙ ap₂ (λ (f : Field) (n : ℕ). reduced_basis f n (column_of given name ∷ [])) a.field a.size
equal_space c given p outside (Join left right) a h =
    let s = Join left right in
    sym (meet_of_cut c.f c.k c.g (part p s c.hs) (part p s c.ms) h.others (map (column_of given) outside)
    (vectors_of_part c.f c.k p s c.hs a.each) (vectors_of_part c.f c.g p s c.ms a.each_column) h.each_outside h.cut)
    ∙ ap (λ ms. meet c.f c.g ms (map (column_of given) outside)) (h.columns ∙ ap (map (column_of given)) (join_names left right))
    ∙ ap₂ (λ (f : Field) (n : ℕ). meet f n (map (column_of given) (names left ++ names right)) (map (column_of given) outside)) a.field a.size

pub equal_boundaries : (c : LeafColumns) (given : Given) (p : ℕ) (outside : List (List ℕ)) (s : Shape) → AreOfGiven c given → IsPlaced c given p outside s →
    found_boundaries c p s ≡ boundaries given outside s
unfolding found_boundaries boundaries
equal_boundaries c given p outside (Leaf name weight) a h = ap (λ (b : List (List ℕ)). length b ∷ []) (equal_space c given p outside (Leaf name weight) a h)
equal_boundaries c given p outside (Join left right) a h =
    let both = are_placed c given p outside left right a h in
    ap₂ (λ xs ys. xs ++ ys) (equal_boundaries c given p (outside ++ names right) left a both.left_placed)
    (ap₂ (λ (xs : List ℕ) (b : List (List ℕ)). xs ++ length b ∷ []) (equal_boundaries c given (p + leaves left) (outside ++ names left) right a both.right_placed)
    (equal_space c given p outside (Join left right) a h))

pub equal_tree : (c : LeafColumns) (given : Given) (n p : ℕ) (outside : List (List ℕ)) (s : Shape) → AreOfGiven c given → IsPlaced c given p outside s →
    made_tree c n p s ≡ built given n outside s
unfolding made_tree built
equal_tree c given n p outside (Leaf name weight) a h =
    ap (λ v. named.Tree.Elem name (first_digit v) weight) (leaf_column c given p outside name weight h)
equal_tree c given n p outside (Join left right) a h =
    let both = are_placed c given p outside left right a h in
    let el = equal_space c given p (outside ++ names right) left a both.left_placed in
    let er = equal_space c given (p + leaves left) (outside ++ names left) right a both.right_placed in
    let ej = equal_space c given p outside (Join left right) a h in
    let op : built_operator c.f c.g (found_space c p (Join left right)) (found_space c p left) (found_space c (p + leaves left) right)
    ≡ built_operator given.f (length given.rows) (space given outside (Join left right)) (space given (outside ++ names right) left) (space given (outside ++ names left) right) =
    ap₂ (λ (f : Field) (m : ℕ). built_operator f m (found_space c p (Join left right)) (found_space c p left) (found_space c (p + leaves left) right)) a.field a.size
    ∙ ap₂ (λ (x y : List (List ℕ)). built_operator given.f (length given.rows) x y (found_space c (p + leaves left) right)) ej el
    ∙ ap (built_operator given.f (length given.rows) (space given outside (Join left right)) (space given (outside ++ names right) left)) er in
    ap (λ (o : Op). named.Tree.Join (join_name (n + joins left + joins right + 1)) o (made_tree c n p left) (made_tree c (n + joins left) (p + leaves left) right)) op
    ∙ ap₂ (λ (x y : Tree). named.Tree.Join (join_name (n + joins left + joins right + 1))
    (built_operator given.f (length given.rows) (space given outside (Join left right)) (space given (outside ++ names right) left) (space given (outside ++ names left) right)) x y)
    (equal_tree c given n p (outside ++ names right) left a both.left_placed)
    (equal_tree c given (n + joins left) (p + leaves left) (outside ++ names left) right a both.right_placed)
