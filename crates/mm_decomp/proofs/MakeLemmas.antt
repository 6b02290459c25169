-- The tree that is made of all steps is the built tree.
use Rattle.std.proofs.Common.{ℕ, suc, ◌<◌, ◌≤◌, ◌≡◌, List, [], ◌∷◌, ◌++◌, length, map, get_or, refl, sym, ap, ap₂, ◌∙◌, subst, arith, append_assoc, append-nil, take_all, Some, Result, Ok, Err}
use Rattle.std.specs.Prelude.{nat_lt}
use Rattle.std.specs.List.{All, position}
use Rattle.std.specs.Result.{IfErr, IsOk, IfOk}
use Rattle.std.proofs.lemmas.List.{length-map}
use Rattle.std.proofs.lemmas.List.Elements.{All-nil}
use Rattle.mm_field.specs.declared.Field.{Field}
use Rattle.mm_field.specs.Vectors.{IsVector}
use Rattle.mm_matrix.specs.MatrixValue.{MatrixValue}
use Rattle.mm_tree.specs.NamedTree.{Tree}
use Rattle.mm_tree.specs.TreeValue.{TreeValue}
use Rattle.mm_decomp.specs.declared.shape.Step.{Step}
use Rattle.mm_decomp.specs.declared.shape.Step.TheVariants as steps
use Rattle.mm_decomp.specs.declared.build.Building.{Building}
use Rattle.mm_decomp.specs.declared.build.DecompFault.{DecompFault}
use Rattle.mm_decomp.specs.declared.build.DecompFault.TheVariants as faults
use Rattle.mm_decomp.specs.Building.{Builds, BuildsFrom}
use Rattle.mm_decomp.specs.Forms.{IsBasisOfDependencies}
use Rattle.mm_decomp.specs.Shapes.{Shape, names, after_steps, leaf_names, FindTwo}
use Rattle.mm_decomp.specs.Shapes.Shape.{Leaf, Join}
use Rattle.mm_decomp.specs.Spaces.{Given, column_of}
use Rattle.mm_decomp.specs.Stack.{LeafColumns, leaves, leaves_in, part, made_trees, found_boundaries, boundaries_in}
use Rattle.mm_decomp.specs.Steps.{IsBuilding, TakesStep, Makes, MakesTree, leaf_columns_of}
use Rattle.mm_decomp.proofs.CutLemmas.{IsCut}
use Rattle.mm_decomp.proofs.EqualLemmas.{AreOfGiven, IsPlaced, equal_boundaries, equal_tree}
use Rattle.mm_decomp.proofs.FormLemmas.{cut_at_root}
use Rattle.mm_decomp.proofs.StepLemmas.{wide_at, no_wide, leaves_after}

-- ---- the end of the steps

pub makes_fault : (c : LeafColumns) (xs : List Step) (i : ℕ) (new : Building) (fault : DecompFault) → i < length xs → FindTwo [] xs →
    TakesStep c xs i new (Err fault) → MakesTree c xs (Err fault)
makes_fault c xs i new (faults.Width wide) l h t = λ shape e.
    ap (λ s. position (λ t. nat_lt 6 t) (boundaries_in c s)) (sym e) ∙ wide_at c xs i steps.Join l h t.1 t.2 ∙ ap Some (sym t.0)
makes_fault c xs i new faults.NoMemory l h t = λ shape e. tt

pub makes_tree : (c : LeafColumns) (xs : List Step) (b : Building) (made : TreeValue) → IsBuilding c (after_steps [] xs) b →
    b.builder.trees ≡ made.tree ∷ [] → made.f ≡ b.builder.f → MakesTree c xs (Ok made)
makes_tree c xs b made h et ef = λ shape e. (
  subst (λ s. All (λ t. t ≤ 6) (boundaries_in c s)) e h.narrow,
  ap₂ (λ (f : Field) (t : Tree). record { f = f; tree = t }) (ef ∙ h.builder_field)
      (ap (λ ts. get_or ts 0 made.tree) (sym et ∙ h.trees ∙ ap (made_trees c) e)),
)

count_trees : (c : LeafColumns) (shapes : List Shape) → length (made_trees c shapes) ≡ length shapes
count_trees c [] = refl
count_trees c (shape ∷ shapes) = ap suc (count_trees c shapes)

pub one_tree : (c : LeafColumns) (xs : List Step) (b : Building) → IsBuilding c (after_steps [] xs) b → length (after_steps [] xs) ≡ 1 → length b.builder.trees ≡ 1
one_tree c xs b h one = ap length h.trees ∙ count_trees c (after_steps [] xs) ∙ one

pub ok_from_one : {A E : Type 0} {P : E → Type 0} (n : ℕ) (r : Result A E) → n ≡ 1 → IfErr r (λ e. P e) → ((e : E) → P e → n ≡ 1 → ⊥) → IsOk r
ok_from_one n (Ok x) one h out = refl
ok_from_one n (Err e) one h out = absurd (out e h one)

pub ok_part : {A E : Type 0} (P : A → Type 0) (r : Result A E) (x : A) → r ≡ Ok x → IfOk r P → P x
ok_part P r x e h = subst (λ q. IfOk q P) e h

-- ---- the names of the shapes

unfoldable pub names_in : List Shape → List (List ℕ)
names_in [] = []
names_in (shape ∷ shapes) = names_in shapes ++ names shape

pub names_after : (shapes : List Shape) (xs : List Step) → FindTwo shapes xs → names_in (after_steps shapes xs) ≡ names_in shapes ++ leaf_names xs
unfolding names names_in
names_after shapes [] h = sym (append-nil (names_in shapes))
names_after shapes (steps.Leaf name weight ∷ xs) h =
    names_after (Leaf name weight ∷ shapes) xs h ∙ append_assoc (names_in shapes) (name ∷ []) (leaf_names xs)
names_after [] (steps.Join ∷ xs) h = absurd (let a : 2 ≤ 0 = h.0 in omega arith)
names_after (shape ∷ []) (steps.Join ∷ xs) h = absurd (let a : 2 ≤ 1 = h.0 in omega arith)
names_after (right ∷ left ∷ shapes) (steps.Join ∷ xs) h =
    names_after (Join left right ∷ shapes) xs h.1
    ∙ ap (λ ns. ns ++ leaf_names xs) (sym (append_assoc (names_in shapes) (names left) (names right)))

-- ---- the whole shape

whole_part : (s : Shape) (vectors : List (List ℕ)) → length vectors ≡ leaves s → part 0 s vectors ≡ vectors
whole_part s vectors e = take_all (leaves s) vectors (omega arith)

pub placed_at_root : (given : Given) (functionals columns : MatrixValue) (xs : List Step) (shape : Shape) → IsBasisOfDependencies columns functionals →
    columns ≡ record { f = given.f; cols = length given.rows; rows = map (column_of given) (leaf_names xs) } → FindTwo [] xs →
    after_steps [] xs ≡ shape ∷ [] → AreOfGiven (leaf_columns_of functionals columns) given × IsPlaced (leaf_columns_of functionals columns) given 0 [] shape
unfolding names_in
placed_at_root given functionals columns xs shape d ec h e =
    let c = leaf_columns_of functionals columns in
    let rows : columns.rows ≡ map (column_of given) (leaf_names xs) = ap (λ (m : MatrixValue). m.rows) ec in
    let count_leaves : leaves shape ≡ length (leaf_names xs) = (let a = ap leaves_in e in let b = leaves_after [] xs h in omega (arith, a, b)) in
    let count_columns : length columns.rows ≡ leaves shape = ap length rows ∙ length-map (leaf_names xs) (column_of given) ∙ sym count_leaves in
    let same_names : leaf_names xs ≡ names shape = sym (names_after [] xs h) ∙ ap names_in e in
    let ms = whole_part shape columns.rows count_columns in
    let hs = whole_part shape functionals.rows (d.count ∙ count_columns) in (
      record {
        field = ap (λ (m : MatrixValue). m.f) ec;
        size = ap (λ (m : MatrixValue). m.cols) ec;
        each = d.each_vector;
        each_column = d.each;
        count = d.count;
      },
      record {
        room = omega arith;
        columns = ms ∙ rows ∙ ap (map (column_of given)) same_names;
        each_outside = All-nil (λ v. IsVector columns.f columns.cols v);
        others = [];
        cut =
            subst (λ x. IsCut columns.f functionals.cols columns.cols x (part 0 shape columns.rows) [] []) (sym hs)
            (subst (λ x. IsCut columns.f functionals.cols columns.cols functionals.rows x [] []) (sym ms) (cut_at_root columns functionals d));
      },
    )

pub builds_from_makes : (given : Given) (functionals columns : MatrixValue) (xs : List Step) (r : Result TreeValue DecompFault) → IsBasisOfDependencies columns functionals →
    columns ≡ record { f = given.f; cols = length given.rows; rows = map (column_of given) (leaf_names xs) } → FindTwo [] xs →
    MakesTree (leaf_columns_of functionals columns) xs r → BuildsFrom given xs r
builds_from_makes given functionals columns xs r d ec h m = λ shape e.
    go shape r (placed_at_root given functionals columns xs shape d ec h e) (m shape e)
  where
    c : LeafColumns
    c = leaf_columns_of functionals columns

    go : (shape : Shape) (r : Result TreeValue DecompFault) → AreOfGiven c given × IsPlaced c given 0 [] shape → Makes c shape r → Builds given shape r
    go shape (Ok made) p m = (
      ap (position (λ t. nat_lt 6 t)) (sym (equal_boundaries c given 0 [] shape p.0 p.1)) ∙ no_wide (found_boundaries c 0 shape) m.0,
      m.1 ∙ ap₂ (λ (f : Field) (t : Tree). record { f = f; tree = t }) p.0.field (equal_tree c given 0 0 [] shape p.0 p.1),
    )
    go shape (Err (faults.Width wide)) p m = ap (position (λ t. nat_lt 6 t)) (sym (equal_boundaries c given 0 [] shape p.0 p.1)) ∙ m
    go shape (Err faults.NoMemory) p m = tt
