-- What is answered to the text of a header whose dual is asked for.
use Rattle.std.proofs.Common.{ℕ, ◌≡◌, Option, Some, None, List, [], ◌∷◌, ◌++◌, length, refl, sym, ap, ap₂, ◌∙◌, subst}
use Rattle.std.specs.Prelude.{Ok, Err, true, IfOk, codes}
use Rattle.std.specs.List.{All}
use Rattle.std.specs.Option.{option_map}
use Rattle.std.specs.declared.result.Result.{Result}
use Rattle.std.proofs.lemmas.Option.{none-some, same_Some}
use Rattle.mm_base.specs.declared.text.TextFault.{TextFault}
use Rattle.mm_base.specs.declared.text.TextFault.TheVariants as text
use Rattle.mm_field.specs.declared.Field.{Field}
use Rattle.mm_field.specs.Vectors.{AreVectors}
use Rattle.mm_job_text.specs.declared.refusal.Refusal.{Refusal}
use Rattle.mm_logic.specs.Tree.{IsValid}
use Rattle.mm_matrix.specs.MatrixValue.{MatrixValue}
use Rattle.mm_matrix.specs.Orthogonal.{IsOrthogonalBasis}
use Rattle.mm_present.specs.Comparing.{compared}
use Rattle.mm_present.specs.declared.comparison.Verdict.TheVariants as verdict
use Rattle.mm_present.proofs.CompareLemmas.{as_many}
use Rattle.mm_tree.proofs.ElementLemmas.{different_elements}
use Rattle.mm_tree.proofs.TextLemmas.{text_of_both}
use Rattle.mm_tree.specs.NamedTree.{Tree, shape, element_names, is_one_of}
use Rattle.mm_tree.specs.TreeText.{text_of_lines}
use Rattle.mm_tree.specs.TreeValue.{TreeValue}
use Rattle.mm_tree.specs.ValidTree.{IsValidTree}
use Rattle.mm_decomp.specs.Building.{AreLeaves, BuildsFrom, given_of}
use Rattle.mm_decomp.specs.BuildOutput.{IsOutput, matrix_in, output_of}
use Rattle.mm_decomp.specs.BuildTexts.{words_of}
use Rattle.mm_decomp.specs.BuiltTree.{built}
use Rattle.mm_decomp.specs.DualOutput.{dual_header, dual_of_tree, dual_output, empty_text}
use Rattle.mm_decomp.specs.GivenTrees.{GivenTree, IsGivenTree, ReadsTree, given_tree_of, tree_given}
use Rattle.mm_decomp.specs.HeaderText.{field_text, header_text}
use Rattle.mm_decomp.specs.Duals.{dual_of, orthogonal_rows}
use Rattle.mm_decomp.specs.Shapes.{Shape, leaf_names, names, after_steps}
use Rattle.mm_decomp.specs.Spaces.{Given, first_wide}
use Rattle.mm_decomp.specs.TreeShapes.{element_shape, steps_of}
use Rattle.mm_decomp.specs.declared.build.DecompFault.TheVariants.{Width}
use Rattle.mm_decomp.specs.declared.shape.Step.{Step}
use Rattle.mm_decomp.specs.declared.tree_text.TreeText.{TreeText}
use Rattle.mm_decomp.proofs.ClosedLemmas.{orthogonal_basis}
use Rattle.mm_decomp.proofs.DualLemmas.{IsOfTree, dual_narrow, of_compared}
use Rattle.mm_decomp.proofs.OrderLemmas.{all_there, same_count}
use Rattle.mm_decomp.proofs.TreeShapeLemmas.{names_if, names_of_steps, same_names, steps_make}

-- the rows and the tree of a text have the same row space
pub of_text : (t : TreeText) → IsGivenTree t → IsValidTree t.tree.f t.tree.tree → AreVectors t.given.rows.f t.given.rows.cols t.given.rows.rows →
    IsOfTree (given_of t.given.names t.given.rows) t.tree.tree
of_text t h v rows =
    of_compared (given_of t.given.names t.given.rows) t.tree.tree
    (subst (λ (f : Field). IsValid f (shape t.tree.tree)) h.field v.valid_shape)
    h.different (different_elements t.tree.tree v.different)
    (subst (λ n. AreVectors t.given.rows.f n t.given.rows.rows) h.columns rows)
    (subst (λ (f : Field). compared f (record { names = t.given.names; rows = t.given.rows.rows }) t.tree.tree ≡ verdict.Same) h.field h.same)

-- the shape of a tree with these steps
pub record HasSteps (o : Option Shape) (all : List Step) : Type 0 where
  pub it : Shape
  pub is : o ≡ Some it
  pub steps : all ≡ steps_of it

pub has_steps : (o : Option Shape) (all : List Step) → Some all ≡ option_map steps_of o → HasSteps o all
has_steps None all e = absurd (none-some all (sym e))
has_steps (Some s) all e = record { it = s; is = refl; steps = same_Some all (steps_of s) e }

module _ (t : TreeText) (h : IsGivenTree t) (v : IsValidTree t.tree.f t.tree.tree) (vectors : AreVectors t.given.rows.f t.given.rows.cols t.given.rows.rows)
    (rows : MatrixValue) (orth : IsOrthogonalBasis t.given.rows rows) (each : AreVectors rows.f rows.cols rows.rows)
    (all : List Step) (w : HasSteps (element_shape t.tree.tree) all) where
  abbrev given : Given
  given = given_of t.given.names t.given.rows

  of_tree : IsOfTree given t.tree.tree
  of_tree = of_text t h v vectors

  rows_are : rows ≡ matrix_in (dual_of given)
  rows_are =
      let f = t.given.rows.f in
      let n = length t.given.names in
      let each_is = subst (λ (g : Field). AreVectors g n rows.rows) orth.field (subst (λ m. AreVectors rows.f m rows.rows) (orth.cols ∙ h.columns) each) in
      let same = orthogonal_basis f n t.given.rows.rows t.given.rows rows orth refl h.columns refl each_is in
      λ i. record { f = orth.field i; cols = (orth.cols ∙ h.columns) i; rows = same i }

  given_is : given_of t.given.names rows ≡ dual_of given
  given_is = ap (given_of t.given.names) rows_are

  named_alike : leaf_names all ≡ element_names t.tree.tree
  named_alike = ap leaf_names w.steps ∙ names_of_steps w.it ∙ ap names_if (sym w.is) ∙ same_names t.tree.tree

  pub dual_leaves : AreLeaves t.given.names rows all
  dual_leaves = record {
    columns = orth.cols ∙ h.columns;
    different = h.different;
    given = subst (λ ns. All (λ name. is_one_of name t.given.names ≡ true) ns) (sym named_alike) (all_there t.given.names (element_names t.tree.tree) of_tree.names);
    count = ap length named_alike ∙ sym (same_count t.given.names (element_names t.tree.tree) of_tree.names);
  }

  made : after_steps [] all ≡ w.it ∷ []
  made = ap (after_steps []) w.steps ∙ steps_make w.it []

  pub dual_text_is : (tree : TreeValue) (text : List ℕ) → BuildsFrom (given_of t.given.names rows) all (Ok tree) → text ≡ header_text t.given.names rows tree.tree →
      text ≡ dual_of_tree (tree_given t)
  dual_text_is tree text b e =
      e
      ∙ ap₂ (λ (m : MatrixValue) (T : Tree). header_text t.given.names m T) rows_are
      (ap (λ (x : TreeValue). x.tree) (b w.it made).1 ∙ ap (λ (g : Given). built g 0 [] w.it) given_is)
      ∙ ap (dual_header given) (sym w.is)

  pub never_wide : (step : ℕ) → BuildsFrom (given_of t.given.names rows) all (Err (Width step)) → ⊥
  never_wide step b =
      none-some step (sym (dual_narrow given t.tree.tree of_tree w.it w.is) ∙ ap (λ (g : Given). first_wide g w.it) (sym given_is) ∙ b w.it made)

pub text_without_elements : (t : TreeText) (text : List ℕ) → element_shape t.tree.tree ≡ None → text ≡ empty_text t.given.rows.f → text ≡ dual_of_tree (tree_given t)
text_without_elements t text n e = e ∙ ap (dual_header (given_of t.given.names t.given.rows)) (sym n)

pub no_shape : (o : Option Shape) → None ≡ option_map steps_of o → o ≡ None
no_shape None e = refl
no_shape (Some s) e = absurd (none-some (steps_of s) e)

-- ---- texts

pub dual_read : (bytes : List ℕ) (t : TreeText) (text : List ℕ) → given_tree_of bytes ≡ Ok (tree_given t) → text ≡ dual_of_tree (tree_given t) → dual_output bytes ≡ Ok text
unfolding dual_output
dual_read bytes t text e h = ap (output_of (λ x. Ok (dual_of_tree x))) e ∙ ap Ok (sym h)

pub dual_refused : (bytes words : List ℕ) → words_of (given_tree_of bytes) ≡ Some words → dual_output bytes ≡ Err words
unfolding dual_output
dual_refused bytes words h = go (given_tree_of bytes) h
  where
    go : (r : Result GivenTree Refusal) → words_of r ≡ Some words → output_of (λ x. Ok (dual_of_tree x)) r ≡ Err words
    go (Ok d) h = absurd (none-some words h)
    go (Err e) h = ap Err (same_Some _ words h)

pub dual_stopped : (bytes : List ℕ) (fault : TextFault) → ReadsTree (Err fault) (given_tree_of bytes) → IsOutput (Err fault) (dual_output bytes)
dual_stopped bytes (text.Refused words) h = dual_refused bytes words h
dual_stopped bytes text.NoMemory h = tt

pub same_header : {E : Type 0} (r : Result (List ℕ) E) (a b : List ℕ) → a ≡ b → IfOk r (λ x. x ≡ a) → IfOk r (λ x. x ≡ b)
same_header r a b e h = subst (λ t. IfOk r (λ x. x ≡ t)) e h

-- the lines of a header of a tree without elements
pub empty_is : (f : Field) (none first text : List ℕ) → none ≡ [] → first ≡ none ++ text_of_lines (codes "mso 1" ∷ field_text f ∷ []) →
    text ≡ first ++ codes "tree\nvoid v 0\nend\n" → text ≡ empty_text f
empty_is f none first text n e h =
    let lines = codes "mso 1" ∷ field_text f ∷ [] in
    h
    ∙ ap (λ (t : List ℕ). t ++ codes "tree\nvoid v 0\nend\n") (e ∙ ap (λ (t : List ℕ). t ++ text_of_lines lines) n)
    ∙ sym (text_of_both lines (codes "tree" ∷ codes "void v 0" ∷ codes "end" ∷ []))
