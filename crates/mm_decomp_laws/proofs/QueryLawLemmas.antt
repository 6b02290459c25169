-- What is read of the header of a tree that is built, and that its rows and its tree agree.
use Rattle.std.proofs.Common.{◌≡◌, ℕ, ◌≤◌, Bool, true, cond, not, Option, Some, None, List, [], ◌∷◌, ◌++◌, length, map, get_or, refl, sym, ap, ap₂, ◌∙◌, subst, arith}
use Rattle.std.specs.Prelude.{codes, All}
use Rattle.std.specs.List.{IsDistinct}
use Rattle.std.specs.Str.{bytes_eq}
use Rattle.std.proofs.lemmas.Fmt.{decimal_digit}
use Rattle.std.proofs.lemmas.List.Elements.{All-cons, All-head, All-nil, All-tail}
use Rattle.mm_base.specs.Names.{is_name}
use Rattle.mm_field.specs.Vectors.{AreVectors, IsVector, IsWithin}
use Rattle.mm_field.specs.declared.Field.{Field}
use Rattle.mm_header.specs.Header.{verdict_refusal}
use Rattle.mm_linear.specs.Decide.{is_in_span}
use Rattle.mm_matrix.specs.MatrixValue.{MatrixValue}
use Rattle.mm_present.specs.Comparing.{compared, compared_rows, first_missing, first_outside, in_order, present_rows, verdict_of, verdict_of_rows}
use Rattle.mm_present.specs.declared.comparison.Verdict.TheVariants as verdict
use Rattle.mm_present.proofs.CompareLemmas.{as_many, inside_true, none_missing, position_none}
use Rattle.mm_tree.specs.NamedTree.{Tree, depth, element_names, is_one_of, leaf_names, node_names, shape, weights}
use Rattle.mm_tree.specs.NamedTree.Tree.{Void}
use Rattle.mm_tree.specs.TreeText.{node_lines, spaced, text_of_lines, tree_text, void_text}
use Rattle.mm_tree.specs.ValidTree.{IsValidTree}
use Rattle.mm_tree.proofs.TextLemmas.{text_of_both}
use Rattle.mm_decomp.specs.BuildOutput.{matrix_in}
use Rattle.mm_decomp.specs.BuiltTree.{built}
use Rattle.mm_decomp.specs.DualOutput.{empty_text}
use Rattle.mm_decomp.specs.HeaderText.{field_text, header_text, operator_lines}
use Rattle.mm_decomp.specs.Shapes.{Shape, names}
use Rattle.mm_decomp.specs.Spaces.{Given}
use Rattle.mm_decomp.proofs.OrderLemmas.{AreSame, AreVectors-in_order}
use Rattle.mm_decomp_laws.specs.QueriesAfterHeaders.{IsBuildable, ReachesQuery}
use Rattle.mm_decomp_laws.specs.Ranks.{IsOver}
use Rattle.mm_decomp_laws.specs.WrittenHeaders.{IsOfFormatOne, IsReadable, header_length, header_parts, most_after, operators_of}
use Rattle.mm_decomp_laws.proofs.BuiltHeaderLemmas.{built_format, built_joins_differ, built_leaves}
use Rattle.mm_decomp_laws.proofs.BuiltValidLemmas.{built_is_valid}
use Rattle.mm_decomp_laws.proofs.DualLawLemmas.{vectors_within}
use Rattle.mm_decomp_laws.proofs.RowSpaceLemmas.{built_law}
use Rattle.mm_decomp_laws.proofs.WrittenHeaderLemmas.{written_headers}

-- ---- the rows and the tree agree

no_name_missing : (ns others : List (List ℕ)) → All (λ name. is_one_of name others ≡ true) ns → first_missing ns others ≡ None
no_name_missing [] others h = refl
no_name_missing (n ∷ ns) others h =
    ap (λ (b : Bool). cond (not b) (Some n) (first_missing ns others)) (All-head (λ name. is_one_of name others ≡ true) n ns h)
    ∙ no_name_missing ns others (All-tail (λ name. is_one_of name others ≡ true) n ns h)

no_row_outside : (f : Field) (n : ℕ) (rows others : List (List ℕ)) → AreVectors f n rows → AreVectors f n others → IsWithin f n rows others
    → first_outside f n rows others ≡ None
no_row_outside f n rows others h ho w =
    sym (position_none (λ row. not (is_in_span f n others row)) rows []
    (λ k l. inside_true f n others (get_or rows k []) ho (h k [] l) (w k [] l)))

-- The elements of the built tree are the names.
pub record HasNames (given : Given) (tree : Tree) : Type 0 where
  pub none_missing : first_missing given.names (element_names tree) ≡ None
  pub none_more : first_missing (element_names tree) given.names ≡ None
  pub same : AreSame given.names (element_names tree)
  pub count : length given.names ≡ length (element_names tree)

over : (given : Given) (s : Shape) → IsBuildable given s → IsOver given s
over given s h = record { rows = h.rows; leaves = h.leaves }

has_names : (given : Given) (s : Shape) → IsBuildable given s → HasNames given (built given 0 [] s)
has_names given s h =
    let E = element_names (built given 0 [] s) in
    let e = (built_law given s (over given s h)).elements in
    let there : first_missing given.names E ≡ None =
    no_name_missing given.names E (subst (λ (ns : List (List ℕ)). All (λ name. is_one_of name ns ≡ true) given.names) (sym e) h.all) in
    let back : first_missing E given.names ≡ None =
    no_name_missing E given.names (subst (λ (ns : List (List ℕ)). All (λ name. is_one_of name given.names ≡ true) ns) (sym e) h.leaves) in
    let d : IsDistinct bytes_eq E = subst (λ (ns : List (List ℕ)). IsDistinct bytes_eq ns) (sym e) h.leaves_differ in
    record {
      none_missing = there;
      none_more = back;
      same = record { different = h.different; others_different = d; there = none_missing given.names E there; back = none_missing E given.names back };
      count = as_many given.names E h.different d there back;
    }

built_agrees : (given : Given) (s : Shape) → IsBuildable given s
    → compared given.f (record { names = given.names; rows = given.rows }) (built given 0 [] s) ≡ verdict.Same
unfolding compared
built_agrees given s h =
    let f = given.f in
    let tree = built given 0 [] s in
    let E = element_names tree in
    let n = length E in
    let space = (built_law given s (over given s h)).row_space in
    let alike = has_names given s h in
    let M = map (in_order given.names E) given.rows in
    let P = present_rows f tree in
    let hM : AreVectors f n M = AreVectors-in_order given.names E alike.same f given.rows h.rows in
    let hP : AreVectors f n P = vectors_within f n P M hM space.1 in
    ap (λ (o : Option (List ℕ)). verdict_of o (first_missing E given.names) (compared_rows f (length given.names) M P)) alike.none_missing
    ∙ ap (λ (o : Option (List ℕ)). verdict_of None o (compared_rows f (length given.names) M P)) alike.none_more
    ∙ ap (λ (k : ℕ). compared_rows f k M P) alike.count
    ∙ ap₂ verdict_of_rows (no_row_outside f n M P hM hP space.0) (no_row_outside f n P M hP hM space.1)

-- ---- the header of a tree that is built

readable : (given : Given) (s : Shape) → IsBuildable given s → IsReadable given.names (matrix_in given) (built given 0 [] s)
readable given s h =
    let leaves = ap length (built_leaves given 0 [] s) in
    let elements = ap length (built_law given s (over given s h)).elements in
    let count : length (names s) ≤ 4096 = omega (arith, h.few, (has_names given s h).count, elements) in
    record {
      named = h.named;
      different = h.different;
      few = h.few;
      columns = refl;
      is_matrix = h.rows;
      few_rows = h.few_rows;
      valid = built_is_valid given s h count;
      few_leaves = omega (arith, count, leaves);
      format = built_format given 0 [] s;
      operators = built_joins_differ given.f given s count;
    }

pub after_built : (given : Given) (s : Shape) (rest : List ℕ) → IsBuildable given s → length rest ≤ most_after
    → ReachesQuery (header_text given.names (matrix_in given) (built given 0 [] s)) rest
after_built given s rest h l =
    let tree = built given 0 [] s in
    record {
      given = header_parts given.names (matrix_in given) tree;
      lines_before = header_length given.names (matrix_in given) tree;
      reads = written_headers given.names (matrix_in given) tree rest (readable given s h) l;
      agrees = ap verdict_refusal (built_agrees given s h);
    }

-- ---- the header of a tree without elements

abbrev nothing : Field → MatrixValue
nothing f = record { f = f; cols = 0; rows = [] }

abbrev leaf : Tree
leaf = Void (codes "v") 0

leaf_is_valid : (f : Field) → IsValidTree f leaf
unfolding shape node_names leaf_names depth weights IsDistinct
leaf_is_valid f = record {
  valid_shape = omega arith;
  formed = All-cons (λ name. is_name name ≡ true) (codes "v") [] refl (All-nil (λ name. is_name name ≡ true));
  different = (tt, tt);
  few = omega arith;
  shallow = omega arith;
  light = λ k d i. absurd (omega (arith, i));
}

leaf_is_readable : (f : Field) → IsReadable [] (nothing f) leaf
unfolding leaf_names operators_of IsOfFormatOne IsDistinct
leaf_is_readable f = record {
  named = All-nil (λ name. is_name name ≡ true);
  different = tt;
  few = omega arith;
  columns = refl;
  is_matrix = All-nil (λ v. IsVector f 0 v);
  few_rows = omega arith;
  valid = leaf_is_valid f;
  few_leaves = omega arith;
  format = tt;
  operators = tt;
}

empty_is : (f : Field) → header_text [] (nothing f) leaf ≡ empty_text f
unfolding header_text tree_text node_lines operator_lines
empty_is f =
    let first : List (List ℕ) = codes "mso 1" ∷ field_text f ∷ codes "tree" ∷ [] in
    sym (text_of_both first (void_text (codes "v") 0 ∷ codes "end" ∷ []))
    ∙ ap (λ (digits : List ℕ). text_of_lines (first ++ spaced (codes "void" ∷ codes "v" ∷ digits ∷ []) ∷ codes "end" ∷ [])) (decimal_digit 0 (omega arith))

leaf_agrees : (f : Field) → compared f (record { names = []; rows = [] }) leaf ≡ verdict.Same
unfolding compared present_rows element_names shape
leaf_agrees f = refl

pub after_empty : (f : Field) (rest : List ℕ) → length rest ≤ most_after → ReachesQuery (empty_text f) rest
after_empty f rest l =
    subst (λ (header : List ℕ). ReachesQuery header rest) (empty_is f)
    (record {
      given = header_parts [] (nothing f) leaf;
      lines_before = header_length [] (nothing f) leaf;
      reads = written_headers [] (nothing f) leaf rest (leaf_is_readable f) l;
      agrees = ap verdict_refusal (leaf_agrees f);
    })
