-- The header that is written for a dual is that of names, rows and a shape that can be built; and the whole law.
use Rattle.std.proofs.Common.{◌≡◌, ℕ, zero, suc, ◌+◌, ◌≤◌, Bool, true, false, cond, Option, Some, None, List, [], ◌∷◌, ◌++◌, length, append-nil, refl, sym, ap, ◌∙◌, subst, arith}
use Rattle.std.specs.Prelude.{All}
use Rattle.mm_field.specs.declared.Field.{Field}
use Rattle.mm_lines.specs.Lines.{is_newline, line_of, numbered}
use Rattle.mm_lines.specs.declared.line.Line.{Line}
use Rattle.mm_job_text.proofs.TextLineLemmas.{no_line}
use Rattle.std.proofs.lemmas.List.Splits.{slice_split_at}
use Rattle.mm_linear.specs.ReducedEchelon.{IsReducedBasis, reduced_basis, reversed_rows}
use Rattle.mm_tree.specs.NamedTree.{Tree, element_names, is_one_of}
use Rattle.mm_tree.specs.ValidTree.{AreNames}
use Rattle.mm_decomp.specs.DualOutput.{dual_header}
use Rattle.mm_decomp.specs.Duals.{dual_of, orthogonal_rows}
use Rattle.mm_decomp.specs.Shapes.{Shape, most_leaves}
use Rattle.mm_decomp.specs.Spaces.{Given}
use Rattle.mm_decomp.specs.TreeShapes.{element_shape, steps_of}
use Rattle.mm_decomp.proofs.ClosedLemmas.{orthogonal_rows_reduced}
use Rattle.mm_decomp.proofs.OrderLemmas.{all_there, same_count, same_swapped}
use Rattle.mm_decomp.proofs.TreeShapeLemmas.{HasShape, steps_make, tree_steps}
use Rattle.mm_decomp_laws.specs.DualLaws.{AreTheSame}
use Rattle.mm_decomp_laws.specs.QueriesAfterHeaders.{IsBuildable, QueriesDecide, ReachesQuery}
use Rattle.mm_decomp_laws.specs.WrittenHeaders.{lines_after, most_after}
use Rattle.mm_decomp_laws.proofs.AfterBuildLemmas.{after_build, shape_of_steps}
use Rattle.mm_decomp_laws.proofs.DualLawLemmas.{duals_are_narrow, of_same, shape_names}
use Rattle.mm_decomp_laws.proofs.QueryLawLemmas.{after_built, after_empty}

-- ---- a reduced basis has at most as many rows as columns

reversed_few : (rows : List (List ℕ)) (j : ℕ) → length (reversed_rows rows j) ≤ j
reversed_few rows zero = omega arith
reversed_few rows (suc j) = go (reversed_rows rows (suc j)) refl (reversed_few rows j)
  where
    both : (b : Bool) (v : List ℕ) (vs : List (List ℕ)) → length vs ≤ j → length (cond b vs (v ∷ vs)) ≤ suc j
    both true v vs h = omega (arith, h)
    both false v vs h = omega (arith, h)

    go : (all : List (List ℕ)) → reversed_rows rows (suc j) ≡ all → length (reversed_rows rows j) ≤ j → length (reversed_rows rows (suc j)) ≤ suc j
    go all e h = both _ _ (reversed_rows rows j) h

reduced_few : (f : Field) (n : ℕ) (rows : List (List ℕ)) → IsReducedBasis f n rows → length rows ≤ n
unfolding reduced_basis
reduced_few f n rows h = subst (λ (vs : List (List ℕ)). length vs ≤ n) h.own (reversed_few _ n)

-- ---- duals

dual_buildable : (given : Given) (tree : Tree) (s : Shape) → AreTheSame given tree → AreNames given.names → length given.names ≤ most_leaves
    → element_shape tree ≡ Some s → IsBuildable (dual_of given) s
dual_buildable given tree s h named few e =
    let E = element_names tree in
    let o = of_same given tree h in
    let alike = shape_names tree s e in
    let count = same_count given.names E o.names in
    let w : HasShape (element_shape tree) = record { it = s; is = e } in
    let made = shape_of_steps (steps_of s) s (tree_steps given.f tree w h.valid (omega (arith, few, count))).are_steps (steps_make s []) in
    let basis = orthogonal_rows_reduced given.f (length given.names) given.rows in
    record {
      named = named;
      different = h.different;
      few = few;
      rows = basis.each;
      few_rows = omega (arith, few, reduced_few given.f (length given.names) (orthogonal_rows given.f (length given.names) given.rows) basis);
      leaves = subst (λ (ns : List (List ℕ)). All (λ name. is_one_of name given.names ≡ true) ns) (sym alike) (all_there given.names E o.names);
      all = subst (λ (ns : List (List ℕ)). All (λ name. is_one_of name ns ≡ true) given.names) (sym alike)
          (all_there E given.names (same_swapped given.names E o.names));
      leaves_differ = made.different;
      shallow = made.shallow;
      light = made.light;
      narrow = duals_are_narrow given tree s h e;
    }

after_dual : (given : Given) (tree : Tree) (rest : List ℕ) → AreTheSame given tree → AreNames given.names → length given.names ≤ most_leaves
    → length rest ≤ most_after → ReachesQuery (dual_header given (element_shape tree)) rest
after_dual given tree rest h named few l = go (element_shape tree) refl
  where
    go : (o : Option Shape) → element_shape tree ≡ o → ReachesQuery (dual_header given o) rest
    go None e = after_empty given.f rest l
    go (Some s) e = after_built (dual_of given) s rest (dual_buildable given tree s h named few e) l

-- ---- a query line

one_line : (n : ℕ) (query : List ℕ) → All (λ b. is_newline b ≡ false) query → lines_after n (query ++ 10 ∷ []) ≡ line_of (n + 1) query
one_line n query h =
    ap (numbered (n + 1)) (slice_split_at is_newline query 10 [] h refl)
    ∙ ap (λ (more : List Line). line_of (n + 1) query ++ more) (no_line (n + 1 + 1))
    ∙ append-nil (line_of (n + 1) query)

pub queries_decide : QueriesDecide
queries_decide = record {
  one_line = one_line;
  after_build = after_build;
  after_dual = after_dual;
  after_built = after_built;
  after_empty = after_empty;
}
