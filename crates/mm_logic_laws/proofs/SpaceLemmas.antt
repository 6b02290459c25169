-- Boundary spaces decide independence at a join, whatever its third boundary.
use Rattle.std.proofs.Common.{◌+◌, ℕ, List, ◌++◌, sym, subst}
use Rattle.mm_field.specs.Vectors.{zeros, times_matrix, InSpan, AreIndependent}
use Rattle.mm_linear.specs.Sums.{InImage, InSum}
use Rattle.mm_linear.specs.Sums.{MeetTrivially}
use Rattle.mm_logic_laws.proofs.ThirdBoundary.{join_columns, union_independent, union_boundary}
use Rattle.mm_logic.specs.Operator.{row_length}
use Rattle.mm_logic.specs.BoundarySpaces.{InBoundary}
use Rattle.mm_logic.specs.Tree.{boundary}
use Rattle.mm_logic.specs.PresentMatrix.{internal, chosen}
use Rattle.mm_logic_laws.specs.SpaceLaws.{IndependenceAtJoin, BoundarySpaceAtJoin}
use Rattle.mm_logic_laws.proofs.MatrixLemmas.{sides, sides_of, third_of, size_of_join, chosen_are, chosen-join}

pub independence_at_join : IndependenceAtJoin
independence_at_join f op l r ok X Y lx ly =
    let cs = chosen f l X in
    let ds = chosen f r Y in
    let j = sides f op l r cs ds in
    let h = sides_of f op l r cs ds ok (chosen_are f l X ok.3) (chosen_are f r Y ok.4) in
    let union = union_independent j h op.t3 op.c op.g3 (third_of f op l r cs ds ok.0) ok.0.first.independent ok.0.second.independent in
    let P : ℕ → ℕ → Type 0 = λ t u. AreIndependent f (t + internal l) cs × AreIndependent f (u + internal r) ds
    × MeetTrivially (row_length op) (InImage f t (row_length op) op.g1 (InBoundary f t (internal l) cs)) (InImage f u (row_length op) op.g2 (InBoundary f u (internal r) ds)) in
    let there : P op.t1 op.t2 → P (boundary l) (boundary r) = λ p. subst (λ t. P t (boundary r)) (sym ok.1) (subst (λ u. P op.t1 u) (sym ok.2) p) in
    let back : P (boundary l) (boundary r) → P op.t1 op.t2 = λ p. subst (λ t. P t op.t2) ok.1 (subst (λ u. P (boundary l) u) ok.2 p) in
    let Q : List (List ℕ) → ℕ → Type 0 = λ us n. AreIndependent f n us in
    let e = chosen-join f op l r X Y lx in
    let w = size_of_join op (internal l) (internal r) in (
      (λ p. there (union.0 (subst (λ n. Q (join_columns j op.g3) n) (sym w) (subst (λ us. Q us (op.t3 + (op.c + (internal l + internal r)))) e p)))),
      (λ p. subst (λ us. Q us (op.t3 + (op.c + (internal l + internal r)))) (sym e) (subst (λ n. Q (join_columns j op.g3) n) w (union.1 (back p)))),
    )

pub space_at_join : BoundarySpaceAtJoin
space_at_join f op l r ok X Y lx ly b hb =
    let cs = chosen f l X in
    let ds = chosen f r Y in
    let j = sides f op l r cs ds in
    let h = sides_of f op l r cs ds ok (chosen_are f l X ok.3) (chosen_are f r Y ok.4) in
    let m = op.c + (internal l + internal r) in
    let z = times_matrix f (row_length op) op.g3 b in
    let union = union_boundary j h op.t3 op.c op.g3 (third_of f op l r cs ds ok.0) b hb in
    let P : ℕ → ℕ → Type 0 = λ t u.
    InSum f (InImage f t (row_length op) op.g1 (InBoundary f t (internal l) cs)) (InImage f u (row_length op) op.g2 (InBoundary f u (internal r) ds)) z in
    let there : P op.t1 op.t2 → P (boundary l) (boundary r) = λ p. subst (λ t. P t (boundary r)) (sym ok.1) (subst (λ u. P op.t1 u) (sym ok.2) p) in
    let back : P (boundary l) (boundary r) → P op.t1 op.t2 = λ p. subst (λ t. P t op.t2) ok.1 (subst (λ u. P (boundary l) u) ok.2 p) in
    let Q : List (List ℕ) → ℕ → Type 0 = λ us n. InSpan f n us (b ++ zeros m) in
    let e = chosen-join f op l r X Y lx in
    let w = size_of_join op (internal l) (internal r) in (
      (λ p. there (union.0 (subst (λ n. Q (join_columns j op.g3) n) (sym w) (subst (λ us. Q us (op.t3 + m)) e p)))),
      (λ p. subst (λ us. Q us (op.t3 + m)) (sym e) (subst (λ n. Q (join_columns j op.g3) n) w (union.1 (back p)))),
    )
