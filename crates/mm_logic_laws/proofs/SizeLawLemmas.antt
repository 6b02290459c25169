-- The rows of a formula that is decided, and the types of queries.
use Rattle.std.proofs.Common.{◌≡◌, true, false, List, [], ◌∷◌, length, sum_by, refl, ◌∙◌, arith}
use Rattle.std.proofs.lemmas.List.{length-replicate}
use Rattle.std.proofs.lemmas.List.Sums.{sum_by-append}
use Rattle.mm_logic.specs.Marks.{assign, no_marks, unmarked}
use Rattle.mm_logic.specs.Tree.{Tree, size, subtrees}
use Rattle.mm_logic.specs.Occurrence.{distinct}
use Rattle.mm_logic.specs.StateSize.{types_at}
use Rattle.mm_logic.specs.StateSize.Query.{Decide}
use Rattle.mm_logic_laws.specs.SizeLaws.{RowsOfDecideAreNodes, TypesOfQueriesAreMadeByJoins}
use Rattle.mm_logic_laws.proofs.SplitLemmas.{length-assign}
use Rattle.mm_logic_laws.proofs.TypeLemmas.{joined-is_type}

pub rows_of_decide : RowsOfDecideAreNodes
rows_of_decide f F T = each_once (subtrees T)
  where
    each_once : (Ts : List Tree) → sum_by (λ N. length (distinct (types_at f (Decide F) N))) Ts ≡ length Ts
    each_once [] = refl
    each_once (N ∷ Ts) =
        sum_by-append (λ N. length (distinct (types_at f (Decide F) N))) (N ∷ []) Ts
        ∙ (let e : sum_by (λ N. length (distinct (types_at f (Decide F) N))) Ts ≡ length Ts = each_once Ts in omega (arith, e))

pub types_of_queries : TypesOfQueriesAreMadeByJoins
types_of_queries f T ok F w = (
  joined-is_type f T ok F (λ k. false) (unmarked (size T)) w (λ k e. let c : false ≡ true = e in cc) (length-replicate (size T) no_marks),
  (λ A. joined-is_type f T ok F (λ k. false) (assign 0 A (unmarked (size T))) w (λ k e. let c : false ≡ true = e in cc)
      (length-assign 0 A (unmarked (size T)) ∙ length-replicate (size T) no_marks)),
)
