-- What a session keeps, through edits and rebuilds.
use Rattle.std.proofs.Common.{ℕ, ◌≡◌, ◌<◌, ◌≤◌, ◌+◌, List, [], ◌∷◌, ◌++◌, refl, sym, ap, ◌∙◌, subst, arith, append-nil, sum_by, true, false}
use Rattle.std.specs.List.{list_any}
use Rattle.mm_base.specs.Causes.{counted}
use Rattle.mm_field.specs.declared.Field.{Field}
use Rattle.mm_logic.specs.Formula.{Formula}
use Rattle.mm_logic.specs.Value.{Value}
use Rattle.mm_logic.specs.Occurrence.{cells, fresh, nodes as parts, list_cells}
use Rattle.mm_logic.specs.StateSize.{Query, asked}
use Rattle.mm_logic.specs.Growth.{root, Grown}
use Rattle.mm_logic.proofs.GrowthLemmas.{none_missing_cells, members-bag}
use Rattle.mm_states.specs.Letters as letters
use Rattle.mm_tree.specs.NamedTree.{Tree, shape}
use Rattle.mm_tree.specs.TreeValue.{TreeValue}
use Rattle.mm_nodes.specs.declared.TheConstants.{MAX_LIMIT}
use Rattle.mm_nodes.specs.Demands.{IsExact, IsWithin, made, made_rows}
use Rattle.mm_nodes.proofs.RoomLemmas.{within-append, within-right, within-then, within-same, same-within, within-cells, grown-members, exact-cells}
use Rattle.mm_nodes.proofs.KeptTypeLemmas.{fresh_none}
use Rattle.mm_edit.specs.KeptTypes.{size_beside}
use Rattle.mm_edit.specs.SessionView.{StatesValue, AreAlike, Keep, Renewed, IsKept, types_of}

-- the size of a tree alone is no more than beside other types
pub size_alone : (before : List Value) (Q : Query) (f : Field) (T : Tree) → size_beside [] Q f T ≤ size_beside before Q f T
size_alone before Q f T =
    let types = made f Q (shape T) in
    let few = within-cells (asked Q) types (before ++ types) (within-right before types) in
    omega (arith, few)

-- the types of a tree that was kept for are kept
pub types_within : (v : StatesValue) (before : List Value) (f : Field) (T : Tree) (limit : ℕ) → Keep v before f T limit → IsWithin (made f v.query (shape T)) (types_of v)
types_within v before f T limit h =
    let types = made f v.query (shape T) in
    within-then types (before ++ types) (types_of v) (within-right before types) (same-within (types_of v) (before ++ types) (grown-members before (types_of v) types h.grown))

types_fit : (v : StatesValue) (before : List Value) (f : Field) (T : Tree) (limit : ℕ) → Keep v before f T limit → cells (asked v.query) (types_of v) + made_rows f v.query (shape T) ≤ limit
types_fit v before f T limit h =
    let types = made f v.query (shape T) in
    let few = within-cells (asked v.query) (types_of v) (before ++ types) (within-same (types_of v) (before ++ types) (grown-members before (types_of v) types h.grown)) in
    let fits = h.size in
    omega (arith, few, fits)

-- runs or rows that are kept for a tree are those of a session on it
pub keep_kept : (v : StatesValue) (before : List Value) (T : TreeValue) (limit : ℕ) → Keep v before T.f T.tree limit → v.limit ≡ limit → limit ≤ MAX_LIMIT → letters.IsOver (asked v.query) v.field T.f → IsKept v T limit
keep_kept v before T limit h e m o = record {
  stand = h.stand;
  within = types_within v before T.f T.tree limit h;
  fits = types_fit v before T.f T.tree limit h;
  limits = e;
  limited = m;
  over = o;
}

over_alike : (v w : StatesValue) (T : TreeValue) → AreAlike v w → letters.IsOver (asked v.query) v.field T.f → letters.IsOver (asked w.query) w.field T.f
over_alike v w T a o = subst (λ Q. letters.IsOver (asked Q) w.field T.f) (sym a.query) (subst (λ g. letters.IsOver (asked v.query) g T.f) (sym a.field) o)

-- the kept types go on
pub went_on : (v w : StatesValue) (T : TreeValue) (n : ℕ) → AreAlike v w → v.limit ≤ MAX_LIMIT → letters.IsOver (asked v.query) v.field T.f → Keep w (types_of v) T.f T.tree v.limit → Renewed v w T n n
went_on v w T n a m o h =
    let size : size_beside (types_of v) v.query T.f T.tree ≤ v.limit = subst (λ Q. size_beside (types_of v) Q T.f T.tree ≤ v.limit) a.query h.size in
    let alone = size_alone (types_of v) v.query T.f T.tree in
    record {
      kept = keep_kept w (types_of v) T v.limit h a.limit m (over_alike v w T a o);
      size = omega (arith, size, alone);
      types = record {
        goes_on = λ fits. (subst (λ Q. Grown (types_of v) (types_of w) (made T.f Q (shape T.tree))) a.query h.grown, refl);
        rebuilt = λ full. absurd (omega (arith, size, full));
      };
    }

-- all was made afresh
pub went_afresh : (v w : StatesValue) (T : TreeValue) (n m : ℕ) → AreAlike v w → v.limit ≤ MAX_LIMIT → letters.IsOver (asked v.query) v.field T.f → v.limit < size_beside (types_of v) v.query T.f T.tree → Keep w [] T.f T.tree v.limit → m ≡ counted n → Renewed v w T n m
went_afresh v w T n m a l o full h c = record {
  kept = keep_kept w [] T v.limit h a.limit l (over_alike v w T a o);
  size = subst (λ Q. size_beside [] Q T.f T.tree ≤ v.limit) a.query h.size;
  types = record {
    goes_on = λ fits. absurd (omega (arith, fits, full));
    rebuilt = λ exceeds. (subst (λ Q. Grown [] (types_of w) (made T.f Q (shape T.tree))) a.query h.grown, c);
  };
}

-- ---- where all types are kept already

-- nothing is added
pub kept_again : (K types : List Value) → IsWithin types K → Grown K K types
kept_again K types h = record { added = []; longer = sym (append-nil K); exactly = λ f. ap (sum_by f) (sym (fresh_none K types h)) }

nothing : (vs : List Value) → list_any (λ v. true) vs ≡ false → vs ≡ []
nothing [] e = refl
nothing (v ∷ vs) e = cc

-- nothing was added
pub same_types : (K K2 types : List Value) → IsWithin types K → Grown K K2 types → K2 ≡ K
same_types K K2 types h g =
    let none : g.added ≡ [] = nothing g.added (members-bag g.added (fresh K types) g.exactly (λ v. true) ∙ ap (list_any (λ v. true)) (fresh_none K types h)) in
    g.longer ∙ ap (λ vs. K ++ vs) none ∙ append-nil K

-- the size of a tree whose types are kept
pub size_again : (K : List Value) (Q : Query) (f : Field) (T : Tree) (limit : ℕ) → IsWithin (made f Q (shape T)) K → cells (asked Q) K + made_rows f Q (shape T) ≤ limit → size_beside K Q f T ≤ limit
size_again K Q f T limit h fits =
    let types = made f Q (shape T) in
    let few = within-cells (asked Q) (K ++ types) K (within-append K types K (λ p e. e) h) in
    omega (arith, few, fits)

-- the cells of exact lists
pub cells_exact : (F : Formula) (lists : List (List Value)) → IsExact F lists → list_cells (parts F) lists ≡ cells F (root F lists)
cells_exact F lists e =
    let all = exact-cells F lists [] e in
    let none = none_missing_cells F lists in
    let same = ap (cells F) (append-nil (root F lists)) in
    omega (arith, all, none, same)
