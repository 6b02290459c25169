-- What an edit does to a session.
use Rattle.std.proofs.Common.{◌≡◌, ◌≤◌, ◌+◌, ℕ, ℤ, true, if◌then◌else◌, List, length, refl, sym, ap, ◌∙◌, subst, arith, Option, Some, None, Result, Ok, Err}
use Rattle.std.specs.Prelude.{OnOk, OnErr, IfErr}
use Rattle.mm_field.specs.declared.Field.{Field}
use Rattle.mm_logic.specs.Formula.{Formula}
use Rattle.mm_logic.specs.Growth.{Grown}
use Rattle.mm_logic.specs.StateSize.{Query, asked}
use Rattle.mm_logic.specs.StateSize.Query.{Decide, Least}
use Rattle.mm_states.specs.Letters as letters
use Rattle.mm_tree.specs.NamedTree.{Tree, shape, nodes, element_names, is_one_of}
use Rattle.mm_tree.specs.Paths.{Path, path_to, node_at, with_node, with_weight}
use Rattle.mm_tree.specs.Places.{path_of, path_above, place_at_end, IsPlaceOf}
use Rattle.mm_tree.specs.Replacing.{Answers, replace_fault}
use Rattle.mm_tree.specs.TreeValue.{TreeValue}
use Rattle.mm_tree.specs.ValidTree.{IsValidTree}
use Rattle.mm_tree.specs.Weights.{weight_named}
use Rattle.mm_tree.specs.declared.place.Place.{Place}
use Rattle.mm_tree.specs.declared.replace.ReplaceFault.{ReplaceFault}
use Rattle.mm_tree.specs.declared.replace.ReplaceFault.TheVariants as tree
use Rattle.mm_tree.proofs.ReplaceLemmas.{path_is}
use Rattle.mm_nodes.specs.Demands.{made}
use Rattle.mm_nodes.specs.declared.TheConstants.{MAX_LIMIT}
use Rattle.mm_nodes.specs.declared.keeps.KeepFault.{KeepFault}
use Rattle.mm_nodes.specs.declared.keeps.KeepFault.TheVariants.{Full, NoMemory}
use Rattle.mm_edit.specs.declared.fault.EditFault.{EditFault}
use Rattle.mm_edit.specs.declared.fault.EditFault.TheVariants as edit
use Rattle.mm_edit.specs.declared.query.Query.{Query as Kind}
use Rattle.mm_edit.specs.declared.query.Query.TheVariants as kinds
use Rattle.mm_edit.specs.KeptTypes.{IsOver, StandBeside}
use Rattle.mm_edit.specs.SessionValue.{SessionValue}
use Rattle.mm_edit.specs.Edits.{Applied, Accepted, Edits, edit_fault, unless_fault, exchanged, exchanged_at, reweighted, reweighted_at, query_of}
use Rattle.mm_edit.specs.SessionView.{StatesValue, AreAlike, Keep, Renewed, IsKept, Stand, types_of, session_value, edited, path_steps, reweigh_steps}
use Rattle.mm_edit.proofs.BesideLemmas.{beside_exchange}
use Rattle.mm_edit.proofs.ExchangeLemmas.{way_kept, place_kept, put_number, back_number, fits_number}
use Rattle.mm_edit.proofs.KeptLemmas.{went_on, same_types}
use Rattle.mm_edit.proofs.PlaceLemmas.{found_way}
use Rattle.mm_edit.proofs.WeightLemmas.{path_there, shape_stays, weight_back}

pub tree_is : (x : TreeValue) (f : Field) (U : Tree) → x.f ≡ f → x.tree ≡ U → x ≡ record { f = f; tree = U }
tree_is x f U p q = λ i. record { f = p i; tree = q i }

pub both_ok : {E P Q S : Type 0} (r : Result (Unit {0}) E) → OnOk r P → OnOk r Q → (P → Q → S) → OnOk r S
both_ok (Ok u) p q f = f p q
both_ok (Err e) p q f = tt

pub on_err : {E P Q : Type 0} (r : Result (Unit {0}) E) → OnErr r P → (P → Q) → OnErr r Q
on_err (Ok u) p f = tt
on_err (Err e) p f = f p

accepted : (v w : StatesValue) (T : TreeValue) (U : Tree) (n m : ℕ) → AreAlike v w → Renewed v w (record { f = T.f; tree = U }) n m → Accepted (session_value v T n) (session_value w (record { f = T.f; tree = U }) m) U
accepted v w T U n m a h = record { tree = refl; query = a.query; limit = a.limit; size = h.size; kept = h.types }

same_session : (v w : StatesValue) (T x : TreeValue) (n m : ℕ) → w ≡ v → x ≡ T → m ≡ n → session_value w x m ≡ session_value v T n
same_session v w T x n m a b c = λ i. session_value (a i) (b i) (c i)

-- What an edit leaves: where what is kept was renewed for the tree after it, this tree; else the tree before.
pub edit_done : (v w : StatesValue) (T mid x : TreeValue) (U : Tree) (n m limit cost : ℕ) (r : Result (Unit {0}) KeepFault) → AreAlike v w → IsKept v T limit → mid ≡ record { f = T.f; tree = U }
    → OnOk r (Renewed v w mid n m) → OnErr r (w ≡ v) → OnErr r (m ≡ n) → IfErr r (λ e. e ≡ Full → IsOver v.query mid.f mid.tree limit) → OnOk r (x ≡ mid) → OnErr r (x ≡ T)
    → IsKept w x limit × Edits (session_value v T n) (session_value w x m) (Ok (record { tree = U; cost = cost })) (edited r)
edit_done v w T mid x U n m limit cost (Ok u) a k e h p q full s t = (
  subst (λ y. IsKept w y limit) (sym s) (subst (λ l. IsKept w mid l) k.limits h.kept),
  subst (λ y. Accepted (session_value v T n) (session_value w y m) U) (sym (s ∙ e)) (accepted v w T U n m a (subst (λ y. Renewed v w y n m) e h)),
)
edit_done v w T mid x U n m limit cost (Err Full) a k e h p q full s t = (
  subst (λ y. IsKept w y limit) (sym t) (subst (λ z. IsKept z T limit) (sym p) k),
  (same_session v w T x n m p t q, refl, subst (λ l. IsOver v.query T.f U l) (sym k.limits) (subst (λ (y : TreeValue). IsOver v.query y.f y.tree limit) e (full refl))),
)
edit_done v w T mid x U n m limit cost (Err NoMemory) a k e h p q full s t =
    (subst (λ y. IsKept w y limit) (sym t) (subst (λ z. IsKept z T limit) (sym p) k), same_session v w T x n m p t q)

-- ---- refusals

pub no_memory : (s : SessionValue) (applied : Result Applied EditFault) → Edits s s applied (Err edit.NoMemory)
no_memory s (Ok a) = refl
no_memory s (Err e) = refl

refused : (s : SessionValue) (applied : Result Applied EditFault) (fault : ReplaceFault) (o : Option ReplaceFault) → (o ≡ Some fault → applied ≡ Err (edit_fault fault)) → Answers (Err fault) o → Edits s s applied (Err (edit_fault fault))
refused s applied (tree.Boundary a b) o h e = subst (λ x. Edits s s x (Err (edit.Boundary a b))) (sym (h e)) (refl, refl)
refused s applied (tree.NameTaken name) o h e = subst (λ x. Edits s s x (Err (edit.NameTaken name))) (sym (h e)) (refl, refl)
refused s applied tree.TooManyLeaves o h e = subst (λ x. Edits s s x (Err edit.TooManyLeaves)) (sym (h e)) (refl, refl)
refused s applied tree.TooDeep o h e = subst (λ x. Edits s s x (Err edit.TooDeep)) (sym (h e)) (refl, refl)
refused s applied tree.NoMemory o h e = no_memory s applied

-- the exchange at the place that was found
module _ (name : List ℕ) (up : ℕ) (new T : Tree) (place : Place) (found : Some place ≡ place_at_end T (path_above name up T)) where
  at_place : exchanged name up new T ≡ unless_fault (replace_fault T (path_of place.number T) new) (record { tree = with_node T (path_of place.number T) new; cost = length (path_of place.number T) + nodes new })
  at_place = ap (exchanged_at name up new T) (found_way name up T place found)

  pub exchange_allowed : IsPlaceOf T place → replace_fault T (path_of place.number T) new ≡ None → exchanged name up new T ≡ Ok (record { tree = with_node T (path_of place.number T) new; cost = place.depth + nodes new })
  exchange_allowed is fits =
      at_place ∙ ap (λ o. unless_fault o (record { tree = with_node T (path_of place.number T) new; cost = length (path_of place.number T) + nodes new })) fits
      ∙ ap (λ d. Ok (record { tree = with_node T (path_of place.number T) new; cost = d + nodes new })) (sym is.deep)

  pub exchange_refused : (s : SessionValue) (fault : ReplaceFault) → Answers (Err fault) (replace_fault T (path_of place.number T) new) → Edits s s (exchanged name up new T) (Err (edit_fault fault))
  exchange_refused s fault h =
      refused s (exchanged name up new T) fault (replace_fault T (path_of place.number T) new)
      (λ e. at_place ∙ ap (λ o. unless_fault o (record { tree = with_node T (path_of place.number T) new; cost = length (path_of place.number T) + nodes new })) e) h

-- ---- the place of an exchange, in the tree after it

module _ (T mid : Tree) (new : Tree) (place : Place) (is : IsPlaceOf T place) (e : mid ≡ with_node T (path_of place.number T) new) where
  pub exchange_place : IsPlaceOf mid place
  exchange_place = subst (λ t. IsPlaceOf t place) (sym e) (place_kept T new place is)

  pub exchange_size : nodes (node_at mid (path_of place.number mid)) ≡ nodes new
  exchange_size = ap (λ t. nodes (node_at t (path_of place.number t))) e ∙ ap nodes (put_number place.number T new is.within)

  pub exchange_back : with_node mid (path_of place.number mid) (node_at T (path_of place.number T)) ≡ T
  exchange_back = ap (λ t. with_node t (path_of place.number t) (node_at T (path_of place.number T))) e ∙ back_number place.number T new is.within

  pub exchange_fits : (f : Field) → IsValidTree f T → replace_fault T (path_of place.number T) new ≡ None → replace_fault mid (path_of place.number mid) (node_at T (path_of place.number T)) ≡ None
  exchange_fits f v h = ap (λ t. replace_fault t (path_of place.number t) (node_at T (path_of place.number T))) e ∙ fits_number f place.number T new is.within v h

  pub exchange_beside : (v : StatesValue) (f : Field) → Stand v f T → StandBeside v.query f v.lists (path_of place.number mid) mid v.entries
  exchange_beside v f h =
      subst (λ t. StandBeside v.query f v.lists (path_of place.number t) t v.entries) (sym e)
      (subst (λ p. StandBeside v.query f v.lists p (with_node T (path_of place.number T) new) v.entries) (sym (way_kept place.number T new is.within).1)
      (beside_exchange v.query f v.lists T new (path_of place.number T) v.entries (path_is place.number T) h.stands))

tree_alike : (x T : TreeValue) → x.f ≡ T.f → x.tree ≡ T.tree → x ≡ T
tree_alike x T p q = λ i. record { f = p i; tree = q i }

-- what an exchange leaves
pub exchange_done : (v w : StatesValue) (T mid x : TreeValue) (old new : Tree) (place : Place) (n m limit cost : ℕ) (r : Result (Unit {0}) KeepFault) → AreAlike v w → IsKept v T limit → IsPlaceOf T.tree place
    → mid.f ≡ T.f → mid.tree ≡ with_node T.tree (path_of place.number T.tree) new → old ≡ node_at T.tree (path_of place.number T.tree)
    → OnOk r (Renewed v w mid n m) → OnErr r (w ≡ v) → OnErr r (m ≡ n) → IfErr r (λ e. e ≡ Full → IsOver v.query mid.f mid.tree limit)
    → OnOk r (x ≡ mid) → x.f ≡ mid.f → OnErr r (x.tree ≡ with_node mid.tree (path_of place.number mid.tree) old)
    → IsKept w x limit × Edits (session_value v T n) (session_value w x m) (Ok (record { tree = with_node T.tree (path_of place.number T.tree) new; cost = cost })) (edited r)
exchange_done v w T mid x old new place n m limit cost r a k is f e o h p q full s g t =
    edit_done v w T mid x (with_node T.tree (path_of place.number T.tree) new) n m limit cost r a k (tree_is mid T.f (with_node T.tree (path_of place.number T.tree) new) f e) h p q full s
    (on_err r t (λ back. tree_alike x T (g ∙ f) (back ∙ ap (with_node mid.tree (path_of place.number mid.tree)) o ∙ exchange_back T.tree mid.tree new place is e)))

-- ---- another weight

-- another weight of an element
pub reweight_allowed : (name : List ℕ) (weight : ℤ) (T : Tree) → is_one_of name (element_names T) ≡ true → reweighted name weight T ≡ Ok (record { tree = with_weight name weight T; cost = path_steps (path_to name T) })
reweight_allowed name weight T e =
    let there = path_there name T e in
    ap (λ b. if b then reweighted_at name weight T (path_to name T) else Err (edit.UnknownName name)) e
    ∙ ap (reweighted_at name weight T) there.1 ∙ sym (ap (λ o. Ok (record { tree = with_weight name weight T; cost = path_steps o })) there.1)

pub few_steps : (Q : Query) (o : Option Path) → reweigh_steps Q o ≤ path_steps o
few_steps (Decide F) o = omega arith
few_steps (Least F) o = omega arith

never : (r : Result (Unit {0}) KeepFault) (P : Type 0) → (r ≡ Err Full → ⊥) → IfErr r (λ e. e ≡ Full → P)
never (Ok u) P h = tt
never (Err Full) P h = λ e. absurd (h refl)
never (Err NoMemory) P h = λ e. cc

-- what another weight leaves
pub reweigh_done : (v w : StatesValue) (T mid x : TreeValue) (name : List ℕ) (weight before : ℤ) (n limit cost : ℕ) (r : Result (Unit {0}) KeepFault) → AreAlike v w → IsKept v T limit → IsValidTree T.f T.tree
    → weight_named name T.tree ≡ Some before → mid.f ≡ T.f → mid.tree ≡ with_weight name weight T.tree
    → OnOk r (Keep w (types_of v) mid.f mid.tree v.limit) → OnErr r (w ≡ v) → (r ≡ Err Full → ⊥)
    → OnOk r (x ≡ mid) → x.f ≡ mid.f → OnErr r (x.tree ≡ with_weight name before mid.tree)
    → IsKept w x limit × Edits (session_value v T n) (session_value w x n) (Ok (record { tree = with_weight name weight T.tree; cost = cost })) (edited r)
reweigh_done v w T mid x name weight before n limit cost r a k valid b f e h p fits s g t =
    let over = subst (λ y. letters.IsOver (asked v.query) v.field y) (sym f) k.over in
    edit_done v w T mid x (with_weight name weight T.tree) n n limit cost r a k (tree_is mid T.f (with_weight name weight T.tree) f e)
    (both_ok r h h (λ keep _. went_on v w mid n a (subst (λ l. l ≤ MAX_LIMIT) (sym k.limits) k.limited) over keep)) p (always r)
    (never r (IsOver v.query mid.f mid.tree limit) fits) s
    (on_err r t (λ back. tree_alike x T (g ∙ f) (back ∙ ap (with_weight name before) e ∙ weight_back T.f name weight before T.tree valid b)))
  where
    always : (r : Result (Unit {0}) KeepFault) → OnErr r (n ≡ n)
    always (Ok u) = tt
    always (Err e) = refl

-- the kept types stay
pub reweigh_types : (v w : StatesValue) (T mid : TreeValue) (name : List ℕ) (weight : ℤ) (limit : ℕ) (r : Result (Unit {0}) KeepFault) → AreAlike v w → IsKept v T limit → mid.f ≡ T.f → mid.tree ≡ with_weight name weight T.tree
    → OnOk r (Keep w (types_of v) mid.f mid.tree v.limit) → OnErr r (w ≡ v) → types_of w ≡ types_of v
reweigh_types v w T mid name weight limit (Ok u) a k f e h p =
    same_types (types_of v) (types_of w) (made T.f v.query (shape T.tree)) k.within
    (subst (λ y. Grown (types_of v) (types_of w) (made y v.query (shape T.tree))) f
    (subst (λ S. Grown (types_of v) (types_of w) (made mid.f v.query S)) (ap shape e ∙ shape_stays name weight T.tree)
    (subst (λ Q. Grown (types_of v) (types_of w) (made mid.f Q (shape mid.tree))) a.query h.grown)))
reweigh_types v w T mid name weight limit (Err e) a k f e2 h p = ap types_of p

-- the formula that is asked of
pub asked_of : (kind : Kind) (F : Formula) → asked (query_of kind F) ≡ F
asked_of kinds.Decide F = refl
asked_of kinds.Least F = refl

pub more_steps : (a b c d : ℕ) → a ≤ b + c → a ≤ b + (c + d)
more_steps a b c d h = omega (arith, h)
