-- Rows with and without their sets, and rows that rise.
use Rattle.std.proofs.Common.{◌≡◌, ◌≤◌, ℕ, zero, suc, ◌-◌, Bool, true, false, ◌&&◌, not, int_lt, List, [], ◌∷◌, ◌++◌, map, length, refl, sym, ap, ap₂, ◌∙◌, subst, arith, Option, Some, None, nat_abs}
use Rattle.std.specs.List.{slice_get, list_all}
use Rattle.std.proofs.lemmas.Bool.{and_parts}
use Rattle.mm_tree.specs.NamedTree.{Tree}
use Rattle.mm_tree.specs.NamedTree.Tree.{Elem, Void, Join}
use Rattle.mm_tree.specs.Nodes.{named_leaf}
use Rattle.mm_checker.specs.Claims.{LeafClaims, GlueClaims}
use Rattle.mm_checker.specs.NodeLines.{Row, Rooted, Choice, TreeLine, leaf_choice, pair_of, choice, is_earlier, is_after, next_row, row_if, is_number, nothing_of}
use Rattle.mm_checker.specs.NodeLines.TreeLine.{OfLeaf, OfJoin}
use Rattle.mm_checker.specs.KeptNodes.{with_set, leaf_set, set_in, pair_set, kept_rows, rows_of, IsNode, sets_of, IsChoice, AreRising, AreLight, IsNext}
use Rattle.mm_checker.specs.declared.nodes.Choice.{Choice as KeptChoice}
use Rattle.mm_checker.specs.declared.nodes.Node.{Node}
use Rattle.mm_checker.specs.declared.nodes.Node.TheVariants as node
use Rattle.mm_checker.specs.declared.nodes.Row.{Row as KeptRow}
use Rattle.mm_checker.specs.declared.nodes.Rooted.{Rooted as KeptRooted}
use Rattle.mm_checker.specs.declared.nodes.Rooted.TheVariants as rooted
use Rattle.mm_checker.proofs.NodeLemmas.{all_at}
use Rattle.mm_logic_laws.proofs.LeastLemmas.{not_less}

-- ---- rows by place

get_some : {A B : Type 0} (f : A → B) (xs : List A) (n : ℕ) (x : A) → slice_get xs n ≡ Some x → slice_get (map f xs) n ≡ Some (f x)
get_some f [] n x e = let no : None ≡ Some x = e in cc
get_some f (y ∷ xs) zero x e = let same : y ≡ x = cc in ap (λ z. Some (f z)) same
get_some f (y ∷ xs) (suc n) x e = get_some f xs n x e

get_none : {A B : Type 0} (f : A → B) (xs : List A) (n : ℕ) → slice_get xs n ≡ None → slice_get (map f xs) n ≡ None
get_none f [] n e = refl
get_none f (y ∷ xs) zero e = let no : Some y ≡ None = e in cc
get_none f (y ∷ xs) (suc n) e = get_none f xs n e

abbrev pub own_sets : KeptRooted → ℕ → ℕ → List Bool
own_sets (rooted.Leaf l rows) = leaf_set (named_leaf l)
own_sets (rooted.Join' p l q r rows) = pair_set (rows_of l) (rows_of r)

rows_are : (R : KeptRooted) → rows_of R ≡ map (with_set (own_sets R)) (kept_rows R)
rows_are (rooted.Leaf l rows) = refl
rows_are (rooted.Join' p l q r rows) = refl

row_at : (R : KeptRooted) (n : ℕ) (r : KeptRow) → slice_get (kept_rows R) n ≡ Some r → slice_get (rows_of R) n ≡ Some (with_set (own_sets R) r)
row_at R n r e = ap (λ rows. slice_get rows n) (rows_are R) ∙ get_some (with_set (own_sets R)) (kept_rows R) n r e

no_row_at : (R : KeptRooted) (n : ℕ) → slice_get (kept_rows R) n ≡ None → slice_get (rows_of R) n ≡ None
no_row_at R n e = ap (λ rows. slice_get rows n) (rows_are R) ∙ get_none (with_set (own_sets R)) (kept_rows R) n e

-- ---- choices at a join

module _ (claims : GlueClaims) (name : List ℕ) (x y : ℕ) where
  no_pair : (b : Option Row) → IsChoice (pair_of claims name x y None b) None
  no_pair None = tt
  no_pair (Some r) = tt

  no_pair_right : (a : Option Row) → IsChoice (pair_of claims name x y a None) None
  no_pair_right None = tt
  no_pair_right (Some r) = tt

  pub pair_none_left : (L R : KeptRooted) → slice_get (kept_rows L) x ≡ None →
      IsChoice (pair_of claims name x y (slice_get (rows_of L) x) (slice_get (rows_of R) y)) None
  pair_none_left L R e =
      subst (λ a. IsChoice (pair_of claims name x y a (slice_get (rows_of R) y)) None) (sym (no_row_at L x e)) (no_pair (slice_get (rows_of R) y))

  pub pair_none_right : (L R : KeptRooted) → slice_get (kept_rows R) y ≡ None →
      IsChoice (pair_of claims name x y (slice_get (rows_of L) x) (slice_get (rows_of R) y)) None
  pair_none_right L R e =
      subst (λ b. IsChoice (pair_of claims name x y (slice_get (rows_of L) x) b) None) (sym (no_row_at R y e)) (no_pair_right (slice_get (rows_of L) x))

  pub pair_some : (L R : KeptRooted) (a b : KeptRow) (c : KeptChoice) → slice_get (kept_rows L) x ≡ Some a → slice_get (kept_rows R) y ≡ Some b →
      IsChoice (pair_of claims name x y (Some (with_set (own_sets L) a)) (Some (with_set (own_sets R) b))) (Some c) →
      IsChoice (pair_of claims name x y (slice_get (rows_of L) x) (slice_get (rows_of R) y)) (Some c)
  pair_some L R a b c e d h =
      subst (λ o. IsChoice (pair_of claims name x y o (slice_get (rows_of R) y)) (Some c)) (sym (row_at L x a e))
      (subst (λ o. IsChoice (pair_of claims name x y (Some (with_set (own_sets L) a)) o) (Some c)) (sym (row_at R y b d)) h)

pub light_at : (rows : List KeptRow) (n : ℕ) (r : KeptRow) → AreLight rows → slice_get rows n ≡ Some r → nat_abs r.weight ≤ 4611686018427387903
light_at [] n r h e = let no : None ≡ Some r = e in cc
light_at (q ∷ rows) zero r h e = let same : q ≡ r = cc in subst (λ k. nat_abs (k.weight) ≤ 4611686018427387903) same h.0
light_at (q ∷ rows) (suc n) r h e = light_at rows n r h.1 e

-- ---- rows that rise

earlier_then : (x y u v s t : ℕ) → is_earlier x y u v ≡ true → is_earlier u v s t ≡ true → is_earlier x y s t ≡ true
earlier_then x y u v s t a b = grind arith

and_true : (b : Bool) → (b && true) ≡ b
and_true true = refl
and_true false = refl

and_false : (b : Bool) → (b && false) ≡ false
and_false true = refl
and_false false = refl

last_at : (q p : KeptRow) (rows : List KeptRow) → slice_get (q ∷ p ∷ rows) (length (q ∷ p ∷ rows) - 1) ≡ slice_get (p ∷ rows) (length (p ∷ rows) - 1)
last_at q p rows =
    let n : length (q ∷ p ∷ rows) - 1 ≡ suc (length (p ∷ rows) - 1) = omega arith in
    ap (slice_get (q ∷ p ∷ rows)) n

pub follows_last : (rows : List KeptRow) (last : KeptRow) (x y : ℕ) → AreRising rows → slice_get rows (length rows - 1) ≡ Some last →
    is_earlier last.x last.y x y ≡ list_all (λ r. is_earlier r.x r.y x y) rows
follows_last [] last x y h e = let no : None ≡ Some last = e in cc
follows_last (q ∷ []) last x y h e =
    let same : q ≡ last = cc in
    subst (λ (r : KeptRow). is_earlier r.x r.y x y ≡ (is_earlier q.x q.y x y && true)) same (sym (and_true (is_earlier q.x q.y x y)))
follows_last (q ∷ p ∷ rows) last x y h e =
    let at : slice_get (p ∷ rows) (length (p ∷ rows) - 1) ≡ Some last = sym (last_at q p rows) ∙ e in
    by (is_earlier last.x last.y x y) refl (follows_last (p ∷ rows) last x y h.1 at)
    (all_at (λ z. is_earlier q.x q.y z.x z.y) (p ∷ rows) h.0 (length (p ∷ rows) - 1) last at)
  where
    by : (b : Bool) → is_earlier last.x last.y x y ≡ b → is_earlier last.x last.y x y ≡ list_all (λ r. is_earlier r.x r.y x y) (p ∷ rows)
        → is_earlier q.x q.y last.x last.y ≡ true
        → is_earlier last.x last.y x y ≡ (is_earlier q.x q.y x y && list_all (λ r. is_earlier r.x r.y x y) (p ∷ rows))
    by true f i l = f ∙ sym (ap₂ (λ a b. a && b) (earlier_then q.x q.y last.x last.y x y l f) (sym i ∙ f))
    by false f i l = f ∙ sym (ap (λ b. is_earlier q.x q.y x y && b) (sym i ∙ f) ∙ and_false (is_earlier q.x q.y x y))

last_there : (q : KeptRow) (rows : List KeptRow) → slice_get (q ∷ rows) (length (q ∷ rows) - 1) ≡ None → ⊥
last_there q [] e = let no : Some q ≡ None = e in cc
last_there q (p ∷ rows) e = last_there p rows (sym (last_at q p rows) ∙ e)

pub follows_none : (rows : List KeptRow) (x y : ℕ) → slice_get rows (length rows - 1) ≡ None → true ≡ list_all (λ r. is_earlier r.x r.y x y) rows
follows_none [] x y e = refl
follows_none (q ∷ []) x y e = let no : Some q ≡ None = e in cc
follows_none (q ∷ p ∷ rows) x y e = absurd (last_there q (p ∷ rows) e)

-- ---- the set of a choice, and the next row

nothing_at : (leaf : Tree) (y : ℕ) → nothing_of leaf ≡ leaf_set leaf 0 y
nothing_at leaf y = refl

leaf_choice_set : (least : Bool) (claims : LeafClaims) (k : ℕ) (leaf : Tree) (x y : ℕ) (c : Choice) → leaf_choice least claims k leaf x y ≡ Some c → c.set ≡ leaf_set leaf x y
leaf_choice_set least claims k leaf zero zero c e = by (leaf_choice least claims k leaf 0 0) refl e
  where
    by : (o : Option Choice) → leaf_choice least claims k leaf 0 0 ≡ o → o ≡ Some c → c.set ≡ leaf_set leaf 0 0
    by o q r = cc
leaf_choice_set true claims k (Elem name vec w) (suc zero) zero c e = cc
leaf_choice_set true claims k (Void name t) (suc zero) zero c e = cc
leaf_choice_set true claims k (Join name op l r) (suc zero) zero c e = cc
leaf_choice_set false claims k leaf (suc zero) zero c e = cc
leaf_choice_set least claims k leaf zero (suc y) c e = cc
leaf_choice_set least claims k leaf (suc zero) (suc y) c e = cc
leaf_choice_set least claims k leaf (suc (suc x)) y c e = cc

pair_choice_set : (claims : GlueClaims) (name : List ℕ) (x y : ℕ) (a b : Option Row) (c : Choice) → pair_of claims name x y a b ≡ Some c → c.set ≡ set_in a ++ set_in b
pair_choice_set claims name x y (Some a) (Some b) c e = cc
pair_choice_set claims name x y (Some a) None c e = cc
pair_choice_set claims name x y None b c e = cc

pub choice_set :
    (least : Bool) (leaves : LeafClaims) (glues : GlueClaims) (n : Node) (trees : List Rooted) (line : TreeLine) (x y : ℕ) (c : Choice) → IsNode n trees line
    → choice least leaves glues trees line x y ≡ Some c → c.set ≡ sets_of n x y
choice_set least leaves glues (node.Leaf k l) trees (OfLeaf j leaf) x y c h e =
    leaf_choice_set least leaves j leaf x y c e ∙ ap (λ T. leaf_set T x y) (sym h.1)
choice_set least leaves glues (node.Join m l r) (right ∷ left ∷ trees) (OfJoin name op) x y c h e =
    pair_choice_set glues name x y (slice_get left.rows x) (slice_get right.rows y) c e
    ∙ ap₂ (λ ls rs. pair_set ls rs x y) (sym h.1) (sym h.2)
choice_set least leaves glues (node.Leaf k l) trees (OfJoin name op) x y c h e = absurd h
choice_set least leaves glues (node.Join m l r) [] (OfLeaf j leaf) x y c h e = absurd h
choice_set least leaves glues (node.Join m l r) (right ∷ []) (OfLeaf j leaf) x y c h e = absurd h
choice_set least leaves glues (node.Join m l r) (right ∷ left ∷ trees) (OfLeaf j leaf) x y c h e = absurd h
choice_set least leaves glues (node.Join m l r) [] (OfJoin name op) x y c h e = absurd h
choice_set least leaves glues (node.Join m l r) (right ∷ []) (OfJoin name op) x y c h e = absurd h

after_same : (g : ℕ → ℕ → List Bool) (rows : List KeptRow) (x y : ℕ) → is_after (map (with_set g) rows) x y ≡ list_all (λ r. is_earlier r.x r.y x y) rows
after_same g [] x y = refl
after_same g (r ∷ rows) x y = ap (λ b. is_earlier r.x r.y x y && b) (after_same g rows x y)

module _ (g : ℕ → ℕ → List Bool) (row : KeptRow) where
  pub next_none : (rows : List Row) (o : Option Choice) → IsChoice o None → IsNext g row (next_row rows row.x row.y o row.value row.weight) false
  next_none rows None h = refl
  next_none rows (Some c) h = absurd h

  row_same : (t : Bool) (c : Choice) → t ≡ true → row_if t row.value row.x row.y c
      ≡ Some (record { value = row.value; weight = c.weight; x = row.x; y = row.y; set = c.set })
  row_same t c e = ap (λ b. row_if b row.value row.x row.y c) e

  no_row : (t : Bool) (c : Choice) → t ≡ false → row_if t row.value row.x row.y c ≡ None
  no_row t c e = ap (λ b. row_if b row.value row.x row.y c) e

  pub next_other : (rows : List Row) (o : Option Choice) (d : KeptChoice) → IsChoice o (Some d)
      → (is_number d.value row.value && not (int_lt d.weight row.weight) && not (int_lt row.weight d.weight)) ≡ false
      → IsNext g row (next_row rows row.x row.y o row.value row.weight) false
  next_other rows None d h e = absurd h
  next_other rows (Some c) d h e =
      let own : (is_number c.value row.value && not (int_lt c.weight row.weight) && not (int_lt row.weight c.weight)) ≡ false =
      subst (λ w. (is_number c.value row.value && not (int_lt w row.weight) && not (int_lt row.weight w)) ≡ false) h.1
      (subst (λ v. (is_number v row.value && not (int_lt d.weight row.weight) && not (int_lt row.weight d.weight)) ≡ false) h.0 e) in
      subst (λ r. IsNext g row r false) (sym (no_row _ c (ap (λ b. b && is_after rows row.x row.y) own))) refl

  pub next_one : (rows : List KeptRow) (o : Option Choice) (d : KeptChoice) (after : Bool) → IsChoice o (Some d)
      → ((c : Choice) → o ≡ Some c → c.set ≡ g row.x row.y)
      → (is_number d.value row.value && not (int_lt d.weight row.weight) && not (int_lt row.weight d.weight)) ≡ true
      → after ≡ list_all (λ r. is_earlier r.x r.y row.x row.y) rows
      → IsNext g row (next_row (map (with_set g) rows) row.x row.y o row.value row.weight) after
  next_one rows None d after h sets e a = absurd h
  next_one rows (Some c) d after h sets e a =
      let own : (is_number c.value row.value && not (int_lt c.weight row.weight) && not (int_lt row.weight c.weight)) ≡ true =
      subst (λ w. (is_number c.value row.value && not (int_lt w row.weight) && not (int_lt row.weight w)) ≡ true) h.1
      (subst (λ v. (is_number v row.value && not (int_lt d.weight row.weight) && not (int_lt row.weight d.weight)) ≡ true) h.0 e) in
      let p = and_parts (is_number c.value row.value && not (int_lt c.weight row.weight)) (not (int_lt row.weight c.weight)) own in
      let q = and_parts (is_number c.value row.value) (not (int_lt c.weight row.weight)) p.0 in
      let w : c.weight ≡ row.weight = not_less c.weight row.weight (not_is (int_lt c.weight row.weight) q.1) (not_is (int_lt row.weight c.weight) p.1) in
      let test : (is_number c.value row.value && not (int_lt c.weight row.weight) && not (int_lt row.weight c.weight) && is_after (map (with_set g) rows) row.x row.y) ≡ after =
      ap₂ (λ a b. a && b) own (after_same g rows row.x row.y ∙ sym a) in
      by after (λ b. b) c test w (sets c refl)
    where
      not_is : (b : Bool) → not b ≡ true → b ≡ false
      not_is false e = refl
      not_is true e = let no : false ≡ true = e in cc

      by : (after : Bool) → (Bool → Bool) → (c : Choice)
          → (is_number c.value row.value && not (int_lt c.weight row.weight) && not (int_lt row.weight c.weight) && is_after (map (with_set g) rows) row.x row.y) ≡ after
          → c.weight ≡ row.weight → c.set ≡ g row.x row.y → IsNext g row (next_row (map (with_set g) rows) row.x row.y (Some c) row.value row.weight) after
      by true k c t w z = subst (λ r. IsNext g row r true) (sym (row_same _ c t))
          (refl, ap₂ (λ w s. record { value = row.value; weight = w; x = row.x; y = row.y; set = s }) w z)
      by false k c t w z = subst (λ r. IsNext g row r false) (sym (no_row _ c t)) refl
