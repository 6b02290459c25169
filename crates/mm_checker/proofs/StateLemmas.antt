-- What is true of the lines so far stays true with each line that passes.
use Rattle.std.proofs.Common.{◌≡◌, ℕ, ◌+◌, ◌<◌, ◌==◌, Bool, true, false, not, ◌&&◌, ◌||◌, List, [], ◌∷◌, ◌++◌, map, length, reverse, Option, Some, None, refl, sym, ap, ap₂, ◌∙◌, subst, append_assoc, append-nil}
use Rattle.std.specs.List.{slice_get, list_any, list_all}
use Rattle.std.specs.Option.{is_some}
use Rattle.std.proofs.lemmas.Bool.{and_parts}
use Rattle.std.proofs.lemmas.List.{reverse-append, length-reverse, length-append}
use Rattle.mm_logic.specs.Formula.{Formula}
use Rattle.mm_logic.specs.JoinRule.{join_type}
use Rattle.mm_logic.specs.Operator.{Op}
use Rattle.mm_logic.specs.Value.{Value}
use Rattle.mm_tree.specs.NamedTree.{Tree}
use Rattle.mm_tree.specs.NamedTree.Tree.{Elem, Void, Join}
use Rattle.mm_checker.specs.Places.{places, first_part, second_part}
use Rattle.mm_checker.specs.Contents.{meaning, value_of, is_value, is_of_place, are_members, is_rising, content_at, with_members, unless_bad, flag_content, flag_at, is_ind, is_over_sets, is_over_elements, first_of, pair_at, is_same}
use Rattle.mm_checker.specs.Claims.{LeafClaims, GlueClaims, leaf_content, glue_content, marks_of, leaf_type, has_element, claimed, is_same_leaf, is_same_glue, are_spaces_of}
use Rattle.mm_checker.specs.NodeLines.{TreeLine, Rooted, Choice, choice, lines_from, leaves}
use Rattle.mm_checker.specs.NodeLines.TreeLine.{OfLeaf, OfJoin}
use Rattle.mm_checker.specs.Certificates.{Subject, Stage, Begun, State, start, ◌>>=◌, only_if, closed, ended, before_claims, before_nodes, opened, val_line, more_line, content_of, leaf_line, op_named, glue_line}
use Rattle.mm_checker.specs.Certificates.Stage.{Values, Claims, Nodes}
use Rattle.mm_checker.specs.Laws.{IsSubject, NamesOne}
use Rattle.mm_checker.specs.declared.certificate.Content.{Content}
use Rattle.mm_checker.specs.declared.certificate.Content.TheVariants as content
use Rattle.mm_cert_lines.specs.declared.certificate.GlueKey.{GlueKey}
use Rattle.mm_cert_lines.specs.declared.certificate.LeafKey.{LeafKey}
use Rattle.mm_cert_lines.specs.declared.certificate.Stated.{Stated}
use Rattle.mm_cert_lines.specs.declared.certificate.Stated.TheVariants as stated
use Rattle.mm_checker.specs.declared.certificate.Valued.{Valued}
use Rattle.mm_checker.proofs.PlaceLemmas.{begins}
use Rattle.mm_checker.proofs.MeaningLemmas.{AreBelow, IsBelow, AreGrounded, meaning_is}
use Rattle.mm_checker.proofs.RuleLemmas.{Each, each-push, same_content, IsTrueAtLeaf, IsTrueAtJoin, leaf_rule, glue_rule}
use Rattle.mm_checker.proofs.NodeLemmas.{Stands, AreChosen, at_below}

-- ---- steps that give something

pub bind_is : {A B : Type 0} (x : Option A) (g : A → Option B) (y : B) → (x >>= g) ≡ Some y → (a : A) × (x ≡ Some a) × (g a ≡ Some y)
bind_is None g y e = let no : None ≡ Some y = e in cc
bind_is (Some a) g y e = (a, refl, e)

pub only_if_is : {A : Type 0} (b : Bool) (x y : A) → only_if b x ≡ Some y → (b ≡ true) × (x ≡ y)
only_if_is false x y e = let no : None ≡ Some y = e in cc
only_if_is true x y e = (refl, cc)

good_is : (b : Bool) (c d : Content) → unless_bad b c ≡ Some d → (b ≡ true) × (c ≡ d)
good_is true c d e = (refl, cc)
good_is false c d e = let no : None ≡ Some d = e in cc

-- ---- contents name lower numbers

value_below : (values : List Valued) (p n : ℕ) → is_value values p n ≡ true → n < length values
value_below values p n h = by (slice_get values n) refl h
  where
    by : (o : Option Valued) → slice_get values n ≡ o → is_of_place p o ≡ true → n < length values
    by None e h = let no : false ≡ true = h in cc
    by (Some v) e h = at_below values n v e

all_below : (values : List Valued) (p : ℕ) (ns : List ℕ) → list_all (is_value values p) ns ≡ true → AreBelow (length values) ns
all_below values p [] h = tt
all_below values p (n ∷ ns) h =
    let both = and_parts (is_value values p n) (list_all (is_value values p) ns) h in
    (value_below values p n both.0, all_below values p ns both.1)

members_below : (values : List Valued) (p : ℕ) (ns : List ℕ) → are_members values p ns ≡ true → AreBelow (length values) ns
members_below values p ns h = all_below values p ns (and_parts (list_all (is_value values p) ns) (is_rising ns) h).0

pair_below : (values : List Valued) (p a b : ℕ) (o : Option Formula) (c : Content) → pair_at values p a b o ≡ Some c → IsBelow (length values) c
pair_below values p a b None c e = let no : None ≡ Some c = e in cc
pair_below values p a b (Some F) c e =
    let h = good_is (is_value values (first_part p) a && is_value values (second_part p F) b) (content.Parts a b) c e in
    let both = and_parts (is_value values (first_part p) a) (is_value values (second_part p F) b) h.0 in
    subst (IsBelow (length values)) h.1 (value_below values (first_part p) a both.0, value_below values (second_part p F) b both.1)

flag_below : (n : ℕ) (o : Option ℕ) (c : Content) → flag_content o ≡ Some c → IsBelow n c
flag_below n None c e = let no : None ≡ Some c = e in cc
flag_below n (Some k) c e = let at : content.Flag k ≡ c = cc in subst (IsBelow n) at tt

content_below : (values : List Valued) (p : ℕ) (F : Formula) (s : Stated) (c : Content) → content_at values p F s ≡ Some c → IsBelow (length values) c
content_below values p F (stated.Word w) c e = flag_below (length values) (flag_at F w) c e
content_below values p F stated.Dead c e = subst (IsBelow (length values)) (good_is (is_ind F) content.Dead c e).1 tt
content_below values p F (stated.Space key) c e = subst (IsBelow (length values)) (good_is (is_ind F) (content.Space key) c e).1 tt
content_below values p F (stated.Pair a b) c e = pair_below values p a b (first_of F) c e
content_below values p F (stated.Set ns) c e =
    let h = good_is (is_over_sets F && are_members values (first_part p) ns) (content.SetOf ns) c e in
    subst (IsBelow (length values)) h.1 (members_below values (first_part p) ns (and_parts (is_over_sets F) (are_members values (first_part p) ns) h.0).1)
content_below values p F (stated.One a ns) c e =
    let h = good_is (is_over_elements F && is_value values (first_part p) a && are_members values (first_part p) ns) (content.OneOf a ns) c e in
    let both = and_parts (is_over_elements F && is_value values (first_part p) a) (are_members values (first_part p) ns) h.0 in
    subst (IsBelow (length values)) h.1
    (value_below values (first_part p) a (and_parts (is_over_elements F) (is_value values (first_part p) a) both.0).1, members_below values (first_part p) ns both.1)

more_below : (values : List Valued) (p : ℕ) (c : Content) (ms : List ℕ) (d : Content) → IsBelow (length values) c → with_members values p c ms ≡ Some d → IsBelow (length values) d
more_below values p (content.SetOf ns) ms d b e =
    let h = good_is (are_members values (first_part p) (ns ++ ms)) (content.SetOf (ns ++ ms)) d e in
    subst (IsBelow (length values)) h.1 (members_below values (first_part p) (ns ++ ms) h.0)
more_below values p (content.OneOf a ns) ms d b e =
    let h = good_is (are_members values (first_part p) (ns ++ ms)) (content.OneOf a (ns ++ ms)) d e in
    subst (IsBelow (length values)) h.1 (b.0, members_below values (first_part p) (ns ++ ms) h.0)
more_below values p (content.Flag n) ms d b e = let no : None ≡ Some d = e in cc
more_below values p content.Dead ms d b e = let no : None ≡ Some d = e in cc
more_below values p (content.Space k) ms d b e = let no : None ≡ Some d = e in cc
more_below values p (content.Parts i j) ms d b e = let no : None ≡ Some d = e in cc

-- ---- the order of nodes

-- the tree that lines make, after trees of which the last stands first
abbrev pub tree_of : List Tree → List TreeLine → Option Tree
tree_of (T ∷ []) [] = Some T
tree_of ts [] = None
tree_of ts (OfLeaf k leaf ∷ nodes) = tree_of (leaf ∷ ts) nodes
tree_of (r ∷ l ∷ ts) (OfJoin name op ∷ nodes) = tree_of (Join name op l r ∷ ts) nodes
tree_of ts (OfJoin name op ∷ nodes) = None

tree_of-lines : (T : Tree) (k : ℕ) (ts : List Tree) (nodes : List TreeLine) → tree_of ts (lines_from k T ++ nodes) ≡ tree_of (T ∷ ts) nodes
tree_of-lines (Elem name vec w) k ts nodes = refl
tree_of-lines (Void name t) k ts nodes = refl
tree_of-lines (Join name op l r) k ts nodes =
    let n = k + length (leaves l) in
    ap (tree_of ts) (append_assoc (lines_from k l) (lines_from n r ++ OfJoin name op ∷ []) nodes)
    ∙ tree_of-lines l k ts ((lines_from n r ++ OfJoin name op ∷ []) ++ nodes)
    ∙ ap (tree_of (l ∷ ts)) (append_assoc (lines_from n r) (OfJoin name op ∷ []) nodes)
    ∙ tree_of-lines r n (l ∷ ts) (OfJoin name op ∷ nodes)

-- ---- what is true of the lines so far

abbrev pub meant : State → ℕ → Value
meant st n = meaning st.values n

-- the line of the node that is begun
abbrev pub begun_line : Option Begun → List TreeLine
begun_line None = []
begun_line (Some b) = b.node ∷ []

abbrev pub trees_of : List Rooted → List Tree
trees_of rooted = map (λ d. d.tree) rooted

-- a line of the tree: its leaf has its number, and its operator is that of its name
abbrev pub IsLineOf : Tree → TreeLine → Type 0
IsLineOf T (OfLeaf k (Elem name vec w)) = slice_get (leaves T) k ≡ Some (Elem name vec w)
IsLineOf T (OfLeaf k (Void name t)) = slice_get (leaves T) k ≡ Some (Void name t)
IsLineOf T (OfLeaf k (Join name op l r)) = ⊥
IsLineOf T (OfJoin name op) = op_named name T ≡ Some op

abbrev pub AreLinesOf : Tree → List TreeLine → Type 0
AreLinesOf T [] = Unit {0}
AreLinesOf T (node ∷ nodes) = IsLineOf T node × AreLinesOf T nodes

abbrev pub chosen_at : Subject → State → TreeLine → ℕ → ℕ → Option Choice
chosen_at s st node x y = choice s.least st.leaf_claims st.glue_claims st.trees node x y

abbrev pub IsPending : ℕ → Option Valued → Type 0
IsPending n None = Unit {0}
IsPending n (Some v) = IsBelow n v.content

abbrev pub AllStand : Subject → (ℕ → Value) → List Rooted → Type 0
AllStand s g [] = Unit {0}
AllStand s g (d ∷ ds) = Stands s.least s.f s.formula g d.tree d.rows × AllStand s g ds

abbrev pub HasChosen : Subject → State → Option Begun → Type 0
HasChosen s st None = Unit {0}
HasChosen s st (Some b) = AreChosen s.least s.f s.formula (meant st) (chosen_at s st b.node) b.rows

-- The claims are true, what is done stands, the node that is begun has choices as rows, and the lines to come make the whole tree.
pub record IsSound (s : Subject) (st : State) : Type 0 where
  pub grounded : AreGrounded (reverse st.values)
  pub pending : IsPending (length st.values) st.unended
  pub settled : before_claims st.stage ≡ false → st.unended ≡ None
  pub bare : before_claims st.stage ≡ true → (st.leaf_claims ≡ []) × (st.glue_claims ≡ [])
  pub treeless : before_nodes st.stage ≡ true → (st.trees ≡ []) × (st.begun ≡ None)
  pub leaf_true : Each (IsTrueAtLeaf s.f (places s.formula) (leaves s.tree) (meant st)) st.leaf_claims
  pub glue_true : Each (IsTrueAtJoin s.f (places s.formula) (λ name. op_named name s.tree) (meant st)) st.glue_claims
  pub standing : AllStand s (meant st) st.trees
  pub rows : HasChosen s st st.begun
  pub order : tree_of (trees_of st.trees) (begun_line st.begun ++ st.to_come) ≡ Some s.tree
  pub lines : AreLinesOf s.tree (begun_line st.begun ++ st.to_come)

-- ---- the start

at_end : {A : Type 0} (pre : List A) (x : A) (post : List A) → slice_get (pre ++ x ∷ post) (length pre) ≡ Some x
at_end [] x post = refl
at_end (y ∷ pre) x post = at_end pre x post

lines-append : (whole : Tree) (xs ys : List TreeLine) → AreLinesOf whole xs → AreLinesOf whole ys → AreLinesOf whole (xs ++ ys)
lines-append whole [] ys h k = k
lines-append whole (x ∷ xs) ys h k = (h.0, lines-append whole xs ys h.1 k)

leaves_at : (pre : List Tree) (T : Tree) (post : List Tree) (whole : Tree) → leaves whole ≡ pre ++ (leaves T ++ post) → NamesOne whole T
    → AreLinesOf whole (lines_from (length pre) T)
leaves_at pre (Elem name vec w) post whole e h = (ap (λ xs. slice_get xs (length pre)) e ∙ at_end pre (Elem name vec w) post, tt)
leaves_at pre (Void name t) post whole e h = (ap (λ xs. slice_get xs (length pre)) e ∙ at_end pre (Void name t) post, tt)
leaves_at pre (Join name op l r) post whole e h =
    lines-append whole (lines_from (length pre) l) (lines_from (length pre + length (leaves l)) r ++ OfJoin name op ∷ [])
    (leaves_at pre l (leaves r ++ post) whole (e ∙ ap (λ xs. pre ++ xs) (append_assoc (leaves l) (leaves r) post)) h.1)
    (lines-append whole (lines_from (length pre + length (leaves l)) r) (OfJoin name op ∷ [])
    (subst (λ n. AreLinesOf whole (lines_from n r)) (length-append pre (leaves l))
    (leaves_at (pre ++ leaves l) r post whole
    (e ∙ ap (λ xs. pre ++ xs) (append_assoc (leaves l) (leaves r) post) ∙ sym (append_assoc pre (leaves l) (leaves r ++ post))) h.2))
    (h.0, tt))

pub start_sound : (s : Subject) → IsSubject s → IsSound s (start s)
start_sound s h = record {
  grounded = tt;
  pending = tt;
  settled = λ e. refl;
  bare = λ e. (refl, refl);
  treeless = λ e. (refl, refl);
  leaf_true = tt;
  glue_true = tt;
  standing = tt;
  rows = tt;
  order = ap (tree_of []) (sym (append-nil (lines_from 0 s.tree))) ∙ tree_of-lines s.tree 0 [] [];
  lines = leaves_at [] s.tree [] s.tree (sym (append-nil (leaves s.tree))) h.one_each;
}

-- ---- a value ends

grounded-push : (values : List Valued) (v : Valued) → AreGrounded (reverse values) → IsBelow (length values) v.content → AreGrounded (reverse (values ++ v ∷ []))
grounded-push values v h b =
    subst AreGrounded (sym (reverse-append values (v ∷ [])))
    (subst (λ n. IsBelow n v.content) (sym (length-reverse values)) b, h)

before_both : (g : Stage) → before_claims g ≡ true → before_nodes g ≡ true
before_both Values h = refl
before_both Claims h = refl
before_both Nodes h = let no : false ≡ true = h in cc

with_value : (s : Subject) (st : State) (v : Valued) → IsSound s st → before_claims st.stage ≡ true → IsBelow (length st.values) v.content
    → IsSound s (record st { values = st.values ++ v ∷ []; unended = None })
with_value s st v h early b =
    let none = h.treeless (before_both st.stage early) in
    let claims = h.bare early in
    record {
      grounded = grounded-push st.values v h.grounded b;
      pending = tt;
      settled = λ e. refl;
      bare = h.bare;
      treeless = h.treeless;
      leaf_true = subst (Each (IsTrueAtLeaf s.f (places s.formula) (leaves s.tree) (meaning (st.values ++ v ∷ [])))) (sym claims.0) tt;
      glue_true = subst (Each (IsTrueAtJoin s.f (places s.formula) (λ name. op_named name s.tree) (meaning (st.values ++ v ∷ [])))) (sym claims.1) tt;
      standing = subst (AllStand s (meaning (st.values ++ v ∷ []))) (sym none.0) tt;
      rows = subst (HasChosen s (record st { values = st.values ++ v ∷ []; unended = None })) (sym none.1) tt;
      order = h.order;
      lines = h.lines;
    }

-- after the value that may still get members has ended
pub record IsEnded (s : Subject) (st : State) : Type 0 where
  pub sound : IsSound s st
  pub none : st.unended ≡ None

pub ended_sound : (s : Subject) (st next : State) → IsSound s st → ended st ≡ Some next → IsEnded s next
ended_sound s st next h e = by st.unended refl e
  where
    by : (o : Option Valued) → st.unended ≡ o → closed st o ≡ Some next → IsEnded s next
    by None i e = let same : st ≡ next = cc in subst (IsEnded s) same (record { sound = h; none = i })
    by (Some v) i e =
        let p = only_if_is (not (list_any _ st.values)) _ next e in
        subst (IsEnded s) p.1 (record { sound = with_value s st v h (early (before_claims st.stage) refl) (subst (IsPending (length st.values)) i h.pending); none = refl })
      where
        early : (b : Bool) → before_claims st.stage ≡ b → before_claims st.stage ≡ true
        early true q = q
        early false q = let no : Some v ≡ None = sym i ∙ h.settled q in cc

-- ---- values

-- a value of which the numbers are lower may stand open
opened_sound : (s : Subject) (st : State) → IsSound s st → (p : ℕ) (c : Content) → before_claims st.stage ≡ true → IsBelow (length st.values) c
    → IsSound s (record st { unended = Some (record { place = p; content = c }) })
opened_sound s st h p c early b = record {
  grounded = h.grounded;
  pending = b;
  settled = λ e. let no : true ≡ false = sym early ∙ e in cc;
  bare = h.bare;
  treeless = h.treeless;
  leaf_true = h.leaf_true;
  glue_true = h.glue_true;
  standing = h.standing;
  rows = same_rows st.begun h.rows;
  order = h.order;
  lines = h.lines;
}
  where
    same_rows : (o : Option Begun) → HasChosen s st o → HasChosen s (record st { unended = Some (record { place = p; content = c }) }) o
    same_rows None k = tt
    same_rows (Some b) k = k

opens : (s : Subject) (st next : State) → IsSound s st → (p : ℕ) (o : Option Content) → before_claims st.stage ≡ true
    → ((c : Content) → o ≡ Some c → IsBelow (length st.values) c) → opened st p o ≡ Some next → IsSound s next
opens s st next h p None early below e = let no : None ≡ Some next = e in cc
opens s st next h p (Some c) early below e =
    let same : record st { unended = Some (record { place = p; content = c }) } ≡ next = cc in
    subst (IsSound s) same (opened_sound s st h p c early (below c refl))

pub val_sound : (s : Subject) (st next : State) (p : ℕ) (told : Stated) → IsEnded s st → val_line s p told st ≡ Some next → IsSound s next
val_sound s st next p told h e =
    let F = bind_is (slice_get (places s.formula) p)
    (λ F. only_if (before_claims st.stage) st >>= λ st. opened st p (content_at st.values p F told)) next e in
    let early = bind_is (only_if (before_claims st.stage) st) (λ st. opened st p (content_at st.values p F.0 told)) next F.2 in
    let when = only_if_is (before_claims st.stage) st early.0 early.1 in
    opens s st next h.sound p (content_at st.values p F.0 told) when.0 (content_below st.values p F.0 told)
    (subst (λ z. opened z p (content_at z.values p F.0 told) ≡ Some next) (sym when.1) early.2)

pub more_sound : (s : Subject) (st next : State) (ns : List ℕ) → IsSound s st → more_line ns st ≡ Some next → IsSound s next
more_sound s st next ns h e =
    let v = bind_is st.unended (λ v. opened st v.place (with_members st.values v.place v.content ns)) next e in
    opens s st next h v.0.place (with_members st.values v.0.place v.0.content ns) (early v.0 v.1 (before_claims st.stage) refl)
    (λ c i. more_below st.values v.0.place v.0.content ns c (subst (IsPending (length st.values)) v.1 h.pending) i) v.2
  where
    early : (v : Valued) → st.unended ≡ Some v → (b : Bool) → before_claims st.stage ≡ b → before_claims st.stage ≡ true
    early v i true q = q
    early v i false q = let no : Some v ≡ None = sym i ∙ h.settled q in cc

-- ---- claims

content_is : (values : List Valued) (n : ℕ) (c : Content) → content_of values n ≡ Some c → AreGrounded (reverse values) → meaning values n ≡ value_of (meaning values) c
content_is values n c e h =
    let v = bind_is (slice_get values n) (λ v. Some v.content) c e in
    let same : v.0.content ≡ c = some_content v.0.content c v.2 in
    meaning_is values h n v.0 v.1 ∙ ap (value_of (meaning values)) same
  where
    some_content : (x y : Content) → Some x ≡ Some y → x ≡ y
    some_content x y e = cc

some_formula : {A : Type 0} (o : Option A) (x y : A) → o ≡ Some x → o ≡ Some y → x ≡ y
some_formula o x y i k = cc

claims_rows : (s : Subject) (st : State) (leaf_claims : LeafClaims) (glue_claims : GlueClaims) (o : Option Begun) → o ≡ None
    → HasChosen s (record st { stage = Claims; leaf_claims = leaf_claims; glue_claims = glue_claims }) o
claims_rows s st leaf_claims glue_claims None e = tt
claims_rows s st leaf_claims glue_claims (Some b) e = let no : Some b ≡ None = e in cc

-- more claims that are true
claimed_sound : (s : Subject) (st : State) → IsEnded s st → before_nodes st.stage ≡ true → (leaf_claims : LeafClaims) (glue_claims : GlueClaims)
    → Each (IsTrueAtLeaf s.f (places s.formula) (leaves s.tree) (meant st)) leaf_claims
    → Each (IsTrueAtJoin s.f (places s.formula) (λ name. op_named name s.tree) (meant st)) glue_claims
    → IsSound s (record st { stage = Claims; leaf_claims = leaf_claims; glue_claims = glue_claims })
claimed_sound s st h early leaf_claims glue_claims hl hg = record {
  grounded = h.sound.grounded;
  pending = h.sound.pending;
  settled = λ e. h.none;
  bare = λ e. let no : false ≡ true = e in cc;
  treeless = λ e. h.sound.treeless early;
  leaf_true = hl;
  glue_true = hg;
  standing = h.sound.standing;
  rows = claims_rows s st leaf_claims glue_claims st.begun (h.sound.treeless early).1;
  order = h.sound.order;
  lines = h.sound.lines;
}

leaf_tests : Subject → LeafKey → ℕ → State → Tree → Content → Content → Bool
leaf_tests s key v st leaf given told =
    before_nodes st.stage && (has_element leaf || key.marks == 0)
    && not (is_some (claimed is_same_leaf st.leaf_claims key)) && is_value st.values key.place v && is_same given told

pub leaf_sound : (s : Subject) (st next : State) (key : LeafKey) (v : ℕ) → IsEnded s st → leaf_line s key v st ≡ Some next → IsSound s next
unfolding leaf_tests
leaf_sound s st next key v h e =
    let after = record st { stage = Claims; leaf_claims = st.leaf_claims ++ (key, v) ∷ [] } in
    let F = bind_is (slice_get (places s.formula) key.place)
    (λ F. slice_get (leaves s.tree) key.leaf >>= λ leaf. leaf_content s.f st.leaf_claims key.place key.leaf key.marks leaf F
    >>= λ given. content_of st.values v >>= λ told. only_if (leaf_tests s key v st leaf given told) after) next e in
    let leaf = bind_is (slice_get (leaves s.tree) key.leaf)
    (λ leaf. leaf_content s.f st.leaf_claims key.place key.leaf key.marks leaf F.0
    >>= λ given. content_of st.values v >>= λ told. only_if (leaf_tests s key v st leaf given told) after) next F.2 in
    let given = bind_is (leaf_content s.f st.leaf_claims key.place key.leaf key.marks leaf.0 F.0)
    (λ given. content_of st.values v >>= λ told. only_if (leaf_tests s key v st leaf.0 given told) after) next leaf.2 in
    let told = bind_is (content_of st.values v) (λ told. only_if (leaf_tests s key v st leaf.0 given.0 told) after) next given.2 in
    let passes = only_if_is (leaf_tests s key v st leaf.0 given.0 told.0) after next told.2 in
    let parts = and_parts (before_nodes st.stage && (has_element leaf.0 || key.marks == 0)
    && not (is_some (claimed is_same_leaf st.leaf_claims key)) && is_value st.values key.place v) (is_same given.0 told.0) passes.0 in
    let three = and_parts (before_nodes st.stage && (has_element leaf.0 || key.marks == 0)
    && not (is_some (claimed is_same_leaf st.leaf_claims key))) (is_value st.values key.place v) parts.0 in
    let two = and_parts (before_nodes st.stage && (has_element leaf.0 || key.marks == 0)) (not (is_some (claimed is_same_leaf st.leaf_claims key))) three.0 in
    let one = and_parts (before_nodes st.stage) (has_element leaf.0 || key.marks == 0) two.0 in
    let value : meant st v ≡ leaf_type s.f F.0 leaf.0 (marks_of key.marks) =
    content_is st.values v told.0 told.1 h.sound.grounded
    ∙ sym (same_content (meant st) given.0 told.0 parts.1)
    ∙ leaf_rule s.f (places s.formula) (leaves s.tree) (meant st) st.leaf_claims h.sound.leaf_true key.leaf leaf.0 leaf.1 key.place key.marks F.0
    (begins s.formula key.place F.0 F.1) given.0 given.1 in
    let is_true : IsTrueAtLeaf s.f (places s.formula) (leaves s.tree) (meant st) key v =
    λ G other i k.
    value
    ∙ ap (λ H. leaf_type s.f H leaf.0 (marks_of key.marks)) (some_formula (slice_get (places s.formula) key.place) F.0 G F.1 i)
    ∙ ap (λ L. leaf_type s.f G L (marks_of key.marks)) (some_formula (slice_get (leaves s.tree) key.leaf) leaf.0 other leaf.1 k) in
    subst (IsSound s) passes.1
    (claimed_sound s st h one.0 (st.leaf_claims ++ (key, v) ∷ []) st.glue_claims
    (each-push (IsTrueAtLeaf s.f (places s.formula) (leaves s.tree) (meant st)) st.leaf_claims key v h.sound.leaf_true is_true) h.sound.glue_true)

glue_tests : Subject → GlueKey → ℕ → State → Content → Content → Bool
glue_tests s key v st given told =
    not (is_some (claimed is_same_glue st.glue_claims key)) && is_value st.values key.place v && is_same given told

glue_begins : Subject → GlueKey → State → Op → Bool
glue_begins s key st op =
    before_nodes st.stage && is_value st.values key.place key.left && is_value st.values key.place key.right
    && are_spaces_of op.t1 (meaning st.values key.left) && are_spaces_of op.t2 (meaning st.values key.right)

glue_after : GlueKey → ℕ → State → State
glue_after key v st = record st { stage = Claims; glue_claims = st.glue_claims ++ (key, v) ∷ [] }

glue_given : Subject → GlueKey → ℕ → State → Op → Formula → Content → Content → Option State
unfolding glue_tests glue_after
glue_given s key v st op F left right =
    glue_content s.f st.glue_claims key.place key.op op F left right
    >>= λ given. content_of st.values v
    >>= λ told. only_if (glue_tests s key v st given told) (glue_after key v st)

glue_given_sound : (s : Subject) (st next : State) (key : GlueKey) (v : ℕ) (op : Op) (F : Formula) (left right : Content) → IsEnded s st → before_nodes st.stage ≡ true
    → slice_get (places s.formula) key.place ≡ Some F → op_named key.op s.tree ≡ Some op
    → content_of st.values key.left ≡ Some left → content_of st.values key.right ≡ Some right
    → glue_given s key v st op F left right ≡ Some next → IsSound s next
unfolding glue_tests glue_after glue_given
glue_given_sound s st next key v op F left right h early at_place at_op at_left at_right e =
    let given = bind_is (glue_content s.f st.glue_claims key.place key.op op F left right)
    (λ given. content_of st.values v >>= λ told. only_if (glue_tests s key v st given told) (glue_after key v st)) next e in
    let told = bind_is (content_of st.values v) (λ told. only_if (glue_tests s key v st given.0 told) (glue_after key v st)) next given.2 in
    let passes = only_if_is (glue_tests s key v st given.0 told.0) (glue_after key v st) next told.2 in
    let parts = and_parts (not (is_some (claimed is_same_glue st.glue_claims key)) && is_value st.values key.place v) (is_same given.0 told.0) passes.0 in
    let value : meant st v ≡ join_type s.f F op (meant st key.left) (meant st key.right) =
    content_is st.values v told.0 told.1 h.sound.grounded
    ∙ sym (same_content (meant st) given.0 told.0 parts.1)
    ∙ glue_rule s.f (places s.formula) (λ name. op_named name s.tree) (meant st) st.glue_claims h.sound.glue_true key.op op at_op key.place F
    (begins s.formula key.place F at_place) left right given.0 given.1
    ∙ sym (ap₂ (join_type s.f F op) (content_is st.values key.left left at_left h.sound.grounded) (content_is st.values key.right right at_right h.sound.grounded)) in
    let is_true : IsTrueAtJoin s.f (places s.formula) (λ name. op_named name s.tree) (meant st) key v =
    λ G other i k.
    value
    ∙ ap (λ H. join_type s.f H op (meant st key.left) (meant st key.right)) (some_formula (slice_get (places s.formula) key.place) F G at_place i)
    ∙ ap (λ o. join_type s.f G o (meant st key.left) (meant st key.right)) (some_formula (op_named key.op s.tree) op other at_op k) in
    subst (IsSound s) passes.1
    (claimed_sound s st h early st.leaf_claims (st.glue_claims ++ (key, v) ∷ []) h.sound.leaf_true
    (each-push (IsTrueAtJoin s.f (places s.formula) (λ name. op_named name s.tree) (meant st)) st.glue_claims key v h.sound.glue_true is_true))

pub glue_sound : (s : Subject) (st next : State) (key : GlueKey) (v : ℕ) → IsEnded s st → glue_line s key v st ≡ Some next → IsSound s next
unfolding glue_tests glue_after glue_given glue_begins
glue_sound s st next key v h e =
    let F = bind_is (slice_get (places s.formula) key.place)
    (λ F. op_named key.op s.tree >>= λ op. content_of st.values key.left >>= λ left. content_of st.values key.right
    >>= λ right. only_if (glue_begins s key st op) st >>= λ st. glue_given s key v st op F left right) next e in
    let op = bind_is (op_named key.op s.tree)
    (λ op. content_of st.values key.left >>= λ left. content_of st.values key.right
    >>= λ right. only_if (glue_begins s key st op) st >>= λ st. glue_given s key v st op F.0 left right) next F.2 in
    let left = bind_is (content_of st.values key.left)
    (λ left. content_of st.values key.right >>= λ right. only_if (glue_begins s key st op.0) st >>= λ st. glue_given s key v st op.0 F.0 left right) next op.2 in
    let right = bind_is (content_of st.values key.right)
    (λ right. only_if (glue_begins s key st op.0) st >>= λ st. glue_given s key v st op.0 F.0 left.0 right) next left.2 in
    let after = bind_is (only_if (glue_begins s key st op.0) st) (λ st. glue_given s key v st op.0 F.0 left.0 right.0) next right.2 in
    let passes = only_if_is (glue_begins s key st op.0) st after.0 after.1 in
    let four = and_parts (before_nodes st.stage && is_value st.values key.place key.left && is_value st.values key.place key.right
    && are_spaces_of op.0.t1 (meaning st.values key.left)) (are_spaces_of op.0.t2 (meaning st.values key.right)) passes.0 in
    let three = and_parts (before_nodes st.stage && is_value st.values key.place key.left && is_value st.values key.place key.right)
    (are_spaces_of op.0.t1 (meaning st.values key.left)) four.0 in
    let two = and_parts (before_nodes st.stage && is_value st.values key.place key.left) (is_value st.values key.place key.right) three.0 in
    let one = and_parts (before_nodes st.stage) (is_value st.values key.place key.left) two.0 in
    glue_given_sound s st next key v op.0 F.0 left.0 right.0 h one.0 F.1 op.1 left.1 right.1
    (subst (λ z. glue_given s key v z op.0 F.0 left.0 right.0 ≡ Some next) (sym passes.1) after.2)
