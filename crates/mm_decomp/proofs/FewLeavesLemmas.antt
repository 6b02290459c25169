-- A header that is read has a tree of at most as many leaves as its limit says.
use Rattle.std.proofs.Common.{ℕ, suc, ◌+◌, ◌<◌, ◌≤◌, ◌≡◌, Bool, true, false, List, [], ◌∷◌, ◌++◌, length, Option, Some, None, refl, sym, ap, ◌∙◌, subst, arith, length-append}
use Rattle.std.specs.Prelude.{codes, nat_lt, IfOk, if◌then◌else◌}
use Rattle.std.specs.declared.result.Result.{Result}
use Rattle.std.proofs.lemmas.Bool.{ltb-true}
use Rattle.std.proofs.lemmas.Option.{none-some, same_Some}
use Rattle.mm_field.specs.declared.Field.{Field}
use Rattle.mm_header.specs.Header.{HeaderValue, Parts, parts, field_part, elements_part, rows_part, ops_part, tree_part_of}
use Rattle.mm_header.specs.Rules.{dual_rules}
use Rattle.mm_header.specs.declared.rules.HeaderRules.{HeaderRules}
use Rattle.mm_lines.specs.declared.line.Line.{Line}
use Rattle.mm_job_text.specs.Arguments.{begins, is_word}
use Rattle.mm_job_text.specs.HeaderLines.{format_line, field_line, elements_line, row_line, tree_line}
use Rattle.mm_job_text.specs.OperatorLines.{op_line}
use Rattle.mm_job_text.specs.Readers.{line, each}
use Rattle.mm_job_text.specs.TreeLines.{tree_refusal, with_leaf, elem_fields, elem_line, void_fields, void_line, join_fields, join_line, is_tree_part, tree_part, the_one, end_line, tree_lines}
use Rattle.mm_job_text.specs.declared.format.Format.{Format}
use Rattle.mm_job_text.specs.declared.refusal.Limit.TheVariants as limit
use Rattle.mm_job_text.specs.declared.refusal.Refusal.{Refusal}
use Rattle.mm_job_text.specs.declared.refusal.Refusal.TheVariants as refusal
use Rattle.mm_job_text.proofs.ReadingLemmas.{IfRead, if_require, if_found, if_unless, if_ok, each_has, line_has, then_has, anything}
use Rattle.mm_ops.specs.OpValue.{OpValue}
use Rattle.mm_ops.specs.Tables.{OperatorList, op_named}
use Rattle.mm_tree.proofs.ElementLemmas.{few_elements}
use Rattle.mm_tree.specs.Building.{names_in, leaf_fault, named_fault, joined_by}
use Rattle.mm_tree.specs.NamedTree.{Tree, leaf_names, element_names}
use Rattle.mm_tree.specs.NamedTree.Tree.{Elem, Void, Join}
use Rattle.mm_decomp.specs.Decompositions.{no_line, nothing_after}
use Rattle.mm_decomp.specs.GivenTrees.{HasFewElements, tree_parts}

-- ---- the trees that are not joined yet

abbrev AreFew : ℕ → List Tree → Type 0
AreFew most trees = length (names_in trees) ≤ most

few_leaf : (most n : ℕ) (trees : List Tree) (name : List ℕ) (leaf : Tree) → length (leaf_names leaf) ≡ 1 → IfOk (with_leaf most n trees name leaf) (AreFew most)
few_leaf most n trees name leaf one =
    if_unless (AreFew most) (tree_refusal n (leaf_fault name trees)) _ (λ free.
    if_require (AreFew most) (nat_lt (length (names_in trees)) most) (refusal.Over limit.Leaves n) _ (λ room.
    let l : length (names_in trees) < most = ltb-true _ _ room in
    omega (arith, one, length-append (names_in trees) (leaf_names leaf))))

few_elem : (most : ℕ) (f : Field) (trees : List Tree) (r : Line) → IfOk (elem_line most f trees r) (AreFew most)
unfolding elem_line leaf_names
few_elem most f trees r = if_ok (λ w. Unit {0}) (AreFew most) (elem_fields f r) _ (anything (elem_fields f r)) (λ w u. few_leaf most r.number trees w.name (Elem w.name w.vec w.weight) refl)

few_void : (most : ℕ) (trees : List Tree) (r : Line) → IfOk (void_line most trees r) (AreFew most)
unfolding void_line leaf_names
few_void most trees r = if_ok (λ w. Unit {0}) (AreFew most) (void_fields r) _ (anything (void_fields r)) (λ w u. few_leaf most r.number trees w.name (Void w.name w.t) refl)

few_joined : (most : ℕ) (name : List ℕ) (o : Option OpValue) (trees : List Tree) → AreFew most trees → AreFew most (joined_by name o trees)
unfolding leaf_names
few_joined most name None trees h = h
few_joined most name (Some op) [] h = omega arith
few_joined most name (Some op) (tree ∷ []) h = h
few_joined most name (Some op) (right ∷ left ∷ trees) h =
    omega (
      arith,
      h,
      length-append (names_in trees) (leaf_names left ++ leaf_names right),
      length-append (leaf_names left) (leaf_names right),
      length-append (names_in trees ++ leaf_names left) (leaf_names right),
      length-append (names_in trees) (leaf_names left),
    )

few_join : (most : ℕ) (ops : OperatorList) (trees : List Tree) (r : Line) → AreFew most trees → IfOk (join_line ops trees r) (AreFew most)
unfolding join_line
few_join most ops trees r h =
    if_ok (λ name. Unit {0}) (AreFew most) (join_fields r) _ (anything (join_fields r)) (λ name u.
    if_unless (AreFew most) (tree_refusal r.number (named_fault name (op_named name ops) trees)) _ (λ free. few_joined most name (op_named name ops) trees h))

few_part : (most : ℕ) (f : Field) (ops : OperatorList) (trees : List Tree) (r : Line) → AreFew most trees → IfOk (tree_part most f ops trees r) (AreFew most)
few_part most f ops trees r h = go (begins (codes "elem") r) (begins (codes "void") r)
  where
    go : (a b : Bool) → IfOk (if a then elem_line most f trees r else if b then void_line most trees r else join_line ops trees r) (AreFew most)
    go true b = few_elem most f trees r
    go false true = few_void most trees r
    go false false = few_join most ops trees r h

-- ---- the tree

few_end : (most : ℕ) (trees : List Tree) (r : Line) → AreFew most trees → IfOk (end_line trees r) (λ (read : Tree × ℕ). length (leaf_names read.0) ≤ most)
unfolding end_line
few_end most trees r h =
    let P = λ (read : Tree × ℕ). length (leaf_names read.0) ≤ most in
    if_require P (is_word (codes "end") r) (refusal.Syntax r.number) _ (λ word.
    if_found P (the_one trees) (refusal.Trees r.number) _ (λ tree one. only trees tree one h))
  where
    only : (trees : List Tree) (tree : Tree) → the_one trees ≡ Some tree → AreFew most trees → length (leaf_names tree) ≤ most
    only [] tree one h = absurd (none-some tree one)
    only (t ∷ []) tree one h = subst (λ (t : Tree). length (leaf_names t) ≤ most) (same_Some t tree one) h
    only (t ∷ other ∷ trees) tree one h = absurd (none-some tree one)

few_tree : (most : ℕ) (f : Field) (ops : OperatorList) (rs : List Line) → IfRead (λ (read : Tree × ℕ). length (leaf_names read.0) ≤ most) (tree_lines most f ops [] rs)
unfolding tree_lines
few_tree most f ops rs =
    let P = λ (read : Tree × ℕ). length (leaf_names read.0) ≤ most in
    then_has (AreFew most) P (each is_tree_part (tree_part most f ops) [] rs) _
    (each_has (AreFew most) is_tree_part (tree_part most f ops) (λ trees r h. few_part most f ops trees r h) [] rs (omega arith))
    (λ all rest h. line_has P (end_line all) (λ r. few_end most all r h) rest)

-- ---- the header

abbrev Few : ℕ → Parts → Type 0
Few most p = length (leaf_names p.1) ≤ most

few_tree_part : (rules : HeaderRules) (g : HeaderValue) (rs : List Line) → IfRead (Few rules.leaves) (tree_part_of rules g [] rs)
unfolding tree_part_of
few_tree_part rules g rs =
    then_has (λ (read : Tree × ℕ). length (leaf_names read.0) ≤ rules.leaves) (Few rules.leaves) (tree_lines rules.leaves g.f g.ops [] rs) _
    (few_tree rules.leaves g.f g.ops rs) (λ tree rest h. h)

few_ops : (rules : HeaderRules) (g : HeaderValue) (rs : List Line) → IfRead (Few rules.leaves) (ops_part rules g rs)
unfolding ops_part
few_ops rules g rs =
    then_has (λ ops. Unit {0}) (Few rules.leaves) (each (begins (codes "op")) (op_line g.version g.f) g.ops rs) _
    (each_has (λ ops. Unit {0}) (begins (codes "op")) (op_line g.version g.f) (λ ops r u. anything (op_line g.version g.f ops r)) g.ops rs tt)
    (λ ops rest u.
    then_has (λ u. Unit {0}) (Few rules.leaves) (line tree_line rest) _ (line_has (λ u. Unit {0}) tree_line (λ r. anything (tree_line r)) rest)
    (λ u after t. few_tree_part rules (record g { ops = ops }) after))

few_rows : (rules : HeaderRules) (g : HeaderValue) (rs : List Line) → IfRead (Few rules.leaves) (rows_part rules g rs)
unfolding rows_part
few_rows rules g rs =
    then_has (λ rows. Unit {0}) (Few rules.leaves) (each (begins (codes "row")) (row_line g.f (length g.names)) g.rows rs) _
    (each_has (λ rows. Unit {0}) (begins (codes "row")) (row_line g.f (length g.names)) (λ rows r u. anything (row_line g.f (length g.names) rows r)) g.rows rs tt)
    (λ rows rest u. few_ops rules (record g { rows = rows }) rest)

few_names : (rules : HeaderRules) (g : HeaderValue) (rs : List Line) → IfRead (Few rules.leaves) (elements_part rules g rs)
unfolding elements_part
few_names rules g rs =
    then_has (λ names. Unit {0}) (Few rules.leaves) (each (begins (codes "elements")) (elements_line rules.names) g.names rs) _
    (each_has (λ names. Unit {0}) (begins (codes "elements")) (elements_line rules.names) (λ names r u. anything (elements_line rules.names names r)) g.names rs tt)
    (λ names rest u. few_rows rules (record g { names = names }) rest)

few_field : (rules : HeaderRules) (version : Format) (rs : List Line) → IfRead (Few rules.leaves) (field_part rules version rs)
unfolding field_part
few_field rules version rs =
    then_has (λ (f : Field). Unit {0}) (Few rules.leaves) (line field_line rs) _ (line_has (λ (f : Field). Unit {0}) field_line (λ r. anything (field_line r)) rs)
    (λ f rest t. few_names rules (record { version = version; f = f; names = []; rows = []; ops = [] }) rest)

few_parts : (rules : HeaderRules) (rs : List Line) → IfRead (Few rules.leaves) (parts rules rs)
unfolding parts
few_parts rules rs =
    then_has (λ (v : Format). Unit {0}) (Few rules.leaves) (line format_line rs) _ (line_has (λ (v : Format). Unit {0}) format_line (λ r. anything (format_line r)) rs)
    (λ version rest t. few_field rules version rest)

few_nothing : (p : Parts) (rs : List Line) → HasFewElements p → IfRead HasFewElements (nothing_after p rs)
unfolding nothing_after
few_nothing p [] h = h
few_nothing p (r ∷ rs) h =
    then_has (λ u. Unit {0}) HasFewElements (line no_line (r ∷ rs)) _ (line_has (λ u. Unit {0}) no_line (λ r. anything (no_line r)) (r ∷ rs)) (λ u rest t. h)

pub few_tree_parts : (rs : List Line) → IfRead HasFewElements (tree_parts rs)
unfolding tree_parts
few_tree_parts rs =
    then_has (Few dual_rules.leaves) HasFewElements (parts dual_rules rs) _ (few_parts dual_rules rs) (λ p rest h.
    few_nothing p rest (let e = few_elements p.1 in omega (arith, e, h)))
