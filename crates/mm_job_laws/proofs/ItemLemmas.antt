-- Items keep a session sound, and a check answers whether the given rows agree with the present tree.
use Rattle.std.proofs.Common.{◌≡◌, ◌↔◌, inl, inr, ℕ, ◌+◌, ◌≤◌, ℤ, nat_abs, Bool, true, false, ◌||◌, List, [], ◌∷◌, ◌++◌, length, Option, Some, None, refl, sym, ap, subst, ◌∙◌}
use Rattle.std.specs.Prelude.{codes, nat_le, IfOk, Ok, Err, if◌then◌else◌}
use Rattle.std.proofs.lemmas.Bool.{leb-true}
use Rattle.std.proofs.lemmas.List.Folds.{list_any-append}
use Rattle.std.proofs.lemmas.Option.{none-some}
use Rattle.std.specs.declared.result.Result.{Result}
use Rattle.std.specs.List.{IsDistinct}
use Rattle.std.specs.Str.{bytes_eq}
use Rattle.std.proofs.lemmas.List.{append_assoc}
use Rattle.std.proofs.lemmas.List.Elements.{All-nil}
use Rattle.mm_field.specs.declared.Field.{Field}
use Rattle.mm_field.specs.Vectors.{AreVectors, IsVector}
use Rattle.mm_header.specs.Rules.{job_rules}
use Rattle.mm_edit.specs.Edits.{Applied}
use Rattle.mm_job.specs.Edits.{Changed, Compared, Denied, Reply, another_weight, block, changed, check_end, check_names, check_rows, checked, compared_or, exchange_refusal, exchanged, is_same, light_fields, line_edit, read_whole, replace_edit, replace_fields, replaced_path, replacement, single, weight_edit, weight_fields}
use Rattle.mm_job.proofs.EditLemmas.{no_memory}
use Rattle.mm_job.specs.Header.{Session, header, is_over_limit}
use Rattle.mm_job.specs.Items.{Items, Single, Block, items}
use Rattle.mm_job.specs.Meaning.{answer_line}
use Rattle.mm_job.specs.Output.{Ended, Ending, after_reply, answered, ending, lines_after_header, lines_of_items, output_lines, reply_line, written_lines}
use Rattle.mm_job.specs.Settings.{Settings}
use Rattle.mm_job.specs.declared.output_line.OutputLine.{OutputLine}
use Rattle.mm_job.specs.declared.output_line.OutputLine.TheVariants.{Refuses, Says}
use Rattle.mm_job_laws.specs.Agreement.{Agrees}
use Rattle.mm_job_laws.specs.AnswerLaws.{ChecksAreAnswered, ComesTo, HasLine, IsCheck, IsComparison, IsEdited, IsReplacement, IsSound, IsWeight, ItemsKeepSessionsSound, OutputAnswersChecks, RefusalsChangeNothing, ReplacementsAreAnswered, WeightsAreAnswered}
use Rattle.mm_job_laws.proofs.AgreementLemmas.{same_exactly_where_they_agree}
use Rattle.mm_job_laws.proofs.AnswerLemmas.{headers_give_sessions, lines_are_answers}
use Rattle.mm_job_laws.proofs.RefusalLemmas.{is_over, is_within}
use Rattle.mm_job_laws.proofs.TreeLemmas.{tree_is_valid}
use Rattle.mm_job_laws.proofs.QueryLemmas.{other_word, whole_line}
use Rattle.mm_job_laws.proofs.SoundLemmas.{AreDifferent, names_stay_different, rows_stay_vectors}
use Rattle.mm_job_text.specs.Arguments.{begins, too_long}
use Rattle.mm_job_text.specs.HeaderLines.{elements_line, row_line}
use Rattle.mm_job_text.specs.Readers.{Reading, Read, Refused, Short, each, line, refused_or}
use Rattle.mm_job_text.specs.TreeLines.{tree_lines}
use Rattle.mm_job_text.specs.declared.refusal.Limit.TheVariants as limit
use Rattle.mm_job_text.specs.declared.refusal.Refusal.{Refusal}
use Rattle.mm_job_text.specs.declared.refusal.Refusal.TheVariants as refusal
use Rattle.mm_job_text.proofs.ReadingLemmas.{IfRead, anything, each_has, if_found, if_ok, if_require, if_unless, line_has, read_has, then_has}
use Rattle.mm_lines.specs.LineBytes.{bytes_of}
use Rattle.mm_lines.specs.Lines.{lines}
use Rattle.mm_lines.specs.Tokens.{tokens}
use Rattle.mm_lines.specs.declared.line.Line.{Line}
use Rattle.mm_present.specs.Comparing.{Named, compared}
use Rattle.mm_present.specs.declared.comparison.Verdict.{Verdict}
use Rattle.mm_present.specs.declared.comparison.Verdict.TheVariants as verdict
use Rattle.mm_tree.proofs.ElementLemmas.{different_elements}
use Rattle.mm_tree.proofs.BuilderLemmas.{none_distinct}
use Rattle.mm_tree.proofs.TreeLemmas.{element_is_leaf, valid_exchange, valid_weight}
use Rattle.mm_tree.specs.NamedTree.{Tree, element_names, is_one_of, leaf_names, nodes}
use Rattle.mm_tree.specs.NamedTree.Tree.{Elem, Void, Join}
use Rattle.mm_tree.specs.Paths.{Path, first_path, going, path_to, with_node, with_weight}
use Rattle.mm_tree.specs.Replacing.{replace_fault}
use Rattle.mm_tree.specs.declared.replace.ReplaceFault.{ReplaceFault}
use Rattle.mm_tree.specs.declared.replace.ReplaceFault.TheVariants as faults
use Rattle.mm_tree.specs.ValidTree.{IsValidTree, most_weight}

-- ---- the tree after an edit

-- the tree after an edit is valid
abbrev IsValidAfter : Session → Applied → Type 0
IsValidAfter s a = IsValidTree s.f a.tree

-- the line of a weight gives a light one
light_weight : (r : Line) → IfOk (light_fields r) (λ w. nat_abs w.1 ≤ most_weight)
unfolding light_fields
light_weight r =
    if_ok (λ w. Unit {0}) (λ w. nat_abs w.1 ≤ most_weight) (weight_fields r) _ (anything (weight_fields r)) (λ w t.
    if_require (λ (v : List ℕ × ℤ). nat_abs v.1 ≤ most_weight) (nat_le (nat_abs w.1) most_weight) (refusal.Over limit.Weight r.number) _ (λ light.
    leb-true _ _ light))

another_keeps : (f : Field) (tree : Tree) (name : List ℕ) (weight : ℤ) → nat_abs weight ≤ most_weight → IsValidTree f tree →
    IfOk (another_weight tree name weight) (λ a. IsValidTree f a.tree)
unfolding another_weight
another_keeps f tree name weight light valid =
    if_require (λ (a : Applied). IsValidTree f a.tree) (is_one_of name (element_names tree)) (refusal.Unknown name) _ (λ element.
    if_found (λ (a : Applied). IsValidTree f a.tree) (path_to name tree) (refusal.Unknown name) _ (λ path at. valid_weight f name weight tree light valid))

weight_keeps : (s : Session) (r : Line) → IsSound s → IfOk (weight_edit s r) (λ a. IsValidAfter s a)
unfolding weight_edit
weight_keeps s r h =
    if_ok (λ w. nat_abs w.1 ≤ most_weight) (λ a. IsValidAfter s a) (light_fields r) _ (light_weight r) (λ w light. another_keeps s.f s.tree w.0 w.1 light h.tree)

if_whole : {A : Type 0} (P : A → Type 0) (reading : Reading A) → IfRead P reading → IfOk (read_whole reading) P
if_whole P (Read x rest) h = h
if_whole P (Refused e) h = tt
if_whole P Short h = tt

no_exchange_fault : (n : ℕ) (o : Option ReplaceFault) → (o ≡ Some faults.NoMemory → ⊥) → exchange_refusal n o ≡ None → o ≡ None
no_exchange_fault n None never h = refl
no_exchange_fault n (Some (faults.Boundary a b)) never h = absurd (none-some _ (sym h))
no_exchange_fault n (Some (faults.NameTaken x)) never h = absurd (none-some _ (sym h))
no_exchange_fault n (Some faults.TooManyLeaves) never h = absurd (none-some _ (sym h))
no_exchange_fault n (Some faults.TooDeep) never h = absurd (none-some _ (sym h))
no_exchange_fault n (Some faults.NoMemory) never h = absurd (never refl)

exchange_keeps : (f : Field) (tree new : Tree) (path : Path) (n : ℕ) → IsValidTree f tree → IsValidTree f new → IfOk (exchanged tree path new n) (λ a. IsValidTree f a.tree)
unfolding exchanged
exchange_keeps f tree new path n valid fits =
    if_unless (λ (a : Applied). IsValidTree f a.tree) (exchange_refusal n (replace_fault tree path new)) _ (λ none.
    valid_exchange f tree new path valid fits (no_exchange_fault n (replace_fault tree path new) (no_memory tree new path) none))

replacement_keeps : (s : Session) (name : List ℕ) (up : ℕ) (rs : List Line) → IsSound s → IfOk (replacement s name up [] rs) (λ a. IsValidAfter s a)
unfolding replacement
replacement_keeps s name up rs h =
    if_ok (λ p. Unit {0}) (λ a. IsValidAfter s a) (replaced_path s.tree name up) _ (anything (replaced_path s.tree name up)) (λ path t.
    if_ok (λ (new : Tree × ℕ). IsValidTree s.f new.0) (λ a. IsValidAfter s a) (read_whole (tree_lines job_rules.leaves s.f s.ops [] rs)) _
    (if_whole (λ (new : Tree × ℕ). IsValidTree s.f new.0) (tree_lines job_rules.leaves s.f s.ops [] rs) (tree_is_valid job_rules.leaves s.f s.ops rs h.ops))
    (λ new valid. exchange_keeps s.f s.tree new.0 path new.1 h.tree valid))

replace_keeps : (s : Session) (r : Line) (rs : List Line) → IsSound s → IfOk (replace_edit s r rs) (λ a. IsValidAfter s a)
unfolding replace_edit
replace_keeps s r rs h =
    if_ok (λ w. Unit {0}) (λ a. IsValidAfter s a) (replace_fields r) _ (anything (replace_fields r)) (λ w t. replacement_keeps s w.0 w.1 rs h)

line_keeps : (s : Session) (r : Line) → IsSound s → IfOk (line_edit s r) (λ a. IsValidAfter s a)
unfolding line_edit
line_keeps s r h = go (too_long r.text r.number) (begins (codes "weight") r)
  where
    go : (o : Option Refusal) (weight : Bool) → IfOk (refused_or o (if weight then weight_edit s r else Err (refusal.Syntax r.number))) (λ a. IsValidAfter s a)
    go None true = weight_keeps s r h
    go None false = tt
    go (Some e) weight = tt

changed_keeps : (s : Session) (res : Result Applied Refusal) → IsSound s → IfOk res (λ a. IsValidAfter s a) → IsSound (after_reply s (changed s res))
changed_keeps s (Err e) h k = h
changed_keeps s (Ok a) h k = go (is_over_limit s a.tree)
  where
    go : (over : Bool) → IsSound (after_reply s (if over then Denied refusal.States else Changed (record s { tree = a.tree })))
    go true = h
    go false = record { ops = h.ops; tree = k; query = h.query }

pub compared_keeps : (s : Session) (res : Result Bool Refusal) → after_reply s (compared_or res) ≡ s
compared_keeps s (Ok same) = refl
compared_keeps s (Err e) = refl

single_keeps : (s : Session) (r : Line) → IsSound s → IsSound (after_reply s (single s r))
unfolding single
single_keeps s r h = changed_keeps s (line_edit s r) h (line_keeps s r h)

block_keeps : (s : Session) (r : Line) (rs : List Line) → IsSound s → IsSound (after_reply s (block s r rs))
unfolding block
block_keeps s r rs h = go (begins (codes "replace") r)
  where
    go : (b : Bool) → IsSound (after_reply s (if b then changed s (replace_edit s r rs) else compared_or (checked s r rs)))
    go true = changed_keeps s (replace_edit s r rs) h (replace_keeps s r rs h)
    go false = subst (λ (t : Session). IsSound t) (sym (compared_keeps s (checked s r rs))) h

pub keeps : {s t : Session} {i j : Items} → IsSound s → ComesTo s i t j → IsSound t
keeps h ComesTo.begun = h
keeps h (ComesTo.after_line {t = t} {r = r} c) = single_keeps t r (keeps h c)
keeps h (ComesTo.after_block {t = t} {r = r} {rs = rs} c) = block_keeps t r rs (keeps h c)

pub items_keep_sessions_sound : ItemsKeepSessionsSound
items_keep_sessions_sound s t i j h c = keeps h c

-- ---- edits

-- an edit that gives a tree is answered
edit_answered : (s : Session) (a : Applied) → IsSound s → IsValidTree s.f a.tree → IsEdited s a.tree (changed s (Ok a))
edit_answered s a h valid = go (is_over_limit s a.tree) refl
  where
    go : (over : Bool) → is_over_limit s a.tree ≡ over → IsEdited s a.tree (changed s (Ok a))
    go true p =
        let c = ap (λ (over : Bool). if over then Denied refusal.States else Changed (record s { tree = a.tree })) p in
        inl (is_over s a.tree p, ap reply_line c, ap (after_reply s) c)
    go false p =
        let c = ap (λ (over : Bool). if over then Denied refusal.States else Changed (record s { tree = a.tree })) p in
        inr (is_within s a.tree p, (answer_line s.f s.query a.tree, lines_are_answers s.f s.query a.tree valid.valid_shape, ap reply_line c), ap (after_reply s) c)

edits_are_answered : (s : Session) (a : Applied) (edit : Result Applied Refusal) → edit ≡ Ok a → IsSound s → IfOk edit (λ a. IsValidAfter s a)
    → IsEdited s a.tree (changed s edit)
edits_are_answered s a edit is h valid =
    subst (λ (x : Result Applied Refusal). IsEdited s a.tree (changed s x)) (sym is)
    (edit_answered s a h (subst (λ (x : Result Applied Refusal). IfOk x (λ a. IsValidAfter s a)) is valid))

-- a leaf has a path
leaf_here : (name n : List ℕ) (b : Bool) → bytes_eq name n ≡ b → (b || false) ≡ true → (path : Path) × ((if b then Some [] else None) ≡ Some path)
leaf_here name n true e h = ([], refl)
leaf_here name n false e h = absurd (let x : false ≡ true = h in cc)

right_path : (o p : Option Path) (path : Path) → p ≡ Some path → (path : Path) × (first_path (going true o) (going false p) ≡ Some path)
right_path None p path h = (false ∷ path, ap (going false) h)
right_path (Some left) p path h = (true ∷ left, refl)

join_path : (o p : Option Path) (l r : Bool) → (l || r) ≡ true → (l ≡ true → (path : Path) × (o ≡ Some path)) → (r ≡ true → (path : Path) × (p ≡ Some path))
    → (path : Path) × (first_path (going true o) (going false p) ≡ Some path)
join_path o p true r h left right = let at = left refl in (true ∷ at.0, ap (λ (q : Option Path). first_path (going true q) (going false p)) at.1)
join_path o p false true h left right = let at = right refl in right_path o p at.0 at.1
join_path o p false false h left right = absurd (let x : false ≡ true = h in cc)

leaf_has_path : (name : List ℕ) (tree : Tree) → is_one_of name (leaf_names tree) ≡ true → (path : Path) × (path_to name tree ≡ Some path)
unfolding leaf_names path_to
leaf_has_path name (Elem n vec weight) h = leaf_here name n (bytes_eq name n) refl h
leaf_has_path name (Void n t) h = leaf_here name n (bytes_eq name n) refl h
leaf_has_path name (Join n op left right) h =
    join_path (path_to name left) (path_to name right) (is_one_of name (leaf_names left)) (is_one_of name (leaf_names right))
    (sym (list_any-append (bytes_eq name) (leaf_names left) (leaf_names right)) ∙ h) (leaf_has_path name left) (leaf_has_path name right)

-- an element has a path
element_path : (name : List ℕ) (tree : Tree) → is_one_of name (element_names tree) ≡ true → (path : Path) × (path_to name tree ≡ Some path)
element_path name tree h = leaf_has_path name tree (element_is_leaf name tree h)

weight_is : (s : Session) (r : Line) (name : List ℕ) (weight : ℤ) (path : Path) → IsWeight s r name weight → path_to name s.tree ≡ Some path
    → line_edit s r ≡ Ok (record { tree = with_weight name weight s.tree; cost = length path + 1 })
unfolding line_edit weight_edit another_weight
weight_is s r name weight path h at =
    rw (whole_line r.text r.number (codes "weight") h.opened, h.opened, h.fields) (rw (h.element, at) refl)

pub weights_are_answered : WeightsAreAnswered
unfolding single
weights_are_answered s r name weight sound h =
    let p = element_path name s.tree h.element in
    edits_are_answered s (record { tree = with_weight name weight s.tree; cost = length p.0 + 1 }) (line_edit s r)
    (weight_is s r name weight p.0 h p.1) sound (line_keeps s r sound)

replacement_is : (s : Session) (r : Line) (rs : List Line) (path : Path) (new : Tree) → IsReplacement s r rs path new
    → replace_edit s r rs ≡ Ok (record { tree = with_node s.tree path new; cost = length path + nodes new })
unfolding replace_edit replacement replaced_path exchanged
replacement_is s r rs path new h = rw h.fields (rw (h.leaf, h.node) (rw h.read (rw h.fits refl)))

pub replacements_are_answered : ReplacementsAreAnswered
unfolding block
replacements_are_answered s r rs path new sound h =
    rw h.opened
    (edits_are_answered s (record { tree = with_node s.tree path new; cost = length path + nodes new }) (replace_edit s r rs)
    (replacement_is s r rs path new h) sound (replace_keeps s r rs sound))

pub refusals_change_nothing : RefusalsChangeNothing
refusals_change_nothing s (Changed new) why h =
    let e : Says (answer_line new.f new.query new.tree) ≡ Refuses why = h in absurd (cc)
refusals_change_nothing s (Compared same) why h = refl
refusals_change_nothing s (Denied e) why h = refl

-- ---- checks

-- The names and rows of a check are different and of the right length.
record IsFormed (f : Field) (given : Named) : Type 0 where
  pub different : IsDistinct bytes_eq given.names
  pub vectors : AreVectors f (length given.names) given.rows

rows_formed : (f : Field) (names : List (List ℕ)) (rs : List Line) → AreDifferent names → IfRead (λ given. IsFormed f given) (check_rows f names [] rs)
unfolding check_rows
rows_formed f names rs d =
    then_has (AreVectors f (length names)) (λ given. IsFormed f given) (each (begins (codes "row")) (row_line f (length names)) [] rs) _
    (each_has (AreVectors f (length names)) (begins (codes "row")) (row_line f (length names)) (λ more r h. rows_stay_vectors f (length names) more r h) [] rs
    (All-nil (λ v. IsVector f (length names) v)))
    (λ rows rest v.
    then_has (λ u. Unit {0}) (λ given. IsFormed f given) (line check_end rest) _ (line_has (λ u. Unit {0}) check_end (λ r. anything (check_end r)) rest)
    (λ u after t. record { different = d; vectors = v }))

check_formed : (f : Field) (names : List (List ℕ)) (rs : List Line) → AreDifferent names → IfRead (λ given. IsFormed f given) (check_names f names rs)
unfolding check_names
check_formed f names rs d =
    then_has AreDifferent (λ given. IsFormed f given) (each (begins (codes "elements")) (elements_line job_rules.names) names rs) _
    (each_has AreDifferent (begins (codes "elements")) (elements_line job_rules.names) (λ more r h. names_stay_different job_rules.names more r h) names rs d)
    (λ more rest different. rows_formed f more rest different)

check_reply : (s : Session) (r : Line) (rs : List Line) (given : Named) → IsCheck s r rs given → block s r rs ≡ Compared (is_same (compared s.f given s.tree))
unfolding block checked
check_reply s r rs given h = rw (other_word (codes "replace") (codes "check") (tokens (bytes_of r)) refl h.opened, h.alone, h.read) refl

comparison_is : (s : Session) (given : Named) (v : Verdict) → (v ≡ verdict.Same) ↔ Agrees s.f given s.tree →
    IsComparison s given (reply_line (Compared (is_same v)))
comparison_is s given verdict.Same h = inl (h.0 refl, refl)
comparison_is s given (verdict.Elements name) h = inr ((λ agree. let e : verdict.Elements name ≡ verdict.Same = h.1 agree in cc), refl)
comparison_is s given (verdict.Given i) h = inr ((λ agree. let e : verdict.Given i ≡ verdict.Same = h.1 agree in cc), refl)
comparison_is s given (verdict.Present j) h = inr ((λ agree. let e : verdict.Present j ≡ verdict.Same = h.1 agree in cc), refl)

pub checks_are_answered : ChecksAreAnswered
checks_are_answered s r rs given sound h =
    let formed = read_has (λ given. IsFormed s.f given) (check_names s.f [] rs) given h.rest (check_formed s.f [] rs none_distinct) h.read in
    subst (λ (reply : Reply). IsComparison s given (reply_line reply)) (sym (check_reply s r rs given h))
    (comparison_is s given (compared s.f given s.tree)
    (same_exactly_where_they_agree s.f given s.tree sound.tree.valid_shape (different_elements s.tree sound.tree.different) formed.different formed.vectors))

-- ---- outputs

-- the lines of some items are the lines of the first of them, and then those of the others
lines_come : (e : Ending) {s t : Session} {i j : Items} → ComesTo s i t j → (before : List OutputLine) × (lines_of_items e s i ≡ before ++ lines_of_items e t j)
unfolding lines_of_items
lines_come e ComesTo.begun = ([], refl)
lines_come e (ComesTo.after_line {t = t} {rest = rest} {r = r} c) =
    let h = lines_come e c in
    let reply = reply_line (single t r) in
    (h.0 ++ reply ∷ [], h.1 ∙ sym (append_assoc h.0 (reply ∷ []) (lines_of_items e (after_reply t (single t r)) rest)))
lines_come e (ComesTo.after_block {t = t} {rest = rest} {r = r} {rs = rs} c) =
    let h = lines_come e c in
    let reply = reply_line (block t r rs) in
    (h.0 ++ reply ∷ [], h.1 ∙ sym (append_assoc h.0 (reply ∷ []) (lines_of_items e (after_reply t (block t r rs)) rest)))

pub single_line : (settings : Settings) (text : List ℕ) (rest : List Line) (s t : Session) (r : Line) (more : Items) → header settings (lines text) ≡ Read s rest
    → ComesTo s (items rest) t (Single r more) → HasLine (reply_line (single t r)) (output_lines text settings)
unfolding output_lines written_lines lines_of_items
single_line settings text rest s t r more read comes =
    let e = ending Ended text in
    let h = lines_come e comes in (
      answered s ∷ h.0,
      lines_of_items e (after_reply t (single t r)) more,
      ap (lines_after_header e) read ∙ ap (λ ls. answered s ∷ ls) h.1,
    )

pub block_line : (settings : Settings) (text : List ℕ) (rest : List Line) (s t : Session) (r : Line) (rs : List Line) (more : Items)
    → header settings (lines text) ≡ Read s rest → ComesTo s (items rest) t (Block r rs more)
    → HasLine (reply_line (block t r rs)) (output_lines text settings)
unfolding output_lines written_lines lines_of_items
block_line settings text rest s t r rs more read comes =
    let e = ending Ended text in
    let h = lines_come e comes in (
      answered s ∷ h.0,
      lines_of_items e (after_reply t (block t r rs)) more,
      ap (lines_after_header e) read ∙ ap (λ ls. answered s ∷ ls) h.1,
    )

pub output_answers_checks : OutputAnswersChecks
output_answers_checks settings text rest s t r rs given more asked read comes check =
    let sound = (headers_give_sessions settings (lines text) rest s asked read).1 in (
      reply_line (block t r rs),
      checks_are_answered t r rs given (keeps sound comes) check,
      block_line settings text rest s t r rs more read comes,
    )
