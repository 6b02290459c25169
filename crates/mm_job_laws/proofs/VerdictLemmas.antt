-- Given rows and a tree are compared by the verdict that is meant.
use Rattle.std.proofs.Common.{ℕ, ◌<◌, ◌≡◌, ◌↔◌, inl, inr, Bool, true, false, cond, not, Option, Some, None, List, [], ◌∷◌, ◌++◌, length, position, get_or, take, refl, sym, ap, ap₂, subst, ◌∙◌, arith}
use Rattle.std.specs.Prelude.{nat_lt}
use Rattle.std.specs.Str.{bytes_eq}
use Rattle.std.specs.List.{IsDistinct, position_or_len}
use Rattle.std.proofs.lemmas.Bool.{ltb-true, not-false, not-true}
use Rattle.std.proofs.lemmas.List.{get_or-take, length-take-le}
use Rattle.std.proofs.lemmas.List.Elements.{All-nil, All-cons, All-head, All-tail}
use Rattle.std.proofs.lemmas.List.Sums.{fails_before_first, passes_at_first}
use Rattle.std.proofs.lemmas.Option.{none-some, same_Some}
use Rattle.mm_field.proofs.CombinationLemmas.{IsWithin-itself}
use Rattle.mm_field.specs.declared.Field.{Field}
use Rattle.mm_field.specs.Vectors.{InSpan, IsWithin, AreVectors}
use Rattle.mm_header.specs.Rules.{job_rules}
use Rattle.mm_job.specs.Header.{Session}
use Rattle.mm_job.specs.Output.{Ended, Ending, ending, lines_after_header, output_lines, written_lines}
use Rattle.mm_job_laws.specs.Agreement.{Agrees, AreAmong}
use Rattle.mm_job_laws.specs.AnswerLaws.{HaveSameElements, IsFirstMissing, IsMeant, IsRefusalFor, OutputNamesTheDifference, VerdictsAreMeant, matched_rows}
use Rattle.mm_job_laws.specs.HeaderLaws.{given_of, session_of}
use Rattle.mm_job_laws.proofs.AgreementLemmas.{all_inside, none_is_missing, none_missing, rows_in_order, same_exactly_where_they_agree, tree_rows_are}
use Rattle.mm_job_laws.proofs.RefusalLemmas.{after, header_after}
use Rattle.mm_job_laws.proofs.SoundLemmas.{lines_are_sound}
use Rattle.mm_job_text.specs.Readers.{Reading}
use Rattle.mm_lines.specs.Lines.{lines}
use Rattle.mm_lines.specs.declared.line.Line.{Line}
use Rattle.mm_linear.specs.Decide.{is_in_span}
use Rattle.mm_linear.proofs.MeetTest.{is_in_span_decides}
use Rattle.mm_matrix.specs.Outside.{IsFirstOutside}
use Rattle.mm_present.specs.Comparing.{Named, compared, compared_rows, first_missing, first_outside, present_rows, verdict_of, verdict_of_rows}
use Rattle.mm_present.specs.declared.comparison.Verdict.{Verdict}
use Rattle.mm_present.specs.declared.comparison.Verdict.TheVariants as verdict
use Rattle.mm_present.proofs.CompareLemmas.{as_many, outside_is}
use Rattle.mm_tree.proofs.ElementLemmas.{different_elements}
use Rattle.mm_tree.specs.NamedTree.{Tree, element_names, is_one_of}

-- ---- names

first_missing_is : (names others : List (List ℕ)) (name : List ℕ) → first_missing names others ≡ Some name → IsFirstMissing names others name
first_missing_is [] others name e = absurd (none-some name e)
first_missing_is (x ∷ names) others name e = go (is_one_of x others) refl (first_missing_is names others name)
  where
    go : (b : Bool) → is_one_of x others ≡ b → (first_missing names others ≡ Some name → IsFirstMissing names others name) → IsFirstMissing (x ∷ names) others name
    go true p more =
        let h = more (sym (ap (λ c. cond (not c) (Some x) (first_missing names others)) p) ∙ e) in
        record {
          before = x ∷ h.before;
          after = h.after;
          place = ap (λ ns. x ∷ ns) h.place;
          among = All-cons (λ name. is_one_of name others ≡ true) x h.before p h.among;
          missing = h.missing;
        }
    go false p more =
        let same = same_Some x name (sym (ap (λ c. cond (not c) (Some x) (first_missing names others)) p) ∙ e) in
        record {
          before = [];
          after = names;
          place = ap (λ n. n ∷ names) same;
          among = All-nil (λ name. is_one_of name others ≡ true);
          missing = ap (λ n. is_one_of n others) (sym same) ∙ p;
        }

first_after_others : (before after others : List (List ℕ)) (name : List ℕ) → AreAmong before others → is_one_of name others ≡ false →
    first_missing (before ++ name ∷ after) others ≡ Some name
first_after_others [] after others name among missing = ap (λ c. cond (not c) (Some name) (first_missing after others)) missing
first_after_others (x ∷ before) after others name among missing =
    ap (λ c. cond (not c) (Some x) (first_missing (before ++ name ∷ after) others)) (All-head (λ name. is_one_of name others ≡ true) x before among)
    ∙ first_after_others before after others name (All-tail (λ name. is_one_of name others ≡ true) x before among) missing

is_first_missing : (names others : List (List ℕ)) (name : List ℕ) → IsFirstMissing names others name → first_missing names others ≡ Some name
is_first_missing names others name h =
    ap (λ ns. first_missing ns others) h.place ∙ first_after_others h.before h.after others name h.among h.missing

-- ---- rows

record IsPlace {X : Type 0} (p : X → Bool) (xs : List X) (k : ℕ) : Type 0 where
  pub below : k < length xs
  pub passes : (d : X) → p (get_or xs k d) ≡ true
  pub fails : (j : ℕ) (d : X) → j < k → p (get_or xs j d) ≡ false

place_is : {X : Type 0} (p : X → Bool) (xs : List X) (k : ℕ) → position p xs ≡ Some k → IsPlace p xs k
place_is {X} p xs k e = go (nat_lt (position_or_len p xs) (length xs)) refl e
  where
    go : (b : Bool) → nat_lt (position_or_len p xs) (length xs) ≡ b → cond b (Some (position_or_len p xs)) None ≡ Some k → IsPlace p xs k
    go true q e =
        let below : position_or_len p xs < length xs = ltb-true _ _ q in
        subst (λ k. IsPlace p xs k) (same_Some (position_or_len p xs) k e)
        (record { below = below; passes = λ d. passes_at_first p xs d below; fails = λ j d l. fails_before_first p xs j d l })
    go false q e = absurd (none-some k e)

first_outside_is : (f : Field) (n : ℕ) (rows others : List (List ℕ)) (k : ℕ) → AreVectors f n rows → AreVectors f n others →
    first_outside f n others rows ≡ Some k → IsFirstOutside f n rows others k
first_outside_is f n rows others k hr ho e =
    let h = place_is (λ row. not (is_in_span f n rows row)) others k e in
    let below : k < length others = h.below in
    let short : length (take k others) ≡ k = length-take-le k others (omega arith) in
    record {
      is_row = below;
      outside = λ s.
          let within = (is_in_span_decides f n rows (get_or others k []) hr (ho k [] below)).1 s in
          let without = not-true (is_in_span f n rows (get_or others k [])) (h.passes []) in
          let x : true ≡ false = sym within ∙ without in cc;
      before = λ j d l.
          let lower : j < k = omega arith in
          subst (λ v. InSpan f n rows v) (sym (get_or-take k others j d lower))
          ((is_in_span_decides f n rows (get_or others j d) hr (ho j d (omega arith))).0
          (not-false (is_in_span f n rows (get_or others j d)) (h.fails j d lower)));
    }

-- ---- the verdict

-- given rows in the order of a tree's elements, and the rows of the tree's matrix
record AreComparable (f : Field) (given : Named) (tree : Tree) : Type 0 where
  pub elements : IsDistinct bytes_eq (element_names tree)
  pub names : IsDistinct bytes_eq given.names
  pub matched : AreVectors f (length (element_names tree)) (matched_rows given tree)
  pub present : AreVectors f (length (element_names tree)) (present_rows f tree)

rows_are_meant : (f : Field) (given : Named) (tree : Tree) → AreComparable f given tree → HaveSameElements given tree → (i j : Option ℕ) →
    first_outside f (length (element_names tree)) (matched_rows given tree) (present_rows f tree) ≡ i →
    first_outside f (length (element_names tree)) (present_rows f tree) (matched_rows given tree) ≡ j → IsMeant f given tree (verdict_of_rows i j)
rows_are_meant f given tree c same (Some k) j p q = (same, (k, refl, first_outside_is f _ _ _ k c.present c.matched p))
rows_are_meant f given tree c same None (Some k) p q =
    (same, all_inside f _ _ _ c.matched c.present p, (k, refl, first_outside_is f _ _ _ k c.matched c.present q))
rows_are_meant f given tree c same None None p q =
    record {
      are_elements = same.0;
      are_given = same.1;
      same_space = (all_inside f _ _ _ c.matched c.present p, all_inside f _ _ _ c.present c.matched q);
    }

verdict_is_meant : (f : Field) (given : Named) (tree : Tree) → AreComparable f given tree → IsMeant f given tree (compared f given tree)
unfolding compared
verdict_is_meant f given tree c = go (first_missing given.names elements) (first_missing elements given.names) refl refl
  where
    elements : List (List ℕ)
    elements = element_names tree

    go : (o p : Option (List ℕ)) → first_missing given.names elements ≡ o → first_missing elements given.names ≡ p →
        IsMeant f given tree (verdict_of o p (compared_rows f (length given.names) (matched_rows given tree) (present_rows f tree)))
    go (Some name) p a b = inl (first_missing_is given.names elements name a)
    go None (Some name) a b = inr (none_missing given.names elements a, first_missing_is elements given.names name b)
    go None None a b =
        subst (λ m. IsMeant f given tree (compared_rows f m (matched_rows given tree) (present_rows f tree)))
        (sym (as_many given.names elements c.names c.elements a b))
        (rows_are_meant f given tree c (none_missing given.names elements a, none_missing elements given.names b) _ _ refl refl)

-- where the names are the same, the rows are compared
compared_by_rows : (f : Field) (given : Named) (tree : Tree) → AreComparable f given tree → HaveSameElements given tree →
    compared f given tree ≡ compared_rows f (length (element_names tree)) (matched_rows given tree) (present_rows f tree)
unfolding compared
compared_by_rows f given tree c same =
    let all = none_is_missing given.names (element_names tree) same.0 in
    let more = none_is_missing (element_names tree) given.names same.1 in
    ap₂ (λ o p. verdict_of o p (compared_rows f (length given.names) (matched_rows given tree) (present_rows f tree))) all more
    ∙ ap (λ m. compared_rows f m (matched_rows given tree) (present_rows f tree))
    (as_many given.names (element_names tree) c.names c.elements all more)

is_first_outside : (f : Field) (n : ℕ) (rows others : List (List ℕ)) (k : ℕ) → AreVectors f n rows → AreVectors f n others →
    IsFirstOutside f n rows others k → first_outside f n others rows ≡ Some k
is_first_outside f n rows others k hr ho h =
    sym (outside_is f n others rows rows (Some k) ho hr hr (IsWithin-itself f n rows hr, IsWithin-itself f n rows hr) h)

is_none_outside : (f : Field) (n : ℕ) (rows others : List (List ℕ)) → AreVectors f n rows → AreVectors f n others → IsWithin f n others rows →
    first_outside f n others rows ≡ None
is_none_outside f n rows others hr ho h =
    sym (outside_is f n others rows rows None ho hr hr (IsWithin-itself f n rows hr, IsWithin-itself f n rows hr) h)

meant_is_verdict : (f : Field) (given : Named) (tree : Tree) → AreComparable f given tree → (compared f given tree ≡ verdict.Same) ↔ Agrees f given tree →
    (v : Verdict) → IsMeant f given tree v → compared f given tree ≡ v
unfolding compared
meant_is_verdict f given tree c agreeing verdict.Same h = agreeing.1 h
meant_is_verdict f given tree c agreeing (verdict.Elements name) (inl h) =
    ap (λ o. verdict_of o (first_missing (element_names tree) given.names)
    (compared_rows f (length given.names) (matched_rows given tree) (present_rows f tree)))
    (is_first_missing given.names (element_names tree) name h)
meant_is_verdict f given tree c agreeing (verdict.Elements name) (inr h) =
    ap₂ (λ o p. verdict_of o p (compared_rows f (length given.names) (matched_rows given tree) (present_rows f tree)))
    (none_is_missing given.names (element_names tree) h.0) (is_first_missing (element_names tree) given.names name h.1)
meant_is_verdict f given tree c agreeing (verdict.Given i) h =
    compared_by_rows f given tree c h.0
    ∙ ap (λ o. verdict_of_rows o (first_outside f (length (element_names tree)) (present_rows f tree) (matched_rows given tree)))
    (is_first_outside f _ _ _ h.1.0 c.present c.matched h.1.2)
    ∙ ap verdict.Given (sym h.1.1)
meant_is_verdict f given tree c agreeing (verdict.Present j) h =
    compared_by_rows f given tree c h.0
    ∙ ap₂ (λ o p. verdict_of_rows o p) (is_none_outside f _ _ _ c.present c.matched h.1) (is_first_outside f _ _ _ h.2.0 c.matched c.present h.2.2)
    ∙ ap verdict.Present (sym h.2.1)

pub verdicts_are_meant : VerdictsAreMeant
verdicts_are_meant f given tree ok de dg hg v =
    let c : AreComparable f given tree = record {
      elements = de;
      names = dg;
      matched = rows_in_order f (length given.names) given.names (element_names tree) given.rows hg;
      present = tree_rows_are f tree ok;
    } in (
      (λ e. subst (λ (v : Verdict). IsMeant f given tree v) e (verdict_is_meant f given tree c)),
      meant_is_verdict f given tree c (same_exactly_where_they_agree f given tree ok de dg hg) v,
    )

-- ---- outputs

refusal_for : (e : Ending) (s : Session) (rest : List Line) (v : Verdict) → IsRefusalFor v (lines_after_header e (after s rest v))
refusal_for e s rest verdict.Same = tt
refusal_for e s rest (verdict.Elements name) = refl
refusal_for e s rest (verdict.Given i) = refl
refusal_for e s rest (verdict.Present j) = refl

pub output_names_the_difference : OutputNamesTheDifference
unfolding output_lines written_lines
output_names_the_difference settings text rest r p query e q v meant =
    let sound = lines_are_sound job_rules (lines text) (r ∷ rest) p e in
    let is =
    (verdicts_are_meant p.0.f (given_of p) p.1 sound.tree.valid_shape (different_elements p.1 sound.tree.different) sound.different sound.vectors v).1 meant in
    subst (λ (reading : Reading Session). IsRefusalFor v (lines_after_header (ending Ended text) reading))
    (sym (header_after settings (lines text) p r rest query e q ∙ ap (λ (v : Verdict). after (session_of settings.limit p query) rest v) is))
    (refusal_for (ending Ended text) (session_of settings.limit p query) rest v)
