-- What is read of the text of a decomposition can be built, where no boundary is above 6.
use Rattle.std.proofs.Common.{◌≡◌, ℕ, ◌<◌, ◌≤◌, Bool, true, false, not, max, nat_abs, Some, None, List, [], ◌∷◌, length, map, refl, sym, subst, arith}
use Rattle.std.specs.Prelude.{◌&&◌, ◌==◌, nat_le, nat_lt, codes, IfOk, if◌then◌else◌}
use Rattle.std.specs.List.{IsDistinct, list_all}
use Rattle.std.specs.Str.{bytes_eq}
use Rattle.std.proofs.lemmas.Bool.{and_parts, eqb-true, leb-false, leb-true, ltb-true}
use Rattle.std.proofs.lemmas.List.{length-append}
use Rattle.std.proofs.lemmas.List.Elements.{All-append, All-cons, All-nil}
use Rattle.std.proofs.lemmas.Option.{none-some, same_Some}
use Rattle.mm_base.specs.Names.{is_name}
use Rattle.mm_field.specs.Digits.{order}
use Rattle.mm_field.specs.Vectors.{AreDigits, AreVectors, IsVector}
use Rattle.mm_field.specs.declared.Field.{Field}
use Rattle.mm_lines.specs.Numbers.{i64_of}
use Rattle.mm_lines.specs.declared.line.Line.{Line}
use Rattle.mm_space.specs.DigitTexts.{digit_of, digits_of, is_digit}
use Rattle.mm_space.proofs.DigitTextLemmas.{small_digits}
use Rattle.mm_tree.specs.NamedTree.{is_one_of}
use Rattle.mm_tree.specs.ValidTree.{AreNames, most_weight}
use Rattle.mm_tree.proofs.BuilderLemmas.{distinct_push}
use Rattle.mm_job_text.specs.Arguments.{args, begins, is_word, one_of, two_of}
use Rattle.mm_job_text.specs.Checks.{require}
use Rattle.mm_job_text.specs.HeaderLines.{elements_line, field_line, most_rows, row_line, with_name, with_names}
use Rattle.mm_job_text.specs.Readers.{each, line}
use Rattle.mm_job_text.specs.declared.refusal.Limit.TheVariants as limit
use Rattle.mm_job_text.specs.declared.refusal.Refusal.{Refusal}
use Rattle.mm_job_text.specs.declared.refusal.Refusal.TheVariants as refusal
use Rattle.mm_job_text.proofs.ReadingLemmas.{IfRead, anything, each_has, if_found, if_ok, if_require, if_unless, line_has, then_has}
use Rattle.mm_decomp.specs.BuildLines.{StepLines, build_line, end_line, is_shape_part, join_line, leaf_fields, leaf_line, shape_line, shape_part, shape_refusal}
use Rattle.mm_decomp.specs.Decompositions.{Decomposition, build_parts, field_part, names_part, no_line, nothing_after, rows_part, steps_part}
use Rattle.mm_decomp.specs.ShapeBuilding.{join_fault, leaf_fault, pair_fault}
use Rattle.mm_decomp.specs.Shapes.{AreSteps, Shape, after_steps, depth, leaf_names, most_leaves}
use Rattle.mm_decomp.specs.Spaces.{Given}
use Rattle.mm_decomp.specs.declared.shape.Step.{Step}
use Rattle.mm_decomp.specs.declared.shape_builder.ShapeFault.TheVariants.{NameTaken, TooDeep, TooManyLeaves}
use Rattle.mm_decomp.proofs.ShapeBuilderLemmas.{HasTwo, steps_with_join, steps_with_leaf}

-- ---- names

pub record AreReadNames (names : List (List ℕ)) : Type 0 where
  pub named : AreNames names
  pub different : IsDistinct bytes_eq names
  pub few : length names ≤ 4096

abbrev IsName : List ℕ → Type 0
IsName name = is_name name ≡ true

name_kept : (n : ℕ) (old : List (List ℕ)) (t : List ℕ) → AreReadNames old → is_name t ≡ true → IfOk (with_name 4096 n old t) AreReadNames
name_kept n old t h named =
    if_require AreReadNames (not (is_one_of t old)) (refusal.Taken t) _ (λ free.
    if_require AreReadNames (nat_lt (length old) 4096) (refusal.Over limit.Elements n) _ (λ room.
    record {
      named = All-append IsName old (t ∷ []) h.named (All-cons IsName t [] named (All-nil IsName));
      different = distinct_push old t h.different (go (is_one_of t old) free);
      few = omega (arith, ltb-true (length old) 4096 room, length-append old (t ∷ []));
    }))
  where
    go : (b : Bool) → not b ≡ true → b ≡ false
    go true e = cc
    go false e = refl

names_kept : (n : ℕ) (old ts : List (List ℕ)) → AreReadNames old → list_all is_name ts ≡ true → IfOk (with_names 4096 n old ts) AreReadNames
names_kept n old [] h named = h
names_kept n old (t ∷ ts) h named =
    let p = and_parts (is_name t) (list_all is_name ts) named in
    if_ok AreReadNames AreReadNames (with_name 4096 n old t) (λ more. with_names 4096 n more ts) (name_kept n old t h p.0) (λ more k. names_kept n more ts k p.1)

elements_kept : (old : List (List ℕ)) (r : Line) → AreReadNames old → IfOk (elements_line 4096 old r) AreReadNames
unfolding elements_line
elements_kept old r h =
    if_require AreReadNames (list_all is_name (args r)) (refusal.Syntax r.number) _ (λ named. names_kept r.number old (args r) h named)

-- ---- rows

pub record AreReadRows (f : Field) (n : ℕ) (rows : List (List ℕ)) : Type 0 where
  pub each : AreVectors f n rows
  pub few : length rows ≤ 4096

digits_are : (f : Field) (t v : List ℕ) → digits_of f t ≡ Some v → AreDigits f v
digits_are f t v h = go (bytes_eq t (codes "-")) (nat_le 1 (length t)) (list_all (is_digit f) t) refl h
  where
    go : (dash long digits : Bool) → list_all (is_digit f) t ≡ digits →
        (if dash then Some [] else if long && digits then Some (map digit_of t) else None) ≡ Some v → AreDigits f v
    go true long digits e h = subst (λ (w : List ℕ). AreDigits f w) (same_Some [] v h) (All-nil (λ d. d < order f))
    go false true true e h = small_digits f t v e (sym (same_Some (map digit_of t) v h))
    go false true false e h = cc
    go false false digits e h = cc

row_kept : (f : Field) (n : ℕ) (rows : List (List ℕ)) (r : Line) → AreReadRows f n rows → IfOk (row_line f n rows r) (AreReadRows f n)
unfolding row_line
row_kept f n rows r h =
    let P = AreReadRows f n in
    let V = λ (v : List ℕ). IsVector f n v in
    if_found P (one_of (args r)) (refusal.Syntax r.number) _ (λ t one.
    if_found P (digits_of f t) (refusal.Syntax r.number) _ (λ row digits.
    if_require P (length row == n) (refusal.Syntax r.number) _ (λ count.
    if_require P (nat_lt (length rows) most_rows) (refusal.Over limit.Rows r.number) _ (λ room.
    record {
      each = All-append V rows (row ∷ []) h.each
          (All-cons V row [] (record { len = eqb-true (length row) n count; digits = digits_are f t row digits }) (All-nil V));
      few = omega (arith, ltb-true (length rows) 4096 room, length-append rows (row ∷ []));
    }))))

-- ---- steps

abbrev Kept : StepLines → Type 0
Kept s = AreSteps s.steps

leaf_light : (r : Line) → IfOk (leaf_fields r) (λ w. nat_abs w.weight ≤ most_weight)
unfolding leaf_fields
leaf_light r =
    if_found (λ w. nat_abs w.weight ≤ most_weight) (two_of (args r)) (refusal.Syntax r.number) _ (λ t two.
    if_require (λ w. nat_abs w.weight ≤ most_weight) (is_name t.0) (refusal.Syntax r.number) _ (λ named.
    if_found (λ w. nat_abs w.weight ≤ most_weight) (i64_of t.1) (refusal.Syntax r.number) _ (λ weight number.
    if_require (λ w. nat_abs w.weight ≤ most_weight) (nat_le (nat_abs weight) most_weight) (refusal.Over limit.Weight r.number) _ (λ light. leb-true (nat_abs weight) most_weight light))))

leaf_fits : (n : ℕ) (name : List ℕ) (all : List Step) → shape_refusal n (leaf_fault name all) ≡ None
    → (is_one_of name (leaf_names all) ≡ false) × (length (leaf_names all) < 4096)
leaf_fits n name all e = go (is_one_of name (leaf_names all)) (nat_le 4096 (length (leaf_names all))) refl refl e
  where
    go : (a b : Bool) → is_one_of name (leaf_names all) ≡ a → nat_le 4096 (length (leaf_names all)) ≡ b
        → shape_refusal n (if a then Some (NameTaken name) else (if b then Some TooManyLeaves else None)) ≡ None
        → (is_one_of name (leaf_names all) ≡ false) × (length (leaf_names all) < 4096)
    go true b p q e = absurd (none-some (refusal.Taken name) (sym e))
    go false true p q e = absurd (none-some (refusal.Over limit.Leaves n) (sym e))
    go false false p q e = (p, leb-false 4096 (length (leaf_names all)) q)

leaf_kept : (s : StepLines) (r : Line) → Kept s → IfOk (leaf_line s r) Kept
unfolding leaf_line
leaf_kept s r h =
    if_ok (λ w. nat_abs w.weight ≤ most_weight) Kept (leaf_fields r) _ (leaf_light r) (λ w light.
    if_unless Kept (shape_refusal r.number (leaf_fault w.name s.steps)) _ (λ none.
    let fits = leaf_fits r.number w.name s.steps none in
    steps_with_leaf s.steps w.name w.weight h fits.0 fits.1 light))

-- the last two shapes may be joined
record MayJoin (shapes : List Shape) : Type 0 where
  pub two : HasTwo shapes
  pub shallow : max (depth two.left) (depth two.right) < 1023

join_fits : (n : ℕ) (shapes : List Shape) → shape_refusal n (pair_fault shapes) ≡ None → MayJoin shapes
join_fits n [] e = absurd (none-some (refusal.Trees n) (sym e))
join_fits n (shape ∷ []) e = absurd (none-some (refusal.Trees n) (sym e))
join_fits n (right ∷ left ∷ shapes) e = go (nat_le 1023 (max (depth left) (depth right))) refl e
  where
    go : (b : Bool) → nat_le 1023 (max (depth left) (depth right)) ≡ b → shape_refusal n (if b then Some TooDeep else None) ≡ None → MayJoin (right ∷ left ∷ shapes)
    go true q e = absurd (none-some (refusal.Over limit.Depth n) (sym e))
    go false q e = record { two = record { left = left; right = right; rest = shapes; are = refl }; shallow = leb-false 1023 (max (depth left) (depth right)) q }

join_kept : (s : StepLines) (r : Line) → Kept s → IfOk (join_line s r) Kept
unfolding join_line
join_kept s r h =
    if_require Kept (is_word (codes "join") r) (refusal.Syntax r.number) _ (λ word.
    if_unless Kept (shape_refusal r.number (join_fault s.steps)) _ (λ none.
    let fits = join_fits r.number (after_steps [] s.steps) none in
    steps_with_join s.steps fits.two h fits.shallow))

part_kept : (s : StepLines) (r : Line) → Kept s → IfOk (shape_part s r) Kept
part_kept s r h = go (begins (codes "leaf") r)
  where
    go : (b : Bool) → IfOk (if b then leaf_line s r else join_line s r) Kept
    go true = leaf_kept s r h
    go false = join_kept s r h

no_steps : AreSteps []
unfolding IsDistinct
no_steps = record {
  find_two = tt;
  light = λ k d i. absurd (omega (arith, i));
  different = tt;
  few = omega arith;
  shallow = λ k d i. absurd (omega (arith, i));
}

-- ---- all lines

pub record IsReadBuild (d : Decomposition) : Type 0 where
  pub names : AreReadNames d.given.names
  pub rows : AreReadRows d.given.f (length d.given.names) d.given.rows
  pub are_steps : AreSteps d.shape.steps
  pub one : length (after_steps [] d.shape.steps) ≡ 1

require_has : (P : Type 0) (b : Bool) (e : Refusal) → (b ≡ true → P) → IfOk (require b e) (λ u. P)
require_has P true e h = h refl
require_has P false e h = tt

end_has : (s : StepLines) (r : Line) → IfOk (end_line s r) (λ u. length (after_steps [] s.steps) ≡ 1)
unfolding end_line
end_has s r =
    if_require (λ u. length (after_steps [] s.steps) ≡ 1) (is_word (codes "end") r) (refusal.Syntax r.number) _ (λ word.
    require_has (length (after_steps [] s.steps) ≡ 1) (length (after_steps [] s.steps) == 1) (refusal.Trees r.number)
    (λ one. eqb-true (length (after_steps [] s.steps)) 1 one))

nothing_has : (d : Decomposition) (rs : List Line) → IsReadBuild d → IfRead IsReadBuild (nothing_after d rs)
unfolding nothing_after
nothing_has d [] h = h
nothing_has d (r ∷ rs) h =
    then_has (λ u. Unit {0}) IsReadBuild (line no_line (r ∷ rs)) _ (line_has (λ u. Unit {0}) no_line (λ r. tt) (r ∷ rs)) (λ u more k. h)

steps_part_has : (given : Given) (s : StepLines) (rs : List Line) → AreReadNames given.names → AreReadRows given.f (length given.names) given.rows → Kept s
    → IfRead IsReadBuild (steps_part given s rs)
unfolding steps_part
steps_part_has given s rs names rows h =
    then_has Kept IsReadBuild (each is_shape_part shape_part s rs) _ (each_has Kept is_shape_part shape_part part_kept s rs h) (λ all more kept.
    then_has (λ u. length (after_steps [] all.steps) ≡ 1) IsReadBuild (line (end_line all) more) _
    (line_has (λ u. length (after_steps [] all.steps) ≡ 1) (end_line all) (end_has all) more) (λ u last one.
    nothing_has (record { given = given; shape = all }) last (record { names = names; rows = rows; are_steps = kept; one = one })))

rows_part_has : (given : Given) (rs : List Line) → AreReadNames given.names → AreReadRows given.f (length given.names) given.rows
    → IfRead IsReadBuild (rows_part given rs)
unfolding rows_part
rows_part_has given rs names h =
    let P = AreReadRows given.f (length given.names) in
    then_has P IsReadBuild (each (begins (codes "row")) (row_line given.f (length given.names)) given.rows rs) _
    (each_has P (begins (codes "row")) (row_line given.f (length given.names)) (row_kept given.f (length given.names)) given.rows rs h) (λ rows more kept.
    then_has (λ u. Unit {0}) IsReadBuild (line shape_line more) _ (line_has (λ u. Unit {0}) shape_line (λ r. anything (shape_line r)) more) (λ u last k.
    steps_part_has (record given { rows = rows }) (record { steps = []; numbers = [] }) last names kept no_steps))

names_part_has : (f : Field) (rs : List Line) → IfRead IsReadBuild (names_part f [] rs)
unfolding names_part IsDistinct
names_part_has f rs =
    let none : AreReadNames [] = record { named = All-nil IsName; different = tt; few = omega arith } in
    then_has AreReadNames IsReadBuild (each (begins (codes "elements")) (elements_line most_leaves) [] rs) _
    (each_has AreReadNames (begins (codes "elements")) (elements_line most_leaves) elements_kept [] rs none) (λ names more kept.
    rows_part_has (record { f = f; names = names; rows = [] }) more kept (record { each = All-nil (λ v. IsVector f (length names) v); few = omega arith }))

field_part_has : (rs : List Line) → IfRead IsReadBuild (field_part rs)
unfolding field_part
field_part_has rs =
    then_has (λ f. Unit {0}) IsReadBuild (line field_line rs) _ (line_has (λ f. Unit {0}) field_line (λ r. anything (field_line r)) rs) (λ f more k. names_part_has f more)

pub build_has : (rs : List Line) → IfRead IsReadBuild (build_parts rs)
unfolding build_parts
build_has rs =
    then_has (λ u. Unit {0}) IsReadBuild (line build_line rs) _ (line_has (λ u. Unit {0}) build_line (λ r. anything (build_line r)) rs) (λ u more k. field_part_has more)
