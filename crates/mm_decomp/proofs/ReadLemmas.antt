-- The reading of a decomposition's text, from its parts.
use Rattle.std.proofs.Common.{◌≡◌, ℕ, zero, suc, ◌+◌, ◌<◌, ◌≤◌, Bool, true, false, not, List, [], ◌∷◌, ◌++◌, length, drop, take, get_or, Option, Some, None, refl, sym, ap, ap₂, ◌∙◌, subst, arith, cond}
use Rattle.std.specs.Prelude.{Ok, Err}
use Rattle.std.specs.List.{All, IsDistinct, slice_get}
use Rattle.std.specs.Option.{option_map, option_or}
use Rattle.std.specs.Str.{bytes_eq}
use Rattle.std.specs.declared.result.Result.{Result}
use Rattle.std.proofs.lemmas.List.{take_more}
use Rattle.std.proofs.lemmas.List.Elements.{All-nil, All-cons}
use Rattle.std.proofs.lemmas.Bool.{lt-ltb, le-ltb}
use Rattle.std.proofs.lemmas.Option.{none-some, same_Some}
use Rattle.mm_lines.specs.declared.line.Line.{Line}
use Rattle.mm_lines.specs.Lines.{lines, lines_of, most_bytes}
use Rattle.mm_lines.specs.Streams.{Stream, next_of, after_line}
use Rattle.mm_present.specs.Comparing.{first_missing}
use Rattle.mm_present.proofs.CompareLemmas.{as_many}
use Rattle.mm_tree.specs.NamedTree.{is_one_of}
use Rattle.mm_job_text.specs.Becoming.{Goes}
use Rattle.mm_job_text.specs.Checks.{◌>>=◌, ◌>>◌, unless}
use Rattle.mm_job_text.specs.Readers.{Reading, Refused}
use Rattle.mm_job_text.specs.declared.refusal.Refusal.{Refusal}
use Rattle.mm_job_text.specs.declared.refusal.Refusal.TheVariants as refusal
use Rattle.mm_job_text.specs.declared.refusal.Stop.{Stop}
use Rattle.mm_job_text.specs.declared.refusal.Stop.TheVariants as stop
use Rattle.mm_decomp.specs.BuildTexts.{decomposition, left}
use Rattle.mm_decomp.specs.Building.{AreLeaves}
use Rattle.mm_decomp.specs.Decompositions.{Decomposition, same_names, at_end, read_at_end, build_parts, field_part, names_part, rows_part, steps_part, nothing_after}
use Rattle.mm_decomp.specs.BuildStates.{given_in, step_lines, parts_at, parts_from}
use Rattle.mm_decomp.specs.declared.build_state.BuildState.{BuildState}
use Rattle.mm_decomp.specs.declared.build_state.Stage.{Stage}
use Rattle.mm_decomp.specs.declared.build_state.Stage.TheVariants as stage
use Rattle.mm_decomp.specs.Shapes.{leaf_names}
use Rattle.mm_decomp.specs.declared.decomposition.BuildText.{BuildText}
use Rattle.mm_decomp.specs.declared.shape.Step.{Step}
use Rattle.mm_decomp.proofs.ShapeLemmas.{leaf_names-append}

-- ---- the lines that are left

next_left : {A : Type 0} (xs : List A) (i : ℕ) (x : A) → slice_get xs i ≡ Some x → drop i xs ≡ x ∷ drop (i + 1) xs
next_left [] i x h = absurd (none-some x h)
next_left (y ∷ xs) zero x h = ap (λ z. z ∷ xs) (same_Some y x h)
next_left (y ∷ xs) (suc i) x h = next_left xs i x h ∙ ap (λ (k : ℕ). x ∷ drop k (y ∷ xs)) {x = suc (i + 1)} {y = suc i + 1} (omega arith)

none_left : {A : Type 0} (xs : List A) (i : ℕ) → slice_get xs i ≡ None → drop i xs ≡ []
none_left [] zero h = refl
none_left [] (suc i) h = refl
none_left (y ∷ xs) zero h = absurd (none-some y (sym h))
none_left (y ∷ xs) (suc i) h = none_left xs i h

pub line_left : (s new : Stream) (o : Option Line) (r : Line) → o ≡ next_of s → new ≡ after_line o s → o ≡ Some r → left s ≡ r ∷ left new
line_left s new o r is handed some =
    let n : new ≡ record s { handed = s.handed + 1 } = handed ∙ ap (λ (p : Option Line). after_line p s) some in
    next_left (lines_of s.ended s.bytes) s.handed r (sym is ∙ some) ∙ ap (λ (t : Stream). r ∷ left t) (sym n)

pub all_left : (s new : Stream) (o : Option Line) → o ≡ next_of s → new ≡ after_line o s → o ≡ None → (left s ≡ []) × (left new ≡ [])
all_left s new o is handed none =
    let n : new ≡ s = handed ∙ ap (λ (p : Option Line). after_line p s) none in
    let empty : left s ≡ [] = none_left (lines_of s.ended s.bytes) s.handed (sym is ∙ none) in
    (empty, ap (λ (t : Stream). left t) n ∙ empty)

pub shorter : (s new : Stream) (r : Line) → left s ≡ r ∷ left new → length (left new) < length (left s)
shorter s new r h = omega (arith, ap length h)

pub fed : (old new : Stream) (bytes piece : List ℕ) → old ≡ record { bytes = []; ended = false; handed = 0 } → piece ≡ take most_bytes bytes →
    new ≡ record old { bytes = old.bytes ++ piece } → new ≡ record { bytes = take most_bytes bytes; ended = false; handed = 0 }
fed old new bytes piece e p h = h ∙ ap₂ (λ (s : Stream) (u : List ℕ). record s { bytes = s.bytes ++ u }) e p

pub long_text : (s : Stream) (bytes : List ℕ) → s ≡ record { bytes = take most_bytes bytes; ended = false; handed = 0 } → most_bytes < length bytes →
    left s ≡ lines bytes
unfolding lines
long_text s bytes e l =
    ap (λ (t : Stream). left t) e ∙ ap (λ (b : Bool). lines_of (not b) (take most_bytes bytes)) (sym (lt-ltb most_bytes (length bytes) l))

pub short_text : (s : Stream) (bytes : List ℕ) → s ≡ record { bytes = take most_bytes bytes; ended = true; handed = 0 } → length bytes ≤ most_bytes →
    left s ≡ lines bytes
unfolding lines
short_text s bytes e l =
    ap (λ (t : Stream). left t) e ∙ ap (λ (b : Bool). lines_of (not b) (take most_bytes bytes)) (sym (le-ltb most_bytes (length bytes) l))

-- ---- the names of leaves

pub next_leaves : (xs : List Step) (i : ℕ) (step d : Step) (old new : List (List ℕ)) → i < length xs → step ≡ get_or xs i d → old ≡ leaf_names (take i xs) →
    new ≡ old ++ leaf_names (step ∷ []) → new ≡ leaf_names (take (i + 1) xs)
next_leaves xs i step d old new l e eo en =
    en ∙ ap (λ ns. ns ++ leaf_names (step ∷ [])) eo ∙ sym (leaf_names-append (take i xs) (step ∷ []))
    ∙ ap (λ s. leaf_names (take i xs ++ s ∷ [])) e ∙ ap leaf_names (sym (take_more xs i d l))

all_there : (xs ys : List (List ℕ)) → first_missing xs ys ≡ None → All (λ x. is_one_of x ys ≡ true) xs
all_there [] ys h = All-nil (λ x. is_one_of x ys ≡ true)
all_there (x ∷ xs) ys h = go (is_one_of x ys) refl (all_there xs ys)
  where
    go : (b : Bool) → is_one_of x ys ≡ b → (first_missing xs ys ≡ None → All (λ x. is_one_of x ys ≡ true) xs) → All (λ x. is_one_of x ys ≡ true) (x ∷ xs)
    go true e rest =
        All-cons (λ x. is_one_of x ys ≡ true) x xs e (rest (sym (ap (λ (b : Bool). cond (not b) (Some x) (first_missing xs ys)) e) ∙ h))
    go false e rest =
        let found : Some x ≡ None = sym (ap (λ (b : Bool). cond (not b) (Some x) (first_missing xs ys)) e) ∙ h in cc

-- ---- what is made of a line

-- a stop says nothing of what would have come after
pub stops_alike : {X Y : Type 0} (s : Stop) (all : Reading Decomposition) (f : X → Reading Decomposition) (g : Y → Reading Decomposition) →
    Goes {X = X} (Err s) all f → Goes {X = Y} (Err s) all g
stops_alike (stop.Refused e) all f g h = h
stops_alike stop.NoMemory all f g h = tt

pub line_stops : {X : Type 0} (s : Stop) (p : List Line → Reading Decomposition) (all : List Line) (r : Line) (rs : List Line)
    (f : Unit {0} → Reading Decomposition) (g : X → Reading Decomposition) → all ≡ r ∷ rs → Goes {X = Unit {0}} (Err s) (p (r ∷ rs)) f →
    Goes {X = X} (Err s) (p all) g
line_stops s p all r rs f g e h = subst (λ (l : List Line). Goes (Err s) (p l) g) (sym e) (stops_alike s (p (r ∷ rs)) f g h)

-- ---- names compared

pub names_refused : (t : BuildText) (found : Option (List ℕ)) (name : List ℕ) →
    found ≡ option_or (first_missing t.names (leaf_names t.shape)) (first_missing (leaf_names t.shape) t.names) → found ≡ Some name →
    same_names (decomposition t) ≡ Err (refusal.Elements name)
names_refused t found name e s =
    ap (λ (o : Option (List ℕ)). unless (option_map refusal.Elements o) >> Ok (decomposition t)) (sym e ∙ s)

pub names_matched : (t : BuildText) (found : Option (List ℕ)) →
    found ≡ option_or (first_missing t.names (leaf_names t.shape)) (first_missing (leaf_names t.shape) t.names) → found ≡ None →
    IsDistinct bytes_eq t.names → IsDistinct bytes_eq (leaf_names t.shape) → t.rows.cols ≡ length t.names →
    (same_names (decomposition t) ≡ Ok (decomposition t)) × AreLeaves t.names t.rows t.shape
names_matched t found e n d dl c =
    let none = sym e ∙ n in
    let first = neither (first_missing t.names (leaf_names t.shape)) (first_missing (leaf_names t.shape) t.names) none in (
      ap (λ (o : Option (List ℕ)). unless (option_map refusal.Elements o) >> Ok (decomposition t)) none,
      record {
        columns = c;
        different = d;
        given = all_there (leaf_names t.shape) t.names first.1;
        count = as_many (leaf_names t.shape) t.names dl d first.1 first.0;
      },
    )
  where
    neither : (a b : Option (List ℕ)) → option_or a b ≡ None → (a ≡ None) × (b ≡ None)
    neither None b h = (refl, h)
    neither (Some x) b h = absurd (none-some x (sym h))

-- ---- the end of the text

pub end_of_long : (s : BuildState) → at_end true (parts_from s []) ≡ Err refusal.TooLong
unfolding build_parts field_part names_part rows_part steps_part nothing_after
end_of_long s = go s.stage
  where
    go : (g : Stage) → at_end true (parts_at g s []) ≡ Err refusal.TooLong
    go stage.First = refl
    go stage.Field = refl
    go stage.Names = refl
    go stage.Rows = refl
    go stage.Steps = refl
    go stage.End = refl

pub end_over : (over : Bool) (s : BuildState) → over ≡ true → at_end over (parts_from s []) ≡ Err refusal.TooLong
end_over over s e = ap (λ (b : Bool). at_end b (parts_from s [])) e ∙ end_of_long s

pub end_is : (over : Bool) (s : BuildState) → over ≡ false → s.stage ≡ stage.End →
    at_end over (parts_from s []) ≡ Ok (record { given = given_in s; shape = step_lines s.steps })
unfolding nothing_after
end_is over s e k = ap₂ (λ (b : Bool) (g : Stage). at_end b (parts_at g s [])) e k

pub end_short : (over : Bool) (s : BuildState) → over ≡ false → (s.stage ≡ stage.End → ⊥) → at_end over (parts_from s []) ≡ Err refusal.Unfinished
unfolding build_parts field_part names_part rows_part steps_part
end_short over s e other = ap (λ (b : Bool). at_end b (parts_from s [])) e ∙ go s.stage other
  where
    go : (g : Stage) → (g ≡ stage.End → ⊥) → at_end false (parts_at g s []) ≡ Err refusal.Unfinished
    go stage.First n = refl
    go stage.Field n = refl
    go stage.Names n = refl
    go stage.Rows n = refl
    go stage.Steps n = refl
    go stage.End n = absurd (n refl)

pub lines_refused : (over : Bool) (all : Reading Decomposition) (e : Refusal) → all ≡ Refused e → read_at_end over all ≡ Err e
lines_refused over all e h = ap (read_at_end over) h

pub end_refused : (over : Bool) (all last : Reading Decomposition) (e : Refusal) → all ≡ last → at_end over last ≡ Err e → read_at_end over all ≡ Err e
end_refused over all last e h k = ap (λ r. r >>= same_names) (ap (at_end over) h ∙ k)

pub read_ends : (over : Bool) (all last : Reading Decomposition) (d : Decomposition) (r : Result Decomposition Refusal) → all ≡ last → at_end over last ≡ Ok d →
    same_names d ≡ r → read_at_end over all ≡ r
read_ends over all last d r h k e = ap (λ x. x >>= same_names) (ap (at_end over) h ∙ k) ∙ e
