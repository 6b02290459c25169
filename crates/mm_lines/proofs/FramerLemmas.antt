-- What the lines from a framer's place say of the next line.
use Rattle.std.proofs.Common.{◌≡◌, ℕ, ◌+◌, ◌<◌, ◌≤◌, Bool, List, [], ◌∷◌, ◌++◌, length, get_or, drop, Option, Some, None, refl, sym, ap, ◌∙◌, arith}
use Rattle.std.specs.List.{slice_get}
use Rattle.std.specs.Prelude.{MatchOption}
use Rattle.std.specs.Option.{option_map}
use Rattle.std.proofs.lemmas.List.{drop-drop, get_or-drop, length-drop, append-nil}
use Rattle.std.proofs.lemmas.Option.{slice_get_past, slice_get-get_or}
use Rattle.mm_lines.specs.Lines.{lines_of}
use Rattle.mm_lines.specs.Places.{Goes, lines_from}
use Rattle.mm_lines.specs.Framers.{Reads}
use Rattle.mm_lines.specs.declared.line.Line.{Line}
use Rattle.mm_lines.specs.declared.place.Place.{Place}

-- The element at a place, by what is left from it.

pub drop_next : {A : Type 0} (xs : List A) (i : ℕ) (x : A) (ys : List A) → drop i xs ≡ x ∷ ys → drop (i + 1) xs ≡ ys
drop_next xs i x ys h = sym (drop-drop 1 i xs) ∙ ap (drop 1) h

pub get_first : {A : Type 0} (xs : List A) (i : ℕ) (x : A) (ys : List A) → drop i xs ≡ x ∷ ys → slice_get xs i ≡ Some x
get_first xs i x ys h =
    let some : 0 < length (drop i xs) = omega (arith, ap length h) in
    let inside : i < length xs = omega (arith, some, length-drop i xs) in
    slice_get-get_or xs i x inside ∙ ap Some (ap (λ (n : ℕ). get_or xs n x) {x = i} {y = i + 0} (omega arith) ∙ sym (get_or-drop i xs 0 x) ∙ ap (λ l. get_or l 0 x) h)

pub get_none : {A : Type 0} (xs : List A) (i k : ℕ) → drop i xs ≡ [] → i ≤ k → slice_get xs k ≡ None
get_none xs i k h le =
    let none : length (drop i xs) ≡ 0 = ap length h in
    slice_get_past xs k (omega (arith, none, le, length-drop i xs))

-- a cursor at a place gives the element there
pub get_by_cursor : {A B : Type 0} (shown : A → B) (r : Option A) (xs left new : List B) (i : ℕ) → left ≡ drop i xs
    → MatchOption r ((left ≡ []) × (new ≡ [])) (λ x. left ≡ shown x ∷ new) → option_map shown r ≡ slice_get xs i
get_by_cursor shown None xs left new i e h = sym (get_none xs i i (sym e ∙ h.0) (omega arith))
get_by_cursor shown (Some x) xs left new i e h = sym (get_first xs i (shown x) new (sym e ∙ h))

-- The next line.

reads_now : (ended : Bool) (bytes : List ℕ) (handed : ℕ) (p : Place) → Reads ended bytes handed p → drop handed (lines_of ended bytes) ≡ lines_from ended p bytes
reads_now ended bytes handed p h =
    ap (λ (l : List ℕ). drop handed (lines_of ended l)) (sym (append-nil bytes)) ∙ h ended [] (λ e. (e, refl)) ∙ ap (lines_from ended p) (append-nil bytes)

goes_now : (ended : Bool) (bytes : List ℕ) (p q : Place) (found : List Line) → Goes ended bytes p found q → lines_from ended p bytes ≡ found ++ lines_from ended q bytes
goes_now ended bytes p q found h =
    ap (lines_from ended p) (sym (append-nil bytes)) ∙ h ended [] (λ e. (e, refl)) ∙ ap (λ (l : List ℕ). found ++ lines_from ended q l) (append-nil bytes)

pub next_is_none : (ended : Bool) (bytes : List ℕ) (handed : ℕ) (p q : Place) → Reads ended bytes handed p → Goes ended bytes p [] q → lines_from ended q bytes ≡ []
    → slice_get (lines_of ended bytes) handed ≡ None
next_is_none ended bytes handed p q reads goes none =
    get_none (lines_of ended bytes) handed handed (reads_now ended bytes handed p reads ∙ goes_now ended bytes p q [] goes ∙ none) (omega arith)

pub next_is_line : (ended : Bool) (bytes : List ℕ) (handed : ℕ) (p q : Place) (found : List Line) (line : Line) → Reads ended bytes handed p → Goes ended bytes p found q → found ≡ line ∷ []
    → slice_get (lines_of ended bytes) handed ≡ Some line
next_is_line ended bytes handed p q found line reads goes one =
    get_first (lines_of ended bytes) handed line (lines_from ended q bytes)
    (reads_now ended bytes handed p reads ∙ goes_now ended bytes p q found goes ∙ ap (λ (l : List Line). l ++ lines_from ended q bytes) one)

pub reads_next : (ended : Bool) (bytes : List ℕ) (handed : ℕ) (p q : Place) (found : List Line) (line : Line) → Reads ended bytes handed p → Goes ended bytes p found q → found ≡ line ∷ []
    → Reads ended bytes (handed + 1) q
reads_next ended bytes handed p q found line reads goes one = λ end more may.
    drop_next (lines_of end (bytes ++ more)) handed line (lines_from end q (bytes ++ more))
    (reads end more may ∙ goes end more may ∙ ap (λ (l : List Line). l ++ lines_from end q (bytes ++ more)) one)
