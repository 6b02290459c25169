-- The columns of named rows, and the rows with their digits in the order of some names.
use Rattle.std.proofs.Common.{ℕ, ◌<◌, ◌≡◌, true, List, [], ◌∷◌, length, map, get_or, refl, sym, ap, ap₂, ◌∙◌, subst, arith, ext_get_or, zero-add}
use Rattle.std.specs.List.{All, range_with_len}
use Rattle.std.proofs.lemmas.List.{length-map, get_or-map}
use Rattle.std.proofs.lemmas.List.FromFn.{get_or-range_with_len, length-range_with_len}
use Rattle.std.proofs.lemmas.List.Elements.{All-head, All-tail}
use Rattle.mm_field.specs.Vectors.{IsVector, AreVectors}
use Rattle.mm_matrix.specs.Columns.{column}
use Rattle.mm_matrix.proofs.ColumnLemmas.{IsVector-column}
use Rattle.mm_present.specs.Comparing.{digit_at, in_order}
use Rattle.mm_tree.specs.NamedTree.{is_one_of}
use Rattle.mm_decomp.specs.Forms.{all_columns}
use Rattle.mm_decomp.specs.Spaces.{Given, column_of, place_in}
use Rattle.mm_decomp.proofs.FormLemmas.{length-all_columns}
use Rattle.mm_decomp.proofs.ShapeLemmas.{place_below, place_is}

-- each of some names is a name of a column
abbrev pub AreNamed : Given → List (List ℕ) → Type 0
AreNamed given some = All (λ name. is_one_of name given.names ≡ true) some

abbrev pub columns_of : Given → List (List ℕ) → List (List ℕ)
columns_of given some = map (column_of given) some

-- the columns of some names are vectors
abbrev pub AreColumns : Given → List (List ℕ) → Type 0
AreColumns given some = AreVectors given.f (length given.rows) (columns_of given some)

pub named_columns : (given : Given) (some : List (List ℕ)) → AreVectors given.f (length given.names) given.rows → AreNamed given some → AreColumns given some
named_columns given some h all = λ i d l.
    let e = length-map some (column_of given) in
    let li : i < length some = omega arith in
    let name = get_or some i [] in
    subst (λ v. IsVector given.f (length given.rows) v) (sym (get_or-map (column_of given) some i [] d li))
    (IsVector-column given.f (length given.names) (place_in given.names name) given.rows h (place_below name given.names (all i [] li)))

-- a row with its digits in the order of some names has a digit of each of their columns
pub one_in_order : (given : Given) (i : ℕ) → i < length given.rows → (some : List (List ℕ)) → AreNamed given some →
    in_order given.names some (get_or given.rows i []) ≡ column (columns_of given some) i
one_in_order given i l [] h = refl
one_in_order given i l (name ∷ some) h =
    let p = place_in given.names name in
    ap₂ (λ (d : ℕ) (ds : List ℕ). d ∷ ds)
    (ap (digit_at (get_or given.rows i [])) (place_is name given.names (All-head (λ name. is_one_of name given.names ≡ true) name some h))
    ∙ sym (get_or-map (λ (v : List ℕ). get_or v p 0) given.rows i [] 0 l))
    (one_in_order given i l some (All-tail (λ name. is_one_of name given.names ≡ true) name some h))

pub rows_in_order : (given : Given) (some : List (List ℕ)) → AreNamed given some →
    map (in_order given.names some) given.rows ≡ all_columns (length given.rows) (columns_of given some)
rows_in_order given some h =
    let g = length given.rows in
    let cs = columns_of given some in
    let le = length-map given.rows (in_order given.names some) in
    let lc = length-all_columns g cs in
    let lr = length-range_with_len 0 g in
    ext_get_or [] (map (in_order given.names some) given.rows) (all_columns g cs) (le ∙ sym lc) (λ i l.
    let li : i < g = omega arith in
    get_or-map (in_order given.names some) given.rows i [] [] li
    ∙ one_in_order given i li some h
    ∙ ap (column cs) (sym (get_or-range_with_len 0 g i 0 li ∙ zero-add i))
    ∙ sym (get_or-map (column cs) (range_with_len 0 g) i 0 [] (omega arith)))
