-- What a comparison finds: names that are missing, rows in another order, rows outside a row space.
use Rattle.std.proofs.Common.{All, ℕ, ◌+◌, ◌<◌, ◌≤◌, ◌≡◌, Bool, true, false, cond, not, ◌||◌, Option, Some, None, List, [], ◌∷◌, ◌++◌, length, map, find, position, get_or, slice_get, take, drop, refl, sym, ap, ap₂, subst, ◌∙◌, arith, take-append-drop}
use Rattle.std.specs.Prelude.{MatchOption, IfSome, nat_lt}
use Rattle.std.specs.List.{IsDistinct, list_any, position_or_len}
use Rattle.std.specs.Str.{bytes_eq}
use Rattle.std.proofs.lemmas.Bool.{lt-ltb, le-ltb, ltb-true, false_from_ne_true, both_ways}
use Rattle.std.proofs.lemmas.List.{drop_more, drop_all, take_more, length-map, map_push, get_or-take, length-take-le}
use Rattle.std.proofs.lemmas.List.Quantifiers.{position-Some}
use Rattle.std.proofs.lemmas.List.Elements.{All-nil, All-cons}
use Rattle.std.proofs.lemmas.List.Sums.{position_or_len_is}
use Rattle.std.proofs.lemmas.Map.Made.{length-le_from_is_member}
use Rattle.std.proofs.lemmas.Cmp.{nat_list_eq_equiv}
use Rattle.std.proofs.lemmas.Simd.{map-map}
use Rattle.std.proofs.lemmas.Option.{get_or_from_slice_get}
use Rattle.indexmap.specs.IndexSet.{insert_key}
use Rattle.mm_base.specs.contracts.name.NamePartialEq.TheImpl.{eq-value}
use Rattle.mm_field.specs.declared.Field.{Field}
use Rattle.mm_field.specs.Digits.{order}
use Rattle.mm_field.specs.Vectors.{IsVector, AreVectors, InSpan, IsWithin, SameRowSpace}
use Rattle.mm_field.proofs.CombinationLemmas.{InSpan-within}
use Rattle.mm_field.proofs.Tables.{zero_digit}
use Rattle.mm_linear.specs.Decide.{is_in_span}
use Rattle.mm_linear.proofs.MeetTest.{is_in_span_decides}
use Rattle.mm_matrix.specs.MatrixValue.{MatrixValue}
use Rattle.mm_matrix.specs.Outside.{IsFirstOutside}
use Rattle.mm_base.proofs.NameLemmas.{name_eq, bytes_same, same_bytes}
use Rattle.mm_tree.specs.NamedTree.{Tree, element_names, is_one_of}
use Rattle.mm_tree.proofs.BuilderLemmas.{any_name, insert_new}
use Rattle.mm_tree.proofs.NameLemmas.{distinct_left, distinct_apart}
use Rattle.mm_present.specs.Comparing.{Named, compared, compared_rows, digit_at, first_missing, first_outside, in_order, present_rows, verdict_of, verdict_of_rows}
use Rattle.mm_present.specs.Ordering.{IsPlaceBelow}
use Rattle.mm_present.proofs.RangeLemmas.{map_each}
use Rattle.mm_present.proofs.TreeRows.{digit_of}
use Rattle.mm_present.specs.declared.comparison.Verdict.{Verdict}
use Rattle.mm_present.specs.declared.comparison.Verdict.TheVariants as verdict

-- ---- names

-- a set of the first names, with one more
pub set_next : (names set new : List (List ℕ)) (k : ℕ) (name : List ℕ) → IsDistinct bytes_eq names → k < length names → set ≡ take k names →
    slice_get names k ≡ Some name → new ≡ insert_key (eq-value).it set name → new ≡ take (k + 1) names
set_next names set new k name d l es en ei =
    let at = get_or_from_slice_get names k name [] en in
    let more : take (k + 1) names ≡ take k names ++ name ∷ [] = take_more names k [] l ∙ ap (λ x. take k names ++ x ∷ []) at in
    let front : IsDistinct bytes_eq (take (k + 1) names) =
    distinct_left (take (k + 1) names) (drop (k + 1) names) (subst (λ xs. IsDistinct bytes_eq xs) (sym (take-append-drop (k + 1) names)) d) in
    let apart = distinct_apart (take k names) (name ∷ []) (subst (λ xs. IsDistinct bytes_eq xs) more front) in
    let one : is_one_of name (name ∷ []) ≡ true = ap (λ b. b || false) (bytes_same name) in
    let absent : is_one_of name (take k names) ≡ false =
    false_from_ne_true (is_one_of name (take k names)) (λ t. both_ways (is_one_of name (name ∷ [])) (apart name t) one) in
    ei ∙ ap (λ xs. insert_key (eq-value).it xs name) es ∙ insert_new (take k names) name absent ∙ sym more

missing_step : (names others : List (List ℕ)) (k : ℕ) (name : List ℕ) (b : Bool) → k < length names → slice_get names k ≡ Some name →
    b ≡ list_any ((eq-value).it name) others →
    first_missing (drop k names) others ≡ cond (not b) (Some name) (first_missing (drop (k + 1) names) others)
missing_step names others k name b l en eb =
    let at = get_or_from_slice_get names k name [] en in
    let p : List ℕ → Bool = λ n. not (is_one_of n others) in
    ap (find p) (drop_more names k [] l ∙ ap (λ x. x ∷ drop (k + 1) names) at)
    ∙ ap (λ t. cond (not t) (Some name) (find p (drop (k + 1) names))) (sym (eb ∙ any_name name others))

pub missing_found : (names others : List (List ℕ)) (k : ℕ) (name : List ℕ) (b : Bool) → k < length names → slice_get names k ≡ Some name →
    b ≡ list_any ((eq-value).it name) others → b ≡ false → first_missing names others ≡ first_missing (drop k names) others →
    Some name ≡ first_missing names others
missing_found names others k name b l en eb f e =
    sym (e ∙ missing_step names others k name b l en eb ∙ ap (λ t. cond (not t) (Some name) (first_missing (drop (k + 1) names) others)) f)

pub missing_next : (names others : List (List ℕ)) (k : ℕ) (name : List ℕ) (b : Bool) → k < length names → slice_get names k ≡ Some name →
    b ≡ list_any ((eq-value).it name) others → b ≡ true → first_missing names others ≡ first_missing (drop k names) others →
    first_missing names others ≡ first_missing (drop (k + 1) names) others
missing_next names others k name b l en eb t e =
    e ∙ missing_step names others k name b l en eb ∙ ap (λ t. cond (not t) (Some name) (first_missing (drop (k + 1) names) others)) t

pub missing_none : (names others : List (List ℕ)) (k : ℕ) → length names ≤ k → first_missing names others ≡ first_missing (drop k names) others →
    None ≡ first_missing names others
missing_none names others k l e = sym (e ∙ ap (λ xs. first_missing xs others) (drop_all k names l))

-- where no name is missing, each is among the others
pub none_missing : (names others : List (List ℕ)) → first_missing names others ≡ None → (x : List ℕ) → is_one_of x names ≡ true → is_one_of x others ≡ true
none_missing [] others e x t = cc
none_missing (y ∷ names) others e x t = go (is_one_of y others) refl (bytes_eq x y) refl (none_missing names others)
  where
    go : (b : Bool) → is_one_of y others ≡ b → (s : Bool) → bytes_eq x y ≡ s →
        (first_missing names others ≡ None → (x : List ℕ) → is_one_of x names ≡ true → is_one_of x others ≡ true) → is_one_of x others ≡ true
    go false p s q more =
        let found : Some y ≡ None = sym (ap (λ c. cond (not c) (Some y) (first_missing names others)) p) ∙ e in cc
    go true p true q more = subst (λ z. is_one_of z others ≡ true) (sym (same_bytes x y q)) p
    go true p false q more =
        more (sym (ap (λ c. cond (not c) (Some y) (first_missing names others)) p) ∙ e) x (sym (ap (λ c. c || is_one_of x names) q) ∙ t)

-- where the names of neither list are missing in the other, both are as long
pub as_many : (names others : List (List ℕ)) → IsDistinct bytes_eq names → IsDistinct bytes_eq others → first_missing names others ≡ None →
    first_missing others names ≡ None → length names ≡ length others
as_many names others d e m n =
    let up = length-le_from_is_member nat_list_eq_equiv names others d (none_missing names others m) in
    let down = length-le_from_is_member nat_list_eq_equiv others names e (none_missing others names n) in
    omega arith

-- ---- rows in another order

pub same_position : (names : List (List ℕ)) (name : List ℕ) → position ((eq-value).it name) names ≡ position (bytes_eq name) names
same_position names name = ap (λ p. position p names) (λ i x. name_eq name x i)

place_below : (p : List ℕ → Bool) (names : List (List ℕ)) (n : ℕ) → length names ≤ n → IsPlaceBelow n (position p names)
place_below p names n l = go (nat_lt (position_or_len p names) (length names)) refl
  where
    go : (b : Bool) → nat_lt (position_or_len p names) (length names) ≡ b → IsPlaceBelow n (cond b (Some (position_or_len p names)) None)
    go true e = let inside : position_or_len p names < length names = ltb-true _ _ e in omega arith
    go false e = tt

pub places_below : (names others : List (List ℕ)) (n : ℕ) → length names ≤ n → All (λ place. IsPlaceBelow n place) (map (λ name. position (bytes_eq name) names) others)
places_below names [] n l = All-nil (λ place. IsPlaceBelow n place)
places_below names (name ∷ others) n l =
    All-cons (λ place. IsPlaceBelow n place) _ _ (place_below (bytes_eq name) names n l) (places_below names others n l)

pub placed_vector : (f : Field) (n : ℕ) (row : List ℕ) (places : List (Option ℕ)) → IsVector f n row → IsVector f (length places) (map (digit_at row) places)
placed_vector f n row places h = record { len = length-map places (digit_at row); digits = go places }
  where
    digit : (place : Option ℕ) → digit_at row place < order f
    digit None = zero_digit f
    digit (Some i) = digit_of f row i h.digits

    go : (places : List (Option ℕ)) → All (λ d. d < order f) (map (digit_at row) places)
    go [] = All-nil (λ d. d < order f)
    go (place ∷ places) = All-cons (λ d. d < order f) _ _ (digit place) (go places)

pub next_place : {X Y : Type 0} (h : X → Y) (xs : List X) (k : ℕ) (x : X) (y : Y) (done : List Y) → k < length xs → x ≡ get_or xs k x → y ≡ h x →
    done ≡ map h (take k xs) → done ++ y ∷ [] ≡ map h (take (k + 1) xs)
next_place h xs k x y done l ex ey e =
    ap₂ (λ ds d. ds ++ d ∷ []) e (ey ∙ ap h ex) ∙ sym (map_push h (take k xs) (get_or xs k x)) ∙ sym (ap (map h) (take_more xs k x l))

-- ---- rows outside a row space

pub position_found : {X : Type 0} (p : X → Bool) (xs : List X) (i : ℕ) (d : X) → i < length xs → p (get_or xs i d) ≡ true →
    ((k : ℕ) → k < i → p (get_or xs k d) ≡ false) → Some i ≡ position p xs
position_found p xs i d l t f =
    let at = position_or_len_is p xs i d (omega arith) f (λ _. t) in
    sym (ap (λ n. cond (nat_lt n (length xs)) (Some n) None) at ∙ ap (λ b. cond b (Some i) None) (lt-ltb i (length xs) l))

pub position_none : {X : Type 0} (p : X → Bool) (xs : List X) (d : X) → ((k : ℕ) → k < length xs → p (get_or xs k d) ≡ false) → None ≡ position p xs
position_none p xs d f =
    let at = position_or_len_is p xs (length xs) d (omega arith) f (λ l. absurd (omega arith)) in
    let past : length xs ≤ length xs = omega arith in
    sym (ap (λ n. cond (nat_lt n (length xs)) (Some n) None) at ∙ ap (λ b. cond b (Some (length xs)) None) (le-ltb (length xs) (length xs) past))

pub inside_true : (f : Field) (n : ℕ) (others : List (List ℕ)) (row : List ℕ) → AreVectors f n others → IsVector f n row → InSpan f n others row →
    not (is_in_span f n others row) ≡ false
inside_true f n others row h hr p = ap not ((is_in_span_decides f n others row h hr).1 p)

pub outside_true : (f : Field) (n : ℕ) (others : List (List ℕ)) (row : List ℕ) → AreVectors f n others → IsVector f n row → (InSpan f n others row → ⊥) →
    not (is_in_span f n others row) ≡ true
outside_true f n others row h hr p =
    ap not (false_from_ne_true (is_in_span f n others row) (λ t. p ((is_in_span_decides f n others row h hr).0 t)))

-- the first row outside a row space, by other rows of this space
pub outside_is : (f : Field) (n : ℕ) (rows others space : List (List ℕ)) (found : Option ℕ) → AreVectors f n rows → AreVectors f n others →
    AreVectors f n space → SameRowSpace f n others space →
    MatchOption found (IsWithin f n rows space) (λ i. IsFirstOutside f n space rows i) → found ≡ first_outside f n rows others
outside_is f n rows others space None hr ho hs same m =
    position_none (λ row. not (is_in_span f n others row)) rows []
    (λ k l. inside_true f n others (get_or rows k []) ho (hr k [] l) (InSpan-within f n space others (get_or rows k []) ho same.1 (m k [] l)))
outside_is f n rows others space (Some i) hr ho hs same m =
    let row = get_or rows i [] in
    position_found (λ row. not (is_in_span f n others row)) rows i [] m.is_row
    (outside_true f n others row ho (hr i [] m.is_row) (λ p. m.outside (InSpan-within f n others space row hs same.0 p)))
    (λ k l.
    let lk : k < length rows = (let r = m.is_row in omega arith) in
    let s : get_or (take i rows) k [] ≡ get_or rows k [] = get_or-take i rows k [] l in
    let short : length (take i rows) ≡ i = length-take-le i rows (let r = m.is_row in omega arith) in
    inside_true f n others (get_or rows k []) ho (hr k [] lk)
    (InSpan-within f n space others (get_or rows k []) ho same.1
    (subst (λ v. InSpan f n space v) s (m.before k [] (omega arith)))))

pub none_outside : (f : Field) (n : ℕ) (given present : List (List ℕ)) → None ≡ first_outside f n given present →
    None ≡ first_outside f n present given → verdict.Same ≡ compared_rows f n given present
none_outside f n given present e g = ap₂ verdict_of_rows e g

pub position_small : (f : Field) (n : ℕ) (rows others : List (List ℕ)) (found : Option ℕ) (most : ℕ) → length rows < most →
    found ≡ first_outside f n rows others → IfSome found (λ i. i + 1 < most)
position_small f n rows others None most l e = tt
position_small f n rows others (Some i) most l e =
    let p = position-Some (λ row. not (is_in_span f n others row)) rows i [] (sym e) in
    let inside : i < length rows = p.0 in
    omega arith

pub found_small : (f : Field) (n : ℕ) (space rows : List (List ℕ)) (found : Option ℕ) (most : ℕ) → length rows < most →
    MatchOption found (IsWithin f n rows space) (λ i. IsFirstOutside f n space rows i) → IfSome found (λ i. i + 1 < most)
found_small f n space rows None most l m = tt
found_small f n space rows (Some i) most l m = let r = m.is_row in omega arith

-- ---- the whole comparison

pub given_missing : (f : Field) (given : Named) (tree : Tree) (name : List ℕ) → first_missing given.names (element_names tree) ≡ Some name →
    verdict.Elements name ≡ compared f given tree
unfolding compared
given_missing f given tree name e =
    sym (ap (λ o. verdict_of o (first_missing (element_names tree) given.names)
    (compared_rows f (length given.names) (map (in_order given.names (element_names tree)) given.rows) (present_rows f tree))) e)

pub element_missing : (f : Field) (given : Named) (tree : Tree) (name : List ℕ) → first_missing given.names (element_names tree) ≡ None →
    first_missing (element_names tree) given.names ≡ Some name → verdict.Elements name ≡ compared f given tree
unfolding compared
element_missing f given tree name e g =
    sym (ap₂ (λ o p. verdict_of o p
    (compared_rows f (length given.names) (map (in_order given.names (element_names tree)) given.rows) (present_rows f tree))) e g)

ordered_rows : (names others : List (List ℕ)) (rows : List (List ℕ)) →
    map (λ row. map (digit_at row) (map (λ name. position (bytes_eq name) names) others)) rows ≡ map (in_order names others) rows
ordered_rows names others rows =
    map_each _ _ rows (λ row. map-map (digit_at row) (λ name. position (bytes_eq name) names) others)

pub same_elements : (f : Field) (given : Named) (tree : Tree) (places : List (Option ℕ)) (ordered : MatrixValue) (v : Verdict) →
    IsDistinct bytes_eq given.names → IsDistinct bytes_eq (element_names tree) → first_missing given.names (element_names tree) ≡ None →
    first_missing (element_names tree) given.names ≡ None → places ≡ map (λ name. position (bytes_eq name) given.names) (element_names tree) →
    ordered ≡ record { f = f; cols = length places; rows = map (λ row. map (digit_at row) places) given.rows } →
    v ≡ compared_rows ordered.f ordered.cols ordered.rows (present_rows f tree) → v ≡ compared f given tree
unfolding compared
same_elements f given tree places ordered v d k e g ep eo ev =
    let names = given.names in
    let elements = element_names tree in
    let place : List ℕ → Option ℕ = λ name. position (bytes_eq name) names in
    let long : length places ≡ length names = ap length ep ∙ length-map elements place ∙ as_many elements names k d g e in
    ev
    ∙ ap (λ (m : MatrixValue). compared_rows m.f m.cols m.rows (present_rows f tree)) eo
    ∙ ap₂ (λ n rows. compared_rows f n rows (present_rows f tree)) long
    (ap (λ ps. map (λ row. map (digit_at row) ps) given.rows) ep ∙ ordered_rows names elements given.rows)
    ∙ sym (ap₂ (λ o p. verdict_of o p (compared_rows f (length names) (map (in_order names elements) given.rows) (present_rows f tree))) e g)

pub three_different : (a b c : List ℕ) → (eq-value).it a b ≡ false → (eq-value).it a c ≡ false → (eq-value).it b c ≡ false →
    IsDistinct bytes_eq (a ∷ b ∷ c ∷ [])
unfolding IsDistinct
three_different a b c p q r = ((sym (name_eq a b) ∙ p, (sym (name_eq a c) ∙ q, tt)), ((sym (name_eq b c) ∙ r, tt), (tt, tt)))
