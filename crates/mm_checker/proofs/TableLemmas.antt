-- The rows of a node by their values: a choice is met by the row of its value.
use Rattle.std.proofs.Common.{◌≡◌, ◌≤◌, ◌<◌, ℕ, zero, suc, ◌+◌, Bool, true, false, ◌&&◌, ◌||◌, ◌==◌, not, int_lt, List, [], ◌∷◌, ◌++◌, map, length, take, refl, sym, ap, ap₂, ◌∙◌, arith, Option, Some, None, if◌then◌else◌, nat_eq, get_or}
use Rattle.std.specs.List.{slice_get, list_any, list_all, range_with_len}
use Rattle.std.specs.Map.{lookup}
use Rattle.std.specs.Option.{is_some}
use Rattle.std.proofs.lemmas.Bool.{and_parts, eqb-true}
use Rattle.std.proofs.lemmas.List.{take_more}
use Rattle.mm_checker.specs.Claims.{LeafClaims, GlueClaims}
use Rattle.mm_checker.specs.NodeLines.{Rooted, TreeLine, Choice, is_earlier, is_number, is_as_good, is_met, are_different, are_all_met, node_passes}
use Rattle.mm_checker.specs.KeptNodes.{with_set, IsChoice, keyed, IsAdded, IsTable, row_in}
use Rattle.mm_checker.specs.declared.nodes.Choice.{Choice as KeptChoice}
use Rattle.mm_checker.specs.declared.nodes.Row.{Row as KeptRow}

-- whether a row that is found is good
abbrev pub found : (KeptRow → Bool) → Option KeptRow → Bool
found good None = false
found good (Some r) = good r

or_false : (b : Bool) → (b || false) ≡ b
or_false true = refl
or_false false = refl

not_true : (b : Bool) → not b ≡ true → b ≡ false
not_true false e = refl
not_true true e = let no : false ≡ true = e in cc

none_other : (good : KeptRow → Bool) (n k : ℕ) (rows : List KeptRow) → n ≡ k → list_any (λ m. k == m) (map (λ r. r.value) rows) ≡ false
    → list_any (λ r. (n == r.value) && good r) rows ≡ false
none_other good n k [] s e = refl
none_other good n k (r ∷ rows) s e = by (k == r.value) refl e (none_other good n k rows s)
  where
    by : (b : Bool) → (k == r.value) ≡ b → (b || list_any (λ m. k == m) (map (λ r. r.value) rows)) ≡ false
        → (list_any (λ m. k == m) (map (λ r. r.value) rows) ≡ false → list_any (λ r. (n == r.value) && good r) rows ≡ false)
        → (((n == r.value) && good r) || list_any (λ r. (n == r.value) && good r) rows) ≡ false
    by true q f i = let no : true ≡ false = f in cc
    by false q f i = ap₂ (λ a b. (a && good r) || b) (ap (λ z. z == r.value) s ∙ q) (i f)

pub met_by : (good : KeptRow → Bool) (n : ℕ) (rows : List KeptRow) → are_different (map (λ r. r.value) rows) ≡ true
    → list_any (λ r. (n == r.value) && good r) rows ≡ found good (lookup (nat_eq n) (map keyed rows))
met_by good n [] h = refl
met_by good n (r ∷ rows) h =
    let p = and_parts (not (list_any (λ m. r.value == m) (map (λ r. r.value) rows))) (are_different (map (λ r. r.value) rows)) h in
    by (n == r.value) refl (not_true (list_any (λ m. r.value == m) (map (λ r. r.value) rows)) p.0) (met_by good n rows p.1)
  where
    by : (b : Bool) → (n == r.value) ≡ b → list_any (λ m. r.value == m) (map (λ r. r.value) rows) ≡ false
        → list_any (λ r. (n == r.value) && good r) rows ≡ found good (lookup (nat_eq n) (map keyed rows))
        → ((b && good r) || list_any (λ r. (n == r.value) && good r) rows) ≡ found good (if b then Some r else lookup (nat_eq n) (map keyed rows))
    by true q e i = ap (λ b. good r || b) (none_other good n r.value rows (eqb-true n r.value q) e) ∙ or_false (good r)
    by false q e i = i

-- ---- choices that are met

any_mapped : {A B : Type 0} (p : B → Bool) (f : A → B) (xs : List A) → list_any p (map f xs) ≡ list_any (λ x. p (f x)) xs
any_mapped p f [] = refl
any_mapped p f (x ∷ xs) = ap (λ b. p (f x) || b) (any_mapped p f xs)

never : {A : Type 0} (xs : List A) → list_any (λ x. false) xs ≡ false
never [] = refl
never (x ∷ xs) = never xs

-- whether a row is as good as a choice of its value
abbrev pub is_good : KeptChoice → KeptRow → Bool
is_good d r = int_lt r.weight d.weight || (not (int_lt d.weight r.weight) && not (is_earlier d.x d.y r.x r.y))

module _ (g : ℕ → ℕ → List Bool) (rows : List KeptRow) where
  pub no_choice_met : (o : Option Choice) → IsChoice o None → false ≡ is_met (map (with_set g) rows) o
  no_choice_met None h = refl
  no_choice_met (Some c) h = absurd h

  pub no_value_met : (o : Option Choice) (d : KeptChoice) → IsChoice o (Some d) → d.value ≡ None → false ≡ is_met (map (with_set g) rows) o
  no_value_met None d h e = absurd h
  no_value_met (Some c) d h e =
      let none : c.value ≡ None = sym h.0 ∙ e in
      sym (any_mapped (is_as_good c) (with_set g) rows
      ∙ ap (λ v. list_any (λ r. is_number v r.value && (int_lt r.weight c.weight || (not (int_lt c.weight r.weight) && not (is_earlier c.x c.y r.x r.y)))) rows) none
      ∙ never rows)

  pub met_as_found : (o : Option Choice) (d : KeptChoice) (n : ℕ) → IsChoice o (Some d) → d.value ≡ Some n → are_different (map (λ r. r.value) rows) ≡ true
      → is_met (map (with_set g) rows) o ≡ found (is_good d) (lookup (nat_eq n) (map keyed rows))
  met_as_found None d n h e t = absurd h
  met_as_found (Some c) d n h e t =
      any_mapped (is_as_good c) (with_set g) rows
      ∙ ap (λ v. list_any (λ r. is_number v r.value && (int_lt r.weight c.weight || (not (int_lt c.weight r.weight) && not (is_earlier c.x c.y r.x r.y)))) rows) (sym h.0 ∙ e)
      ∙ ap (λ w. list_any (λ r. (n == r.value) && (int_lt r.weight w || (not (int_lt w r.weight) && not (is_earlier c.x c.y r.x r.y)))) rows) (sym h.1)
      ∙ ap₂ (λ x y. list_any (λ r. (n == r.value) && (int_lt r.weight d.weight || (not (int_lt d.weight r.weight) && not (is_earlier x y r.x r.y)))) rows) (sym h.2) (sym h.3)
      ∙ met_by (is_good d) n rows t

-- ---- rows whose values are different

same_either_way : (a b : ℕ) → (a == b) ≡ (b == a)
same_either_way a b = grind arith

any_push : (p : ℕ → Bool) (ns : List ℕ) (n : ℕ) → list_any p ns ≡ false → p n ≡ false → list_any p (ns ++ n ∷ []) ≡ false
any_push p [] n e h = ap (λ b. b || false) h
any_push p (m ∷ ns) n e h = by (p m) e (λ f. any_push p ns n f h)
  where
    by : (b : Bool) → (b || list_any p ns) ≡ false → (list_any p ns ≡ false → list_any p (ns ++ n ∷ []) ≡ false) → (b || list_any p (ns ++ n ∷ [])) ≡ false
    by true f i = let no : true ≡ false = f in cc
    by false f i = i f

different_go : (ns : List ℕ) (n : ℕ) → are_different ns ≡ true → list_any (λ m. n == m) ns ≡ false → are_different (ns ++ n ∷ []) ≡ true
different_go [] n h e = refl
different_go (k ∷ ns) n h e =
    let p = and_parts (not (list_any (λ m. k == m) ns)) (are_different ns) h in
    by (n == k) refl e p.0 (different_go ns n p.1)
  where
    by : (b : Bool) → (n == k) ≡ b → (b || list_any (λ m. n == m) ns) ≡ false → not (list_any (λ m. k == m) ns) ≡ true
        → (list_any (λ m. n == m) ns ≡ false → are_different (ns ++ n ∷ []) ≡ true)
        → (not (list_any (λ m. k == m) (ns ++ n ∷ [])) && are_different (ns ++ n ∷ [])) ≡ true
    by true q f a i = let no : true ≡ false = f in cc
    by false q f a i = ap₂ (λ x y. not x && y) (any_push (λ m. k == m) ns n (not_true (list_any (λ m. k == m) ns) a) (same_either_way k n ∙ q)) (i f)

any_there : (p : ℕ → Bool) (ns : List ℕ) (i n : ℕ) → slice_get ns i ≡ Some n → p n ≡ true → list_any p ns ≡ true
any_there p [] i n e h = let no : None ≡ Some n = e in cc
any_there p (m ∷ ns) zero n e h = let same : m ≡ n = cc in ap (λ b. b || list_any p ns) (ap p same ∙ h)
any_there p (m ∷ ns) (suc i) n e h = by (p m) (any_there p ns i n e h)
  where
    by : (b : Bool) → list_any p ns ≡ true → (b || list_any p ns) ≡ true
    by true i = refl
    by false i = i

and_no : (b : Bool) → (b && false) ≡ false
and_no true = refl
and_no false = refl

different_stop : (ns : List ℕ) (i n : ℕ) → slice_get ns i ≡ Some n → list_any (λ m. n == m) (take i ns) ≡ true → are_different ns ≡ false
different_stop [] i n e h = let no : None ≡ Some n = e in cc
different_stop (k ∷ ns) zero n e h = let no : false ≡ true = h in cc
different_stop (k ∷ ns) (suc i) n e h = by (n == k) refl h (different_stop ns i n e)
  where
    by : (b : Bool) → (n == k) ≡ b → (b || list_any (λ m. n == m) (take i ns)) ≡ true → (list_any (λ m. n == m) (take i ns) ≡ true → are_different ns ≡ false)
        → (not (list_any (λ m. k == m) ns) && are_different ns) ≡ false
    by true q f h = ap (λ b. not b && are_different ns) (any_there (λ m. k == m) ns i n e (same_either_way k n ∙ q))
    by false q f h = ap (λ b. not (list_any (λ m. k == m) ns) && b) (h f) ∙ and_no (not (list_any (λ m. k == m) ns))

-- ---- rows by their values

pub none_is : {A : Type 0} (o : Option A) → is_some o ≡ false → o ≡ None
none_is None e = refl
none_is (Some x) e = let no : true ≡ false = e in cc

there : (n : ℕ) (rows : List KeptRow) → is_some (lookup (nat_eq n) (map keyed rows)) ≡ list_any (λ m. n == m) (map (λ r. r.value) rows)
there n [] = refl
there n (r ∷ rows) = by (n == r.value) (there n rows)
  where
    by : (b : Bool) → is_some (lookup (nat_eq n) (map keyed rows)) ≡ list_any (λ m. n == m) (map (λ r. r.value) rows)
        → is_some (if b then Some r else lookup (nat_eq n) (map keyed rows)) ≡ (b || list_any (λ m. n == m) (map (λ r. r.value) rows))
    by true i = refl
    by false i = i

map_push : {A B : Type 0} (f : A → B) (xs : List A) (x : A) → map f (xs ++ x ∷ []) ≡ map f xs ++ f x ∷ []
map_push f [] x = refl
map_push f (y ∷ xs) x = ap (λ zs. f y ∷ zs) (map_push f xs x)

-- the rows that are added so far
pub record AreAdded (rows : List KeptRow) (table : List (ℕ × KeptRow)) : Type 0 where
  pub different : are_different (map (λ r. r.value) rows) ≡ true
  pub entries : table ≡ map keyed rows

pub table_goes : (rows more : List KeptRow) (old new : List (ℕ × KeptRow)) (r : KeptRow) → AreAdded rows old → more ≡ rows ++ r ∷ []
    → IsAdded old r true new → AreAdded more new
table_goes rows more old new r h m a =
    let none : list_any (λ m. r.value == m) (map (λ q. q.value) rows) ≡ false =
    sym (there r.value rows) ∙ ap (λ es. is_some (lookup (nat_eq r.value) es)) (sym h.entries) ∙ ap is_some a.0 in
    record {
      different = ap (λ qs. are_different (map (λ q. q.value) qs)) m ∙ ap are_different (map_push (λ q. q.value) rows r)
          ∙ different_go (map (λ q. q.value) rows) r.value h.different none;
      entries = a.1 ∙ ap (λ es. es ++ keyed r ∷ []) h.entries ∙ sym (map_push keyed rows r) ∙ ap (map keyed) (sym m);
    }

take_map : {A B : Type 0} (f : A → B) (i : ℕ) (xs : List A) → take i (map f xs) ≡ map f (take i xs)
take_map f zero xs = refl
take_map f (suc i) [] = refl
take_map f (suc i) (x ∷ xs) = ap (λ zs. f x ∷ zs) (take_map f i xs)

value_at : (rows : List KeptRow) (i : ℕ) (r : KeptRow) → slice_get rows i ≡ Some r → slice_get (map (λ q. q.value) rows) i ≡ Some r.value
value_at [] i r e = let no : None ≡ Some r = e in cc
value_at (q ∷ rows) zero r e = let same : q ≡ r = cc in ap (λ (z : KeptRow). Some z.value) same
value_at (q ∷ rows) (suc i) r e = value_at rows i r e

pub table_ends : (rows : List KeptRow) (i : ℕ) (old new : List (ℕ × KeptRow)) (r : KeptRow) → AreAdded (take i rows) old → slice_get rows i ≡ Some r
    → IsAdded old r false new → are_different (map (λ q. q.value) rows) ≡ false
table_ends rows i old new r h e a =
    different_stop (map (λ q. q.value) rows) i r.value (value_at rows i r e)
    (ap (list_any (λ m. r.value == m)) (take_map (λ q. q.value) i rows) ∙ sym (there r.value (take i rows))
    ∙ ap (λ es. is_some (lookup (nat_eq r.value) es)) (sym h.entries) ∙ a)

at_get : (rows : List KeptRow) (i : ℕ) (d : KeptRow) → i < length rows → slice_get rows i ≡ Some (get_or rows i d)
at_get [] i d l = absurd (omega arith)
at_get (r ∷ rows) zero d l = refl
at_get (r ∷ rows) (suc i) d l = at_get rows i d (omega arith)

module _ (rows : List KeptRow) (i : ℕ) (d : KeptRow) (old new : List (ℕ × KeptRow)) (inside : i < length rows) (h : AreAdded (take i rows) old) where
  pub goes_at : (b : Bool) → IsAdded old (get_or rows i d) b new → b ≡ true → AreAdded (take (i + 1) rows) new
  goes_at true a e = table_goes (take i rows) (take (i + 1) rows) old new (get_or rows i d) h (take_more rows i d inside) a
  goes_at false a e = let no : false ≡ true = e in cc

  pub ends_at : (b : Bool) → IsAdded old (get_or rows i d) b new → b ≡ false → IsTable rows false new
  ends_at false a e = (table_ends rows i old new (get_or rows i d) h (at_get rows i d inside) a, λ no. let f : false ≡ true = no in cc)
  ends_at true a e = let no : true ≡ false = e in cc

take-whole_of : (rows : List KeptRow) (i : ℕ) → length rows ≤ i → take i rows ≡ rows
take-whole_of [] zero l = refl
take-whole_of [] (suc i) l = refl
take-whole_of (r ∷ rows) zero l = absurd (omega arith)
take-whole_of (r ∷ rows) (suc i) l = ap (λ qs. r ∷ qs) (take-whole_of rows i (omega arith))

pub is_whole : (rows : List KeptRow) (i : ℕ) (table : List (ℕ × KeptRow)) → AreAdded (take i rows) table → length rows ≤ i → IsTable rows true table
is_whole rows i table h l =
    let all = take-whole_of rows i l in
    (ap (λ qs. are_different (map (λ q. q.value) qs)) (sym all) ∙ h.different, λ e. h.entries ∙ ap (map keyed) all)

-- ---- a choice is met by the row of its value

pub met_in : (g : ℕ → ℕ → List Bool) (rows : List KeptRow) (o : Option Choice) (d : KeptChoice) (table : List (ℕ × KeptRow)) → IsChoice o (Some d) → IsTable rows true table
    → is_met (map (with_set g) rows) o ≡ found (is_good d) (row_in table d.value)
met_in g rows o d table h t = by d.value refl
  where
    by : (v : Option ℕ) → d.value ≡ v → is_met (map (with_set g) rows) o ≡ found (is_good d) (row_in table v)
    by None e = sym (no_value_met g rows o d h e)
    by (Some n) e = met_as_found g rows o d n h e t.0 ∙ ap (λ es. found (is_good d) (lookup (nat_eq n) es)) (sym (t.1 refl))

-- ---- all of a range

all_step : (P : ℕ → Bool) (i a : ℕ) → list_all P (range_with_len a i) ≡ true → P (a + i) ≡ true → list_all P (range_with_len a (suc i)) ≡ true
all_step P zero a h e = let z : a + 0 ≡ a = omega arith in ap (λ b. b && true) (ap P (sym z) ∙ e)
all_step P (suc i) a h e =
    let p = and_parts (P a) (list_all P (range_with_len (a + 1) i)) h in
    let s : a + suc i ≡ (a + 1) + i = grind arith in
    ap₂ (λ x y. x && y) p.0 (all_step P i (a + 1) p.1 (ap P (sym s) ∙ e))

all_stop : (P : ℕ → Bool) (n i a : ℕ) → i < n → P (a + i) ≡ false → list_all P (range_with_len a n) ≡ false
all_stop P zero i a l e = absurd (omega arith)
all_stop P (suc n) zero a l e = let z : a + 0 ≡ a = omega arith in ap (λ b. b && list_all P (range_with_len (a + 1) n)) (ap P (sym z) ∙ e)
all_stop P (suc n) (suc i) a l e =
    let s : a + suc i ≡ (a + 1) + i = grind arith in
    ap (λ b. P a && b) (all_stop P n i (a + 1) (omega arith) (ap P (sym s) ∙ e)) ∙ and_no (P a)

pub range_goes : (P : ℕ → Bool) (i : ℕ) (b : Bool) → list_all P (range_with_len 0 i) ≡ true → b ≡ P i → b ≡ true → list_all P (range_with_len 0 (i + 1)) ≡ true
range_goes P i b h e t =
    let z : 0 + i ≡ i = omega arith in
    let s : i + 1 ≡ suc i = omega arith in
    ap (λ n. list_all P (range_with_len 0 n)) s ∙ all_step P i 0 h (ap P z ∙ sym e ∙ t)

pub range_ends : (P : ℕ → Bool) (n i : ℕ) (b : Bool) → i < n → b ≡ P i → b ≡ false → false ≡ list_all P (range_with_len 0 n)
range_ends P n i b l e f = let z : 0 + i ≡ i = omega arith in sym (all_stop P n i 0 l (ap P z ∙ sym e ∙ f))

pub range_whole : (P : ℕ → Bool) (n i : ℕ) → list_all P (range_with_len 0 i) ≡ true → n ≤ i → i ≤ n → true ≡ list_all P (range_with_len 0 n)
range_whole P n i h l m = let s : i ≡ n = omega arith in sym (ap (λ k. list_all P (range_with_len 0 k)) (sym s) ∙ h)

-- ---- whether a node passes

values_same : (g : ℕ → ℕ → List Bool) (rows : List KeptRow) → map (λ r. r.value) (map (with_set g) rows) ≡ map (λ r. r.value) rows
values_same g [] = refl
values_same g (r ∷ rows) = ap (λ ns. r.value ∷ ns) (values_same g rows)

pub passes_is :
    (least : Bool) (leaves : LeafClaims) (glues : GlueClaims) (trees : List Rooted) (node : TreeLine) (g : ℕ → ℕ → List Bool) (rows : List KeptRow) (d : Bool)
    → are_different (map (λ r. r.value) rows) ≡ d
    → node_passes least leaves glues trees node (map (with_set g) rows) ≡ (d && are_all_met least leaves glues trees node (map (with_set g) rows))
passes_is least leaves glues trees node g rows d e =
    ap (λ b. b && are_all_met least leaves glues trees node (map (with_set g) rows)) (ap are_different (values_same g rows) ∙ e)

pub true_table : (rows : List KeptRow) (d : Bool) (table : List (ℕ × KeptRow)) → IsTable rows d table → d ≡ true → IsTable rows true table
true_table rows true table t e = t
true_table rows false table t e = let no : false ≡ true = e in cc

pub passes_stop :
    (least : Bool) (leaves : LeafClaims) (glues : GlueClaims) (trees : List Rooted) (node : TreeLine) (g : ℕ → ℕ → List Bool) (rows : List KeptRow) (d : Bool)
    (table : List (ℕ × KeptRow)) → IsTable rows d table → d ≡ false → false ≡ node_passes least leaves glues trees node (map (with_set g) rows)
passes_stop least leaves glues trees node g rows d table t e = sym (passes_is least leaves glues trees node g rows false (t.0 ∙ e))

pub passes_by :
    (least : Bool) (leaves : LeafClaims) (glues : GlueClaims) (trees : List Rooted) (node : TreeLine) (g : ℕ → ℕ → List Bool) (rows : List KeptRow)
    (table : List (ℕ × KeptRow)) → IsTable rows true table
    → are_all_met least leaves glues trees node (map (with_set g) rows) ≡ node_passes least leaves glues trees node (map (with_set g) rows)
passes_by least leaves glues trees node g rows table t = sym (passes_is least leaves glues trees node g rows true t.0)
