-- The lines of a header as they are written: words with single blanks, in lines that are read as they are.
use Rattle.std.proofs.Common.{◌≡◌, ℕ, ◌+◌, ◌*◌, ◌<◌, ◌≤◌, true, List, [], ◌∷◌, length, refl, ap, arith}
use Rattle.std.specs.Prelude.{nat_le, codes, All}
use Rattle.std.specs.Fmt.{decimal}
use Rattle.std.specs.List.{list_all}
use Rattle.std.proofs.lemmas.Bool.{leb-true, and_from, and_parts}
use Rattle.std.proofs.lemmas.Fmt.{length-decimal-le}
use Rattle.std.proofs.lemmas.List.{length-append}
use Rattle.std.proofs.lemmas.List.Elements.{All-nil, All-cons, All-append, All-head, All-tail}
use Rattle.mm_base.specs.Names.{is_name}
use Rattle.mm_base.proofs.PaddedLemmas.{name_short}
use Rattle.mm_field.specs.Digits.{order}
use Rattle.mm_field.specs.declared.Field.{Field}
use Rattle.mm_field.specs.declared.Field.TheVariants.{Two, Three, Four, Five}
use Rattle.mm_lines.specs.Tokens.{has_some, tokens}
use Rattle.mm_logic.specs.Operator.{Op}
use Rattle.mm_space.specs.VectorText.{gen_text, joined_text, vector_text}
use Rattle.mm_tree.specs.TreeText.{spaced}
use Rattle.mm_tree.specs.ValidTree.{AreNames}
use Rattle.mm_job_text.proofs.NumeralLemmas.{decimal_word, length_small, length_vector, name_word, vector_word}
use Rattle.mm_job_text.proofs.SpacedLemmas.{AreWords, IsWord, first_spaced, length_spaced, plain_spaced, tokens_spaced}
use Rattle.mm_decomp.specs.HeaderText.{field_text, operator_text, row_text}
use Rattle.mm_decomp_laws.proofs.HeaderTextLineLemmas.{IsReadLine}

-- ---- words

above : (w : List ℕ) → list_all (λ b. nat_le 36 b) w ≡ true → All (λ b. 36 ≤ b) w
above [] h = All-nil (λ b. 36 ≤ b)
above (b ∷ bs) h =
    let p = and_parts (nat_le 36 b) (list_all (λ c. nat_le 36 c) bs) h in
    All-cons (λ c. 36 ≤ c) b bs (leb-true 36 b p.0) (above bs p.1)

pub keyword : (w : List ℕ) → nat_le 1 (length w) ≡ true → list_all (λ b. nat_le 36 b) w ≡ true → IsWord w
keyword w some h = record { some = omega (arith, leb-true 1 (length w) some); bytes = above w h }

joined_some : (v : List ℕ) (vs : List (List ℕ)) → 0 < length (joined_text v vs)
joined_some v [] = (vector_word v).some
joined_some v (w ∷ ws) = omega (arith, length-append (vector_text v) (47 ∷ joined_text w ws))

joined_above : (v : List ℕ) (vs : List (List ℕ)) → All (λ b. 36 ≤ b) (joined_text v vs)
joined_above v [] = (vector_word v).bytes
joined_above v (w ∷ ws) =
    All-append (λ b. 36 ≤ b) (vector_text v) (47 ∷ joined_text w ws) (vector_word v).bytes
    (All-cons (λ b. 36 ≤ b) 47 (joined_text w ws) (omega arith) (joined_above w ws))

gen_word : (vs : List (List ℕ)) → IsWord (gen_text vs)
gen_word [] = keyword (gen_text []) refl refl
gen_word (v ∷ vs) = record { some = joined_some v vs; bytes = joined_above v vs }

length_joined : (v : List ℕ) (vs : List (List ℕ)) → All (λ u. length u ≤ 18) (v ∷ vs) → length (joined_text v vs) ≤ 20 * length (v ∷ vs)
length_joined v [] h = omega (arith, length_vector v, All-head (λ u. length u ≤ 18) v [] h)
length_joined v (w ∷ ws) h =
    omega (
      arith,
      length_vector v,
      All-head (λ u. length u ≤ 18) v (w ∷ ws) h,
      length-append (vector_text v) (47 ∷ joined_text w ws),
      length_joined w ws (All-tail (λ u. length u ≤ 18) v (w ∷ ws) h),
    )

length_gen : (vs : List (List ℕ)) → All (λ u. length u ≤ 18) vs → length vs ≤ 6 → length (gen_text vs) ≤ 120
length_gen [] h few = omega arith
length_gen (v ∷ vs) h few = omega (arith, length_joined v vs h, few)

pub name_words : (names : List (List ℕ)) → AreNames names → AreWords names
name_words [] h = tt
name_words (n ∷ ns) h = (name_word n (All-head (λ m. is_name m ≡ true) n ns h), name_words ns (All-tail (λ m. is_name m ≡ true) n ns h))

pub names_pass : (names : List (List ℕ)) → AreNames names → list_all is_name names ≡ true
names_pass [] h = refl
names_pass (n ∷ ns) h =
    and_from (is_name n) (list_all is_name ns) (All-head (λ m. is_name m ≡ true) n ns h) (names_pass ns (All-tail (λ m. is_name m ≡ true) n ns h))

length_names : (w : List ℕ) (names : List (List ℕ)) → AreNames names → length (spaced (w ∷ names)) ≤ length w + 17 * length names
length_names w [] h = omega arith
length_names w (n ∷ ns) h =
    omega (
      arith,
      length_spaced w n ns,
      name_short n (All-head (λ m. is_name m ≡ true) n ns h),
      length_names n ns (All-tail (λ m. is_name m ≡ true) n ns h),
    )

-- ---- a line, its words and that it is read

-- A line begins with this word.
pub record StartsWith (word line : List ℕ) : Type 0 where
  pub more : List (List ℕ)
  pub tokens_are : tokens line ≡ word ∷ more

starts : (w : List ℕ) (ws : List (List ℕ)) → AreWords (w ∷ ws) → StartsWith w (spaced (w ∷ ws))
starts w ws h = record { more = ws; tokens_are = tokens_spaced w ws h }

read_line : (w : List ℕ) (ws : List (List ℕ)) → AreWords (w ∷ ws) → length (spaced (w ∷ ws)) ≤ 4200 → IsReadLine (spaced (w ∷ ws))
read_line w ws h short = record {
  plain = plain_spaced (w ∷ ws) h;
  short = short;
  first = first_spaced w ws h.0;
  seen = ap has_some (tokens_spaced w ws h);
}

pub format_words : AreWords (codes "mso" ∷ codes "1" ∷ [])
format_words = (keyword (codes "mso") refl refl, (keyword (codes "1") refl refl, tt))

pub format_is_read : IsReadLine (codes "mso 1")
format_is_read = read_line (codes "mso") (codes "1" ∷ []) format_words (omega arith)

order_small : (f : Field) → order f ≤ 5
order_small Two = omega arith
order_small Three = omega arith
order_small Four = omega arith
order_small Five = omega arith

pub field_words : (f : Field) → AreWords (codes "field" ∷ decimal (order f) ∷ [])
field_words f = (keyword (codes "field") refl refl, (decimal_word (order f) (omega (arith, order_small f)), tt))

pub field_is_read : (f : Field) → IsReadLine (field_text f)
field_is_read f =
    read_line (codes "field") (decimal (order f) ∷ []) (field_words f)
    (omega (arith, length_spaced (codes "field") (decimal (order f)) [], length_small (order f) (omega (arith, order_small f))))

pub elements_words : (ts : List (List ℕ)) → AreNames ts → AreWords (codes "elements" ∷ ts)
elements_words ts h = (keyword (codes "elements") refl refl, name_words ts h)

pub elements_is_read : (ts : List (List ℕ)) → AreNames ts → length ts ≤ 64 → IsReadLine (spaced (codes "elements" ∷ ts))
elements_is_read ts h few = read_line (codes "elements") ts (elements_words ts h) (omega (arith, length_names (codes "elements") ts h, few))

pub elements_start : (ts : List (List ℕ)) → AreNames ts → StartsWith (codes "elements") (spaced (codes "elements" ∷ ts))
elements_start ts h = starts (codes "elements") ts (elements_words ts h)

pub row_words : (row : List ℕ) → AreWords (codes "row" ∷ vector_text row ∷ [])
row_words row = (keyword (codes "row") refl refl, (vector_word row, tt))

pub row_is_read : (row : List ℕ) → length row ≤ 4096 → IsReadLine (row_text row)
row_is_read row h =
    read_line (codes "row") (vector_text row ∷ []) (row_words row) (omega (arith, h, length_spaced (codes "row") (vector_text row) [], length_vector row))

pub row_starts : (row : List ℕ) → StartsWith (codes "row") (row_text row)
row_starts row = starts (codes "row") (vector_text row ∷ []) (row_words row)

-- The numbers and the first two matrices of an operator are small.
pub record IsSmallOp (op : Op) : Type 0 where
  pub sizes : (op.t1 ≤ 6) × (op.t2 ≤ 6) × (op.t3 ≤ 6) × (op.c ≤ 12)
  pub first : (length op.g1 ≤ 6) × All (λ u. length u ≤ 18) op.g1
  pub second : (length op.g2 ≤ 6) × All (λ u. length u ≤ 18) op.g2

pub op_words : (name : List ℕ) (op : Op) → is_name name ≡ true → IsSmallOp op
    → AreWords (codes "op" ∷ name ∷ decimal op.t1 ∷ decimal op.t2 ∷ decimal op.t3 ∷ decimal op.c ∷ gen_text op.g1 ∷ gen_text op.g2 ∷ [])
op_words name op named h =
    let s = h.sizes in (
      keyword (codes "op") refl refl,
      (
        name_word name named,
        (
          decimal_word op.t1 (omega (arith, s.0)),
          (
            decimal_word op.t2 (omega (arith, s.1)),
            (decimal_word op.t3 (omega (arith, s.2)), (decimal_word op.c (omega (arith, s.3)), (gen_word op.g1, (gen_word op.g2, tt)))),
          ),
        ),
      ),
    )

pub op_is_read : (name : List ℕ) (op : Op) → is_name name ≡ true → IsSmallOp op → IsReadLine (operator_text name op)
op_is_read name op named h =
    let d1 = decimal op.t1 in
    let d2 = decimal op.t2 in
    let d3 = decimal op.t3 in
    let d4 = decimal op.c in
    let m1 = gen_text op.g1 in
    let m2 = gen_text op.g2 in
    let last : length (spaced (m1 ∷ m2 ∷ [])) ≤ 241 =
    omega (arith, length_spaced m1 m2 [], length_gen op.g1 h.first.1 h.first.0, length_gen op.g2 h.second.1 h.second.0) in
    let numbers : length (spaced (d1 ∷ d2 ∷ d3 ∷ d4 ∷ m1 ∷ m2 ∷ [])) ≤ 250 =
    omega (
      arith,
      last,
      length_spaced d1 d2 (d3 ∷ d4 ∷ m1 ∷ m2 ∷ []),
      length_spaced d2 d3 (d4 ∷ m1 ∷ m2 ∷ []),
      length_spaced d3 d4 (m1 ∷ m2 ∷ []),
      length_spaced d4 m1 (m2 ∷ []),
      length_small op.t1 h.sizes.0,
      length_small op.t2 h.sizes.1,
      length_small op.t3 h.sizes.2,
      length-decimal-le 2 op.c (omega arith) (omega (arith, h.sizes.3)) (omega (arith, h.sizes.3)),
    ) in
    read_line (codes "op") (name ∷ d1 ∷ d2 ∷ d3 ∷ d4 ∷ m1 ∷ m2 ∷ []) (op_words name op named h)
    (omega (
      arith,
      numbers,
      length_spaced (codes "op") name (d1 ∷ d2 ∷ d3 ∷ d4 ∷ m1 ∷ m2 ∷ []),
      length_spaced name d1 (d2 ∷ d3 ∷ d4 ∷ m1 ∷ m2 ∷ []),
      name_short name named,
    ))

pub op_starts : (name : List ℕ) (op : Op) → is_name name ≡ true → IsSmallOp op → StartsWith (codes "op") (operator_text name op)
op_starts name op named h =
    starts (codes "op") (name ∷ decimal op.t1 ∷ decimal op.t2 ∷ decimal op.t3 ∷ decimal op.c ∷ gen_text op.g1 ∷ gen_text op.g2 ∷ []) (op_words name op named h)

pub tree_words : AreWords (codes "tree" ∷ [])
tree_words = (keyword (codes "tree") refl refl, tt)

pub tree_is_read : IsReadLine (codes "tree")
tree_is_read = read_line (codes "tree") [] tree_words (omega arith)
