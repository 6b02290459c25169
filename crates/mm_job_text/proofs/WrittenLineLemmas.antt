-- Each line of a written tree, and what it is read as.
use Rattle.std.proofs.Common.{◌≡◌, ℕ, ◌≤◌, true, false, max, nat_lt, List, [], ◌∷◌, length, Some, ℤ, nat_abs, refl, ap, arith}
use Rattle.std.specs.Prelude.{◌==◌, nat_le, codes, Ok}
use Rattle.std.specs.Fmt.{decimal, signed_decimal}
use Rattle.std.proofs.lemmas.List.Elements.{All-from_recursion}
use Rattle.mm_base.specs.Names.{is_name}
use Rattle.mm_base.proofs.PaddedLemmas.{name_short}
use Rattle.mm_field.specs.declared.Field.{Field}
use Rattle.mm_lines.specs.LineBytes.{bytes_of}
use Rattle.mm_lines.specs.Numbers.{u32_of, i64_of}
use Rattle.mm_lines.specs.Tokens.{has_some, tokens}
use Rattle.mm_lines.specs.declared.line.Line.{Line}
use Rattle.mm_ops.specs.OpValue.{OpValue}
use Rattle.mm_ops.specs.Tables.{OperatorList, op_named}
use Rattle.mm_space.specs.VectorText.{vector_text}
use Rattle.mm_tree.specs.Building.{names_in}
use Rattle.mm_tree.specs.NamedTree.{Tree, boundary, depth, is_one_of}
use Rattle.mm_tree.specs.NamedTree.Tree.{Elem, Void, Join}
use Rattle.mm_tree.specs.TreeText.{spaced, elem_text, void_text, join_text}
use Rattle.mm_tree.specs.ValidTree.{most_leaves, most_depth, most_weight}
use Rattle.mm_space.specs.DigitTexts.{vector_of}
use Rattle.mm_job_text.specs.TreeLines.{most_boundary, elem_fields, elem_line, void_fields, void_line, join_fields, join_line, is_tree_part, tree_part, end_line}
use Rattle.mm_job_text.proofs.SpacedLemmas.{IsWord, AreWords, tokens_spaced, plain_spaced, first_spaced, length_spaced}
use Rattle.mm_job_text.proofs.NumeralLemmas.{decimal_word, length_small, signed_word, length_signed, name_word, vector_word, length_vector}
use Rattle.mm_job_text.proofs.TextLineLemmas.{IsPlainLine}

-- ---- the lines are plain

pub plain_line : (w : List ℕ) (ws : List (List ℕ)) → AreWords (w ∷ ws) → length (spaced (w ∷ ws)) ≤ 60 → IsPlainLine (spaced (w ∷ ws))
plain_line w ws h short = record {
  plain = plain_spaced (w ∷ ws) h;
  short = short;
  first = first_spaced w ws h.0;
  seen = ap has_some (tokens_spaced w ws h);
}

keyword : (a b c d : ℕ) → 36 ≤ a → 36 ≤ b → 36 ≤ c → 36 ≤ d → IsWord (a ∷ b ∷ c ∷ d ∷ [])
keyword a b c d p q r s = record {
  some = omega arith;
  bytes = All-from_recursion (λ x. 36 ≤ x) (a ∷ b ∷ c ∷ d ∷ []) (p, (q, (r, (s, tt))));
}

pub elem_are_words : (name vec : List ℕ) (weight : ℤ) → is_name name ≡ true → nat_abs weight ≤ 1000000000000
    → AreWords (codes "elem" ∷ name ∷ vector_text vec ∷ signed_decimal weight ∷ [])
elem_are_words name vec weight h light =
    (keyword 101 108 101 109 (omega arith) (omega arith) (omega arith) (omega arith), (name_word name h, (vector_word vec, (signed_word weight light, tt))))

pub void_are_words : (name : List ℕ) (t : ℕ) → is_name name ≡ true → t ≤ 6 → AreWords (codes "void" ∷ name ∷ decimal t ∷ [])
void_are_words name t h small =
    (keyword 118 111 105 100 (omega arith) (omega arith) (omega arith) (omega arith), (name_word name h, (decimal_word t (omega arith), tt)))

pub join_are_words : (name : List ℕ) → is_name name ≡ true → AreWords (codes "join" ∷ name ∷ [])
join_are_words name h = (keyword 106 111 105 110 (omega arith) (omega arith) (omega arith) (omega arith), (name_word name h, tt))

pub elem_plain : (name vec : List ℕ) (weight : ℤ) → is_name name ≡ true → length vec ≤ 6 → nat_abs weight ≤ 1000000000000 → IsPlainLine (elem_text name vec weight)
elem_plain name vec weight h short light =
    let v = vector_text vec in
    let w = signed_decimal weight in
    plain_line (codes "elem") (name ∷ v ∷ w ∷ []) (elem_are_words name vec weight h light)
    (omega (arith, length_spaced (codes "elem") name (v ∷ w ∷ []), length_spaced name v (w ∷ []), length_spaced v w [], name_short name h, length_vector vec, length_signed weight light))

pub void_plain : (name : List ℕ) (t : ℕ) → is_name name ≡ true → t ≤ 6 → IsPlainLine (void_text name t)
void_plain name t h small =
    plain_line (codes "void") (name ∷ decimal t ∷ []) (void_are_words name t h small)
    (omega (arith, length_spaced (codes "void") name (decimal t ∷ []), length_spaced name (decimal t) [], name_short name h, length_small t small))

pub join_plain : (name : List ℕ) → is_name name ≡ true → IsPlainLine (join_text name)
join_plain name h = plain_line (codes "join") (name ∷ []) (join_are_words name h) (omega (arith, length_spaced (codes "join") name [], name_short name h))

pub end_is_word : IsWord (codes "end")
end_is_word = record { some = omega arith; bytes = All-from_recursion (λ x. 36 ≤ x) (codes "end") (omega arith, (omega arith, (omega arith, tt))) }

pub end_plain : IsPlainLine (codes "end")
end_plain = plain_line (codes "end") [] (end_is_word, tt) (omega arith)

-- ---- a line that begins with one of the words is one of a tree

pub elem_is_part : (r : Line) (ts : List (List ℕ)) → tokens (bytes_of r) ≡ codes "elem" ∷ ts → is_tree_part r ≡ true
elem_is_part r ts e = rw e refl

pub void_is_part : (r : Line) (ts : List (List ℕ)) → tokens (bytes_of r) ≡ codes "void" ∷ ts → is_tree_part r ≡ true
void_is_part r ts e = rw e refl

pub join_is_part : (r : Line) (ts : List (List ℕ)) → tokens (bytes_of r) ≡ codes "join" ∷ ts → is_tree_part r ≡ true
join_is_part r ts e = rw e refl

pub end_is_no_part : (r : Line) → tokens (bytes_of r) ≡ codes "end" ∷ [] → is_tree_part r ≡ false
end_is_no_part r e = rw e refl

-- ---- what the lines are read as

-- a leaf of this name may be added to some trees, where there are at most so many leaves
pub record IsNew (most : ℕ) (name : List ℕ) (trees : List Tree) : Type 0 where
  pub free : is_one_of name (names_in trees) ≡ false
  pub few : nat_le most_leaves (length (names_in trees)) ≡ false
  pub room : nat_lt (length (names_in trees)) most ≡ true

pub elem_read : (most : ℕ) (f : Field) (ops : OperatorList) (trees : List Tree) (r : Line) (name vec : List ℕ) (weight : ℤ) (v w : List ℕ) → tokens (bytes_of r) ≡ codes "elem" ∷ name ∷ v ∷ w ∷ []
    → is_name name ≡ true → vector_of f v ≡ Some vec → i64_of w ≡ Some weight → nat_le (length vec) most_boundary ≡ true → nat_le (nat_abs weight) most_weight ≡ true
    → IsNew most name trees → tree_part most f ops trees r ≡ Ok (Elem name vec weight ∷ trees)
unfolding elem_line elem_fields
elem_read most f ops trees r name vec weight v w e named shown number short light new =
    let free = new.free in
    let few = new.few in
    let room = new.room in
    rw (e, named, shown, number, short, light, free, few, room) refl

pub void_read : (most : ℕ) (f : Field) (ops : OperatorList) (trees : List Tree) (r : Line) (name : List ℕ) (t : ℕ) (d : List ℕ) → tokens (bytes_of r) ≡ codes "void" ∷ name ∷ d ∷ []
    → is_name name ≡ true → u32_of d ≡ Some t → nat_le t most_boundary ≡ true
    → IsNew most name trees → tree_part most f ops trees r ≡ Ok (Void name t ∷ trees)
unfolding void_line void_fields
void_read most f ops trees r name t d e named number short new =
    let free = new.free in
    let few = new.few in
    let room = new.room in
    rw (e, named, number, short, free, few, room) refl

pub join_read : (most : ℕ) (f : Field) (ops : OperatorList) (trees : List Tree) (r : Line) (name : List ℕ) (op : OpValue) (left right : Tree) → tokens (bytes_of r) ≡ codes "join" ∷ name ∷ []
    → is_name name ≡ true → op_named name ops ≡ Some op → (boundary left == op.op.t1) ≡ true → (boundary right == op.op.t2) ≡ true
    → nat_le most_depth (max (depth left) (depth right)) ≡ false
    → tree_part most f ops (right ∷ left ∷ trees) r ≡ Ok (Join name op.op left right ∷ trees)
unfolding join_line join_fields
join_read most f ops trees r name op left right e named known first second shallow = rw (e, named, known, first, second, shallow) refl

pub end_read : (tree : Tree) (r : Line) → tokens (bytes_of r) ≡ codes "end" ∷ [] → end_line (tree ∷ []) r ≡ Ok (tree, r.number)
unfolding end_line
end_read tree r e = rw e refl
