-- Tables by the words of `indexmap`: names are compared byte by byte.
use Rattle.std.proofs.Common.{ℕ, ◌≡◌, List, [], ◌∷◌, ◌++◌, length, Bool, true, false, refl, sym, ap, ap₂, ◌∙◌, Option, Some, None, if◌then◌else◌, ◌||◌, nat_le, ◌≤◌, ◌<◌}
use Rattle.std.specs.Str.{bytes_eq}
use Rattle.std.proofs.lemmas.Bool.{le-leb, lt-leb, or_parts}
use Rattle.std.proofs.lemmas.Slice.Eq.{bytes_eq-Decides}
use Rattle.mm_linear.proofs.SpaceLemmas.{false_true}
use Rattle.std.specs.Map.{lookup}
use Rattle.std.specs.Option.{is_some}
use Rattle.mm_base.proofs.NameLemmas.{name_eq}
use Rattle.mm_ops.specs.declared.table.TheConstants.{MAX_OPS}
use Rattle.mm_ops.specs.OpValue.{OpValue}
use Rattle.mm_ops.specs.Tables.{OperatorList, NamesDiffer, op_named, has_name, refusal_of}
use Rattle.mm_ops.specs.declared.table.OpTableFault.TheVariants.{NameTaken, Full}
use Rattle.mm_base.specs.contracts.name.NamePartialEq.TheImpl.{eq-value}

-- ---- looking up

pub lookup_is : (name : List ℕ) (entries : OperatorList) → lookup ((eq-value).it name) entries ≡ op_named name entries
lookup_is name [] = refl
lookup_is name (entry ∷ entries) =
    ap₂ (λ (t : Bool) (rest : Option OpValue). if t then Some entry.1 else rest) (name_eq name entry.0) (lookup_is name entries)

pub has_name_is : (name : List ℕ) (entries : OperatorList) → is_some (op_named name entries) ≡ has_name name entries
has_name_is name [] = refl
has_name_is name (entry ∷ entries) = go (bytes_eq name entry.0) (has_name_is name entries)
  where
    go : (t : Bool) → is_some (op_named name entries) ≡ has_name name entries →
        is_some (if t then Some entry.1 else op_named name entries) ≡ (t || has_name name entries)
    go true e = refl
    go false e = e

-- ---- adding

pub taken_refused : (name : List ℕ) (entries : OperatorList) → is_some (op_named name entries) ≡ true → refusal_of name entries ≡ Some NameTaken
taken_refused name entries e =
    ap (λ (t : Bool). if t then Some NameTaken else (if nat_le MAX_OPS (length entries) then Some Full else None))
    (sym (has_name_is name entries) ∙ e)

pub full_refused : (name : List ℕ) (entries : OperatorList) → is_some (op_named name entries) ≡ false → 4096 ≤ length entries →
    refusal_of name entries ≡ Some Full
full_refused name entries e l =
    ap₂ (λ (t f : Bool). if t then Some NameTaken else (if f then Some Full else None))
    (sym (has_name_is name entries) ∙ e) (le-leb 4096 (length entries) l)

pub none_refused : (name : List ℕ) (entries : OperatorList) → is_some (op_named name entries) ≡ false → length entries < 4096 →
    refusal_of name entries ≡ None
none_refused name entries e l =
    ap₂ (λ (t f : Bool). if t then Some NameTaken else (if f then Some Full else None))
    (sym (has_name_is name entries) ∙ e) (lt-leb 4096 (length entries) l)

absent : (o : Option OpValue) → is_some o ≡ false → o ≡ None
absent None e = refl
absent (Some x) e = cc

-- a name that is not refused is new
pub new_name : (name : List ℕ) (entries : OperatorList) → refusal_of name entries ≡ None → has_name name entries ≡ false
new_name name entries e = go (has_name name entries) (nat_le MAX_OPS (length entries)) e
  where
    go : (t f : Bool) → (if t then Some NameTaken else (if f then Some Full else None)) ≡ None → t ≡ false
    go true f e = cc
    go false f e = refl

pub not_there : (name : List ℕ) (entries : OperatorList) → refusal_of name entries ≡ None → lookup ((eq-value).it name) entries ≡ None
not_there name entries e = lookup_is name entries ∙ absent (op_named name entries) (has_name_is name entries ∙ new_name name entries e)

-- ---- names that differ

differs_back : (a b : List ℕ) → bytes_eq a b ≡ false → bytes_eq b a ≡ false
differs_back a b h = go (bytes_eq b a) refl
  where
    go : (t : Bool) → bytes_eq b a ≡ t → bytes_eq b a ≡ false
    go false e = e
    go true e = false_true (bytes_eq b a ≡ false) (sym h ∙ (bytes_eq-Decides a b).1 (sym ((bytes_eq-Decides b a).0 e)))

-- what a test finds of one entry more
has_name-more : (name other : List ℕ) (op : OpValue) (entries : OperatorList) → has_name name entries ≡ false → bytes_eq name other ≡ false →
    has_name name (entries ++ (other, op) ∷ []) ≡ false
has_name-more name other op [] h e = ap (λ (t : Bool). t || false) e
has_name-more name other op (entry ∷ entries) h e =
    let parts = or_parts (bytes_eq name entry.0) (has_name name entries) h in
    ap₂ (λ (t u : Bool). t || u) parts.0 (has_name-more name other op entries parts.1 e)

-- a name that is new differs from each that is there
pub names_differ_more : (name : List ℕ) (op : OpValue) (entries : OperatorList) → NamesDiffer entries → has_name name entries ≡ false →
    NamesDiffer (entries ++ (name, op) ∷ [])
names_differ_more name op [] d h = (refl, tt)
names_differ_more name op (entry ∷ entries) d h =
    let parts = or_parts (bytes_eq name entry.0) (has_name name entries) h in (
      has_name-more entry.0 name op entries d.0 (differs_back name entry.0 parts.0),
      names_differ_more name op entries d.1 parts.1,
    )
