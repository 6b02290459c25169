-- A type is accepted exactly where the formula holds.
use Rattle.std.proofs.Common.{◌≡◌, Bool, true, false, not, ◌&&◌, if◌then◌else◌, List, map, length, refl, sym, ap, ◌∙◌}
use Rattle.std.proofs.lemmas.List.Folds.{list_all-map}
use Rattle.std.specs.List.{list_any, list_all}
use Rattle.mm_field.specs.declared.Field.{Field}
use Rattle.mm_logic.specs.Formula.{Formula, connect}
use Rattle.mm_logic.specs.Formula.Formula.{Const, Ind, Member, SameElem, Sub, SameSet, Not, Bin, ExSet, AllSet, ExElem, AllElem}
use Rattle.mm_logic.specs.Value.{Value, members, collected}
use Rattle.mm_logic.proofs.SetLemmas.{list_any-map, list_all-any}
use Rattle.mm_logic.proofs.ValueLemmas.{list_any-collected}
use Rattle.mm_logic_laws.proofs.TypeLemmas.{no_both, no_both'}
use Rattle.mm_logic_laws.proofs.MatrixLemmas.{alive}
use Rattle.mm_logic_laws.proofs.MeaningLemmas.{meaning_decided}
use Rattle.mm_logic_laws.specs.MeaningLaws.{AcceptanceIsMeaning}
use Rattle.mm_logic.specs.Acceptance.{accepts}
use Rattle.mm_logic.specs.AtomValues.{unseen, member, same_elem, holding, is_flag}
use Rattle.mm_logic.specs.Marks.{Marks, assign, sets, singles, in_term}
use Rattle.mm_logic.specs.Meaning.{holds}
use Rattle.mm_logic.specs.Tree.{Tree}
use Rattle.mm_logic.specs.Types.{type_of}

-- a test of all members of a set is a test of all values that it was made of
pub list_all-collected : (p : Value → Bool) (vs : List Value) → list_all p (members (collected vs)) ≡ list_all p vs
list_all-collected p vs = list_all-any p (members (collected vs)) ∙ ap not (list_any-collected (λ v. not (p v)) vs) ∙ sym (list_all-any p vs)

member_accepted : (x a : Bool) → (x ≡ false → a ≡ false) → is_flag 1 (if x then member a else unseen) ≡ a
member_accepted true true h = refl
member_accepted true false h = refl
member_accepted false a h = sym (h refl)

same_accepted : (x y b : Bool) → (x ≡ false → b ≡ false) → (y ≡ false → b ≡ false) → is_flag 3 (same_elem x y b) ≡ b
same_accepted true true true h k = refl
same_accepted true true false h k = refl
same_accepted false true b h k = sym (h refl)
same_accepted false false b h k = sym (h refl)
same_accepted true false b h k = sym (k refl)

holding_accepted : (b : Bool) → is_flag 0 (holding b) ≡ b
holding_accepted true = refl
holding_accepted false = refl

module _ (f : Field) where
  pub accepts-type_of : (F : Formula) (T : Tree) (ms : List Marks) → accepts F (type_of f F T ms) ≡ holds f F T ms
  accepts-type_of (Const b) T ms = refl
  accepts-type_of (Ind t) T ms = alive f T (map (in_term t) ms)
  accepts-type_of (Member x a) T ms = member_accepted (list_any (λ m. m x) ms) (list_any (λ m. m x && m a) ms) (no_both x a ms)
  accepts-type_of (SameElem x y) T ms = same_accepted (list_any (λ m. m x) ms) (list_any (λ m. m y) ms) (list_any (λ m. m x && m y) ms) (no_both x y ms) (no_both' x y ms)
  accepts-type_of (Sub a b) T ms = holding_accepted _
  accepts-type_of (SameSet a b) T ms = holding_accepted _
  accepts-type_of (Not F) T ms = ap not (accepts-type_of F T ms)
  accepts-type_of (Bin o F G) T ms = λ i. connect o (accepts-type_of F T ms i) (accepts-type_of G T ms i)
  accepts-type_of (ExSet k F) T ms =
      list_any-collected (accepts F) (map (λ X. type_of f F T (assign k X ms)) (sets (length ms)))
      ∙ list_any-map (accepts F) (λ X. type_of f F T (assign k X ms)) (sets (length ms))
      ∙ (λ i. list_any (λ X. accepts-type_of F T (assign k X ms) i) (sets (length ms)))
  accepts-type_of (AllSet k F) T ms =
      list_all-collected (accepts F) (map (λ X. type_of f F T (assign k X ms)) (sets (length ms)))
      ∙ list_all-map (accepts F) (λ X. type_of f F T (assign k X ms)) (sets (length ms))
      ∙ (λ i. list_all (λ X. accepts-type_of F T (assign k X ms) i) (sets (length ms)))
  accepts-type_of (ExElem k F) T ms =
      list_any-collected (accepts F) (map (λ X. type_of f F T (assign k X ms)) (singles (length ms)))
      ∙ list_any-map (accepts F) (λ X. type_of f F T (assign k X ms)) (singles (length ms))
      ∙ (λ i. list_any (λ X. accepts-type_of F T (assign k X ms) i) (singles (length ms)))
  accepts-type_of (AllElem k F) T ms =
      list_all-collected (accepts F) (map (λ X. type_of f F T (assign k X ms)) (singles (length ms)))
      ∙ list_all-map (accepts F) (λ X. type_of f F T (assign k X ms)) (singles (length ms))
      ∙ (λ i. list_all (λ X. accepts-type_of F T (assign k X ms) i) (singles (length ms)))

pub acceptance-is_meaning : AcceptanceIsMeaning
acceptance-is_meaning f F T ms =
    let e = accepts-type_of f F T ms in (
      e,
      (λ ok. let d = meaning_decided f T ok F ms in ((λ a. d.0 (sym e ∙ a)), (λ h. e ∙ d.1 h))),
    )
