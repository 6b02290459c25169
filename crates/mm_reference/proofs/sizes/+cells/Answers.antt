use Rattle.std.proofs.Common.{◌≡◌, ◌+◌, ℕ, Box, Global, inl, inr, map, flat_map, sum_by, refl, sym, ap, ap₂, ◌∙◌, subst}
use Rattle.mm_logic.specs.Formula as spec
use Rattle.mm_logic.specs.Value.{members, first, second}
use Rattle.mm_logic.specs.Occurrence.{own_cells, distinct, cells, elem_parts}
use Rattle.mm_reference_meaning.specs.Formulas.{formula_of, connective_of}
use Rattle.mm_reference.specs.Sizes.{IsCount}
use Rattle.mm_reference.specs.Values.{seen_of}
use Rattle.mm_reference_meaning.specs.declared.meaning.Connective.{Connective}
use Rattle.mm_reference_meaning.specs.declared.meaning.Formula.{Formula, Const, Ind, Member, SameElem, Sub, SameSet, Not', Bin', ExSet', AllSet', ExElem', AllElem'}
use Rattle.mm_reference_meaning.specs.declared.meaning.Formula.TheVariants.{Not, Bin, ExSet, AllSet, ExElem, AllElem}
use Rattle.mm_reference.proofs.SizeLemmas.{IsAtom, cells_atom, cells_bin}
use Rattle.mm_reference.proofs.sizes.+cells.Goals as goal

-- a formula that is none of these is an atom
atom_of : (F : Formula) → ((x : Box Formula Global) → F ≡ Not x → ⊥) →
    ((o : Connective) (x y : Box Formula Global) → F ≡ Bin o x y → ⊥) → ((k : ℕ) (x : Box Formula Global) → F ≡ ExSet k x → ⊥) →
    ((k : ℕ) (x : Box Formula Global) → F ≡ AllSet k x → ⊥) → ((k : ℕ) (x : Box Formula Global) → F ≡ ExElem k x → ⊥) →
    ((k : ℕ) (x : Box Formula Global) → F ≡ AllElem k x → ⊥) → IsAtom (formula_of F)
atom_of (Not' p G) n b s1 s2 e1 e2 = absurd (n _ refl)
atom_of (Bin' o p G q H) n b s1 s2 e1 e2 = absurd (b o _ _ refl)
atom_of (ExSet' k p G) n b s1 s2 e1 e2 = absurd (s1 k _ refl)
atom_of (AllSet' k p G) n b s1 s2 e1 e2 = absurd (s2 k _ refl)
atom_of (ExElem' k p G) n b s1 s2 e1 e2 = absurd (e1 k _ refl)
atom_of (AllElem' k p G) n b s1 s2 e1 e2 = absurd (e2 k _ refl)
atom_of (Const a) n b s1 s2 e1 e2 = (refl, λ vs. refl)
atom_of (Ind u) n b s1 s2 e1 e2 = (refl, λ vs. refl)
atom_of (Member x y) n b s1 s2 e1 e2 = (refl, λ vs. refl)
atom_of (SameElem x y) n b s1 s2 e1 e2 = (refl, λ vs. refl)
atom_of (Sub x y) n b s1 s2 e1 e2 = (refl, λ vs. refl)
atom_of (SameSet x y) n b s1 s2 e1 e2 = (refl, λ vs. refl)

pub returns-in_default : goal.returns-in_default
returns-in_default t c =
    let h = c.in_default in
    subst (λ n. IsCount n c.distinct_cells-own.result)
    (cells_atom (formula_of c.args.formula.now) (seen_of c.args.values.now)
    (atom_of c.args.formula.now h.not-Not h.not-Bin h.not-ExSet h.not-AllSet h.not-ExElem h.not-AllElem))
    c.distinct_cells-own.ensures

pub returns-in_ok-of_seconds-in-Bin : goal.returns-in_ok-of_seconds-in-Bin
returns-in_ok-of_seconds-in-Bin t c =
    let vs = seen_of c.args.values.now in
    let o = connective_of c.in-Bin.field-0 in
    let F = formula_of c.in-Bin.left.value in
    let G = formula_of c.in-Bin.right.value in
    let r = c.add-in-Bin.result in
    let own : IsCount (sum_by (own_cells (spec.Formula.Bin o F G)) (distinct vs)) c.distinct_cells-own.result =
    subst (λ H. IsCount (sum_by (own_cells (formula_of H)) (distinct vs)) c.distinct_cells-own.result) c.in-Bin.is c.distinct_cells-own.ensures in
    let left : IsCount (cells F (map first vs)) c.in_ok-of_firsts-in-Bin.of_firsts =
    subst (λ n. IsCount n c.in_ok-of_firsts-in-Bin.of_firsts)
    (ap₂ (λ H us. cells (formula_of H) us) c.deref-in-Bin.ensures (ap seen_of c.deref-in-Bin-2.ensures.value ∙ c.in_ok-firsts-in-Bin.ensures)) c.in_ok-of_firsts-in-Bin.ensures in
    let right : IsCount (cells G (map second vs)) c.in_ok-of_seconds-in-Bin.of_seconds =
    subst (λ n. IsCount n c.in_ok-of_seconds-in-Bin.of_seconds)
    (ap₂ (λ H us. cells (formula_of H) us) c.deref-in-Bin-3.ensures (ap seen_of c.deref-in-Bin-4.ensures.value ∙ c.in_ok-seconds-in-Bin.ensures)) c.in_ok-of_seconds-in-Bin.ensures in
    let both = c.add.ensures (cells F (map first vs)) (cells G (map second vs)) left right in
    subst (λ H. IsCount (cells (formula_of H) vs) r) (sym c.in-Bin.is)
    (subst (λ n. IsCount n r) (cells_bin o F G vs)
    (c.add-in-Bin.ensures (sum_by (own_cells (spec.Formula.Bin o F G)) (distinct vs)) (cells F (map first vs) + cells G (map second vs)) own both))

pub returns-in_ok-cells-in-ExSet : goal.returns-in_ok-cells-in-ExSet
returns-in_ok-cells-in-ExSet t c =
    let vs = seen_of c.args.values.now in
    let F = formula_of c.in-ExSet.part.value in
    let own = c.distinct_cells-own.result in
    let below : IsCount (cells F (flat_map members vs)) c.in_ok-cells-in-ExSet.field-0 =
    subst (λ n. IsCount n c.in_ok-cells-in-ExSet.field-0)
    (ap₂ (λ H us. cells (formula_of H) us) c.deref-in-ExSet.ensures (ap seen_of c.deref-in-ExSet-2.ensures.value ∙ c.in_ok-members-in-ExSet.ensures)) c.in_ok-cells-in-ExSet.ensures in
    elim c.in-ExSet.is [
      | inl p ↦
          subst (λ H. IsCount (cells (formula_of H) vs) c.add-in-ExSet.result) (sym p.1)
          (c.add-in-ExSet.ensures (sum_by (own_cells (spec.Formula.ExSet p.0 F)) (distinct vs)) (cells F (flat_map members vs))
          (subst (λ H. IsCount (sum_by (own_cells (formula_of H)) (distinct vs)) own) p.1 c.distinct_cells-own.ensures) below)
      | inr p ↦
          subst (λ H. IsCount (cells (formula_of H) vs) c.add-in-ExSet.result) (sym p.1)
          (c.add-in-ExSet.ensures (sum_by (own_cells (spec.Formula.AllSet p.0 F)) (distinct vs)) (cells F (flat_map members vs))
          (subst (λ H. IsCount (sum_by (own_cells (formula_of H)) (distinct vs)) own) p.1 c.distinct_cells-own.ensures) below)
    ]

pub returns-in_ok-cells-in-ExElem : goal.returns-in_ok-cells-in-ExElem
returns-in_ok-cells-in-ExElem t c =
    let vs = seen_of c.args.values.now in
    let F = formula_of c.in-ExElem.part.value in
    let own = c.distinct_cells-own.result in
    let below : IsCount (cells F (flat_map elem_parts vs)) c.in_ok-cells-in-ExElem.field-0 =
    subst (λ n. IsCount n c.in_ok-cells-in-ExElem.field-0)
    (ap₂ (λ H us. cells (formula_of H) us) c.deref-in-ExElem.ensures (ap seen_of c.deref-in-ExElem-2.ensures.value ∙ c.in_ok-elem_parts-in-ExElem.ensures)) c.in_ok-cells-in-ExElem.ensures in
    elim c.in-ExElem.is [
      | inl p ↦
          subst (λ H. IsCount (cells (formula_of H) vs) c.add-in-ExElem.result) (sym p.1)
          (c.add-in-ExElem.ensures (sum_by (own_cells (spec.Formula.ExElem p.0 F)) (distinct vs)) (cells F (flat_map elem_parts vs))
          (subst (λ H. IsCount (sum_by (own_cells (formula_of H)) (distinct vs)) own) p.1 c.distinct_cells-own.ensures) below)
      | inr p ↦
          subst (λ H. IsCount (cells (formula_of H) vs) c.add-in-ExElem.result) (sym p.1)
          (c.add-in-ExElem.ensures (sum_by (own_cells (spec.Formula.AllElem p.0 F)) (distinct vs)) (cells F (flat_map elem_parts vs))
          (subst (λ H. IsCount (sum_by (own_cells (formula_of H)) (distinct vs)) own) p.1 c.distinct_cells-own.ensures) below)
    ]
