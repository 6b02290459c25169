-- The formulas that the parts of a machine stand for, and what they accept.
use Rattle.std.specs.Prelude.{ℕ, Bool, false, List, [], ◌∷◌, drop, map}
use Rattle.std.specs.List.{list_any, list_all}
use Rattle.mm_logic.specs.Formula.{Formula, Formula as formula}
use Rattle.mm_logic.specs.Acceptance.{accepts}
use Rattle.mm_formula.specs.declared.formula.Connective.{Connective}
use Rattle.mm_formula.specs.declared.formula.Connective.TheVariants as named
use Rattle.mm_formula.specs.Scope.{connective}
use Rattle.mm_base_auto.specs.OneAtom.{atom_shape}
use Rattle.mm_machine.specs.declared.part.Part.{Part}
use Rattle.mm_machine.specs.declared.part.Parts.{Parts}
use Rattle.mm_machine.specs.declared.part.Node.{Node}
use Rattle.mm_machine.specs.declared.part.Node.TheVariants as node
use Rattle.mm_machine.specs.declared.part.Quantifier.{Quantifier}
use Rattle.mm_machine.specs.declared.part.Quantifier.TheVariants.{Ex, All}
use Rattle.mm_machine.specs.Parts.{View, type_in}

-- the formula of the first part
abbrev pub head_shape : List Formula → Formula
head_shape [] = formula.Const false
head_shape (F ∷ Fs) = F

-- a quantifier over sets, or over elements, before a formula
abbrev pub over_sets : Quantifier → ℕ → Formula → Formula
over_sets Ex k F = formula.ExSet k F
over_sets All k F = formula.AllSet k F

abbrev pub over_elements : Quantifier → ℕ → Formula → Formula
over_elements Ex k F = formula.ExElem k F
over_elements All k F = formula.AllElem k F

-- the formula of a node, by those of the parts after it
abbrev pub node_shape : Node → List Formula → Formula
node_shape (node.Atom a) Fs = atom_shape a
node_shape node.Not Fs = formula.Not (head_shape Fs)
node_shape (node.Pair o t skip) Fs = formula.Bin (connective o) (head_shape Fs) (head_shape (drop skip Fs))
node_shape (node.Set q k t) Fs = over_sets q k.number (head_shape Fs)
node_shape (node.One q k t) Fs = over_elements q k.number (head_shape Fs)

-- what a part makes of the formulas of the parts after it
abbrev pub sign : Part → List Formula → Formula
sign p = node_shape p.node

-- what the parts make of those after them, which no call changes
abbrev pub signs : Parts → List (List Formula → Formula)
signs ps = map sign ps.list.items

abbrev pub shapes : List Part → List Formula
shapes [] = []
shapes (p ∷ ps) = node_shape p.node (shapes ps) ∷ shapes ps

-- whether the first formula accepts the type with a number
abbrev pub accepts_by : List Formula → List View → ℕ → Bool
accepts_by Fs vs id = accepts (head_shape Fs) (type_in vs id)

-- whether some number passes, or each
abbrev pub quantified : Quantifier → (ℕ → Bool) → List ℕ → Bool
quantified Ex p ids = list_any p ids
quantified All p ids = list_all p ids

-- the connective of a node, and its quantifier
abbrev pub node_connective : Node → Connective
node_connective (node.Pair o t skip) = o
node_connective _ = named.And

abbrev pub node_quantifier : Node → Quantifier
node_quantifier (node.Set q k t) = q
node_quantifier (node.One q k t) = q
node_quantifier _ = Ex
