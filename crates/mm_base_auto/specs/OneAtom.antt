-- What an atom stands for.
use Rattle.std.specs.Prelude.{List, take}
use Rattle.mm_field.specs.declared.Field.{Field}
use Rattle.mm_logic.specs.Formula.{Formula, Formula as formula}
use Rattle.mm_logic.specs.Value.{Value}
use Rattle.mm_base_auto.specs.declared.atom.Atom.{Atom}
use Rattle.mm_base_auto.specs.declared.atom.Atom.TheVariants.{Const, Ind, Member, SameElem, Sub, SameSet}
use Rattle.mm_base_auto.specs.Atoms.{flag_values}
use Rattle.mm_base_auto.specs.Spaces.{ind_values}
use Rattle.mm_base_auto.specs.Terms.{term_of}

abbrev pub atom_shape : Atom → Formula
atom_shape (Const a) = formula.Const a.rule.holds
atom_shape (Ind a) = formula.Ind (term_of a.whole a.slots.items)
atom_shape (Member a) = formula.Member a.rule.x a.rule.set
atom_shape (SameElem a) = formula.SameElem a.rule.x a.rule.y
atom_shape (Sub a) = formula.Sub a.rule.a a.rule.b
atom_shape (SameSet a) = formula.SameSet a.rule.a a.rule.b

abbrev pub atom_field : Atom → Field
atom_field (Ind a) = a.field
atom_field _ = Field.Two

-- the values as they are
abbrev pub atom_values : Atom → List Value
atom_values (Const a) = flag_values a.flags.flags.items
atom_values (Ind a) = ind_values a.values.table
atom_values (Member a) = flag_values a.flags.flags.items
atom_values (SameElem a) = flag_values a.flags.flags.items
atom_values (Sub a) = flag_values a.flags.flags.items
atom_values (SameSet a) = flag_values a.flags.flags.items

-- the values at the last mark
abbrev pub atom_marked : Atom → List Value
atom_marked (Const a) = flag_values (take a.flags.mark a.flags.flags.items)
atom_marked (Ind a) = ind_values (take a.values.mark a.values.table)
atom_marked (Member a) = flag_values (take a.flags.mark a.flags.flags.items)
atom_marked (SameElem a) = flag_values (take a.flags.mark a.flags.flags.items)
atom_marked (Sub a) = flag_values (take a.flags.mark a.flags.flags.items)
atom_marked (SameSet a) = flag_values (take a.flags.mark a.flags.flags.items)
