use Rattle.std.proofs.Common.{rules, ◌≡◌, [], ◌∷◌, sym, subst, arith}
use Rattle.std.proofs.Common.{ℤ, w64, SFits, to_z, of_z}
use Rattle.std.proofs.lemmas.Int.{to_z-of_z}
use Rattle.mm_field.specs.declared.Field.{Field}
use Rattle.mm_logic.specs.Formula.{Formula}
use Rattle.mm_states.specs.Letters.{leaf_type}
use Rattle.mm_nodes.specs.Calls.{CanMakeLeaf}
use Rattle.mm_nodes.specs.Demands.{IsExact}
use Rattle.mm_nodes.proofs.LetterLemmas.{can_read}
use Rattle.mm_least.specs.declared.row.Origin.TheVariants.{Taken}
use Rattle.mm_least.specs.Candidates.{candidate}
use Rattle.mm_least.specs.Passes.{AreWithin, Passes}
use Rattle.mm_least.specs.Rows.{shown}
use Rattle.mm_least.proofs.WalkLemmas.{still_exact, still_roomy}
use Rattle.mm_least.proofs.NodeLemmas.{first_full, both_pass}
use Rattle.mm_least.proofs.pass.add_leaf.Goals as goal

pub add_letter-requires-clause-can : goal.add_letter-requires-clause-can
add_letter-requires-clause-can g c = can_read _ _ _ c.args.leaf.now 0 c.letter_of.result c.args.room.now c.requires.leaf c.letter_of.ensures

pub add_letter-requires-in-Some-clause-can : goal.add_letter-requires-in-Some-clause-can
add_letter-requires-in-Some-clause-can g c =
    let p = c.in-Ok.ensures.passes in
    let old = c.requires.leaf in
    can_read _ _ _ c.args.leaf.now 1 c.letter_of-in-Some.result c.add_letter.new.room
    (subst (λ (G : Formula). CanMakeLeaf G (g.A.Automaton.field c.add_letter.new.automaton) (g.A.Automaton.lists c.add_letter.new.automaton) c.args.leaf.now c.add_letter.new.room) (sym c.in-Ok.ensures.shape)
    (subst (λ (h : Field). CanMakeLeaf (g.A.Automaton.shape c.args.automaton.now) h (g.A.Automaton.lists c.add_letter.new.automaton) c.args.leaf.now c.add_letter.new.room) (sym c.in-Ok.ensures.field)
    (record { field = old.field; over = old.over; valid = old.valid; roomy = still_roomy _ _ _ _ [] [] _ _ _ _ p old.roomy })))
    c.letter_of-in-Some.ensures

pub add_letter-requires-in-Some-clause-exact : goal.add_letter-requires-in-Some-clause-exact
add_letter-requires-in-Some-clause-exact g c =
    subst (λ (G : Formula). IsExact G (g.A.Automaton.lists c.add_letter.new.automaton)) (sym c.in-Ok.ensures.shape) (still_exact _ _ _ _ [] [] _ _ _ _ c.in-Ok.ensures.passes c.requires.exact)

pub returns-in-Some-clause-passes : goal.returns-in-Some-clause-passes
returns-in-Some-clause-passes g c =
    let fits : SFits w64 c.in-Some.item.weight = search rules in
    let weight : to_z w64 (of_z w64 c.in-Some.item.weight) ≡ c.in-Some.item.weight = grind (arith, to_z-of_z) in
    both_pass (g.A.Automaton.shape c.args.automaton.now) c.args.leaf.now c.letter_of.result c.letter_of.ensures c.letter_of-in-Some.result c.letter_of-in-Some.ensures c.in-Some.item c.in-Some.is
    _ (g.A.Automaton.lists c.add_letter.new.automaton) _ _ c.add_letter.new.rows.items _ _ c.add_letter.new.room _ c.add_letter-in-Some.result c.in-Ok.ensures.passes
    (subst (λ (G : Formula). Passes G (g.A.Automaton.lists c.add_letter.new.automaton) (g.A.Automaton.lists c.add_letter-in-Some.new.automaton) (candidate (leaf_type G c.letter_of-in-Some.result) c.in-Some.item.weight Taken ∷ []) c.add_letter.new.rows.items c.add_letter-in-Some.new.rows.items c.add_letter.new.room c.add_letter-in-Some.new.room c.add_letter-in-Some.result)
    c.in-Ok.ensures.shape
    (subst (λ (w : ℤ). Passes (g.A.Automaton.shape c.add_letter.new.automaton) (g.A.Automaton.lists c.add_letter.new.automaton) (g.A.Automaton.lists c.add_letter-in-Some.new.automaton) (candidate (leaf_type (g.A.Automaton.shape c.add_letter.new.automaton) c.letter_of-in-Some.result) w Taken ∷ []) c.add_letter.new.rows.items c.add_letter-in-Some.new.rows.items c.add_letter.new.room c.add_letter-in-Some.new.room c.add_letter-in-Some.result)
    weight c.add_letter-in-Some.ensures.passes))

pub returns-in-Err-clause-passes : goal.returns-in-Err-clause-passes
returns-in-Err-clause-passes g c = λ full.
    first_full (g.A.Automaton.shape c.args.automaton.now) c.args.leaf.now c.letter_of.result c.letter_of.ensures _ c.args.rows.now.items c.args.room.now c.requires.exact
    (subst (λ rs. AreWithin (g.A.Automaton.shape c.args.automaton.now) (g.A.Automaton.lists c.args.automaton.now) (shown rs)) (sym c.requires.none) tt) (c.in-Err.ensures.passes full)
