use Rattle.std.proofs.Common.{◌≡◌, ◌≤◌, ◌+◌, nat_abs, Ok, refl, sym, ap, ◌∙◌, subst, arith, rules, w64, SFits, to_z, of_z}
use Rattle.std.specs.Prelude.{OnErr}
use Rattle.std.proofs.lemmas.Int.{to_z-of_z}
use Rattle.mm_tree.specs.Paths.{path_to, with_weight}
use Rattle.mm_tree.specs.ValidTree.{most_weight}
use Rattle.mm_edit.specs.Edits.{Edits, IsDecided, answer_of, most_steps, reweighted}
use Rattle.mm_edit.specs.SessionValue.{kept_types}
use Rattle.mm_edit.specs.SessionView.{IsKept, value_of, session_value, path_steps, edited}
use Rattle.mm_edit.proofs.EditLemmas.{few_steps, more_steps, reweigh_done, reweigh_types, reweight_allowed}
use Rattle.mm_edit.proofs.WeightLemmas.{light_before, ways_stay}
use Rattle.mm_edit.proofs.session.Session.weight.Goals as goal

pub put_weight_back-requires : goal.put_weight_back-requires
put_weight_back-requires g c =
    let before = c.in-Some.before in
    let fits : SFits w64 before = search rules in
    let same : to_z w64 (of_z w64 before) ≡ before = grind (arith, to_z-of_z) in
    subst (λ z. nat_abs z ≤ most_weight) (sym same)
    (light_before c.args.name.now before c.self.inside.tree.tree (sym c.in-Some.ensures.before) c.trees_are_valid.ensures.light)

pub invariant_of-self : goal.invariant_of-self
invariant_of-self g c =
    subst (λ t. IsKept (value_of g.A.Automaton c.self.inside.states) t c.self.inside.limit) (sym (c.in_default.ensures.stays refl)) c.self.invariant

pub invariant_of-self-2 : goal.invariant_of-self-2
invariant_of-self-2 g c =
    let K = g.A.Automaton in
    let before = c.in-Some.before in
    let fits : SFits w64 before = search rules in
    let same : to_z w64 (of_z w64 before) ≡ before = grind (arith, to_z-of_z) in
    let mid = c.exchange_weight.new.self in
    let redo = c.reweigh-result in
    let back = c.put_weight_back in
    let put = subst (λ z. OnErr redo.result (back.new.tree.tree ≡ with_weight c.args.name.now z mid.tree)) same back.ensures.err in
    (reweigh_done (value_of K c.self.inside.states) (value_of K redo.new.self) c.self.inside.tree mid back.new.tree c.args.name.now _ before c.self.inside.rebuilds c.self.inside.limit 0
    redo.result redo.ensures.alike c.self.invariant c.trees_are_valid.ensures (sym c.in-Some.ensures.before) c.in-Some.ensures.field c.in-Some.ensures.tree
    redo.ensures.ok redo.ensures.err redo.ensures.fits back.ensures.ok back.ensures.field put).0

pub returns-clause-edits : goal.returns-clause-edits
returns-clause-edits g c =
    let K = g.A.Automaton in
    let name = c.args.name.now in
    let weight = c.args.weight in
    let wfits : SFits w64 weight = search rules in
    let wsame : to_z w64 (of_z w64 weight) ≡ weight = grind (arith, to_z-of_z) in
    let before = c.in-Some.before in
    let fits : SFits w64 before = search rules in
    let same : to_z w64 (of_z w64 before) ≡ before = grind (arith, to_z-of_z) in
    let T = c.self.inside.tree in
    let mid = c.exchange_weight.new.self in
    let redo = c.reweigh-result in
    let back = c.put_weight_back in
    let put = subst (λ z. OnErr redo.result (back.new.tree.tree ≡ with_weight name z mid.tree)) same back.ensures.err in
    let set = subst (λ z. mid.tree ≡ with_weight name z T.tree) wsame c.in-Some.ensures.tree in
    let v = value_of K c.self.inside.states in
    let w = value_of K redo.new.self in
    let after = session_value w back.new.tree c.self.inside.rebuilds in
    let cost = path_steps (path_to name T.tree) in
    subst (λ s. Edits s after (reweighted name weight s.tree.tree) c.edited.result) c.self.view_is
    (subst (λ a. Edits (session_value v T c.self.inside.rebuilds) after a c.edited.result) (sym (reweight_allowed name weight T.tree (sym c.in-Some.ensures.found)))
    (subst (λ e. Edits (session_value v T c.self.inside.rebuilds) after (Ok (record { tree = with_weight name weight T.tree; cost = cost })) e) (sym c.edited.ensures)
    (reweigh_done v w T mid back.new.tree name weight before c.self.inside.rebuilds c.self.inside.limit cost
    redo.result redo.ensures.alike c.self.invariant c.trees_are_valid.ensures (sym c.in-Some.ensures.before) c.in-Some.ensures.field set
    redo.ensures.ok redo.ensures.err redo.ensures.fits back.ensures.ok back.ensures.field put).1))

pub returns-clause-ticks : goal.returns-clause-ticks
returns-clause-ticks g c =
    let K = g.A.Automaton in
    let name = c.args.name.now in
    let weight = c.args.weight in
    let T = c.self.inside.tree in
    let mid = c.exchange_weight.new.self in
    let redo = c.reweigh-result in
    let v = value_of K c.self.inside.states in
    let few = few_steps v.query (path_to name mid.tree) in
    let same = ap path_steps (ap (path_to name) c.in-Some.ensures.tree ∙ ways_stay name _ T.tree) in
    let ticks = redo.ensures.ticks in
    let enough : redo.new.steps ≤ c.args.steps.now + path_steps (path_to name T.tree) = omega (arith, ticks, few, same) in
    subst (λ s. redo.new.steps ≤ c.args.steps.now + most_steps s (reweighted name weight s.tree.tree)) c.self.view_is
    (subst (λ a. redo.new.steps ≤ c.args.steps.now + most_steps (session_value v T c.self.inside.rebuilds) a)
    (sym (reweight_allowed name weight T.tree (sym c.in-Some.ensures.found))) (more_steps _ _ _ _ enough))

pub returns-clause-kept : goal.returns-clause-kept
returns-clause-kept g c =
    let K = g.A.Automaton in
    let redo = c.reweigh-result in (
      reweigh_types (value_of K c.self.inside.states) (value_of K redo.new.self) c.self.inside.tree c.exchange_weight.new.self c.args.name.now _ c.self.inside.limit redo.result
          redo.ensures.alike c.self.invariant c.in-Some.ensures.field c.in-Some.ensures.tree redo.ensures.ok redo.ensures.err ∙ ap kept_types c.self.view_is,
      ap (λ s. s.rebuilds) c.self.view_is,
    )

pub returns-clause-decided : goal.returns-clause-decided
returns-clause-decided g c = λ decided.
    let name = c.args.name.now in
    let weight = c.args.weight in
    let T = c.self.inside.tree in
    let done = c.reweigh-result.ensures.decided (subst (λ s. IsDecided s.query) (sym c.self.view_is) decided) in (
      c.edited.ensures ∙ ap edited done.0 ∙ ap answer_of (sym (reweight_allowed name weight T.tree (sym c.in-Some.ensures.found)))
          ∙ ap (λ s. answer_of (reweighted name weight s.tree.tree)) c.self.view_is,
      done.1,
    )
