use Rattle.std.proofs.Common.{ℕ, List, ◌-◌, [], take, subst, sym, ◌∙◌, arith}
use Rattle.std.proofs.lemmas.List.{length-map, get_or-map}
use Rattle.mm_field.specs.Vectors.{IsVector, combination}
use Rattle.mm_field.proofs.CombinationLemmas.{IsVector-combination}
use Rattle.mm_linear.specs.Echelons.{EndsAt}
use Rattle.mm_space.specs.JoinForms.{form_images}
use Rattle.mm_space.proofs.Gathering.{gathering_start, gathering_step, gathering_end}
use Rattle.mm_space.proofs.JoinSteps.{combination_ends, form_images_are}
use Rattle.mm_space.proofs.joining.insert_images.Goals as goal

pub loop-i-init : goal.loop-i-init
loop-i-init c =
    let key = c.args.key.now in
    gathering_start c.args.f 24 c.args.width (form_images c.args.f key.t c.args.form.now key.rows) c.rank-i.result c.args.rows.now c.requires.narrow
    (c.rank-i.ensures.count ∙ sym (length-map key.rows (λ b. combination c.args.f 24 b (take key.t c.args.form.now))))
    c.requires.zero

pub insert-requires-clause-vector : goal.insert-requires-clause-vector
insert-requires-clause-vector c =
    subst (λ v. IsVector c.args.f 24 v) (sym c.times_rows.ensures) (IsVector-combination c.args.f 24 _ _ c.requires.vectors)

pub insert-requires-clause-ends : goal.insert-requires-clause-ends
insert-requires-clause-ends c =
    subst (λ v. EndsAt 24 c.args.width v) (sym c.times_rows.ensures)
    (combination_ends c.args.f c.args.width _ _ c.requires.vectors c.requires.ends)

pub loop-i-preserved : goal.loop-i-preserved
loop-i-preserved c =
    let key = c.args.key.now in
    let times = λ (b : List ℕ). combination c.args.f 24 b (take key.t c.args.form.now) in
    let low = c.loop-i.invariant.low in
    gathering_step c.args.f 24 c.args.width (form_images c.args.f key.t c.args.form.now key.rows) c.loop-i.i c.times_rows.result c.loop-i.rows c.insert.new.self
    (form_images_are c.args.f key.t c.args.form.now key.rows c.requires.vectors) (omega arith) c.loop-i.invariant
    (c.times_rows.ensures ∙ sym (get_or-map times key.rows (c.loop-i.i - 1) [] [] (omega (arith, length-map key.rows times))))
    c.insert.ensures.inserted

pub returns : goal.returns
returns c =
    let key = c.args.key.now in
    record {
      held = c.loop-i.invariant.held;
      span = gathering_end c.args.f 24 c.args.width (form_images c.args.f key.t c.args.form.now key.rows) c.loop-i.i c.loop-i.rows (omega arith)
          c.loop-i.invariant;
      key = c.rank-i.ensures.reduced;
    }
