use Rattle.std.proofs.Common.{ℕ, List, ◌-◌, [], map, subst, sym, ◌∙◌, arith}
use Rattle.std.proofs.lemmas.List.{length-map, get_or-map}
use Rattle.mm_field.specs.Vectors.{IsVector, AreVectors, combination}
use Rattle.mm_field.proofs.CombinationLemmas.{IsVector-combination}
use Rattle.mm_linear.specs.Echelons.{EndsAt}
use Rattle.mm_linear.specs.Padded.{padded}
use Rattle.mm_space.specs.Images.{wide_images}
use Rattle.mm_space.proofs.Gathering.{gathering_start, gathering_step, gathering_end, wide_rows, wide_images_are, wide_image_ends}
use Rattle.mm_space.proofs.images.image_rows.Goals as goal

pub loop-i-init : goal.loop-i-init
loop-i-init c =
    let l = c.requires.narrow in
    gathering_start c.args.f 24 c.args.r (wide_images c.args.f c.args.g.now c.args.key.now.rows) c.rank-i.result c.args.rows.now (omega arith)
    (c.rank-i.ensures.count ∙ sym (length-map c.args.key.now.rows (λ b. combination c.args.f 24 b (map (padded 24) c.args.g.now))))
    c.requires.zero

pub times-requires-clause-rows : goal.times-requires-clause-rows
times-requires-clause-rows c =
    let l = c.requires.narrow in
    wide_rows c.args.f c.args.r c.args.g.now (omega arith) c.requires.vectors

pub insert-requires-clause-vector : goal.insert-requires-clause-vector
insert-requires-clause-vector c =
    let l = c.requires.narrow in
    subst (λ v. IsVector c.args.f 24 v) (sym c.times.ensures)
    (IsVector-combination c.args.f 24 _ _ (wide_rows c.args.f c.args.r c.args.g.now (omega arith) c.requires.vectors))

pub insert-requires-clause-ends : goal.insert-requires-clause-ends
insert-requires-clause-ends c =
    let l = c.requires.narrow in
    subst (λ v. EndsAt 24 c.args.r v) (sym c.times.ensures)
    (wide_image_ends c.args.f c.args.r c.args.g.now _ (omega arith) c.requires.vectors)

pub loop-i-preserved : goal.loop-i-preserved
loop-i-preserved c =
    let l = c.requires.narrow in
    let rows = c.args.key.now.rows in
    let times = λ (b : List ℕ). combination c.args.f 24 b (map (padded 24) c.args.g.now) in
    let low = c.loop-i.invariant.low in
    gathering_step c.args.f 24 c.args.r (wide_images c.args.f c.args.g.now rows) c.loop-i.i c.times.result c.loop-i.rows c.insert.new.rows
    (wide_images_are c.args.f c.args.r c.args.g.now rows (omega arith) c.requires.vectors) (omega arith) c.loop-i.invariant
    (c.times.ensures ∙ sym (get_or-map times rows (c.loop-i.i - 1) [] [] (omega (arith, length-map rows times))))
    c.insert.ensures.inserted

pub returns : goal.returns
returns c =
    let key = c.args.key.now in
    record {
      held = c.loop-i.invariant.held;
      span = gathering_end c.args.f 24 c.args.r (wide_images c.args.f c.args.g.now key.rows) c.loop-i.i c.loop-i.rows (omega arith)
          c.loop-i.invariant;
      key_rows = subst (λ f. AreVectors f key.t key.rows) c.requires.field c.rank-i.ensures.reduced.each;
    }
