use Rattle.std.proofs.Common.{◌+◌, ◌-◌, ◌≤◌, ◌++◌, take, subst, sym, ap, ◌∙◌, arith}
use Rattle.mm_field.specs.Vectors.{IsVector}
use Rattle.mm_linear.specs.Coordinates.{unit}
use Rattle.mm_linear.specs.Echelons.{EndsAt}
use Rattle.mm_linear.specs.Eliminate.{residue}
use Rattle.mm_space.specs.Preimages.{tagged_rows}
use Rattle.mm_space.proofs.Gathering.{gathering_start, gathering_step, gathering_end}
use Rattle.mm_space.proofs.PreimageLemmas.{tag_is_vector, tag_ends, tagged_are, tagged-get, length-tagged}
use Rattle.mm_space.proofs.images.residue_rows.Goals as goal

pub loop-i-init : goal.loop-i-init
loop-i-init c =
    let short = c.requires.short in
    gathering_start c.args.f 24 (6 + c.args.r) (tagged_rows c.args.f c.args.t c.args.g.now c.args.space.now) c.args.t c.args.all.now (omega arith)
    (sym (length-tagged c.args.f c.args.t c.args.g.now c.args.space.now)) c.requires.zero

pub insert-requires-clause-vector : goal.insert-requires-clause-vector
insert-requires-clause-vector c =
    let narrow = c.requires.narrow in
    let low = c.loop-i.invariant.low in
    let count : c.loop-i.i ≤ c.args.t = omega (arith, length-tagged c.args.f c.args.t c.args.g.now c.args.space.now) in
    subst (λ v. IsVector c.args.f 24 v) (sym c.tagged-row.ensures)
    (tag_is_vector c.args.f (c.args.t - 1 - (c.loop-i.i - 1)) c.reduced-rest.result (omega arith) c.reduced-rest.ensures.vector)

pub insert-requires-clause-ends : goal.insert-requires-clause-ends
insert-requires-clause-ends c =
    let narrow = c.requires.narrow in
    let low = c.loop-i.invariant.low in
    let count : c.loop-i.i ≤ c.args.t = omega (arith, length-tagged c.args.f c.args.t c.args.g.now c.args.space.now) in
    subst (λ v. EndsAt 24 (6 + c.args.r) v) (sym c.tagged-row.ensures)
    (tag_ends c.args.r (c.args.t - 1 - (c.loop-i.i - 1)) c.reduced-rest.result (omega arith) c.reduced-rest.ensures.ends)

pub loop-i-preserved : goal.loop-i-preserved
loop-i-preserved c =
    let f = c.args.f in
    let t = c.args.t in
    let g = c.args.g.now in
    let W = c.args.space.now in
    let i = c.loop-i.i in
    let low = c.loop-i.invariant.low in
    let narrow = c.requires.narrow in
    let count : i ≤ t = omega (arith, length-tagged f t g W) in
    gathering_step f 24 (6 + c.args.r) (tagged_rows f t g W) i c.tagged-row.result c.loop-i.all c.insert.new.rows
    (tagged_are f c.args.r t g W c.requires.narrow (let l = c.requires.short in omega arith) c.requires.count c.requires.vectors
    c.requires.kept.echelon)
    (omega arith) c.loop-i.invariant
    (c.tagged-row.ensures
    ∙ ap (λ u. unit 6 (t - 1 - (i - 1)) ++ take 18 u) (c.reduced-rest.ensures.residue ∙ ap (λ v. residue f 24 v W) c.stored.ensures)
    ∙ sym (tagged-get f t g W (i - 1) (omega arith)))
    c.insert.ensures.inserted

pub returns : goal.returns
returns c = record {
  held = c.loop-i.invariant.held;
  span = gathering_end c.args.f 24 (6 + c.args.r) (tagged_rows c.args.f c.args.t c.args.g.now c.args.space.now) c.loop-i.i c.loop-i.all (omega arith)
      c.loop-i.invariant;
}
