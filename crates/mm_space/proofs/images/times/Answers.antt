use Rattle.std.proofs.Common.{◌-◌, ◌≡◌, ◌<◌, [], get_or, map, length, subst, sym, ◌∙◌, arith}
use Rattle.std.proofs.lemmas.List.{length-map, get_or-map}
use Rattle.std.proofs.lemmas.List.Elements.{All-drop}
use Rattle.mm_field.specs.Digits.{order}
use Rattle.mm_field.specs.Vectors.{AreDigits, IsVector}
use Rattle.mm_field.proofs.CombinationLemmas.{IsVector-combination}
use Rattle.mm_linear.specs.Padded.{padded}
use Rattle.mm_space.proofs.Gathering.{times_start, times_step}
use Rattle.mm_space.proofs.images.times.Goals as goal

pub loop-j-init : goal.loop-j-init
loop-j-init c =
    let key = c.t-j.ensures.reduced in
    let row = c.requires.row in
    record {
      low = (let e = c.t-j.ensures.length in omega arith);
      out_is = times_start c.args.f 24 c.t-j.result (get_or c.args.key.now.rows c.args.i []) (map (padded 24) c.args.g.now)
          ((key.each c.args.i [] row).len ∙ sym c.t-j.ensures.length);
    }

pub axpy-requires-clause-factor : goal.axpy-requires-clause-factor
axpy-requires-clause-factor c =
    let key = c.t-j.ensures.reduced in
    let hv = key.each c.args.i [] c.requires.row in
    let low = c.loop-j.invariant.low in
    let long : length (get_or c.args.key.now.rows c.args.i []) ≡ c.args.key.now.t = hv.len in
    subst (λ f. c.at.result < order f) c.requires.field
    (subst (λ d. d < order c.args.key.now.f) (sym c.at.ensures) (hv.digits (c.loop-j.j - 1) 0 (omega arith)))

pub axpy-requires-clause-digits_x : goal.axpy-requires-clause-digits_x
axpy-requires-clause-digits_x c =
    let low = c.loop-j.invariant.low in
    let count = c.requires.count in
    let lg : c.loop-j.j - 1 < length c.args.g.now = omega arith in
    subst (λ v. AreDigits c.args.f v)
    (get_or-map (padded 24) c.args.g.now (c.loop-j.j - 1) [] [] lg ∙ sym c.stored.ensures)
    (c.requires.rows (c.loop-j.j - 1) [] (omega (arith, length-map c.args.g.now (padded 24)))).digits

pub axpy-requires-clause-digits_y : goal.axpy-requires-clause-digits_y
axpy-requires-clause-digits_y c =
    subst (λ v. AreDigits c.args.f v) (sym c.loop-j.invariant.out_is)
    (IsVector-combination c.args.f 24 _ _ (All-drop (λ v. IsVector c.args.f 24 v) c.loop-j.j (map (padded 24) c.args.g.now) c.requires.rows)).digits

pub loop-j-preserved : goal.loop-j-preserved
loop-j-preserved c =
    let key = c.t-j.ensures.reduced in
    let hv = key.each c.args.i [] c.requires.row in
    let low = c.loop-j.invariant.low in
    let count = c.requires.count in
    let long : length (get_or c.args.key.now.rows c.args.i []) ≡ c.args.key.now.t = hv.len in
    let lg : c.loop-j.j - 1 < length c.args.g.now = omega arith in
    record {
      low = omega arith;
      out_is = times_step c.args.f 24 (get_or c.args.key.now.rows c.args.i []) (map (padded 24) c.args.g.now) c.loop-j.j c.loop-j.out
          c.at.result c.stored.result.now c.axpy.new.y (omega arith) (omega arith) (omega (arith, length-map c.args.g.now (padded 24)))
          c.loop-j.invariant.out_is c.at.ensures (c.stored.ensures ∙ sym (get_or-map (padded 24) c.args.g.now (c.loop-j.j - 1) [] [] lg))
          c.axpy.ensures;
    }
