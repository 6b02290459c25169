use Rattle.std.proofs.Common.{◌-◌, ◌≡◌, ◌<◌, [], get_or, take, length, subst, sym, ◌∙◌, arith}
use Rattle.std.proofs.lemmas.List.{length-take-le, get_or-take}
use Rattle.std.proofs.lemmas.List.Elements.{All-drop}
use Rattle.mm_field.specs.Digits.{order}
use Rattle.mm_field.specs.Vectors.{AreDigits, IsVector}
use Rattle.mm_field.proofs.CombinationLemmas.{IsVector-combination}
use Rattle.mm_space.proofs.Gathering.{times_start, times_step}
use Rattle.mm_field.proofs.VectorLemmas.{add_no_multiple}
use Rattle.mm_space.proofs.joining.times_rows.Goals as goal

pub loop-j-init : goal.loop-j-init
loop-j-init c =
    let key = c.t-j.ensures.reduced in
    record {
      low = (let e = c.t-j.ensures.length in omega arith);
      out_is = times_start c.args.f 24 c.t-j.result (get_or c.args.key.now.rows c.args.i []) (take c.args.key.now.t c.args.form.now)
          ((key.each c.args.i [] c.requires.row).len ∙ sym c.t-j.ensures.length);
    }

pub axpy-requires-clause-factor : goal.axpy-requires-clause-factor
axpy-requires-clause-factor c =
    let key = c.t-j.ensures.reduced in
    let hv = key.each c.args.i [] c.requires.row in
    let low = c.loop-j.invariant.low in
    let long : length (get_or c.args.key.now.rows c.args.i []) ≡ c.args.key.now.t = hv.len in
    subst (λ f. c.number_of-d.result < order f) c.requires.field
    (subst (λ d. d < order c.args.key.now.f) (sym (c.number_of-d.ensures ∙ c.row_digits-digits.ensures (c.loop-j.j - 1) (omega arith))) (hv.digits (c.loop-j.j - 1) 0 (omega arith)))

pub axpy-requires-clause-digits_x : goal.axpy-requires-clause-digits_x
axpy-requires-clause-digits_x c =
    let key = c.t-j.ensures.reduced in
    let few = key.narrow in
    let low = c.loop-j.invariant.low in
    let told : length c.args.form.now ≡ 6 = c.told-form in
    let lt : length (take c.args.key.now.t c.args.form.now) ≡ c.args.key.now.t = length-take-le c.args.key.now.t c.args.form.now (omega arith) in
    subst (λ v. AreDigits c.args.f v) (get_or-take c.args.key.now.t c.args.form.now (c.loop-j.j - 1) [] (omega arith))
    (c.requires.vectors (c.loop-j.j - 1) [] (omega arith)).digits

pub axpy-requires-clause-digits_y : goal.axpy-requires-clause-digits_y
axpy-requires-clause-digits_y c =
    subst (λ v. AreDigits c.args.f v) (sym c.loop-j.invariant.out_is)
    (IsVector-combination c.args.f 24 _ _ (All-drop (λ v. IsVector c.args.f 24 v) c.loop-j.j (take c.args.key.now.t c.args.form.now) c.requires.vectors)).digits

pub loop-j-preserved-then-d-ne0 : goal.loop-j-preserved-then-d-ne0
loop-j-preserved-then-d-ne0 c =
    let f = c.args.f in
    let key = c.t-j.ensures.reduced in
    let few = key.narrow in
    let hv = key.each c.args.i [] c.requires.row in
    let low = c.loop-j.invariant.low in
    let told : length c.args.form.now ≡ 6 = c.told-form in
    let row = get_or c.args.key.now.rows c.args.i [] in
    let T = take c.args.key.now.t c.args.form.now in
    let x = get_or c.args.form.now (c.loop-j.j - 1) [] in
    let long : length row ≡ c.args.key.now.t = hv.len in
    let lt : length T ≡ c.args.key.now.t = length-take-le c.args.key.now.t c.args.form.now (omega arith) in
    let x_is = get_or-take c.args.key.now.t c.args.form.now (c.loop-j.j - 1) [] (omega arith) in
    let hx = subst (λ v. IsVector f 24 v) x_is (c.requires.vectors (c.loop-j.j - 1) [] (omega arith)) in
    let ho = subst (λ v. IsVector f 24 v) (sym c.loop-j.invariant.out_is)
    (IsVector-combination f 24 _ _ (All-drop (λ v. IsVector f 24 v) c.loop-j.j T c.requires.vectors)) in
    record {
      low = omega arith;
      out_is = times_step f 24 row T c.loop-j.j c.loop-j.out c.number_of-d.result x c.axpy.new.y (omega arith) (omega arith) (omega arith)
          c.loop-j.invariant.out_is (c.number_of-d.ensures ∙ c.row_digits-digits.ensures (c.loop-j.j - 1) (omega arith)) (sym x_is) c.axpy.ensures;
    }

pub loop-j-preserved : goal.loop-j-preserved
loop-j-preserved c =
    let f = c.args.f in
    let key = c.t-j.ensures.reduced in
    let few = key.narrow in
    let hv = key.each c.args.i [] c.requires.row in
    let low = c.loop-j.invariant.low in
    let told : length c.args.form.now ≡ 6 = c.told-form in
    let row = get_or c.args.key.now.rows c.args.i [] in
    let T = take c.args.key.now.t c.args.form.now in
    let x = get_or c.args.form.now (c.loop-j.j - 1) [] in
    let long : length row ≡ c.args.key.now.t = hv.len in
    let lt : length T ≡ c.args.key.now.t = length-take-le c.args.key.now.t c.args.form.now (omega arith) in
    let x_is = get_or-take c.args.key.now.t c.args.form.now (c.loop-j.j - 1) [] (omega arith) in
    let hx = subst (λ v. IsVector f 24 v) x_is (c.requires.vectors (c.loop-j.j - 1) [] (omega arith)) in
    let ho = subst (λ v. IsVector f 24 v) (sym c.loop-j.invariant.out_is)
    (IsVector-combination f 24 _ _ (All-drop (λ v. IsVector f 24 v) c.loop-j.j T c.requires.vectors)) in
    record {
      low = omega arith;
      out_is = times_step f 24 row T c.loop-j.j c.loop-j.out c.number_of-d.result x c.loop-j.out (omega arith) (omega arith) (omega arith)
          c.loop-j.invariant.out_is (c.number_of-d.ensures ∙ c.row_digits-digits.ensures (c.loop-j.j - 1) (omega arith)) (sym x_is)
          (add_no_multiple f c.number_of-d.result x c.loop-j.out c.if-d-ne0.false (hx.len ∙ sym ho.len) ho.digits);
    }
