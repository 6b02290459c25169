use Rattle.std.proofs.Common.{◌+◌, ◌≡◌, ◌≤◌, [], ◌∷◌, arith, length, sym, subst, ap, ◌∙◌, length-append}
use Rattle.std.specs.Prelude.{All}
use Rattle.std.proofs.lemmas.List.Elements.{All-append, All-cons, All-nil}
use Rattle.mm_field.specs.Vectors.{AreDigits}
use Rattle.mm_space.specs.VectorText.{IsVectorText, gen_text}
use Rattle.mm_space.proofs.DigitTextLemmas.{no_vector, text_of_vector}
use Rattle.mm_space.proofs.GenTextLemmas.{Remains, at_slash, front_text, front_text-push, front_text-end, remains_next, vector_before, vector_at_end}
use Rattle.mm_space.proofs.generator.Gen.read_rows.Goals as goal

pub returns-in-None-read-clause-none : goal.returns-in-None-read-clause-none
returns-in-None-read-clause-none c = λ others h.
    let found = c.in-Some.ensures in
    let v = c.loop-k.invariant.remains others h in
    no_vector c.args.f v.next c.front.result.now c.in-None-read.ensures.exact
    (subst (λ bytes. IsVectorText c.args.f v.next bytes) (sym c.front.ensures)
    (vector_before c.args.f others c.args.bytes.now c.loop-k.k c.in-Some.p c.loop-k.rest.now h v found.found.0 found.found.1 found.first))

pub returns-in-None-read-2-clause-none : goal.returns-in-None-read-2-clause-none
returns-in-None-read-2-clause-none c = λ others h.
    let v = c.loop-k.invariant.remains others h in
    no_vector c.args.f v.next c.loop-k.rest.now c.in-None-read-2.ensures.exact
    (vector_at_end c.args.f others c.args.bytes.now c.loop-k.k c.loop-k.rest.now h v c.in-None.ensures.none)

pub returns-in-None-clause-text : goal.returns-in-None-clause-text
returns-in-None-clause-text c =
    let h = c.loop-k.invariant in
    let v = c.in-Some-read-2.v in
    let read = text_of_vector c.args.f c.loop-k.rest.now v (sym c.in-Some-read-2.ensures.exact) in
    let rows_are = c.push-in-Some-read-2.ensures in
    let count = h.count in
    let more = c.loop-k-test.true in
    record {
      digits = subst (λ rows. All (λ u. AreDigits c.args.f u) rows) (sym rows_are)
          (All-append (λ u. AreDigits c.args.f u) c.loop-k.rows (v ∷ []) h.digits
          (All-cons (λ u. AreDigits c.args.f u) v [] read.digits (All-nil (λ u. AreDigits c.args.f u))));
      short = subst (λ rows. All (λ u. length u ≤ 18) rows) (sym rows_are)
          (All-append (λ u. length u ≤ 18) c.loop-k.rows (v ∷ []) h.short
          (All-cons (λ u. length u ≤ 18) v [] read.short (All-nil (λ u. length u ≤ 18))));
      few = let e : length c.push-in-Some-read-2.new.self ≡ length c.loop-k.rows + 1 =
          ap length rows_are ∙ length-append c.loop-k.rows (v ∷ []) in omega arith;
      text = h.shown ∙ ap (λ rest. front_text c.loop-k.rows rest) read.text ∙ front_text-end c.loop-k.rows v
          ∙ ap gen_text (sym rows_are);
    }

pub loop-k-preserved : goal.loop-k-preserved
loop-k-preserved c =
    let h = c.loop-k.invariant in
    let v = c.in-Some-read.v in
    let read = text_of_vector c.args.f c.front.result.now v (sym c.in-Some-read.ensures.exact) in
    let found = c.in-Some.ensures in
    let rows_are = c.push.ensures in
    let count = h.count in
    let more = c.loop-k-test.true in
    record {
      count = ap length rows_are ∙ length-append c.loop-k.rows (v ∷ []) ∙ omega arith;
      few = omega arith;
      shown = h.shown
          ∙ ap (λ rest. front_text c.loop-k.rows rest)
          (at_slash c.in-Some.p v c.loop-k.rest.now c.front.result.now c.back-rest.result.now found.found.0 found.found.1 c.front.ensures c.back-rest.ensures read.text)
          ∙ sym (front_text-push c.loop-k.rows v c.back-rest.result.now)
          ∙ ap (λ rows. front_text rows c.back-rest.result.now) (sym rows_are);
      digits = subst (λ rows. All (λ u. AreDigits c.args.f u) rows) (sym rows_are)
          (All-append (λ u. AreDigits c.args.f u) c.loop-k.rows (v ∷ []) h.digits
          (All-cons (λ u. AreDigits c.args.f u) v [] read.digits (All-nil (λ u. AreDigits c.args.f u))));
      short = subst (λ rows. All (λ u. length u ≤ 18) rows) (sym rows_are)
          (All-append (λ u. length u ≤ 18) c.loop-k.rows (v ∷ []) h.short
          (All-cons (λ u. length u ≤ 18) v [] read.short (All-nil (λ u. length u ≤ 18))));
      remains = λ others t.
          subst (λ rest. Remains (c.loop-k.k + 1) others rest) (sym c.back-rest.ensures)
          (remains_next c.args.f others c.args.bytes.now c.loop-k.k c.in-Some.p c.loop-k.rest.now (h.remains others t)
          found.found.0 found.found.1 found.first);
    }
