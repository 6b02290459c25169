use Rattle.std.proofs.Common.{List, ℕ, take, drop, subst, arith}
use Rattle.std.proofs.lemmas.List.{take_rest}
use Rattle.std.proofs.Math.Seq.{take-add}
use Rattle.std.proofs.KnownBytes.{Appends-trans}
use Rattle.std.specs.Io.KnownBytes.{Appends}
use Rattle.mm_base.proofs.sink.write_all.Goals as goal

pub loop-at-preserved : goal.loop-at-preserved
loop-at-preserved g c =
    let h = c.in_ok-count.ensures in
    let k = c.loop-at.invariant in
    let bytes = c.args.bytes.now in
    let at = c.loop-at.at in
    let n = c.in_ok-count.count in
    let held = g.K.Sink.held in
    let more : Appends (held c.loop-at.out) (held c.write.new.self) (take n (drop at bytes)) =
    subst (λ (z : List ℕ). Appends (held c.loop-at.out) (held c.write.new.self) (take n z)) (take_rest bytes at) h.bytes in
    record {
      within = omega (arith, h.bound);
      grew = rw (take-add at n bytes) (Appends-trans (held c.args.out.now) (held c.loop-at.out) (held c.write.new.self) (take at bytes) (take n (drop at bytes)) k.grew more);
      untouched = λ none. absurd (omega (arith, none, c.if-count-eq0.false));
      later = omega (arith, h.cause.later);
    }
