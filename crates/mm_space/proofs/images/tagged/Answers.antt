use Rattle.std.proofs.Common.{arith, length-set}
use Rattle.mm_field.specs.Vectors.{zeros}
use Rattle.mm_space.proofs.PreimageLemmas.{unit_in_array, tag_from_entries}
use Rattle.mm_space.proofs.images.tagged.Goals as goal

pub loop-k-init : goal.loop-k-init
loop-k-init c = record {
  size = length-set (zeros 24) c.args.place 1;
  front = λ i l. unit_in_array c.args.place i c.requires l;
  done = λ i l. absurd (omega arith);
}

pub returns : goal.returns
returns c =
    let h = c.loop-k.invariant in
    let ended = c.loop-k-test.false in
    tag_from_entries c.args.place c.args.x.now c.loop-k.out c.requires c.told-x h.size h.front (λ i l. h.done i (omega arith))
