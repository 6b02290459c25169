use Rattle.std.proofs.Common.{ℕ, ◌≡◌, ◌<◌, ◌≤◌, ◌/◌, ◌≢◌, inl, inr, get_or, length, sym, refl, ap, ◌∙◌, subst, arith, length-set}
use Rattle.std.proofs.lemmas.Bool.{cases_eq}
use Rattle.std.proofs.lemmas.List.{get_or_default}
use Rattle.mm_matrix.specs.BitRows.{bit_of}
use Rattle.mm_matrix.proofs.BitLemmas.{with_bit, bit_put, bit_kept, bits_are}
use Rattle.mm_matrix.proofs.bit_rows.packed.Goals as goal

pub loop-k-preserved : goal.loop-k-preserved
loop-k-preserved c =
    let ws = c.loop-k.words.items in
    let k = c.loop-k.k in
    let row = c.args.row.now in
    let w = c.index_mut.result.now in
    let d = get_or row k 0 in
    let s = c.loop-k.invariant.size in
    let small : d < 2 = c.requires k 0 (omega arith) in
    let l : k / 64 < length ws = omega arith in
    let at : w ≡ get_or ws (k / 64) 0 = c.index_mut.ensures.value ∙ sym (get_or_default ws (k / 64) 0 w l) in
    record {
      size = length-set ws (k / 64) _ ∙ s;
      done = λ j m. elim (cases_eq j k) [
        | inl e ↦ subst (λ (x : ℕ). bit_of (with_bit ws k d w) x ≡ get_or row x 0) (sym e) (bit_put ws k d w small l at (c.loop-k.invariant.rest k (omega arith)))
        | inr apart ↦ bit_kept ws k d w j small l at apart ∙ c.loop-k.invariant.done j (omega arith)
      ];
      rest = λ j m. bit_kept ws k d w j small l at (λ e. absurd (omega arith)) ∙ c.loop-k.invariant.rest j (omega arith);
    }

pub returns-clause-digits : goal.returns-clause-digits
returns-clause-digits c =
    let row = c.args.row.now in
    bits_are (length row) c.loop-k.words.items row refl (λ k l. c.loop-k.invariant.done k (omega arith))
