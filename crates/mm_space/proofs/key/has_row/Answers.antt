use Rattle.std.proofs.Common.{ℕ, ◌≡◌, List, [], get_or, eqb-true, sym, ap, ◌∙◌, arith}
use Rattle.std.specs.Int.{bit_at}
use Rattle.std.proofs.lemmas.Bool.{not-false}
use Rattle.std.proofs.lemmas.List.{get_or-replicate}
use Rattle.std.proofs.lemmas.Nat.Bits.{shr_and_one, bit_at-lt}
use Rattle.mm_space.proofs.MarkLemmas.{marked_off, marked_on}
use Rattle.mm_space.proofs.key.has_row.Goals as goal

pub returns-then-marks-j-eq0-clause-none : goal.returns-then-marks-j-eq0-clause-none
returns-then-marks-j-eq0-clause-none c = λ no.
    ap (λ (v : List ℕ). get_or v c.args.j 0)
    (marked_off 24 c.args.marks c.args.rows.now c.args.j c.requires (sym (shr_and_one c.args.marks c.args.j) ∙ c.if-marks-j-eq0.true))
    ∙ get_or-replicate 24 c.args.j 0 0 c.requires

pub returns-clause-none : goal.returns-clause-none
returns-clause-none c = λ no.
    let same = shr_and_one c.args.marks c.args.j in
    let small = bit_at-lt c.args.marks c.args.j in
    let some = c.if-marks-j-eq0.false in
    let on : bit_at c.args.marks c.args.j ≡ 1 = omega (arith, same, small, some) in
    ap (λ (v : List ℕ). get_or v c.args.j 0) (marked_on 24 c.args.marks c.args.rows.now c.args.j c.requires on)
    ∙ eqb-true (get_or (get_or c.args.rows.now c.args.j []) c.args.j 0) 0 (not-false _ no)
