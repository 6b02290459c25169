use Rattle.std.proofs.Common.{List, ℕ, map, reverse, subst, sym, arith}
use Rattle.std.proofs.lemmas.Nat.Bits.{bit_at_ones}
use Rattle.mm_linear.specs.Echelons.{IsEchelon}
use Rattle.mm_space.specs.KeyValue.{IsKeyOf}
use Rattle.mm_space.specs.SpaceValue.{corner}
use Rattle.mm_space.proofs.MarkLemmas.{marked-all}
use Rattle.mm_space.proofs.key.Key.of_corner.Goals as goal

pub of_marked_corner-requires-clause-echelon : goal.of_marked_corner-requires-clause-echelon
of_marked_corner-requires-clause-echelon c =
    subst (λ (m : List (List ℕ)). IsEchelon c.args.f 24 m) (sym (marked-all 24 18446744073709551615 c.args.rows.now c.told-rows (λ i l. bit_at_ones 64 i (omega arith))))
    c.requires.echelon

pub returns : goal.returns
returns c =
    subst (λ (m : List (List ℕ)). IsKeyOf c.args.f c.args.t (map reverse (corner c.args.t m)) c.of_marked_corner.result)
    (marked-all 24 18446744073709551615 c.args.rows.now c.told-rows (λ i l. bit_at_ones 64 i (omega arith))) c.of_marked_corner.ensures
