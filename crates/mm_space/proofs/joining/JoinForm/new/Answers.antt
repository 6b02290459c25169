use Rattle.std.proofs.Common.{ℕ, List, ◌+◌, ◌-◌, ◌++◌, length, map, replicate, subst, sym, ap, ◌∙◌, arith}
use Rattle.mm_field.specs.Vectors.{SameRowSpace, zeros}
use Rattle.mm_linear.specs.Echelons.{ZeroFrom}
use Rattle.mm_space.specs.JoinForms.{normal, no_rows}
use Rattle.mm_space.specs.Preimages.{tagged_rows}
use Rattle.mm_space.proofs.KeptLemmas.{zero_held}
use Rattle.mm_space.proofs.JoinSteps.{third_is}
use Rattle.mm_space.proofs.joining.JoinForm.new.Goals as goal

pub residue_rows-requires-clause-kept : goal.residue_rows-requires-clause-kept
residue_rows-requires-clause-kept c = let l = c.requires.narrow in zero_held c.args.f 24 c.args.r (omega arith)

pub invariant_of-result : goal.invariant_of-result
invariant_of-result c =
    let f = c.args.f in
    let r = c.args.r in
    let g3 = c.args.g3 in
    let E = c.residue_rows.new.all in
    let span : SameRowSpace f 24 (tagged_rows f (length g3) g3 no_rows) E =
    subst (λ (n : ℕ). SameRowSpace f 24 (tagged_rows f n g3 no_rows) E) c.rows.ensures c.residue_rows.ensures.span in
    let e = third_is f r g3 E c.requires.narrow c.requires.few3 c.requires.third c.residue_rows.ensures.held span in
    let rows_of = λ (g X : List (List ℕ)). map (normal f r X) g ++ replicate (6 - length g) (zeros 24) in
    record {
      form = record {
        narrow = c.requires.narrow;
        few1 = c.requires.few1;
        few2 = c.requires.few2;
        few3 = c.requires.few3;
        each1 = c.requires.first;
        each2 = c.requires.second;
        each3 = c.requires.third;
        independent2 = c.requires.independent;
        independent3 = c.requires.third_independent;
        within = subst (λ (X : List (List ℕ)). ZeroFrom 24 (6 + r) X) e c.residue_rows.ensures.held.within;
      };
      first_is = sym (c.normal_rows.ensures ∙ ap (rows_of c.args.g1) e);
      second_is = sym (c.normal_rows-2.ensures ∙ ap (rows_of c.args.g2) e);
    }
