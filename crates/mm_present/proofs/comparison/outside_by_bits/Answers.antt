use Rattle.std.proofs.Common.{ℕ, ◌≡◌, ◌<◌, ◌^◌, subst, sym, ◌∙◌, arith, List, Option}
use Rattle.std.specs.Prelude.{MatchOption}
use Rattle.mm_field.specs.declared.Field.{Field}
use Rattle.mm_field.specs.declared.Field.TheVariants.{Two}
use Rattle.mm_field.specs.Vectors.{AreVectors, IsWithin}
use Rattle.mm_field.proofs.CombinationLemmas.{IsWithin-itself}
use Rattle.mm_matrix.specs.Outside.{IsFirstOutside}
use Rattle.mm_present.proofs.CompareLemmas.{outside_is, found_small}
use Rattle.mm_present.proofs.comparison.outside_by_bits.Goals as goal

pub returns-clause-first : goal.returns-clause-first
returns-clause-first c =
    let rows = c.args.rows.now in
    let others = c.args.others.now in
    let f = rows.f in
    let n = rows.cols in
    let each : AreVectors f n others.rows =
    subst (λ (k : ℕ). AreVectors f k others.rows) c.requires.columns
    (subst (λ (g : Field). AreVectors g others.cols others.rows) c.requires.field c.rows-2.ensures.each) in
    let itself = IsWithin-itself f n others.rows each in
    outside_is f n rows.rows others.rows others.rows c.in_ok-found.found c.rows.ensures.each each each (itself, itself)
    (subst (λ (g : Field). MatchOption c.in_ok-found.found (IsWithin g n rows.rows others.rows) (λ i. IsFirstOutside g n others.rows rows.rows i))
    (sym c.requires.two) c.in_ok-found.ensures)

pub returns-clause-small : goal.returns-clause-small
returns-clause-small c =
    let rows = c.args.rows.now in
    let count = c.rows.ensures.count in
    let fits : c.rows.result < 2 ^ 64 = c.rows.type_inv in
    found_small Two rows.cols c.args.others.now.rows rows.rows c.in_ok-found.found (2 ^ 64) (omega arith) c.in_ok-found.ensures
