use Rattle.std.proofs.Common.{◌+◌, ◌++◌, drop, pos, ap, ◌∙◌}
use Rattle.mm_least.specs.declared.row.Origin.TheVariants.{Out}
use Rattle.mm_least.specs.declared.log.Entry.{Entry}
use Rattle.mm_least.specs.Logs.{standing}
use Rattle.mm_least.proofs.LogLemmas.{goes_in, stays_out}
use Rattle.mm_least.proofs.log.standing.Goals as goal
use Rattle.mm_least.proofs.log.standing.Goals.{then-is_last+in-Ok, else-is_last}

abbrev none : Entry
none = record { place = 0; row = record { id = 0; weight = pos 0; origin = Out } }

pub loop-k-preserved : goal.loop-k-preserved
loop-k-preserved c =
    elim c.if-is_last.branch [
      | then-is_last+in-Ok w ↦
          goes_in c.args.lasts.now c.args.log.now c.requires c.loop-k.k none c.loop-k-test.true c.loop-k.rows.items c.loop-k.invariant (c.is_last.ensures.same w.if-is_last.true) c.if-is_last.rows.items
          (ap (λ rows. rows.items) w.rows-is ∙ w.in-Ok.ensures.items)
      | else-is_last w ↦
          ap (λ rows. rows.items ++ standing (drop (c.loop-k.k + 1) c.args.log.now)) w.rows-is
          ∙ stays_out c.args.lasts.now c.args.log.now c.requires c.loop-k.k none c.loop-k-test.true c.loop-k.rows.items c.loop-k.invariant (c.is_last.ensures.other w.if-is_last.false)
    ]
