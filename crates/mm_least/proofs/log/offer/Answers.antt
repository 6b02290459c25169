use Rattle.std.proofs.Common.{rules, ◌≡◌, ◌<◌, true, false, None, Some, length, set, int_lt, w64, SFits, sym, ap, ◌∙◌, subst, arith}
use Rattle.std.proofs.lemmas.Int.{to_z-of_z}
use Rattle.std.proofs.lemmas.List.{get_or_default, length-set}
use Rattle.mm_least.specs.declared.log.Entry.{Entry}
use Rattle.mm_least.proofs.LogLemmas.{stays_offered, first_offered, again_offered}
use Rattle.mm_least.proofs.log.offer.Goals as goal
use Rattle.mm_least.proofs.log.offer.Goals.{in-Some+else-index-row, in-None}

pub returns-then-index-row : goal.returns-then-index-row
returns-then-index-row c =
    let inside : c.args.place < length c.args.lasts.now.items = subst (λ n. c.args.place < n) (sym c.requires.log.long) c.requires.there in
    let f : SFits w64 c.args.row.weight = search rules in
    let h : SFits w64 c.index-in-Some.result.now.row.weight = search rules in
    let more : int_lt c.args.row.weight c.index-in-Some.result.now.row.weight ≡ false = grind (arith, to_z-of_z) in
    let last = get_or_default c.args.lasts.now.items c.args.place None c.index.result.now inside ∙ sym c.index.ensures ∙ c.in-Some.is in
    stays_offered c.args.ids.now c.args.place c.args.row c.requires.there c.requires.apart c.requires.named c.args.lasts.now.items c.args.log.now.items c.requires.log c.in-Some.last c.index-in-Some.result.now last
    (ap (λ (e : Entry). int_lt c.args.row.weight e.row.weight) (sym c.index-in-Some.ensures) ∙ more)

pub returns-in-Ok : goal.returns-in-Ok
returns-in-Ok c =
    let inside : c.args.place < length c.args.lasts.now.items = subst (λ n. c.args.place < n) (sym c.requires.log.long) c.requires.there in
    let size : c.len.result ≡ length c.args.log.now.items = search rules in
    let moved = ap (λ n. set c.args.lasts.now.items c.args.place (Some n)) size in
    let long = length-set c.args.lasts.now.items c.args.place (Some c.len.result) in
    elim c.match-index.branch [
      | in-Some+else-index-row w ↦
          let f : SFits w64 c.args.row.weight = search rules in
          let h : SFits w64 w.index-in-Some.result.now.row.weight = search rules in
          let less : int_lt c.args.row.weight w.index-in-Some.result.now.row.weight ≡ true = grind (arith, to_z-of_z) in
          let last = get_or_default c.args.lasts.now.items c.args.place None c.index.result.now inside ∙ sym c.index.ensures ∙ w.in-Some.is in
          again_offered c.args.ids.now c.args.place c.args.row c.requires.there c.requires.apart c.requires.named c.args.lasts.now.items c.args.log.now.items c.requires.log
          (set c.args.lasts.now.items c.args.place (Some c.len.result)) c.push.new.self.items moved long c.in-Ok.ensures.items w.in-Some.last w.index-in-Some.result.now last
          (ap (λ (e : Entry). int_lt c.args.row.weight e.row.weight) (sym w.index-in-Some.ensures) ∙ less)
      | in-None w ↦
          first_offered c.args.ids.now c.args.place c.args.row c.requires.there c.requires.apart c.requires.named c.args.lasts.now.items c.args.log.now.items c.requires.log
          (set c.args.lasts.now.items c.args.place (Some c.len.result)) c.push.new.self.items moved long c.in-Ok.ensures.items
          (get_or_default c.args.lasts.now.items c.args.place None c.index.result.now inside ∙ sym c.index.ensures ∙ w.in-None.is)
    ]
