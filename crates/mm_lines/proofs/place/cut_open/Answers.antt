use Rattle.std.proofs.Common.{◌≡◌, ◌∙◌, ◌-◌, ◌+◌, ℕ, List, [], not, length, take, drop, true, false, sym, ap, refl, subst, arith}
use Rattle.std.specs.Str.Lines.{strip_carriage_return}
use Rattle.std.proofs.lemmas.List.{take_rest, drop_all}
use Rattle.std.proofs.lemmas.Bool.{both_ways}
use Rattle.mm_lines.specs.Lines.{is_too_long, is_passed_over, line_of}
use Rattle.mm_lines.specs.Places.{Goes}
use Rattle.mm_lines.specs.declared.place.Place.{Place}
use Rattle.mm_lines.proofs.PlaceLemmas.{goes_same, goes_long, goes_last, none_passing, none_open, begun_one, begun_last, long_is_handed_out}
use Rattle.mm_lines.proofs.place.cut_open.Goals as goal
use Rattle.mm_lines.proofs.place.cut_open.Goals.{else-ended-via-then-ended+else-place-bytes, else-ended-via-else-ended}

pub returns-then-place-clause-cut : goal.returns-then-place-clause-cut
returns-then-place-clause-cut c =
    let bytes = c.args.bytes.now in
    let p = c.args.place.now in
    let q : Place = record { start = p.start; searched = length bytes; number = p.number; passing = p.passing } in
    (goes_same c.args.ended bytes p q refl refl refl, none_passing c.args.ended bytes q c.if-place.true c.requires.clean, refl)

pub returns-then-is_too_long-clause-cut : goal.returns-then-is_too_long-clause-cut
returns-then-is_too_long-clause-cut c =
    let bytes = c.args.bytes.now in
    let p = c.args.place.now in
    let rest = take_rest bytes p.start in
    let long : is_too_long (drop p.start bytes) ≡ true = ap is_too_long (sym rest) ∙ sym c.is_too_long.ensures ∙ c.if-is_too_long.true in
    let q : Place = record { start = p.start; searched = length bytes; number = p.number; passing = true } in
    let tail = take (length bytes - p.start) (drop p.start bytes) in
    let goes = goes_long c.args.ended bytes p (length bytes) (omega (arith, c.requires.place.order, c.requires.place.within)) c.if-place.false c.requires.clean long in
    (subst (λ (l : List ℕ). Goes c.args.ended bytes p (line_of p.number l) q) (sym rest) goes, λ h. long_is_handed_out (is_too_long tail) (not (is_passed_over (strip_carriage_return tail))) (ap is_too_long rest ∙ long) h, refl, begun_one p.passing p.number c.if-place.false)

pub returns-then-place-bytes-clause-cut : goal.returns-then-place-bytes-clause-cut
returns-then-place-bytes-clause-cut c =
    let bytes = c.args.bytes.now in
    let p = c.args.place.now in
    let q : Place = record { start = length bytes; searched = length bytes; number = p.number + 1; passing = p.passing } in
    let goes = goes_last c.args.ended bytes p (length bytes) c.if-ended.true c.if-place.false c.requires.clean in
    (subst (λ (l : List ℕ). Goes c.args.ended bytes p (line_of p.number l) q) (sym (take_rest bytes p.start)) goes, λ h. c.if-place-bytes.true, refl, begun_last p.passing p.number c.if-place.false)

pub returns-clause-cut : goal.returns-clause-cut
returns-clause-cut c =
    let bytes = c.args.bytes.now in
    let p = c.args.place.now in
    let q : Place = record { start = p.start; searched = length bytes; number = p.number; passing = p.passing } in
    let rest = take_rest bytes p.start in
    let short : is_too_long (drop p.start bytes) ≡ false = ap is_too_long (sym rest) ∙ sym c.is_too_long.ensures ∙ c.if-is_too_long.false in
    let over : c.args.ended ≡ true → drop p.start bytes ≡ [] = elim c.else-ended.branch [
      | else-ended-via-then-ended+else-place-bytes w ↦ λ h. drop_all p.start bytes w.if-place-bytes.false
      | else-ended-via-else-ended w ↦ λ h. absurd (both_ways c.args.ended w.if-ended.false h)
    ] in
    (goes_same c.args.ended bytes p q refl refl refl, none_open c.args.ended bytes q c.if-place.false c.requires.clean short over, refl)
