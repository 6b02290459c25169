use Rattle.std.proofs.Common.{◌≡◌, ℕ, ◌+◌, ◌-◌, List, length, get_or, take, drop, ap, ◌∙◌, sym, subst, arith}
use Rattle.std.proofs.lemmas.List.{take_rest, get_or-drop, length-drop}
use Rattle.mm_lines.specs.Lines.{is_newline}
use Rattle.mm_lines.specs.Places.{NoNewline}
use Rattle.mm_lines.proofs.SearchLemmas.{searched}
use Rattle.mm_lines.proofs.place.newline_from.Goals as goal

pub returns-in-Some : goal.returns-in-Some
returns-in-Some c =
    let bytes = c.args.bytes.now in
    let from = c.args.from in
    let rest = take (length bytes - from) (drop from bytes) in
    let found = c.in-Some.ensures in
    let same : rest ≡ drop from bytes = take_rest bytes from in
    let size : length rest ≡ length bytes - from = ap length same ∙ length-drop from bytes in
    let here : get_or rest c.in-Some.at 0 ≡ get_or bytes (from + c.in-Some.at) 0 = ap (λ (l : List ℕ). get_or l c.in-Some.at 0) same ∙ get_or-drop from bytes c.in-Some.at 0 in
    (omega arith, omega (arith, found.0.high, size), searched bytes rest from c.in-Some.at same found.0.before, sym (ap is_newline here) ∙ found.1)

pub returns-in-None : goal.returns-in-None
returns-in-None c =
    let bytes = c.args.bytes.now in
    let from = c.args.from in
    let rest = take (length bytes - from) (drop from bytes) in
    let same : rest ≡ drop from bytes = take_rest bytes from in
    let size : from + length rest ≡ length bytes = omega (arith, c.requires, ap length same, length-drop from bytes) in
    subst (NoNewline bytes from) size (searched bytes rest from (length rest) same c.in-None.ensures)
