use Rattle.std.proofs.Common.{◌≡◌, ◌+◌, ◌*◌, ◌%◌, ◌^◌, ◌<◌, drop, length, take, subst, ap, sym, ◌∙◌, arith, length-drop}
use Rattle.std.specs.Prelude.{bit_or}
use Rattle.std.proofs.lemmas.List.{length-take-le, take-append-drop}
use Rattle.std.proofs.lemmas.Nat.{or_shifted}
use Rattle.mm_space.specs.MarkedRows.{IsSupport}
use Rattle.mm_space.proofs.MarkLemmas.{support-append}
use Rattle.mm_space.proofs.join_rows.support.Goals as goal

pub returns : goal.returns
returns c =
    let v = c.args.v.now in
    let long = c.told-v in
    let front = c.front_support.ensures in
    let back = c.back_support.ensures in
    let a = c.front_support.result in
    let b = c.back_support.result in
    let la : length (take 16 v) ≡ 16 = length-take-le 16 v (omega arith) in
    let lb : length (drop 16 v) ≡ 8 = omega (arith, length-drop 16 v) in
    let sa : a < 2 ^ 16 = subst (λ n. a < 2 ^ n) la front.small in
    let sb : b < 2 ^ 8 = subst (λ n. b < 2 ^ n) lb back.small in
    let whole : b * 65536 % 18446744073709551616 ≡ b * 2 ^ 16 = omega arith in
    subst (λ m. IsSupport v m) (sym (ap (λ x. bit_or x a) whole ∙ or_shifted b 16 a sa))
    (subst (λ x. IsSupport x (b * 2 ^ 16 + a)) (take-append-drop 16 v) (support-append (take 16 v) (drop 16 v) 16 a b la front back))
