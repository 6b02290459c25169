use Rattle.std.proofs.Common.{List, ℕ, ◌∷◌, ◌++◌, length, ap, sym, ◌∙◌, arith}
use Rattle.std.proofs.lemmas.Grind.{common_steps}
use Rattle.std.proofs.lemmas.Result.{on_ok_weaker}
use Rattle.std.specs.Fmt.{decimal}
use Rattle.std.specs.Prelude.{codes}
use Rattle.mm_lines.proofs.TokenLemmas.{tokens_are_few}
use Rattle.mm_sample.proofs.ShortLemmas.{short_of_least}
use Rattle.mm_sample.proofs.short.append_short.Goals as goal

pub count-requires : goal.count-requires
count-requires c =
    let few = tokens_are_few c.args.line.now in
    let all = ap length (sym c.new-words.ensures ∙ c.in-Some-Some.ensures) in
    let more = ap length c.in-Some-Some.ensures' in
    omega (arith, few, all, more)

pub returns : goal.returns
returns c =
    let words =
    sym c.new-words.ensures ∙ c.in-Some-Some.ensures ∙ ap (λ (ts : List (List ℕ)). c.in-Some-Some.word.now ∷ ts) c.in-Some-Some.ensures' in
    let weight =
    c.in_ok-append-2.ensures.ok ∙ ap (λ (t : List ℕ). t ++ c.in-Some-Some.weight.now) c.in_ok-append.ensures.ok in
    let blank = c.in_ok-append-3.ensures.ok ∙ ap (λ (t : List ℕ). t ++ codes " ") weight in
    on_ok_weaker c.append_number.result
    (λ e. e
    ∙ ap (λ (n : ℕ). c.append-4.new.self ++ decimal n) c.count.ensures
    ∙ ap (λ (t : List ℕ). t ++ decimal (length c.next-2.new.self)) blank
    ∙ short_of_least c.args.text.now c.args.line.now c.in-Some-Some.word.now c.in-Some-Some.weight.now c.next-2.new.self words (grind (arith, common_steps)))
    c.append_number.ensures
