use Rattle.std.proofs.Common.{◌++◌, ◌∷◌, [], ap, ap₂, ◌∙◌}
use Rattle.std.specs.Fmt.{decimal}
use Rattle.std.proofs.lemmas.Result.{on_ok_weaker}
use Rattle.mm_decomp.proofs.HeaderTextLemmas.{first_lines}
use Rattle.mm_decomp.proofs.write.append_field.Goals as goal

pub returns : goal.returns
returns c =
    on_ok_weaker c.append-2.result
    (λ e. e ∙ ap (λ t. t ++ 10 ∷ []) (c.in_ok-append_number.ensures ∙ ap₂ (λ t n. t ++ 32 ∷ decimal n) c.in_ok-append.ensures.ok c.q.ensures)
    ∙ first_lines c.args.f c.args.text.now)
    c.append-2.ensures.ok
