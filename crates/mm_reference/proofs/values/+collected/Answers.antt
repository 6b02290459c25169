use Rattle.std.proofs.Common.{◌≡◌, [], ◌∷◌, ◌++◌, sym, ap, ◌∙◌}
use Rattle.std.specs.Option.{option_to_list}
use Rattle.std.proofs.lemmas.List.{map-append}
use Rattle.mm_logic.specs.Order.{normal}
use Rattle.mm_logic.specs.Value.{value_cmp, collected}
use Rattle.mm_reference.specs.Values.{value_of, values_of}
use Rattle.mm_reference.proofs.InsertionLemmas.{last_put}
use Rattle.mm_reference.proofs.values.+collected.Goals as goal

pub returns-in_ok-insert-in-Some : goal.returns-in_ok-insert-in-Some
returns-in_ok-insert-in-Some t c =
    let front = values_of c.pop.new.self.items in
    let v = value_of c.in-Some.last in
    let whole : c.args.values.items ≡ c.pop.new.self.items ++ (c.in-Some.last ∷ []) =
    c.pop.ensures.items ∙ ap (λ o. c.pop.new.self.items ++ option_to_list o) c.in-Some.is in
    c.in_ok-insert-in-Some.ensures (normal value_cmp front) c.in_ok-others-in-Some.ensures
    ∙ last_put front v
    ∙ ap collected (sym (ap values_of whole ∙ map-append value_of c.pop.new.self.items (c.in-Some.last ∷ [])))
