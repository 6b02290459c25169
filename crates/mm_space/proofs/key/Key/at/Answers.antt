use Rattle.std.proofs.Common.{◌+◌, ◌*◌, ◌≡◌, ◌<◌, [], get_or, length, subst, sym, ap, ◌∙◌}
use Rattle.mm_space.specs.KeyValue.{KeyValue, digit_at}
use Rattle.mm_space.proofs.PackLemmas.{unpacked-get}
use Rattle.mm_space.proofs.key.Key.at.Goals as goal

pub returns : goal.returns
returns c =
    let bits = c.self.inside.bits in
    let i = c.args.i in
    let j = c.args.j in
    let width = c.t.ensures.length ∙ sym (ap (λ (k : KeyValue). k.t) c.self.view_is) in
    subst (λ (k : KeyValue). i < length k.rows → j < k.t → c.number_at.result ≡ get_or (get_or k.rows i []) j 0) c.self.view_is
    (λ l m. c.number_at.ensures.number ∙ ap (λ t. digit_at bits (3 + t * i + j)) width ∙ sym (unpacked-get bits i j l m))
    c.requires.row c.requires.place
