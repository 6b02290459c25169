use Rattle.std.proofs.Common.{ℕ, ◌+◌, ◌*◌, ◌/◌, ◌%◌, ◌^◌, ◌≡◌, ◌<◌, [], get_or, length, subst, sym, ap, ◌∙◌, arith}
use Rattle.mm_space.specs.KeyValue.{KeyValue, digit_at}
use Rattle.mm_space.proofs.PackLemmas.{cut_number, unpacked-get}
use Rattle.mm_space.proofs.key.Key.row_digits.Goals as goal

pub returns : goal.returns
returns c =
    let bits = c.self.inside.bits in
    let i = c.args.i in
    let t = digit_at bits 0 in
    let width : c.t.result ≡ t = c.t.ensures.length ∙ sym (ap (λ (k : KeyValue). k.t) c.self.view_is) in
    let narrow = c.self.invariant.reduced.narrow in
    let place : 9 + 3 * t * i ≡ 3 * (3 + t * i) = omega arith in
    let e = ap (λ (n : ℕ). 9 + 3 * n * i) width ∙ place in
    subst (λ (k : KeyValue). i < length k.rows → (j : ℕ) → j < k.t → bits / 2 ^ (9 + 3 * c.t.result * i) % 262144 / 2 ^ (3 * j) % 8 ≡ get_or (get_or k.rows i []) j 0) c.self.view_is
    (λ l j m.
    ap (λ (n : ℕ). bits / 2 ^ n % 262144 / 2 ^ (3 * j) % 8) e ∙ cut_number bits (3 + t * i) j (omega (arith, narrow, m)) ∙ sym (unpacked-get bits i j l m))
    c.requires.row
