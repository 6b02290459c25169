use Rattle.std.proofs.Common.{◌≡◌, ◌-◌, drop, take, length, min, List, ℕ, sym, ap, ◌∙◌}
use Rattle.std.proofs.lemmas.List.{take_rest}
use Rattle.mm_base.specs.DeviceStates.{SourceState}
use Rattle.mm_base.proofs.CopyLemmas.{given, nothing_left}
use Rattle.mm_base.proofs.source.MemorySourceSource.read.Goals as goal

pub returns-clause-bytes : goal.returns-clause-bytes
returns-clause-bytes c =
    let items = c.self.inside.bytes.items in
    let at = c.self.inside.at in
    let n = c.give-count.result in
    let buf = c.give-count.new.buf in
    let xs = c.deref-2.result.now in
    let left : c.args.self.now.left ≡ drop at items = ap (λ (t : SourceState). t.left) (sym c.self.view_is) in
    let rest : take (length xs - at) (drop at xs) ≡ drop at items = take_rest xs at ∙ ap (λ (z : List ℕ). drop at z) c.deref-2.ensures.value in
    let front : take n buf ≡ take n (drop at items) = c.give-count.ensures.bytes ∙ ap (λ (z : List ℕ). take n z) rest in
    let count : n ≡ min c.self.inside.piece (min (length buf) (length (drop at items))) =
    c.give-count.ensures.count ∙ ap (λ (z : List ℕ). min c.self.inside.piece (min (length buf) (length z))) rest in
    (given at n items c.args.self.now.left (take n buf) left front, λ z r. nothing_left at n c.self.inside.piece (length buf) items c.self.invariant.1 count z r)
