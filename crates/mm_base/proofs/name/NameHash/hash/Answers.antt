use Rattle.std.proofs.Common.{ℕ, List, sym, ap, ◌∙◌}
use Rattle.std.specs.Hash as fed
use Rattle.std.specs.Int.{w128, from_le_bytes}
use Rattle.mm_base.specs.NameFields.{fields_of, fields_of-text_of}
use Rattle.mm_base.specs.declared.name.Name.TheInside.{Inside}
use Rattle.mm_base.proofs.name.NameHash.hash.Goals as goal

pub returns : goal.returns
returns g c =
    let bytes = sym (ap (λ (n : Inside). n.bytes) (fields_of-text_of c.self.inside c.self.invariant))
    ∙ ap (λ (text : List ℕ). (fields_of text).bytes) c.self.view_is in
    c.write_u128.ensures
    ∙ ap (λ (x : ℕ). g.H.Hasher.write c.args.state.now (fed.le_bytes 16 x)) (c.from_le_bytes.ensures ∙ ap (from_le_bytes w128) bytes)
