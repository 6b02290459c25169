use Rattle.std.proofs.Common.{◌∙◌, ap, min, take, length, arith, ◌≡◌}
use Rattle.std.proofs.lemmas.List.{take_min}
use Rattle.mm_lines.specs.Lines.{most_bytes}
use Rattle.mm_decomp.proofs.read.used.Goals as goal

pub returns : goal.returns
returns c =
    let bytes = c.args.bytes.now in
    let least : c.min.result ≡ min most_bytes (length bytes) = omega (arith, c.min.ensures) in
    ap (λ n. take n bytes) least ∙ take_min most_bytes bytes
