use Rattle.std.proofs.Common.{◌∙◌, ap, min, length, length-take, arith, ◌≡◌, true}
use Rattle.mm_lines.specs.Lines.{most_bytes}
use Rattle.mm_lines.specs.Streams.{Stream}
use Rattle.mm_decomp.proofs.ReadLemmas.{fed, long_text, short_text}
use Rattle.mm_decomp.proofs.read.framed.Goals as goal

pub feed-requires-clause-size : goal.feed-requires-clause-size
feed-requires-clause-size c =
    let none : length c.new-framer.result.bytes ≡ 0 = ap (λ (s : Stream). length s.bytes) c.new-framer.ensures in
    let some : length c.used.result.now ≡ min most_bytes (length c.args.bytes.now) = ap length c.used.ensures ∙ length-take most_bytes c.args.bytes.now in
    omega (arith, none, some)

pub returns-then-bytes-gt-MOST_BYTES : goal.returns-then-bytes-gt-MOST_BYTES
returns-then-bytes-gt-MOST_BYTES c =
    long_text c.feed.new.self c.args.bytes.now
    (fed c.new-framer.result c.feed.new.self c.args.bytes.now c.used.result.now c.new-framer.ensures c.used.ensures c.in_ok-feed.ensures.ok)
    (omega (arith, c.if-bytes-gt-MOST_BYTES.true))

pub returns : goal.returns
returns c =
    short_text c.finish.new.self c.args.bytes.now
    (c.finish.ensures ∙ ap (λ (s : Stream). record s { ended = true })
    (fed c.new-framer.result c.feed.new.self c.args.bytes.now c.used.result.now c.new-framer.ensures c.used.ensures c.in_ok-feed.ensures.ok))
    (omega (arith, c.if-bytes-gt-MOST_BYTES.false))
