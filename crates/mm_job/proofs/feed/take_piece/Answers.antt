use Rattle.mm_job.proofs.FeedLemmas.{on_err}
use Rattle.mm_job.proofs.StandingLemmas.{piece_front, piece_grew, piece_lost, piece_read, piece_spent, piece_stands, piece_unspent, piece_within}
use Rattle.mm_job.proofs.feed.take_piece.Goals as goal

pub returns-in_err-feed-clause-front : goal.returns-in_err-feed-clause-front
returns-in_err-feed-clause-front g c =
    on_err c.from_residual.result
    (piece_lost c.args.settings.now c.args.framer.now c.args.piece.now c.args.state.now (g.K.Sink.held c.args.out.now) c.requires.stands c.requires.stream c.requires.size)

pub feed_lines-requires-clause-within : goal.feed_lines-requires-clause-within
feed_lines-requires-clause-within g c = piece_within c.args.framer.now c.feed.new.self c.args.piece.now c.requires.stream c.in_ok-feed.ensures.ok

pub returns-clause-stands : goal.returns-clause-stands
returns-clause-stands g c =
    let held = g.K.Sink.held in
    piece_stands c.args.settings.now c.args.framer.now c.feed.new.self c.feed_lines.new.framer c.args.piece.now c.args.state.now c.feed_lines.new.state c.feed_lines.result (held c.args.out.now) (held c.feed_lines.new.out)
    c.args.steps.now c.feed_lines.new.steps c.requires.stands c.requires.stream c.requires.size c.in_ok-feed.ensures.ok c.feed_lines.ensures.fed c.feed_lines.ensures.spends
    c.feed_lines.ensures.all c.feed_lines.ensures.kept

pub returns-clause-stream : goal.returns-clause-stream
returns-clause-stream g c =
    piece_read c.args.framer.now c.feed.new.self c.feed_lines.new.framer c.args.piece.now c.feed_lines.result c.requires.stream c.in_ok-feed.ensures.ok
    c.feed_lines.ensures.ended c.feed_lines.ensures.within c.feed_lines.ensures.all

pub returns-clause-wrote : goal.returns-clause-wrote
returns-clause-wrote g c =
    let held = g.K.Sink.held in
    piece_grew c.args.settings.now c.args.framer.now c.feed.new.self c.feed_lines.new.framer c.args.piece.now c.args.state.now c.feed_lines.new.state c.feed_lines.result (held c.args.out.now) (held c.feed_lines.new.out)
    c.requires.stands c.requires.stream c.requires.size c.in_ok-feed.ensures.ok c.feed_lines.ensures.fed c.feed_lines.ensures.all

pub returns-clause-front : goal.returns-clause-front
returns-clause-front g c =
    let held = g.K.Sink.held in
    piece_front c.args.settings.now c.args.framer.now c.feed.new.self c.args.piece.now c.args.state.now c.feed_lines.result (held c.args.out.now) (held c.feed_lines.new.out)
    c.requires.stands c.requires.stream c.requires.size c.in_ok-feed.ensures.ok c.feed_lines.ensures.front

pub returns-in_err-feed-clause-steps : goal.returns-in_err-feed-clause-steps
returns-in_err-feed-clause-steps g c = piece_unspent c.args.settings.now c.args.framer.now.bytes c.args.piece.now c.args.steps.now

pub returns-clause-steps : goal.returns-clause-steps
returns-clause-steps g c =
    piece_spent c.args.settings.now c.args.framer.now c.feed.new.self c.feed_lines.new.framer c.args.piece.now c.args.state.now c.feed_lines.new.state c.feed_lines.result c.args.steps.now
    c.feed_lines.new.steps c.requires.stands c.requires.stream c.requires.size c.in_ok-feed.ensures.ok c.feed_lines.ensures.all c.feed_lines.ensures.spends c.feed_lines.ensures.most
