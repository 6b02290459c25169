use Rattle.mm_cli.proofs.reading.answer.Given as goal

abbrev pub ghost-read_pieces : goal.ghost-read_pieces
ghost-read_pieces g a = record { left = g.S.Source.left a.source.now; held = g.K.Sink.held a.sink.now }
