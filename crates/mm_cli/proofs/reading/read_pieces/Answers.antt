use Rattle.std.proofs.Common.{length, sym, ap, subst, arith, refl}
use Rattle.mm_cli.specs.Going.{SoFar}
use Rattle.mm_cli.specs.Runs.{Ran}
use Rattle.mm_cli.specs.Spending.{SpendsOnRest}
use Rattle.mm_cli.proofs.RunLemmas.{at_first}
use Rattle.mm_cli.proofs.SpendingLemmas.{spent_in_all}
use Rattle.mm_cli.proofs.reading.read_pieces.Goals as goal

pub pieces-init : goal.pieces-init
pieces-init g c =
    let l = g.S.Source.left c.args.source.now in
    let h = g.K.Sink.held c.args.sink.now in
    let settings = c.args.job.now.settings in
    let asks = c.requires.1.1.1 in
    record {
      far = subst (λ b. SoFar settings g.start.left l b h c.args.job.now.text) (sym asks.1.1.1)
          (subst (λ a. SoFar settings a l h h c.args.job.now.text) (sym asks.1.1.0)
          (subst (λ t. SoFar settings l l h h t) (sym asks.1.0) (at_first settings l h)));
      count = ap length asks.1.0;
      settings = refl;
      live = asks.0;
      source_later = omega arith;
      sink_later = omega arith;
      steps = omega arith;
    }

pub returns-in-Stop-clause-stopped : goal.returns-in-Stop-clause-stopped
returns-in-Stop-clause-stopped g c =
    subst (λ n. Ran n g.start.left (g.S.Source.left c.read_piece.new.source) g.start.held (g.K.Sink.held c.read_piece.new.sink) c.in-Stop.status) c.pieces.invariant.settings
    c.in-Stop.ensures.came

pub returns-in-Stop-clause-steps : goal.returns-in-Stop-clause-steps
returns-in-Stop-clause-steps g c =
    let inv = c.pieces.invariant in
    spent_in_all c.args.job.now.settings g.start.left c.pieces.job.text c.args.steps.now c.pieces.steps c.read_piece.new.steps inv.steps
    (subst (λ n. SpendsOnRest n g.start.left c.pieces.job.text c.pieces.steps c.read_piece.new.steps) inv.settings c.in-Stop.ensures.steps)
