use Rattle.std.proofs.Common.{subst}
use Rattle.mm_job.specs.Settings.{with_formula}
use Rattle.mm_cli.specs.Runs.{Ran}
use Rattle.mm_cli.specs.Spending.{SpendsOnJob}
use Rattle.mm_cli.specs.Words.{most_limit}
use Rattle.mm_cli.proofs.MinorLemmas.{ran_unread}
use Rattle.mm_cli.proofs.minors.minor.Goals as goal

pub returns-in-Err-clause-run : goal.returns-in-Err-clause-run
returns-in-Err-clause-run g c = ran_unread _ (g.S.Source.left c.args.source.now) (g.K.Sink.held c.args.sink.now)
