use Rattle.std.proofs.Common.{◌∙◌, sym, subst}
use Rattle.mm_sample.specs.Summary.{AreLines}
use Rattle.mm_job.specs.Settings.{spelled}
use Rattle.mm_cli.specs.Words.{most_limit}
use Rattle.mm_cli.proofs.OutputLemmas.{output_is_lines}
use Rattle.mm_cli.proofs.sampling.shorten.Goals as goal

pub summary-requires : goal.summary-requires
summary-requires g c = subst AreLines (sym (c.bytes-2.ensures ∙ c.in_ok-status.ensures.output)) (output_is_lines c.bytes.result.now (spelled most_limit))
