-- What is kept while the text of a decomposition is read.
use Rattle.std.proofs.Common.{◌≡◌, [], sym, subst}
use Rattle.std.specs.List.{IsDistinct}
use Rattle.std.specs.Str.{bytes_eq}
use Rattle.mm_tree.proofs.BuilderLemmas.{none_distinct}
use Rattle.mm_decomp.specs.BuildStates.{IsKept, IsKeptAt}
use Rattle.mm_decomp.specs.declared.build_state.BuildState.{BuildState}
use Rattle.mm_decomp.specs.declared.build_state.Stage.TheVariants as stage

pub no_names_kept : (s : BuildState) → s.stage ≡ stage.Names → s.names ≡ [] → IsKept s
no_names_kept s e n = subst (λ t. IsKeptAt t s) (sym e) (subst (λ names. IsDistinct bytes_eq names) (sym n) none_distinct)
