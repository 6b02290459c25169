-- The words of a refusal, as they stand after `refused `.
use Rattle.std.specs.Prelude.{ℕ, List, ◌++◌, codes}
use Rattle.std.specs.Fmt.{decimal}
use Rattle.mm_job_text.specs.declared.refusal.Limit.{Limit}
use Rattle.mm_job_text.specs.declared.refusal.Limit.TheVariants as limit
use Rattle.mm_job_text.specs.declared.refusal.Refusal.{Refusal}
use Rattle.mm_job_text.specs.declared.refusal.Refusal.TheVariants as refusal

-- The word of what has a limit.
abbrev pub limit_word : Limit → List ℕ
limit_word limit.Elements = codes "elements"
limit_word limit.Rows = codes "rows"
limit_word limit.Operators = codes "operators"
limit_word limit.Bounds = codes "bounds"
limit_word limit.Boundary = codes "boundary"
limit_word limit.Leaves = codes "leaves"
limit_word limit.Depth = codes "depth"
limit_word limit.Weight = codes "weight"
limit_word limit.Formula = codes "formula"
limit_word limit.Nodes = codes "nodes"
limit_word limit.Scope = codes "scope"

-- The words of a refusal: numbers in decimal form, and names as they are.
unfoldable pub words : Refusal → List ℕ
words refusal.TooLong = codes "too-long"
words (refusal.LineTooLong n) = codes "line-too-long " ++ decimal n
words (refusal.Syntax n) = codes "syntax " ++ decimal n
words (refusal.Field n) = codes "field " ++ decimal n
words (refusal.Over what n) = codes "limit " ++ limit_word what ++ codes " " ++ decimal n
words (refusal.Dependent n k) = codes "operator " ++ decimal n ++ codes " dependent " ++ decimal k
words (refusal.Shape n) = codes "operator " ++ decimal n ++ codes " shape"
words (refusal.Taken name) = codes "name " ++ name ++ codes " taken"
words (refusal.Unknown name) = codes "unknown " ++ name
words (refusal.Trees n) = codes "tree " ++ decimal n
words (refusal.Boundary want have) = codes "boundary " ++ decimal want ++ codes " " ++ decimal have
words (refusal.Elements name) = codes "elements " ++ name
words (refusal.Given i) = codes "rowspace given " ++ decimal i
words (refusal.Present j) = codes "rowspace tree " ++ decimal j
words refusal.Formula = codes "formula"
words (refusal.Unbound v) = codes "unbound " ++ v
words refusal.States = codes "states"
words (refusal.NoNode name k) = codes "no-node " ++ name ++ codes " " ++ decimal k
words refusal.Unfinished = codes "unfinished"
words refusal.NotBuilt = codes "not-built"
