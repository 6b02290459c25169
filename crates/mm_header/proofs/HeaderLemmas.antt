-- The readers of a header are steady, and want more where no line is left.
use Rattle.std.specs.Prelude.{◌≡◌, refl, List, [], length, codes, Ok}
use Rattle.mm_tree.specs.NamedTree.{Tree}
use Rattle.mm_job_text.specs.Arguments.{begins}
use Rattle.mm_job_text.specs.HeaderLines.{format_line, field_line, elements_line, row_line, tree_line}
use Rattle.mm_job_text.specs.OperatorLines.{op_line}
use Rattle.mm_job_text.specs.Readers.{Short}
use Rattle.mm_job_text.specs.TreeLines.{tree_lines}
use Rattle.mm_job_text.specs.declared.format.Format.{Format}
use Rattle.mm_job_text.proofs.ReaderLemmas.{IsSteady, now_steady, line_steady, each_steady, bind_steady, tree_lines_steady}
use Rattle.mm_header.specs.Header.{HeaderValue, parts, field_part, elements_part, rows_part, ops_part, tree_part_of}
use Rattle.mm_header.specs.State.HeaderStates.{parts_from}
use Rattle.mm_header.specs.declared.rules.HeaderRules.{HeaderRules}
use Rattle.mm_header.specs.declared.state.HeaderState.{HeaderState}
use Rattle.mm_header.specs.declared.state.HeaderState.TheVariants as state

pub tree_part_of_steady : (rules : HeaderRules) (g : HeaderValue) (trees : List Tree) → IsSteady (tree_part_of rules g trees)
unfolding tree_part_of
tree_part_of_steady rules g trees = bind_steady _ _ (tree_lines_steady rules.leaves g.f g.ops trees) (λ tree. now_steady (Ok (g, tree.0)))

pub ops_part_steady : (rules : HeaderRules) (g : HeaderValue) → IsSteady (ops_part rules g)
unfolding ops_part
ops_part_steady rules g =
    bind_steady _ _ (each_steady (begins (codes "op")) (op_line g.version g.f) g.ops) (λ ops.
    bind_steady _ _ (line_steady tree_line) (λ u. tree_part_of_steady rules (record g { ops = ops }) []))

pub rows_part_steady : (rules : HeaderRules) (g : HeaderValue) → IsSteady (rows_part rules g)
unfolding rows_part
rows_part_steady rules g =
    bind_steady _ _ (each_steady (begins (codes "row")) (row_line g.f (length g.names)) g.rows) (λ rows. ops_part_steady rules (record g { rows = rows }))

pub elements_part_steady : (rules : HeaderRules) (g : HeaderValue) → IsSteady (elements_part rules g)
unfolding elements_part
elements_part_steady rules g =
    bind_steady _ _ (each_steady (begins (codes "elements")) (elements_line rules.names) g.names) (λ names. rows_part_steady rules (record g { names = names }))

pub field_part_steady : (rules : HeaderRules) (version : Format) → IsSteady (field_part rules version)
unfolding field_part
field_part_steady rules version =
    bind_steady _ _ (line_steady field_line) (λ f. elements_part_steady rules (record { version = version; f = f; names = []; rows = []; ops = [] }))

pub parts_steady : (rules : HeaderRules) → IsSteady (parts rules)
unfolding parts
parts_steady rules = bind_steady _ _ (line_steady format_line) (field_part_steady rules)

pub state_short : (rules : HeaderRules) (h : HeaderState) → parts_from rules h [] ≡ Short
unfolding parts field_part elements_part rows_part ops_part tree_part_of tree_lines
state_short rules state.Format = refl
state_short rules (state.Field version) = refl
state_short rules (state.Elements e) = refl
state_short rules (state.Rows h) = refl
state_short rules (state.Operators h) = refl
state_short rules (state.Tree h trees) = refl
