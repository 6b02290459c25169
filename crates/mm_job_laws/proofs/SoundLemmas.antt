-- What the lines before the query give is sound: different names, rows over them, and a valid tree.
use Rattle.std.proofs.Common.{ℕ, ◌≡◌, not, ◌==◌, List, [], ◌∷◌, length, refl, sym, subst}
use Rattle.std.specs.Prelude.{codes, nat_lt, IfOk}
use Rattle.std.specs.List.{IsDistinct, list_all}
use Rattle.std.specs.Str.{bytes_eq}
use Rattle.std.proofs.lemmas.Bool.{eqb-true, not-true}
use Rattle.std.proofs.lemmas.List.Elements.{All-nil, All-cons, All-append}
use Rattle.mm_base.specs.Names.{is_name}
use Rattle.mm_field.specs.declared.Field.{Field}
use Rattle.mm_field.specs.Vectors.{IsVector, AreVectors}
use Rattle.mm_header.specs.Header.{HeaderValue, parts, field_part, elements_part, rows_part, ops_part, tree_part_of}
use Rattle.mm_header.specs.declared.rules.HeaderRules.{HeaderRules}
use Rattle.mm_lines.specs.declared.line.Line.{Line}
use Rattle.mm_tree.proofs.BuilderLemmas.{distinct_push, none_distinct}
use Rattle.mm_tree.specs.NamedTree.{Tree, is_one_of}
use Rattle.mm_tree.specs.ValidTree.{IsValidTree}
use Rattle.mm_job_text.specs.Arguments.{args, begins, one_of}
use Rattle.mm_space.specs.DigitTexts.{digits_of}
use Rattle.mm_job_text.specs.HeaderLines.{most_rows, format_line, field_line, with_name, with_names, elements_line, row_line, tree_line}
use Rattle.mm_job_text.specs.OperatorLines.{op_line}
use Rattle.mm_job_text.specs.Readers.{line, each}
use Rattle.mm_job_text.specs.TreeLines.{tree_lines}
use Rattle.mm_job_text.specs.declared.format.Format.{Format}
use Rattle.mm_job_text.specs.declared.refusal.Limit.TheVariants as limit
use Rattle.mm_job_text.specs.declared.refusal.Refusal.TheVariants as refusal
use Rattle.mm_job_laws.specs.HeaderLaws.{AreSound, AreValidOps, LinesAreSound}
use Rattle.mm_job_laws.proofs.OperatorLemmas.{digits_are, ops_stay_valid}
use Rattle.mm_job_text.proofs.ReadingLemmas.{IfRead, if_require, if_found, if_ok, each_has, line_has, then_has, read_has, anything}
use Rattle.mm_job_laws.proofs.TreeLemmas.{tree_is_valid}

-- ---- names

abbrev pub AreDifferent : List (List ℕ) → Type 0
AreDifferent names = IsDistinct bytes_eq names

one_more_name : (most n : ℕ) (names : List (List ℕ)) (name : List ℕ) → AreDifferent names → IfOk (with_name most n names name) AreDifferent
one_more_name most n names name d =
    if_require AreDifferent (not (is_one_of name names)) (refusal.Taken name) _ (λ free.
    if_require AreDifferent (nat_lt (length names) most) (refusal.Over limit.Elements n) _ (λ room.
    distinct_push names name d (not-true (is_one_of name names) free)))

more_names : (most n : ℕ) (names ts : List (List ℕ)) → AreDifferent names → IfOk (with_names most n names ts) AreDifferent
more_names most n names [] d = d
more_names most n names (t ∷ ts) d =
    if_ok AreDifferent AreDifferent (with_name most n names t) _ (one_more_name most n names t d) (λ more e. more_names most n more ts e)

pub names_stay_different : (most : ℕ) (names : List (List ℕ)) (r : Line) → AreDifferent names → IfOk (elements_line most names r) AreDifferent
unfolding elements_line
names_stay_different most names r d =
    if_require AreDifferent (list_all is_name (args r)) (refusal.Syntax r.number) _ (λ formed. more_names most r.number names (args r) d)

-- ---- rows

pub rows_stay_vectors : (f : Field) (n : ℕ) (rows : List (List ℕ)) (r : Line) → AreVectors f n rows → IfOk (row_line f n rows r) (AreVectors f n)
unfolding row_line
rows_stay_vectors f n rows r h =
    if_found (AreVectors f n) (one_of (args r)) (refusal.Syntax r.number) _ (λ t one.
    if_found (AreVectors f n) (digits_of f t) (refusal.Syntax r.number) _ (λ row digits.
    if_require (AreVectors f n) (length row == n) (refusal.Syntax r.number) _ (λ long.
    if_require (AreVectors f n) (nat_lt (length rows) most_rows) (refusal.Over limit.Rows r.number) _ (λ room.
    All-append (λ v. IsVector f n v) rows (row ∷ []) h
    (All-cons (λ v. IsVector f n v) row [] (record { len = eqb-true _ _ long; digits = digits_are f t row digits }) (All-nil (λ v. IsVector f n v)))))))

-- ---- the parts of a header

sound_tree : (rules : HeaderRules) (g : HeaderValue) → AreDifferent g.names → AreVectors g.f (length g.names) g.rows → AreValidOps g.f g.ops → (rs : List Line) →
    IfRead (λ p. AreSound p) (tree_part_of rules g [] rs)
unfolding tree_part_of
sound_tree rules g d v ops rs =
    then_has (λ (read : Tree × ℕ). IsValidTree g.f read.0) (λ p. AreSound p) (tree_lines rules.leaves g.f g.ops [] rs) _ (tree_is_valid rules.leaves g.f g.ops rs ops)
    (λ tree rest valid. record { different = d; vectors = v; ops = ops; tree = valid })

sound_ops : (rules : HeaderRules) (g : HeaderValue) → AreDifferent g.names → AreVectors g.f (length g.names) g.rows → AreValidOps g.f g.ops → (rs : List Line) →
    IfRead (λ p. AreSound p) (ops_part rules g rs)
unfolding ops_part
sound_ops rules g d v ops rs =
    then_has (AreValidOps g.f) (λ p. AreSound p) (each (begins (codes "op")) (op_line g.version g.f) g.ops rs) _
    (each_has (AreValidOps g.f) (begins (codes "op")) (op_line g.version g.f) (λ more r h. ops_stay_valid g.version g.f more r h) g.ops rs ops)
    (λ more rest valid.
    then_has (λ u. Unit {0}) (λ p. AreSound p) (line tree_line rest) _ (line_has (λ u. Unit {0}) tree_line (λ r. anything (tree_line r)) rest)
    (λ u after t. sound_tree rules (record g { ops = more }) d v valid after))

sound_rows : (rules : HeaderRules) (g : HeaderValue) → AreDifferent g.names → AreVectors g.f (length g.names) g.rows → AreValidOps g.f g.ops → (rs : List Line) →
    IfRead (λ p. AreSound p) (rows_part rules g rs)
unfolding rows_part
sound_rows rules g d v ops rs =
    then_has (AreVectors g.f (length g.names)) (λ p. AreSound p) (each (begins (codes "row")) (row_line g.f (length g.names)) g.rows rs) _
    (each_has (AreVectors g.f (length g.names)) (begins (codes "row")) (row_line g.f (length g.names))
    (λ more r h. rows_stay_vectors g.f (length g.names) more r h) g.rows rs v)
    (λ more rest vectors. sound_ops rules (record g { rows = more }) d vectors ops rest)

sound_elements : (rules : HeaderRules) (g : HeaderValue) → AreDifferent g.names → g.rows ≡ [] → AreValidOps g.f g.ops → (rs : List Line) →
    IfRead (λ p. AreSound p) (elements_part rules g rs)
unfolding elements_part
sound_elements rules g d none ops rs =
    then_has AreDifferent (λ p. AreSound p) (each (begins (codes "elements")) (elements_line rules.names) g.names rs) _
    (each_has AreDifferent (begins (codes "elements")) (elements_line rules.names) (λ more r h. names_stay_different rules.names more r h) g.names rs d)
    (λ more rest different.
    sound_rows rules (record g { names = more }) different
    (subst (λ rows. AreVectors g.f (length more) rows) (sym none) (All-nil (λ v. IsVector g.f (length more) v))) ops rest)

sound_field : (rules : HeaderRules) (version : Format) (rs : List Line) → IfRead (λ p. AreSound p) (field_part rules version rs)
unfolding field_part
sound_field rules version rs =
    then_has (λ (f : Field). Unit {0}) (λ p. AreSound p) (line field_line rs) _ (line_has (λ (f : Field). Unit {0}) field_line (λ r. anything (field_line r)) rs)
    (λ f rest t. sound_elements rules (record { version = version; f = f; names = []; rows = []; ops = [] }) none_distinct refl tt rest)

sound_parts : (rules : HeaderRules) (rs : List Line) → IfRead (λ p. AreSound p) (parts rules rs)
unfolding parts
sound_parts rules rs =
    then_has (λ (v : Format). Unit {0}) (λ p. AreSound p) (line format_line rs) _ (line_has (λ (v : Format). Unit {0}) format_line (λ r. anything (format_line r)) rs)
    (λ version rest t. sound_field rules version rest)

pub lines_are_sound : LinesAreSound
lines_are_sound rules rs rest p e = read_has (λ p. AreSound p) (parts rules rs) p rest (sound_parts rules rs) e
