-- What the lines of a job's output mean: the answer to the query, and whether given rows agree with the tree.
use Rattle.std.specs.Prelude.{◌≡◌, ◌↔◌, ◌⊎◌, ◌≤◌, ℕ, ◌+◌, ℤ, Bool, true, false, List, [], ◌∷◌, ◌++◌, length, map, codes, Option, Some, None, Ok}
use Rattle.std.specs.List.{IsDistinct}
use Rattle.std.specs.Str.{bytes_eq}
use Rattle.mm_field.specs.declared.Field.{Field}
use Rattle.mm_field.specs.Vectors.{AreVectors, IsWithin}
use Rattle.mm_formula.specs.Scope.{IsScoped}
use Rattle.mm_formula.specs.Syntax.{Syntax}
use Rattle.mm_formula.specs.Variables.{is_var}
use Rattle.mm_formula_text.specs.Grammar.{IsTextOf}
use Rattle.mm_header.specs.Header.{Parts, parts}
use Rattle.mm_header.specs.Queries.{Question, first_of, minor_line, most_formula, query_for, query_line}
use Rattle.mm_header.specs.Queries.Question.{Spelled, Minor}
use Rattle.mm_header.specs.Rules.{job_rules}
use Rattle.mm_job.specs.Edits.{Reply, block, check_fields, check_names, light_fields, replace_fields, single}
use Rattle.mm_job.specs.Header.{Session, header}
use Rattle.mm_job.specs.Items.{Items, Single, Block, items}
use Rattle.mm_job.specs.Meaning.{answer_line, least_line}
use Rattle.mm_job.specs.Output.{after_reply, output_lines, reply_line}
use Rattle.mm_job.specs.Settings.{Settings}
use Rattle.mm_job.specs.declared.output_line.OutputLine.{OutputLine}
use Rattle.mm_job.specs.declared.output_line.OutputLine.TheVariants.{Says, Refuses}
use Rattle.mm_job_laws.specs.Agreement.{AreAmong, Agrees}
use Rattle.mm_job_laws.specs.HeaderLaws.{AreSound, AreValidOps, given_of, session_of}
use Rattle.mm_job_text.specs.Arguments.{args, begins}
use Rattle.mm_job_text.specs.Readers.{Read, whole}
use Rattle.mm_job_text.specs.TreeLines.{tree_lines}
use Rattle.mm_job_text.specs.declared.refusal.Refusal.{Refusal}
use Rattle.mm_job_text.specs.declared.refusal.Refusal.TheVariants as refusal
use Rattle.mm_lines.specs.LineBytes.{bytes_of}
use Rattle.mm_lines.specs.Lines.{lines}
use Rattle.mm_lines.specs.Tokens.{rest_of}
use Rattle.mm_lines.specs.declared.line.Line.{Line}
use Rattle.mm_logic.specs.Formula.{Formula}
use Rattle.mm_logic.specs.Least.{IsLeastSet, Satisfies}
use Rattle.mm_logic.specs.Marks.{unmarked}
use Rattle.mm_logic.specs.Meaning.{Holds}
use Rattle.mm_logic.specs.StateSize.{IsOver, Query}
use Rattle.mm_logic.specs.StateSize.Query.{Decide, Least}
use Rattle.mm_logic.specs.Tree.{IsValid, size}
use Rattle.mm_matrix.specs.Outside.{IsFirstOutside}
use Rattle.mm_present.specs.Comparing.{Named, compared, in_order, present_rows}
use Rattle.mm_present.specs.declared.comparison.Verdict.{Verdict}
use Rattle.mm_present.specs.declared.comparison.Verdict.TheVariants as verdict
use Rattle.mm_tree.specs.NamedTree.{Tree, shape, element_names, is_one_of, leaf_names, weights}
use Rattle.mm_tree.specs.Paths.{Path, with_node, with_weight}
use Rattle.mm_tree.specs.Places.{path_above}
use Rattle.mm_tree.specs.Replacing.{replace_fault}
use Rattle.mm_tree.specs.ValidTree.{IsValidTree}

-- ---- the query of a line

-- A line that seeks no set begins with `decide`; one that seeks the set X begins with `least X`, and X is a variable.
abbrev pub Seeks : Line → Option (List ℕ) → Type 0
Seeks r None = begins (codes "decide") r ≡ true
Seeks r (Some X) = (begins (codes "least") r ≡ true) × (first_of (args r) ≡ Some X) × (is_var X ≡ true)

-- the text of its formula: all that stands after these words
abbrev pub formula_text : Line → Option (List ℕ) → List ℕ
formula_text r None = rest_of 1 (bytes_of r)
formula_text r (Some X) = rest_of 2 (bytes_of r)

-- A line spells a query, by the set variable that it seeks, if any, and a formula: the grammar derives the formula from the text, which
-- has at most 4096 bytes, and it is scoped.
pub record Spells (r : Line) (query : Query) : Type 0 where
  pub sought : Option (List ℕ)
  pub formula : Syntax
  pub seeks : Seeks r sought
  pub short : length (formula_text r sought) ≤ most_formula
  pub derived : IsTextOf formula (formula_text r sought)
  pub scoped : IsScoped formula sought
  pub asks : query ≡ query_for sought formula

-- A line gives the query that it spells, and else none.
abbrev pub QueryLinesGiveWhatTheySpell : Type 0
QueryLinesGiveWhatTheySpell = (r : Line) (query : Query) → (whole (query_line Spelled) r ≡ Ok query) ↔ Spells r query

-- ---- answers

-- the formula holds on the matrix of the tree
abbrev pub HoldsOn : Field → Formula → Tree → Type 0
HoldsOn f F tree = Holds f F (shape tree) (unmarked (size (shape tree)))

-- `true` where the formula holds, and else `false`
abbrev pub IsTruth : Field → Formula → Tree → List ℕ → Type 0
IsTruth f F tree line = (HoldsOn f F tree × (line ≡ codes "true")) ⊎ ((HoldsOn f F tree → ⊥) × (line ≡ codes "false"))

-- `least` with the weight and the names, in leaf order, of the least set that satisfies the formula, and `none` where no set does
abbrev pub IsLeast : Field → Formula → Tree → List ℕ → Type 0
IsLeast f F tree line =
    ((A : List Bool) × IsLeastSet f F (shape tree) (weights tree) A × (line ≡ least_line tree (Some A)))
    ⊎ (((A : List Bool) → length A ≡ size (shape tree) → Satisfies f F (shape tree) A → ⊥) × (line ≡ codes "none"))

-- The line answers the query on the matrix of the tree.
abbrev pub IsAnswer : Field → Query → Tree → List ℕ → Type 0
IsAnswer f (Decide F) tree line = IsTruth f F tree line
IsAnswer f (Least F) tree line = IsLeast f F tree line

-- The line that is written for a query is its answer, for each query and each tree with a valid shape.
abbrev pub AnswerLinesAreAnswers : Type 0
AnswerLinesAreAnswers =
    (f : Field) (query : Query) (tree : Tree) → IsValid f (shape tree) → IsAnswer f query tree (answer_line f query tree)

-- ---- headers that are read

-- A query is that of a formula in which each variable has a binder, or is the one that is sought, within the limits.
pub record IsOfScoped (query : Query) : Type 0 where
  pub sought : Option (List ℕ)
  pub formula : Syntax
  pub scoped : IsScoped formula sought
  pub asks : query ≡ query_for sought formula

-- A line asks a query: it spells it, or it is the word `minor`, which stands for a query that is given.
abbrev pub Asks : Question → Line → Query → Type 0
Asks Spelled r query = Spells r query
Asks (Minor given) r query = (whole minor_line r ≡ Ok tt) × (query ≡ given)

-- A query that is given is that of a scoped formula.
abbrev pub IsAsked : Question → Type 0
IsAsked Spelled = Unit {0}
IsAsked (Minor given) = IsOfScoped given

-- A session is sound where its operators and its tree are valid over its field, and its query is that of a scoped formula.
pub record IsSound (s : Session) : Type 0 where
  pub ops : AreValidOps s.f s.ops
  pub tree : IsValidTree s.f s.tree
  pub query : IsOfScoped s.query

-- The lines of a header, up to the others, give a session: those before the query are not faulty and give its field, its operators
-- and its tree, the next one asks its query, and the given rows agree with the tree.
pub record Gives (settings : Settings) (rs rest : List Line) (s : Session) : Type 0 where
  pub p : Parts
  pub r : Line
  pub read : parts job_rules rs ≡ Read p (r ∷ rest)
  pub asked : Asks settings.question r s.query
  pub session : s ≡ session_of settings.limit p s.query
  pub sound : AreSound p
  pub agreeing : Agrees p.0.f (given_of p) p.1

-- Where a header is read, its lines give the session, which is sound.
abbrev pub HeadersGiveSessions : Type 0
HeadersGiveSessions =
    (settings : Settings) (rs rest : List Line) (s : Session) → IsAsked settings.question → header settings rs ≡ Read s rest
    → Gives settings rs rest s × IsSound s

-- some lines begin with the answer to the query of a session
pub record BeginsWithAnswer (s : Session) (output : List OutputLine) : Type 0 where
  pub answer : List ℕ
  pub later : List OutputLine
  pub first : output ≡ Says answer ∷ later
  pub is_answer : IsAnswer s.f s.query s.tree answer

-- Where the header of a text is read, the first line of its output answers the query.
abbrev pub OutputBeginsWithAnswer : Type 0
OutputBeginsWithAnswer =
    (settings : Settings) (text : List ℕ) (rest : List Line) (s : Session) → IsAsked settings.question → header settings (lines text) ≡ Read s rest
    → BeginsWithAnswer s (output_lines text settings)

-- ---- how given rows differ from a tree

-- the first of some names that is not among others: those before it are
pub record IsFirstMissing (names others : List (List ℕ)) (name : List ℕ) : Type 0 where
  pub before : List (List ℕ)
  pub after : List (List ℕ)
  pub place : names ≡ before ++ name ∷ after
  pub among : AreAmong before others
  pub missing : is_one_of name others ≡ false

-- row number i of the others, counted from 1, is the first of them that is outside the row space of some rows
abbrev pub IsFirstRowOutside : Field → ℕ → (rows others : List (List ℕ)) → ℕ → Type 0
IsFirstRowOutside f n rows others i = (k : ℕ) × (i ≡ k + 1) × IsFirstOutside f n rows others k

-- the given rows, columns matched by name with the tree's
abbrev pub matched_rows : Named → Tree → List (List ℕ)
matched_rows given tree = map (in_order given.names (element_names tree)) given.rows

-- the given names and the elements of the tree are the same
abbrev pub HaveSameElements : Named → Tree → Type 0
HaveSameElements given tree = AreAmong given.names (element_names tree) × AreAmong (element_names tree) given.names

-- What a verdict says: that both agree; else the first given name that is no element, or, where each is one, the first element that
-- is not given; else the least given row outside the row space of the tree's matrix; else the least row of that matrix outside the
-- given row space.
abbrev pub IsMeant : Field → Named → Tree → Verdict → Type 0
IsMeant f given tree verdict.Same = Agrees f given tree
IsMeant f given tree (verdict.Elements name) =
    IsFirstMissing given.names (element_names tree) name
    ⊎ (AreAmong given.names (element_names tree) × IsFirstMissing (element_names tree) given.names name)
IsMeant f given tree (verdict.Given i) =
    HaveSameElements given tree
    × IsFirstRowOutside f (length (element_names tree)) (present_rows f tree) (matched_rows given tree) i
IsMeant f given tree (verdict.Present j) =
    HaveSameElements given tree
    × IsWithin f (length (element_names tree)) (matched_rows given tree) (present_rows f tree)
    × IsFirstRowOutside f (length (element_names tree)) (matched_rows given tree) (present_rows f tree) j

-- Given rows with a digit for each of their names, the names all different, and a tree with a valid shape and different elements are
-- compared by exactly the verdict that is meant.
abbrev pub VerdictsAreMeant : Type 0
VerdictsAreMeant =
    (f : Field) (given : Named) (tree : Tree) → IsValid f (shape tree) → IsDistinct bytes_eq (element_names tree)
    → IsDistinct bytes_eq given.names → AreVectors f (length given.names) given.rows
    → (v : Verdict) → (compared f given tree ≡ v) ↔ IsMeant f given tree v

-- what a text's output is for a verdict on its rows that is no agreement: one line, which names the difference
abbrev pub IsRefusalFor : Verdict → List OutputLine → Type 0
IsRefusalFor verdict.Same output = Unit {0}
IsRefusalFor (verdict.Elements name) output = output ≡ Refuses (refusal.Elements name) ∷ []
IsRefusalFor (verdict.Given i) output = output ≡ Refuses (refusal.Given i) ∷ []
IsRefusalFor (verdict.Present j) output = output ≡ Refuses (refusal.Present j) ∷ []

-- Where no line of a job up to its query is faulty and its rows do not agree with its tree, its output names their first difference.
abbrev pub OutputNamesTheDifference : Type 0
OutputNamesTheDifference =
    (settings : Settings) (text : List ℕ) (rest : List Line) (r : Line) (p : Parts) (query : Query)
    → parts job_rules (lines text) ≡ Read p (r ∷ rest) → whole (query_line settings.question) r ≡ Ok query
    → (v : Verdict) → IsMeant p.0.f (given_of p) p.1 v → IsRefusalFor v (output_lines text settings)

-- ---- items

-- the sessions and items that are come to, item by item
pub data ComesTo : Session → Items → Session → Items → Type 0 where
  begun : {s : Session} {i : Items} → ComesTo s i s i
  after_line : {s t : Session} {i rest : Items} {r : Line} → ComesTo s i t (Single r rest) → ComesTo s i (after_reply t (single t r)) rest
  after_block : {s t : Session} {i rest : Items} {r : Line} {rs : List Line} → ComesTo s i t (Block r rs rest)
      → ComesTo s i (after_reply t (block t r rs)) rest

-- Sessions stay sound, whatever the items are.
abbrev pub ItemsKeepSessionsSound : Type 0
ItemsKeepSessionsSound = (s t : Session) (i j : Items) → IsSound s → ComesTo s i t j → IsSound t

-- What comes of an edit that gives this tree: `states` where the tree is over the limit, and then the session stays; else the answer for
-- the tree, and the session has it.
abbrev pub IsEdited : Session → Tree → Reply → Type 0
IsEdited s tree reply =
    (IsOver s.f s.query (shape tree) s.limit × (reply_line reply ≡ Refuses refusal.States) × (after_reply s reply ≡ s))
    ⊎ ((IsOver s.f s.query (shape tree) s.limit → ⊥)
    × ((line : List ℕ) × IsAnswer s.f s.query tree line × (reply_line reply ≡ Says line))
    × (after_reply s reply ≡ record s { tree = tree }))

-- A line `weight` of the right form gives an element of the tree another weight.
pub record IsWeight (s : Session) (r : Line) (name : List ℕ) (weight : ℤ) : Type 0 where
  pub opened : begins (codes "weight") r ≡ true
  pub fields : light_fields r ≡ Ok (name, weight)
  pub element : is_one_of name (element_names s.tree) ≡ true

-- Another weight of an element is answered.
abbrev pub WeightsAreAnswered : Type 0
WeightsAreAnswered =
    (s : Session) (r : Line) (name : List ℕ) (weight : ℤ) → IsSound s → IsWeight s r name weight
    → IsEdited s (with_weight name weight s.tree) (single s r)

-- The lines of a block `replace`, none of them faulty, give a new tree for the node at the end of a path, whose place it may take.
pub record IsReplacement (s : Session) (r : Line) (rs : List Line) (path : Path) (new : Tree) : Type 0 where
  pub name : List ℕ
  pub up : ℕ
  pub number : ℕ
  pub rest : List Line
  pub opened : begins (codes "replace") r ≡ true
  pub fields : replace_fields r ≡ Ok (name, up)
  pub leaf : is_one_of name (leaf_names s.tree) ≡ true
  pub node : path_above name up s.tree ≡ Some path
  pub read : tree_lines job_rules.leaves s.f s.ops [] rs ≡ Read (new, number) rest
  pub fits : replace_fault s.tree path new ≡ None

-- A new subtree is answered.
abbrev pub ReplacementsAreAnswered : Type 0
ReplacementsAreAnswered =
    (s : Session) (r : Line) (rs : List Line) (path : Path) (new : Tree) → IsSound s → IsReplacement s r rs path new
    → IsEdited s (with_node s.tree path new) (block s r rs)

-- An item that is refused leaves the session as it is.
abbrev pub RefusalsChangeNothing : Type 0
RefusalsChangeNothing = (s : Session) (reply : Reply) (why : Refusal) → reply_line reply ≡ Refuses why → after_reply s reply ≡ s

-- The lines of a block `check`, none of them faulty, give these names and rows.
pub record IsCheck (s : Session) (r : Line) (rs : List Line) (given : Named) : Type 0 where
  pub opened : begins (codes "check") r ≡ true
  pub alone : check_fields r ≡ Ok tt
  pub rest : List Line
  pub read : check_names s.f [] rs ≡ Read given rest

-- `same` where the given rows agree with the tree, and else `differs`
abbrev pub IsComparison : Session → Named → OutputLine → Type 0
IsComparison s given line =
    (Agrees s.f given s.tree × (line ≡ Says (codes "same"))) ⊎ ((Agrees s.f given s.tree → ⊥) × (line ≡ Says (codes "differs")))

-- A check answers whether the given rows agree with the present tree.
abbrev pub ChecksAreAnswered : Type 0
ChecksAreAnswered =
    (s : Session) (r : Line) (rs : List Line) (given : Named) → IsSound s → IsCheck s r rs given
    → IsComparison s given (reply_line (block s r rs))

-- some lines of an output, and then this line
abbrev pub HasLine : OutputLine → List OutputLine → Type 0
HasLine line output = (before after : List OutputLine) × (output ≡ before ++ line ∷ after)

-- Where the items of a text come to a check, its output has the line of that check.
abbrev pub OutputAnswersChecks : Type 0
OutputAnswersChecks =
    (settings : Settings) (text : List ℕ) (rest : List Line) (s t : Session) (r : Line) (rs : List Line) (given : Named) (more : Items)
    → IsAsked settings.question → header settings (lines text) ≡ Read s rest → ComesTo s (items rest) t (Block r rs more) → IsCheck t r rs given
    → (line : OutputLine) × IsComparison t given line × HasLine line (output_lines text settings)
