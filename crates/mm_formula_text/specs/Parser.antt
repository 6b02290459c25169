-- The pushdown automaton that reads a formula, one token at a time.
use Rattle.std.specs.Prelude.{ℕ, nat_lt, true, false, not, ◌&&◌, List, [], ◌∷◌, Option, Some, None, if◌then◌else◌}
use Rattle.std.specs.Option.{option_and_then}
use Rattle.mm_formula.specs.Variables.{is_set}
use Rattle.mm_formula.specs.Syntax as formula
use Rattle.mm_formula.specs.declared.formula.Term.{Term}
use Rattle.mm_formula.specs.declared.formula.Connective as joint
use Rattle.mm_formula.specs.declared.formula.Connective.TheVariants as connective
use Rattle.mm_formula_text.specs.declared.token.Quantifier as quantifiers
use Rattle.mm_formula_text.specs.declared.token.Quantifier.TheVariants as quantifier
use Rattle.mm_formula_text.specs.declared.token.Relation as relations
use Rattle.mm_formula_text.specs.declared.token.Relation.TheVariants as relation
use Rattle.mm_formula_text.specs.declared.token.Token.{Token}
use Rattle.mm_formula_text.specs.declared.token.Token.TheVariants.{Connective, Not, Quantifier, Const, Ind, Relation, Open, Close, Bar, Star, Zero, Variable}
use Rattle.mm_formula_text.specs.Grammar.{nothing, mention, mention_all}

-- what has begun and awaits a formula
pub data Frame : Type 0 where
  Negation : Frame
  Binder : quantifiers.Quantifier → List ℕ → Frame
  Parenthesis : Frame
  Left : joint.Connective → formula.Syntax → Frame

-- what the next token continues
pub data Mode : Type 0 where
  -- a formula begins
  Operand : Mode
  -- after a quantifier
  Bound : quantifiers.Quantifier → Mode
  -- after a variable of an atom, and after its relation
  First : List ℕ → Mode
  Second : List ℕ → relations.Relation → Mode
  -- after `ind`, and after its parenthesis
  Independent : Mode
  TermBegins : Mode
  -- after `0`, after a part of a term, and after a bar
  Nothing : Mode
  Parts : Term → Mode
  NextPart : Term → Mode
  -- after a formula
  Complete : formula.Syntax → Mode

pub record State : Type 0 where
  pub frames : List Frame
  pub mode : Mode

abbrev pub at : List Frame → Mode → State
at frames mode = record { frames = frames; mode = mode }

-- ---- precedence

-- how tightly a connective binds
abbrev pub level : joint.Connective → ℕ
level connective.Iff = 0
level connective.Implies = 1
level connective.Or = 2
level connective.And = 3

-- how tightly a formula must bind that a frame awaits
abbrev pub awaits : Frame → ℕ
awaits Parenthesis = 0
awaits (Left connective.Iff A) = 1
awaits (Left connective.Implies A) = 1
awaits (Left connective.Or A) = 3
awaits (Left connective.And A) = 4
awaits Negation = 4
awaits (Binder q v) = 4

-- how tightly the formula must bind that the innermost frame awaits; the whole text awaits any
abbrev pub hole : List Frame → ℕ
hole [] = 0
hole (f ∷ frames) = awaits f

-- the formula that a frame makes of what it awaited
abbrev pub around : Frame → formula.Syntax → formula.Syntax
around Parenthesis F = F
around Negation F = formula.Syntax.Not F
around (Binder quantifier.Ex v) F = formula.Syntax.Ex v F
around (Binder quantifier.All v) F = formula.Syntax.All v F
around (Left c A) F = formula.Syntax.Bin c A F

-- Before what binds as tightly as `least`, a formula is complete for each frame that awaits a tighter one.
abbrev pub close : ℕ → List Frame → formula.Syntax → List Frame × formula.Syntax
close least [] F = ([], F)
close least (f ∷ frames) F = if nat_lt least (awaits f) then close least frames (around f F) else (f ∷ frames, F)

-- ---- steps

abbrev pub atom : List ℕ → relations.Relation → List ℕ → Option formula.Syntax
atom v relation.In w = if not (is_set v) && is_set w then Some (formula.Syntax.Member v w) else None
atom v relation.Sub w = if is_set v && is_set w then Some (formula.Syntax.Sub v w) else None
atom v relation.Equals w =
    if is_set v then (if is_set w then Some (formula.Syntax.SameSet v w) else None)
    else (if is_set w then None else Some (formula.Syntax.SameElem v w))

abbrev pub goes : List Frame → Mode → Option State
goes frames mode = Some (at frames mode)

abbrev pub operand : List Frame → Token → Option State
operand frames Not = goes (Negation ∷ frames) Operand
operand frames (Quantifier q) = goes frames (Bound q)
operand frames Open = goes (Parenthesis ∷ frames) Operand
operand frames (Const b) = goes frames (Complete (formula.Syntax.Const b))
operand frames (Variable v) = goes frames (First v)
operand frames Ind = goes frames Independent
operand frames _ = None

abbrev pub bound : List Frame → quantifiers.Quantifier → Token → Option State
bound frames q (Variable v) = goes (Binder q v ∷ frames) Operand
bound frames q _ = None

abbrev pub first : List Frame → List ℕ → Token → Option State
first frames v (Relation r) = goes frames (Second v r)
first frames v _ = None

abbrev pub second : List Frame → List ℕ → relations.Relation → Token → Option State
second frames v r (Variable w) = option_and_then (λ F. goes frames (Complete F)) (atom v r w)
second frames v r _ = None

abbrev pub independent : List Frame → Token → Option State
independent frames Open = goes frames TermBegins
independent frames _ = None

abbrev pub term_begins : List Frame → Token → Option State
term_begins frames Zero = goes frames Nothing
term_begins frames (Variable v) = goes frames (Parts (record { whole = false; vars = v ∷ [] }))
term_begins frames Star = goes frames (Parts (record { whole = true; vars = [] }))
term_begins frames _ = None

abbrev pub ends_term : List Frame → Term → Token → Option State
ends_term frames t Close = goes frames (Complete (formula.Syntax.Ind t))
ends_term frames t _ = None

abbrev pub parts : List Frame → Term → Token → Option State
parts frames t Bar = goes frames (NextPart t)
parts frames t Close = goes frames (Complete (formula.Syntax.Ind t))
parts frames t _ = None

abbrev pub next_part : List Frame → Term → Token → Option State
next_part frames t (Variable v) = goes frames (Parts (mention t v))
next_part frames t Star = goes frames (Parts (mention_all t))
next_part frames t _ = None

-- after the formula that a parenthesis awaited
abbrev pub leave : List Frame × formula.Syntax → Option State
leave p = leave_frames p.0 p.1
  where
    leave_frames : List Frame → formula.Syntax → Option State
    leave_frames (Parenthesis ∷ frames) F = goes frames (Complete F)
    leave_frames _ F = None

abbrev pub joined : joint.Connective → List Frame × formula.Syntax → Option State
joined c p = goes (Left c p.1 ∷ p.0) Operand

abbrev pub complete : List Frame → formula.Syntax → Token → Option State
complete frames F (Connective c) = joined c (close (level c) frames F)
complete frames F Close = leave (close 0 frames F)
complete frames F _ = None

abbrev pub step_in : List Frame → Mode → Token → Option State
step_in frames Operand t = operand frames t
step_in frames (Bound q) t = bound frames q t
step_in frames (First v) t = first frames v t
step_in frames (Second v r) t = second frames v r t
step_in frames Independent t = independent frames t
step_in frames TermBegins t = term_begins frames t
step_in frames Nothing t = ends_term frames nothing t
step_in frames (Parts u) t = parts frames u t
step_in frames (NextPart u) t = next_part frames u t
step_in frames (Complete F) t = complete frames F t

-- the state after one more token; none where no formula goes on so
unfoldable pub step : State → Token → Option State
step s t = step_in s.frames s.mode t

-- ---- the end

abbrev pub whole : List Frame × formula.Syntax → Option formula.Syntax
whole p = whole_frames p.0 p.1
  where
    whole_frames : List Frame → formula.Syntax → Option formula.Syntax
    whole_frames [] F = Some F
    whole_frames _ F = None

abbrev pub finish_in : List Frame → Mode → Option formula.Syntax
finish_in frames (Complete F) = whole (close 0 frames F)
finish_in frames _ = None

-- the formula that ends in a state
unfoldable pub finish : State → Option formula.Syntax
finish s = finish_in s.frames s.mode

-- the formula that the tokens from a state on make
abbrev pub run : State → List Token → Option formula.Syntax
run s [] = finish s
run s (t ∷ ts) = option_and_then (λ next. run next ts) (step s t)

abbrev pub start : State
start = at [] Operand
