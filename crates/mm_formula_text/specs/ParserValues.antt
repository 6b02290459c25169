-- What the values of the reader mean to its automaton.
use Rattle.std.specs.Prelude.{◌≡◌, List, map, reverse, Option, Some, None, Result, Ok, Err}
use Rattle.mm_formula.specs.Syntax.{Syntax, syntax_of}
use Rattle.mm_formula.specs.declared.formula.Formula.{Formula}
use Rattle.mm_formula_text.specs.declared.parser.Frame as held
use Rattle.mm_formula_text.specs.declared.parser.Frame.TheVariants as held_frame
use Rattle.mm_formula_text.specs.declared.parser.Mode as held_modes
use Rattle.mm_formula_text.specs.declared.parser.Mode.TheVariants as held_mode
use Rattle.mm_formula_text.specs.declared.parser.Stack.{Stack}
use Rattle.mm_formula_text.specs.declared.fault.ReadFault.{ReadFault}
use Rattle.mm_formula_text.specs.declared.fault.ReadFault.TheVariants as fault
use Rattle.mm_formula_text.specs.Parser.{Frame, Mode, State, at}
use Rattle.mm_formula_text.specs.Parser.Frame.{Negation, Binder, Parenthesis, Left}
use Rattle.mm_formula_text.specs.Parser.Mode.{Operand, Bound, First, Second, Independent, TermBegins, Nothing, Parts, NextPart, Complete}

abbrev pub frame_of : held.Frame → Frame
frame_of held_frame.Negation = Negation
frame_of (held_frame.Binder q v) = Binder q v
frame_of held_frame.Parenthesis = Parenthesis
frame_of (held_frame.Left c first) = Left c (syntax_of first.value)

abbrev pub mode_of : held_modes.Mode → Mode
mode_of held_mode.Operand = Operand
mode_of (held_mode.Bound q) = Bound q
mode_of (held_mode.First v) = First v
mode_of (held_mode.Second v r) = Second v r
mode_of held_mode.Independent = Independent
mode_of held_mode.TermBegins = TermBegins
mode_of held_mode.Nothing = Nothing
mode_of (held_mode.Parts t) = Parts t
mode_of (held_mode.NextPart t) = NextPart t
mode_of (held_mode.Complete F) = Complete (syntax_of F)

-- the frames of a stack, the innermost first
unfoldable pub frames_of : Stack → List Frame
frames_of s = map frame_of (reverse s.frames.items)

-- What a step answers is the next state, unless memory ran out.
abbrev pub Goes : Result held_modes.Mode ReadFault → List Frame → Option State → Type 0
Goes (Ok mode) frames next = next ≡ Some (at frames (mode_of mode))
Goes (Err fault.Syntax) frames next = next ≡ None
Goes (Err fault.NoMemory) frames next = Unit {0}

-- What a reader answers is this formula, or that there is none, unless memory ran out.
abbrev pub Gives : Result Formula ReadFault → Option Syntax → Type 0
Gives (Ok F) made = made ≡ Some (syntax_of F)
Gives (Err fault.Syntax) made = made ≡ None
Gives (Err fault.NoMemory) made = Unit {0}
