use Rattle.std.proofs.Common.{◌≡◌, [], ◌∷◌, length, get_or, ap, sym, ◌∙◌, Some}
use Rattle.std.proofs.lemmas.Option.{same_Some}
use Rattle.mm_space.specs.DigitTexts.{vector_of}
use Rattle.mm_decomp.specs.BuiltTree.{first_digit}
use Rattle.mm_decomp.proofs.FirstDigitLemmas.{first_digit_at, first_digit_none, digit_read, dash_read}
use Rattle.mm_decomp.proofs.operator.first_digit.Goals as goal
use Rattle.mm_decomp.proofs.operator.first_digit.Goals.{in-Some, in-None}

pub returns : goal.returns
returns c =
    let f = c.args.f in
    let ds = c.args.column.now in
    let read : vector_of f (c.match-first_nonzero.shown ∷ []) ≡ Some (first_digit ds) = elim c.match-first_nonzero.branch [
      | in-Some w ↦
          let h = w.in-Some.ensures in
          let p = w.in-Some.p in
          digit_read f (get_or ds p 0) c.match-first_nonzero.shown (c.requires p 0 h.found.0) w.shown-is
          ∙ ap Some (sym (first_digit_at ds p h.found.0 h.found.1 h.least))
      | in-None w ↦
          dash_read f c.match-first_nonzero.shown w.shown-is
          ∙ ap Some (sym (first_digit_none (length ds)) ∙ ap first_digit (sym w.in-None.ensures.none))
    ] in
    same_Some _ _ (sym c.unwrap.ensures ∙ c.read.ensures.exact ∙ read)
