use Rattle.std.proofs.Common.{◌≡◌, ◌∙◌, List, ℕ, sym, ap, subst, arith, []}
use Rattle.mm_lines.specs.Places.{Goes, IsPlace, found_in, lines_from}
use Rattle.mm_lines.specs.Streams.{next_of}
use Rattle.mm_lines.proofs.FramerLemmas.{next_is_none, next_is_line, reads_next}
use Rattle.mm_lines.proofs.framer.Framer.next_line.Goals as goal

pub returns-in_default-clause-line : goal.returns-in_default-clause-line
returns-in_default-clause-line c =
    let f = c.self.inside in
    let cut = c.in_default.ensures.cut in
    let q = c.next_piece.new.place in
    let bytes = c.deref.ensures.value in
    let goes = subst (λ (b : List ℕ). Goes f.ended b f.place [] q) bytes cut.0 in
    let none = subst (λ (b : List ℕ). lines_from f.ended q b ≡ []) bytes cut.1 in
    sym (ap next_of (sym c.self.view_is) ∙ next_is_none f.ended f.bytes.items f.handed f.place q c.self.invariant.reads goes none)

pub invariant_of-self-2 : goal.invariant_of-self-2
invariant_of-self-2 c =
    let f = c.self.inside in
    let cut = c.in-Some.ensures.cut in
    let q = c.next_piece.new.place in
    let bytes = c.deref.ensures.value in
    let found = found_in c.in-Some.piece in
    let goes = subst (λ (b : List ℕ). Goes f.ended b f.place found q) bytes cut.0 in
    record {
      size = c.self.invariant.size;
      place = subst (λ (b : List ℕ). IsPlace b q) bytes c.in-Some.ensures.place;
      count = omega (arith, c.self.invariant.count, cut.2);
      reads = reads_next f.ended f.bytes.items f.handed f.place q found c.in_ok-line.line c.self.invariant.reads goes c.in_ok-line.ensures;
    }

pub returns-clause-line : goal.returns-clause-line
returns-clause-line c =
    let f = c.self.inside in
    let q = c.next_piece.new.place in
    let found = found_in c.in-Some.piece in
    let goes = subst (λ (b : List ℕ). Goes f.ended b f.place found q) c.deref.ensures.value c.in-Some.ensures.cut.0 in
    sym (ap next_of (sym c.self.view_is) ∙ next_is_line f.ended f.bytes.items f.handed f.place q found c.in_ok-line.line c.self.invariant.reads goes c.in_ok-line.ensures)
