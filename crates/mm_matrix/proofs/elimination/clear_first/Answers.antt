use Rattle.std.proofs.Common.{ℕ, ◌≡◌, ◌<◌, List, [], length, get_or, map, sym, ap, ◌∙◌, subst, arith}
use Rattle.std.proofs.Math.ListN.{length-set}
use Rattle.std.specs.Vec.{with_items}
use Rattle.std.proofs.lemmas.List.{length-map}
use Rattle.mm_field.specs.Vectors.{IsVector}
use Rattle.mm_linear.specs.Eliminate.{cleared}
use Rattle.mm_linear.proofs.InsertLemmas.{IsVector-cleared}
use Rattle.mm_matrix.proofs.RowLemmas.{digits_of, item_is, row_ahead, write_step}
use Rattle.mm_matrix.proofs.elimination.clear_first.Goals as goal

pub clear_row-requires-clause-row : goal.clear_row-requires-clause-row
clear_row-requires-clause-row c =
    let rows = map digits_of c.args.rows.now.items in
    let i = c.loop-i.i in
    let h = cleared c.args.f c.args.lead c.args.w.now in
    let m = length-map c.args.rows.now.items digits_of in
    let o = c.requires.count in
    let s = c.loop-i.invariant.size in
    let l : i < length rows = omega arith in
    let now : i < length c.loop-i.rows.items = omega arith in
    let at : get_or rows i [] ≡ c.deref_mut.result.now =
    sym (row_ahead h rows i [] l) ∙ ap (λ (ys : List (List ℕ)). get_or ys i []) (sym c.loop-i.invariant.written)
    ∙ item_is c.loop-i.rows.items i c.index_mut.result.now now c.index_mut.ensures.value
    ∙ sym c.deref_mut.ensures.value in
    subst (λ (u : List ℕ). IsVector c.args.f (length c.args.w.now) u) at (c.requires.each i [] l)

pub loop-i-preserved : goal.loop-i-preserved
loop-i-preserved c =
    let rows = map digits_of c.args.rows.now.items in
    let i = c.loop-i.i in
    let h = cleared c.args.f c.args.lead c.args.w.now in
    let n = length c.args.w.now in
    let r = c.index_mut.result.now in
    let m = length-map c.args.rows.now.items digits_of in
    let o = c.requires.count in
    let s = c.loop-i.invariant.size in
    let l : i < length rows = omega arith in
    let now : i < length c.loop-i.rows.items = omega arith in
    let at : get_or rows i [] ≡ r.items =
    sym (row_ahead h rows i [] l) ∙ ap (λ (ys : List (List ℕ)). get_or ys i []) (sym c.loop-i.invariant.written)
    ∙ item_is c.loop-i.rows.items i r now c.index_mut.ensures.value in
    let row : IsVector c.args.f n r.items = subst (λ (u : List ℕ). IsVector c.args.f n u) at (c.requires.each i [] l) in
    let new : c.clear_row.new.row ≡ h r.items = c.clear_row.ensures ∙ ap h c.deref_mut.ensures.value in
    let size : length c.clear_row.new.row ≡ length r.items =
    ap length new ∙ (IsVector-cleared c.args.f n c.args.lead c.args.w.now r.items c.requires.vector row).len ∙ sym row.len in
    record {
      size = length-set c.loop-i.rows.items i (with_items r c.clear_row.new.row) ∙ s;
      written = write_step h rows c.loop-i.rows.items i r c.clear_row.new.row l (s ∙ sym m) c.loop-i.invariant.written c.index_mut.ensures.value new size;
    }
