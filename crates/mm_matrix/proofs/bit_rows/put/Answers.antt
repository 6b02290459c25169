use Rattle.std.proofs.Common.{ℕ, ◌≡◌, List, [], ◌∷◌, ◌++◌, get_or, map, sym, ap, ◌∙◌, subst}
use Rattle.std.specs.Vec.{with_items}
use Rattle.std.proofs.lemmas.List.{map_push}
use Rattle.mm_field.specs.declared.Field.TheVariants.{Two}
use Rattle.mm_field.specs.Vectors.{SameRowSpace}
use Rattle.mm_matrix.specs.BitRows.{bit_of, bits, bit_rows, AreStairs}
use Rattle.mm_matrix.specs.Residues.{IsResidue}
use Rattle.mm_matrix.proofs.BitLemmas.{bits_of_row, get_or-bits, rest_in_place, rest_of_row, stairs_more, stairs_span, stairs_kept}
use Rattle.mm_matrix.proofs.bit_rows.put.Goals as goal

pub returns-in_ok-push-2-clause-stairs : goal.returns-in_ok-push-2-clause-stairs
returns-in_ok-push-2-clause-stairs c =
    let n = c.args.cols in
    let rows = bit_rows n c.args.rows.now.items in
    let ks = c.args.pivots.now.items in
    let r = c.in_ok-rest.rest in
    let w = c.reduce.new.v in
    let row = c.args.row.now in
    let kept : (with_items r w).items ≡ w = rest_in_place n row r w c.requires.vector c.in_ok-rest.ensures.wide c.reduce.ensures.wide in
    let rest : IsResidue Two n rows ks row (bits n w) =
    rest_of_row n row rows ks r c.deref_mut.result.now w c.requires.vector c.in_ok-rest.ensures.digits c.deref_mut.ensures.value c.reduce.ensures.residue in
    let more : bit_rows n c.push.new.self.items ≡ rows ++ bits n w ∷ [] =
    ap (bit_rows n) c.in_ok-push.ensures.items ∙ map_push (bits_of_row n) c.args.rows.now.items (with_items r w)
    ∙ ap (λ (x : List ℕ). rows ++ bits n x ∷ []) kept in
    let p = c.in-Some.p in
    let one : get_or (bits n w) p 0 ≡ 1 =
    get_or-bits n p 0 w c.in-Some.ensures.found.0 ∙ ap (λ (x : List ℕ). bit_of x p) (sym (c.deref.ensures.value ∙ kept)) ∙ c.in-Some.ensures.found.1 in
    subst (λ (x : List (List ℕ)). AreStairs n x c.push-in-Some.new.self.items) (sym more)
    (subst (λ (x : List ℕ). AreStairs n (rows ++ bits n w ∷ []) x) (sym c.in_ok-push-2.ensures.items)
    (stairs_more n p rows ks row (bits n w) c.requires.stairs rest c.in-Some.ensures.found.0 one))

pub returns-in_ok-push-2-clause-span : goal.returns-in_ok-push-2-clause-span
returns-in_ok-push-2-clause-span c =
    let n = c.args.cols in
    let rows = bit_rows n c.args.rows.now.items in
    let ks = c.args.pivots.now.items in
    let r = c.in_ok-rest.rest in
    let w = c.reduce.new.v in
    let row = c.args.row.now in
    let kept : (with_items r w).items ≡ w = rest_in_place n row r w c.requires.vector c.in_ok-rest.ensures.wide c.reduce.ensures.wide in
    let rest : IsResidue Two n rows ks row (bits n w) =
    rest_of_row n row rows ks r c.deref_mut.result.now w c.requires.vector c.in_ok-rest.ensures.digits c.deref_mut.ensures.value c.reduce.ensures.residue in
    let more : bit_rows n c.push.new.self.items ≡ rows ++ bits n w ∷ [] =
    ap (bit_rows n) c.in_ok-push.ensures.items ∙ map_push (bits_of_row n) c.args.rows.now.items (with_items r w)
    ∙ ap (λ (x : List ℕ). rows ++ bits n x ∷ []) kept in
    subst (λ (x : List (List ℕ)). SameRowSpace Two n (row ∷ rows) x) (sym more)
    (stairs_span n rows ks row (bits n w) c.requires.stairs.each c.requires.vector rest)

pub returns-in_default-clause-span : goal.returns-in_default-clause-span
returns-in_default-clause-span c =
    let n = c.args.cols in
    let rows = bit_rows n c.args.rows.now.items in
    let ks = c.args.pivots.now.items in
    let r = c.in_ok-rest.rest in
    let w = c.reduce.new.v in
    let row = c.args.row.now in
    let kept : (with_items r w).items ≡ w = rest_in_place n row r w c.requires.vector c.in_ok-rest.ensures.wide c.reduce.ensures.wide in
    let rest : IsResidue Two n rows ks row (bits n w) =
    rest_of_row n row rows ks r c.deref_mut.result.now w c.requires.vector c.in_ok-rest.ensures.digits c.deref_mut.ensures.value c.reduce.ensures.residue in
    stairs_kept n rows ks row (bits n w) c.requires.stairs.each c.requires.vector rest
    (ap (bits n) (sym (c.deref.ensures.value ∙ kept)) ∙ c.in_default.ensures.none)
