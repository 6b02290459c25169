use Rattle.std.proofs.Common.{ℕ, ◌≡◌, List, map, eqb, not, drop, length, take, ap, ◌∙◌, arith, w8, length-drop}
use Rattle.std.proofs.lemmas.List.{take_all}
use Rattle.std.proofs.lemmas.Simd.{bitmask_splat}
use lib.Lanes.{mask_l}
use Rattle.mm_space.proofs.MarkLemmas.{mask_is_support}
use Rattle.mm_space.proofs.join_rows.back_support.Goals as goal

pub returns : goal.returns
returns c =
    let v = drop 16 c.args.v.now in
    let long = c.told-v in
    let len : length v ≡ 8 = omega (arith, length-drop 16 c.args.v.now) in
    let same : take 8 (take 8 v) ≡ v = ap (take 8) (take_all 8 v (omega arith)) ∙ take_all 8 v (omega arith) in
    mask_is_support v _
    (bitmask_splat w8 (λ (a b : ℕ). not (eqb a b)) (take 8 (take 8 v)) 8 0 (ap length same ∙ len) (omega arith)
    ∙ ap (λ (x : List ℕ). mask_l (map (λ (d : ℕ). not (eqb d 0)) x)) same)
