use Rattle.std.proofs.Common.{ℕ, ◌≡◌, ◌<◌, sym, ap, ◌∙◌, subst, arith, None}
use Rattle.mm_field.specs.declared.Field.{Field}
use Rattle.mm_tree.specs.NamedTree.{Tree, nodes}
use Rattle.mm_tree.specs.Nodes.{named, field_of, IsOver}
use Rattle.mm_tree.specs.Places.{path_of}
use Rattle.mm_tree.specs.Replacing.{replace_fault}
use Rattle.mm_tree.specs.Steps.{IsExchanged, IsSpliced}
use Rattle.mm_tree.specs.TreeValue.{TreeValue}
use Rattle.mm_tree.specs.TreeView.{Stands}
use Rattle.mm_tree.specs.ValidTree.{IsValidTree}
use Rattle.mm_tree.specs.declared.node.Node.{Node}
use Rattle.mm_tree.specs.declared.splice.Spliced.{Spliced}
use Rattle.mm_tree.specs.declared.splice.Spliced.TheVariants.{Done, Beyond}
use Rattle.mm_tree.proofs.TreeLemmas.{valid_part, valid_exchange, stands, over_field}
use Rattle.mm_tree.proofs.tree.Tree.splice.Goals as goal

done : (old now new out : Node) (at : ℕ) (found : Spliced) → at < nodes (named old) → IsSpliced old now at new out found → IsExchanged old now at new out
done old now new out at Done l s = s
done old now new out at (Beyond rest) l s =
    let q = s.2 in
    let no : ⊥ = omega arith in
    absurd no

-- what the fields say of the exchange
exchange : (old now new out : Node) (at place : ℕ) (found : Spliced) (before : TreeValue) → IsSpliced old now at new out found → at ≡ place →
    named old ≡ before.tree → place < nodes before.tree → IsExchanged old now at new out
exchange old now new out at place found before s e p l =
    let q = ap nodes p in
    done old now new out at found (omega arith) s

new_over : (old new : Node) (before after : TreeValue) → field_of old ≡ before.f → field_of new ≡ after.f → after.f ≡ before.f → Stands (field_of new) new →
    IsOver (field_of old) new
new_over old new before after a b e s = subst (λ (g : Field). IsOver g new) (b ∙ e ∙ sym a) s.over

new_valid : (old new : Node) (before after : TreeValue) → field_of old ≡ before.f → field_of new ≡ after.f → after.f ≡ before.f → Stands (field_of new) new →
    IsValidTree (field_of old) (named new)
new_valid old new before after a b e s = subst (λ (g : Field). IsValidTree g (named new)) (b ∙ e ∙ sym a) s.valid

no_fault : (old new : Node) (at place : ℕ) (before after : TreeValue) → at ≡ place → named old ≡ before.tree → named new ≡ after.tree →
    replace_fault before.tree (path_of place before.tree) after.tree ≡ None → replace_fault (named old) (path_of at (named old)) (named new) ≡ None
no_fault old new at place before after e p q f =
    ap (λ (k : ℕ). replace_fault (named old) (path_of k (named old)) (named new)) e
    ∙ ap (λ (t : Tree). replace_fault t (path_of place t) (named new)) p ∙ ap (λ (t : Tree). replace_fault before.tree (path_of place before.tree) t) q ∙ f

whole : (old now new out : Node) (at place : ℕ) (found : Spliced) (before after : TreeValue) → IsSpliced old now at new out found → at ≡ place →
    field_of old ≡ before.f → named old ≡ before.tree → field_of new ≡ after.f → named new ≡ after.tree → after.f ≡ before.f →
    place < nodes before.tree → replace_fault before.tree (path_of place before.tree) after.tree ≡ None → Stands (field_of old) old →
    Stands (field_of new) new → IsOver before.f now × IsValidTree before.f (named now) × IsOver before.f out × IsValidTree before.f (named out)
whole old now new out at place found before after s e a p b q same l fault so sn =
    let x = exchange old now new out at place found before s e p l in
    let f = field_of old in
    let o = x.over f so.over (new_over old new before after a b same sn) in
    let now_valid = subst (λ (t : Tree). IsValidTree f t) (sym x.tree)
    (valid_exchange f (named old) (named new) (path_of at (named old)) so.valid (new_valid old new before after a b same sn)
    (no_fault old new at place before after e p q fault)) in
    let out_valid = subst (λ (t : Tree). IsValidTree f t) (sym x.old_part) (valid_part f (named old) (path_of at (named old)) so.valid) in (
      subst (λ (g : Field). IsOver g now) a o.0,
      subst (λ (g : Field). IsValidTree g (named now)) a now_valid,
      subst (λ (g : Field). IsOver g out) a o.1,
      subst (λ (g : Field). IsValidTree g (named out)) a out_valid,
    )

pub invariant_of-result : goal.invariant_of-result
invariant_of-result c =
    let w = whole c.self.inside.node c.splice.new.node c.new.inside.node c.splice.new.new c.number.result c.args.place.now.number c.splice.result c.args.self.now
    c.args.new c.splice.ensures c.number.ensures (ap (λ (v : TreeValue). v.f) c.self.view_is) (ap (λ (v : TreeValue). v.tree) c.self.view_is)
    (ap (λ (v : TreeValue). v.f) c.new.view_is) (ap (λ (v : TreeValue). v.tree) c.new.view_is) c.requires.field c.requires.place.within
    c.requires.fits c.self.invariant c.new.invariant in
    stands c.args.self.now.f c.splice.new.new w.2 w.3

pub invariant_of-self : goal.invariant_of-self
invariant_of-self c =
    let w = whole c.self.inside.node c.splice.new.node c.new.inside.node c.splice.new.new c.number.result c.args.place.now.number c.splice.result c.args.self.now
    c.args.new c.splice.ensures c.number.ensures (ap (λ (v : TreeValue). v.f) c.self.view_is) (ap (λ (v : TreeValue). v.tree) c.self.view_is)
    (ap (λ (v : TreeValue). v.f) c.new.view_is) (ap (λ (v : TreeValue). v.tree) c.new.view_is) c.requires.field c.requires.place.within
    c.requires.fits c.self.invariant c.new.invariant in
    stands c.args.self.now.f c.splice.new.node w.0 w.1

pub returns-clause-field : goal.returns-clause-field
returns-clause-field c =
    let w = whole c.self.inside.node c.splice.new.node c.new.inside.node c.splice.new.new c.number.result c.args.place.now.number c.splice.result c.args.self.now
    c.args.new c.splice.ensures c.number.ensures (ap (λ (v : TreeValue). v.f) c.self.view_is) (ap (λ (v : TreeValue). v.tree) c.self.view_is)
    (ap (λ (v : TreeValue). v.f) c.new.view_is) (ap (λ (v : TreeValue). v.tree) c.new.view_is) c.requires.field c.requires.place.within
    c.requires.fits c.self.invariant c.new.invariant in
    over_field c.args.self.now.f c.splice.new.node w.0

pub returns-clause-old_field : goal.returns-clause-old_field
returns-clause-old_field c =
    let w = whole c.self.inside.node c.splice.new.node c.new.inside.node c.splice.new.new c.number.result c.args.place.now.number c.splice.result c.args.self.now
    c.args.new c.splice.ensures c.number.ensures (ap (λ (v : TreeValue). v.f) c.self.view_is) (ap (λ (v : TreeValue). v.tree) c.self.view_is)
    (ap (λ (v : TreeValue). v.f) c.new.view_is) (ap (λ (v : TreeValue). v.tree) c.new.view_is) c.requires.field c.requires.place.within
    c.requires.fits c.self.invariant c.new.invariant in
    over_field c.args.self.now.f c.splice.new.new w.2
