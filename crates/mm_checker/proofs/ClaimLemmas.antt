-- Claims by the words of `indexmap`: keys are compared field by field.
use Rattle.std.proofs.Common.{ℕ, ◌≡◌, [], ◌∷◌, Bool, true, false, ◌&&◌, ◌==◌, refl, ap₂, Option, Some, if◌then◌else◌}
use Rattle.std.specs.Map.{lookup}
use Rattle.std.proofs.Common.{ap, ◌∙◌}
use Rattle.std.specs.Str.{bytes_eq}
use Rattle.mm_base.proofs.NameLemmas.{name_eq}
use Rattle.mm_checker.specs.Claims.{LeafClaims, GlueClaims, claimed, is_same_leaf, is_same_glue}
use Rattle.mm_cert_lines.specs.declared.certificate.GlueKey.{GlueKey}
use Rattle.mm_cert_lines.specs.declared.certificate.LeafKey.{LeafKey}
use Rattle.mm_cert_lines.specs.contracts.certificate.GlueKeyPartialEq.TheImpl.{eq-value as glue-value}
use Rattle.mm_cert_lines.specs.contracts.certificate.LeafKeyPartialEq.TheImpl.{eq-value}

and_assoc : (a b c : Bool) → (a && (b && c)) ≡ (a && b && c)
and_assoc true b c = refl
and_assoc false b c = refl

pub leaf_lookup : (key : LeafKey) (claims : LeafClaims) → lookup ((eq-value).it key) claims ≡ claimed is_same_leaf claims key
leaf_lookup key [] = refl
leaf_lookup key (claim ∷ claims) = ap₂ (λ (t : Bool) (rest : Option ℕ). if t then Some claim.1 else rest)
    (and_assoc (key.place == claim.0.place) (key.leaf == claim.0.leaf) (key.marks == claim.0.marks)) (leaf_lookup key claims)

glue_same : (a b : GlueKey) → (glue-value).it a b ≡ is_same_glue a b
glue_same a b =
    ap (λ (t : Bool). (a.place == b.place) && (t && ((a.left == b.left) && (a.right == b.right)))) (name_eq a.op b.op)
    ∙ and_assoc (a.place == b.place) (bytes_eq a.op b.op) ((a.left == b.left) && (a.right == b.right))
    ∙ and_assoc ((a.place == b.place) && bytes_eq a.op b.op) (a.left == b.left) (a.right == b.right)

pub glue_lookup : (key : GlueKey) (claims : GlueClaims) → lookup ((glue-value).it key) claims ≡ claimed is_same_glue claims key
glue_lookup key [] = refl
glue_lookup key (claim ∷ claims) =
    ap₂ (λ (t : Bool) (rest : Option ℕ). if t then Some claim.1 else rest) (glue_same key claim.0) (glue_lookup key claims)
