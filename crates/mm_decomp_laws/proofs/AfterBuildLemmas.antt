-- The header that is made of the text of a decomposition is that of names, rows and a shape that can be built.
use Rattle.std.proofs.Common.{◌≡◌, ℕ, ◌<◌, ◌≤◌, Bool, true, false, cond, not, ℤ, nat_abs, Option, Some, None, List, [], ◌∷◌, length, get_or, refl, sym, ap, ◌∙◌, subst, arith}
use Rattle.std.specs.Prelude.{nat_lt, All, IfOk, Ok, Err}
use Rattle.std.specs.declared.result.Result.{Result}
use Rattle.std.specs.List.{IsDistinct, position, position_or_len, AllByRecursion}
use Rattle.std.specs.Option.{option_map, option_or}
use Rattle.std.specs.Str.{bytes_eq}
use Rattle.std.proofs.lemmas.Bool.{ltb-false}
use Rattle.std.proofs.lemmas.List.Elements.{All-append, All-cons, All-head, All-nil, All-tail}
use Rattle.std.proofs.lemmas.List.Sums.{fails_before_first}
use Rattle.std.proofs.lemmas.Option.{none-some}
use Rattle.mm_lines.specs.Lines.{is_over, lines}
use Rattle.mm_present.specs.Comparing.{first_missing}
use Rattle.mm_tree.specs.NamedTree.{is_one_of}
use Rattle.mm_tree.specs.ValidTree.{most_depth, most_weight}
use Rattle.mm_job_text.specs.Checks.{◌>>◌, unless}
use Rattle.mm_job_text.specs.Readers.{Reading, Read, Refused, Short}
use Rattle.mm_job_text.specs.declared.refusal.Refusal.{Refusal}
use Rattle.mm_job_text.specs.declared.refusal.Refusal.TheVariants as refusal
use Rattle.mm_job_text.proofs.ReadingLemmas.{IfRead}
use Rattle.mm_decomp.specs.BuildOutput.{build_output, header_of, header_of_shapes, header_unless_wide, matrix_in, output_of}
use Rattle.mm_decomp.specs.BuiltTree.{built}
use Rattle.mm_decomp.specs.Decompositions.{Decomposition, build_parts, decomposition_of, read_at_end, same_names}
use Rattle.mm_decomp.specs.HeaderText.{header_text}
use Rattle.mm_decomp.specs.Shapes.{AreSteps, FindTwo, IsLight, Shape, after_steps, depth, leaf_names, names}
use Rattle.mm_decomp.specs.Shapes.Shape.{Leaf, Join}
use Rattle.mm_decomp.specs.Spaces.{boundaries, first_wide}
use Rattle.mm_decomp.specs.declared.shape.Step.{Step}
use Rattle.mm_decomp.specs.declared.shape.Step.TheVariants as steps
use Rattle.mm_decomp.proofs.BuildOutputLemmas.{has_one}
use Rattle.mm_decomp.proofs.MakeLemmas.{names_after, names_in}
use Rattle.mm_decomp_laws.specs.QueriesAfterHeaders.{IsBuildable, ReachesQuery, leaf_weights}
use Rattle.mm_decomp_laws.specs.WrittenHeaders.{most_after}
use Rattle.mm_decomp_laws.proofs.QueryLawLemmas.{after_built}
use Rattle.mm_decomp_laws.proofs.ReadBuildLemmas.{IsReadBuild, build_has}

-- ---- the shape of some steps

abbrev IsLightWeight : ℤ → Type 0
IsLightWeight w = nat_abs w ≤ most_weight

abbrev IsLightShape : Shape → Type 0
IsLightShape s = All IsLightWeight (leaf_weights s)

light_after : (ss : List Shape) (xs : List Step) → FindTwo ss xs → All (λ x. IsLight x) xs → AllByRecursion IsLightShape ss
    → AllByRecursion IsLightShape (after_steps ss xs)
unfolding leaf_weights
light_after ss [] h l k = k
light_after ss (steps.Leaf name weight ∷ xs) h l k =
    light_after (Leaf name weight ∷ ss) xs h (All-tail (λ x. IsLight x) (steps.Leaf name weight) xs l)
    (All-cons IsLightWeight weight [] (All-head (λ x. IsLight x) (steps.Leaf name weight) xs l) (All-nil IsLightWeight), k)
light_after [] (steps.Join ∷ xs) h l k = absurd (let a : 2 ≤ 0 = h.0 in omega arith)
light_after (s ∷ []) (steps.Join ∷ xs) h l k = absurd (let a : 2 ≤ 1 = h.0 in omega arith)
light_after (right ∷ left ∷ ss) (steps.Join ∷ xs) h l k =
    light_after (Join left right ∷ ss) xs h.1 (All-tail (λ x. IsLight x) steps.Join xs l)
    (All-append IsLightWeight (leaf_weights left) (leaf_weights right) k.1.0 k.0, k.1.1)

-- What the steps of a shape say of it.
pub record IsShapeOf (xs : List Step) (s : Shape) : Type 0 where
  pub named : leaf_names xs ≡ names s
  pub different : IsDistinct bytes_eq (names s)
  pub shallow : depth s ≤ most_depth
  pub light : All IsLightWeight (leaf_weights s)

pub shape_of_steps : (xs : List Step) (s : Shape) → AreSteps xs → after_steps [] xs ≡ s ∷ [] → IsShapeOf xs s
unfolding names_in
shape_of_steps xs s h e =
    let named : leaf_names xs ≡ names s = sym (names_after [] xs h.find_two) ∙ ap names_in e in
    record {
      named = named;
      different = subst (λ (ns : List (List ℕ)). IsDistinct bytes_eq ns) named h.different;
      shallow = All-head (λ x. depth x ≤ most_depth) s [] (subst (λ (ss : List Shape). All (λ x. depth x ≤ most_depth) ss) e h.shallow);
      light = (subst (λ (ss : List Shape). AllByRecursion IsLightShape ss) e (light_after [] xs h.find_two h.light tt)).0;
    }

-- ---- what is read can be built

all_there : (ns others : List (List ℕ)) → first_missing ns others ≡ None → All (λ name. is_one_of name others ≡ true) ns
all_there [] others e = All-nil (λ name. is_one_of name others ≡ true)
all_there (n ∷ ns) others e = go (is_one_of n others) refl e (all_there ns others)
  where
    go : (b : Bool) → is_one_of n others ≡ b → cond (not b) (Some n) (first_missing ns others) ≡ None
        → (first_missing ns others ≡ None → All (λ name. is_one_of name others ≡ true) ns) → All (λ name. is_one_of name others ≡ true) (n ∷ ns)
    go true q e more = All-cons (λ name. is_one_of name others ≡ true) n ns q (more e)
    go false q e more = absurd (none-some n (sym e))

none_wide : (bs : List ℕ) → position (λ b. nat_lt 6 b) bs ≡ None → All (λ t. t ≤ 6) bs
none_wide bs e = λ k d l. go (nat_lt (position_or_len (λ b. nat_lt 6 b) bs) (length bs)) refl e k d l
  where
    go : (b : Bool) → nat_lt (position_or_len (λ b. nat_lt 6 b) bs) (length bs) ≡ b
        → cond b (Some (position_or_len (λ b. nat_lt 6 b) bs)) None ≡ None → (k d : ℕ) → k < length bs → get_or bs k d ≤ 6
    go true q e k d l = absurd (none-some (position_or_len (λ b. nat_lt 6 b) bs) (sym e))
    go false q e k d l =
        let past : length bs ≤ position_or_len (λ b. nat_lt 6 b) bs = ltb-false _ _ q in
        ltb-false 6 (get_or bs k d) (fails_before_first (λ b. nat_lt 6 b) bs k d (omega arith))

-- A decomposition that was read: its names are those of its leaves.
pub record IsDecomposition (d : Decomposition) : Type 0 where
  pub read : IsReadBuild d
  pub there : first_missing d.given.names (leaf_names d.shape.steps) ≡ None
  pub back : first_missing (leaf_names d.shape.steps) d.given.names ≡ None

buildable : (d : Decomposition) (s : Shape) → IsDecomposition d → after_steps [] d.shape.steps ≡ s ∷ [] → first_wide d.given s ≡ None → IsBuildable d.given s
buildable d s h e narrow =
    let r = h.read in
    let xs = d.shape.steps in
    let made = shape_of_steps xs s r.are_steps e in
    record {
      named = r.names.named;
      different = r.names.different;
      few = r.names.few;
      rows = r.rows.each;
      few_rows = r.rows.few;
      leaves = subst (λ (ns : List (List ℕ)). All (λ name. is_one_of name d.given.names ≡ true) ns) made.named (all_there (leaf_names xs) d.given.names h.back);
      all = subst (λ (ns : List (List ℕ)). All (λ name. is_one_of name ns ≡ true) d.given.names) made.named (all_there d.given.names (leaf_names xs) h.there);
      leaves_differ = made.different;
      shallow = made.shallow;
      light = made.light;
      narrow = none_wide (boundaries d.given [] s) narrow;
    }

same_has : (d : Decomposition) → IsReadBuild d → IfOk (same_names d) IsDecomposition
same_has d h = go (first_missing d.given.names (leaf_names d.shape.steps)) (first_missing (leaf_names d.shape.steps) d.given.names) refl refl
  where
    go : (m1 m2 : Option (List ℕ)) → first_missing d.given.names (leaf_names d.shape.steps) ≡ m1 → first_missing (leaf_names d.shape.steps) d.given.names ≡ m2
        → IfOk ((unless (option_map refusal.Elements (option_or m1 m2))) >> (Ok d)) IsDecomposition
    go None None p q = record { read = h; there = p; back = q }
    go None (Some n) p q = tt
    go (Some n) m2 p q = tt

decomposed : (text : List ℕ) → IfOk (decomposition_of text) IsDecomposition
unfolding decomposition_of
decomposed text = go (is_over text) (build_parts (lines text)) (build_has (lines text))
  where
    go : (over : Bool) (reading : Reading Decomposition) → IfRead IsReadBuild reading → IfOk (read_at_end over reading) IsDecomposition
    go true (Read d rest) h = tt
    go false (Read d rest) h = same_has d h
    go true (Refused e) h = tt
    go false (Refused e) h = tt
    go true Short h = tt
    go false Short h = tt

-- ---- the header that is written

pub record IsHeaderOf (d : Decomposition) (header : List ℕ) : Type 0 where
  pub shape : Shape
  pub is : after_steps [] d.shape.steps ≡ shape ∷ []
  pub narrow : first_wide d.given shape ≡ None
  pub text : header_text d.given.names (matrix_in d.given) (built d.given 0 [] shape) ≡ header

header_is : (d : Decomposition) (header : List ℕ) → IsDecomposition d → header_of d ≡ Ok header → IsHeaderOf d header
header_is d header h e =
    let one = has_one (after_steps [] d.shape.steps) h.read.one in
    go one.shape one.is (first_wide d.given one.shape) refl (sym (ap (header_of_shapes d.given d.shape.numbers) one.is) ∙ e)
  where
    go : (s : Shape) → after_steps [] d.shape.steps ≡ s ∷ [] → (o : Option ℕ) → first_wide d.given s ≡ o
        → header_unless_wide d.given d.shape.numbers s o ≡ Ok header → IsHeaderOf d header
    go s i None q e = record {
      shape = s;
      is = i;
      narrow = q;
      text = subst (λ (r : Result (List ℕ) (List ℕ)). IfOk r (λ t. header_text d.given.names (matrix_in d.given) (built d.given 0 [] s) ≡ t)) e refl;
    }
    go s i (Some step) q e = cc

pub after_build : (text header rest : List ℕ) → build_output text ≡ Ok header → length rest ≤ most_after → ReachesQuery header rest
unfolding build_output
after_build text header rest e l = go (decomposition_of text) (decomposed text) e
  where
    go : (r : Result Decomposition Refusal) → IfOk r IsDecomposition → output_of header_of r ≡ Ok header → ReachesQuery header rest
    go (Ok d) h e =
        let w = header_is d header h e in
        subst (λ (t : List ℕ). ReachesQuery t rest) w.text (after_built d.given w.shape rest (buildable d w.shape h w.is w.narrow) l)
    go (Err r) h e = cc
