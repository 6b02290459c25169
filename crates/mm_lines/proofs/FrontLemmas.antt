-- The settled lines of a text are the first of those of a text that goes on.
use Rattle.std.proofs.Common.{◌≡◌, ℕ, ◌+◌, ◌-◌, ◌<◌, Bool, true, false, List, [], ◌∷◌, ◌++◌, length, take, refl, sym, ap, ◌∙◌, subst, arith}
use Rattle.std.specs.Prelude.{if◌then◌else◌, nat_le}
use Rattle.std.specs.List.{slice_split, onto_first}
use Rattle.std.proofs.lemmas.Bool.{leb-true, leb-false}
use Rattle.std.proofs.lemmas.List.{append_assoc, append-nil, take_all, take-append-le}
use Rattle.std.proofs.lemmas.List.Splits.{slice_split-cons_yes, slice_split-cons_no}
use Rattle.std.proofs.Math.Seq.{take-append-add}
use Rattle.mm_lines.specs.Fronts.{IsFront}
use Rattle.mm_lines.specs.Lines.{is_newline, is_too_long, line_of, closed, numbered, lines_of, settled, most_bytes}
use Rattle.mm_lines.specs.declared.line.Line.{Line}
use Rattle.mm_lines.proofs.PlaceLemmas.{some_piece, begins, closed_cons, closed_long, line_long, long_more, first_of, after}

front_after : {A : Type 0} (zs xs ys : List A) → IsFront xs ys → IsFront (zs ++ xs) (zs ++ ys)
front_after zs xs ys p = (p.0, append_assoc zs xs p.0 ∙ ap (λ l. zs ++ l) p.1)

pub front_same : {A : Type 0} (xs ys : List A) → xs ≡ ys → IsFront xs ys
front_same xs ys p = ([], append-nil xs ∙ p)

-- bytes in front of the first of some pieces
abbrev onto : List ℕ → List (List ℕ) → List (List ℕ)
onto begun ps = (begun ++ first_of ps) ∷ after ps

abbrev settled_pieces : ℕ → List (List ℕ) → List Line
settled_pieces n ps = numbered n (closed false ps)

abbrev GoesOn : Bool → ℕ → List (List ℕ) → List (List ℕ) → Type 0
GoesOn end n ps qs = IsFront (settled_pieces n ps) (numbered n (closed end qs))

last_goes_on : (c : Bool) (end : Bool) (n : ℕ) (begun : List ℕ) (qs : List (List ℕ)) → is_too_long begun ≡ c → GoesOn end n (begun ∷ []) (onto begun qs)
last_goes_on false end n begun qs h =
    let none : settled_pieces n (begun ∷ []) ≡ [] = ap (λ (c : Bool). numbered n (if c then begun ∷ [] else [])) h in
    subst (λ (l : List Line). IsFront l (numbered n (closed end (onto begun qs)))) (sym none) (numbered n (closed end (onto begun qs)), refl)
last_goes_on true end n begun qs h =
    let piece = begun ++ first_of qs in
    let long = long_more begun (first_of qs) h in
    let here : settled_pieces n (begun ∷ []) ≡ line_of n begun ++ [] = ap (λ (c : Bool). numbered n (if c then begun ∷ [] else [])) h in
    let there : numbered n (closed end (onto begun qs)) ≡ line_of n begun ++ numbered (n + 1) (closed end (after qs)) =
    ap (numbered n) (closed_long end piece (after qs) long) ∙ ap (λ (l : List Line). l ++ numbered (n + 1) (closed end (after qs))) (line_long n piece long ∙ sym (line_long n begun h)) in
    subst (λ (l : List Line). IsFront l (numbered n (closed end (onto begun qs)))) (sym here)
    (subst (λ (l : List Line). IsFront (line_of n begun ++ []) l) (sym there)
    (front_after (line_of n begun) [] (numbered (n + 1) (closed end (after qs))) (numbered (n + 1) (closed end (after qs)), refl)))

onto_onto : (begun : List ℕ) (b : ℕ) (ps : List (List ℕ)) → 0 < length ps → onto begun (onto_first b ps) ≡ onto (begun ++ b ∷ []) ps
onto_onto begun b [] h = absurd (omega (arith, h))
onto_onto begun b (p ∷ ps) h = ap (λ (l : List ℕ). l ∷ ps) (sym (append_assoc begun (b ∷ []) p))

pieces_step : (c : Bool) (end : Bool) (n : ℕ) (begun : List ℕ) (b : ℕ) (x y : List ℕ) → is_newline b ≡ c
    → GoesOn end (n + 1) (onto [] (slice_split is_newline x)) (onto [] (slice_split is_newline (x ++ y)))
    → GoesOn end n (onto (begun ++ b ∷ []) (slice_split is_newline x)) (onto (begun ++ b ∷ []) (slice_split is_newline (x ++ y)))
    → GoesOn end n (onto begun (slice_split is_newline (b ∷ x))) (onto begun (slice_split is_newline (b ∷ x ++ y)))
pieces_step true end n begun b x y e closing going =
    let xs = slice_split is_newline x in
    let ys = slice_split is_newline (x ++ y) in
    let here : settled_pieces n (onto begun (slice_split is_newline (b ∷ x))) ≡ line_of n (begun ++ []) ++ settled_pieces (n + 1) (onto [] xs) =
    ap (λ (ps : List (List ℕ)). settled_pieces n (onto begun ps)) (slice_split-cons_yes is_newline b x e)
    ∙ ap (numbered n) (closed_cons false (begun ++ []) xs (some_piece x))
    ∙ ap (λ (ps : List (List ℕ)). line_of n (begun ++ []) ++ settled_pieces (n + 1) ps) (begins xs (some_piece x)) in
    let there : numbered n (closed end (onto begun (slice_split is_newline (b ∷ x ++ y)))) ≡ line_of n (begun ++ []) ++ numbered (n + 1) (closed end (onto [] ys)) =
    ap (λ (ps : List (List ℕ)). numbered n (closed end (onto begun ps))) (slice_split-cons_yes is_newline b (x ++ y) e)
    ∙ ap (numbered n) (closed_cons end (begun ++ []) ys (some_piece (x ++ y)))
    ∙ ap (λ (ps : List (List ℕ)). line_of n (begun ++ []) ++ numbered (n + 1) (closed end ps)) (begins ys (some_piece (x ++ y))) in
    subst (λ (l : List Line). IsFront l (numbered n (closed end (onto begun (slice_split is_newline (b ∷ x ++ y)))))) (sym here)
    (subst (λ (l : List Line). IsFront (line_of n (begun ++ []) ++ settled_pieces (n + 1) (onto [] xs)) l) (sym there)
    (front_after (line_of n (begun ++ [])) (settled_pieces (n + 1) (onto [] xs)) (numbered (n + 1) (closed end (onto [] ys))) closing))
pieces_step false end n begun b x y e closing going =
    let xs = slice_split is_newline x in
    let ys = slice_split is_newline (x ++ y) in
    let here : onto begun (slice_split is_newline (b ∷ x)) ≡ onto (begun ++ b ∷ []) xs = ap (onto begun) (slice_split-cons_no is_newline b x e) ∙ onto_onto begun b xs (some_piece x) in
    let there : onto begun (slice_split is_newline (b ∷ x ++ y)) ≡ onto (begun ++ b ∷ []) ys = ap (onto begun) (slice_split-cons_no is_newline b (x ++ y) e) ∙ onto_onto begun b ys (some_piece (x ++ y)) in
    subst (λ (ps : List (List ℕ)). GoesOn end n ps (onto begun (slice_split is_newline (b ∷ x ++ y)))) (sym here)
    (subst (λ (ps : List (List ℕ)). GoesOn end n (onto (begun ++ b ∷ []) xs) ps) (sym there) going)

pieces_go_on : (end : Bool) (n : ℕ) (begun x y : List ℕ) → GoesOn end n (onto begun (slice_split is_newline x)) (onto begun (slice_split is_newline (x ++ y)))
pieces_go_on end n begun [] y =
    subst (λ (l : List ℕ). GoesOn end n (l ∷ []) (onto begun (slice_split is_newline y))) (sym (append-nil begun))
    (last_goes_on (is_too_long begun) end n begun (slice_split is_newline y) refl)
pieces_go_on end n begun (b ∷ x) y =
    pieces_step (is_newline b) end n begun b x y refl (pieces_go_on end (n + 1) [] x y) (pieces_go_on end n (begun ++ b ∷ []) x y)

-- The lines of a text that may go on are the first of those of the longer text, whether it has ended or not.
pub lines_go_on : (end : Bool) (x y : List ℕ) → IsFront (lines_of false x) (lines_of end (x ++ y))
unfolding lines_of
lines_go_on end x y =
    subst (λ (ps : List (List ℕ)). GoesOn end 1 ps (slice_split is_newline (x ++ y))) (sym (begins (slice_split is_newline x) (some_piece x)))
    (subst (λ (ps : List (List ℕ)). GoesOn end 1 (onto [] (slice_split is_newline x)) ps) (sym (begins (slice_split is_newline (x ++ y)) (some_piece (x ++ y))))
    (pieces_go_on end 1 [] x y))

-- Whole texts.

take_more : (c : Bool) (n : ℕ) (a b : List ℕ) → nat_le (length a) n ≡ c → take n (a ++ b) ≡ take n a ++ take (n - length a) b
take_more true n a b h =
    let short = leb-true (length a) n h in
    ap (λ (k : ℕ). take k (a ++ b)) {x = n} {y = length a + (n - length a)} (omega (arith, short)) ∙ take-append-add a b (n - length a) ∙ ap (λ (l : List ℕ). l ++ take (n - length a) b) (sym (take_all n a short))
take_more false n a b h =
    let less = leb-false (length a) n h in
    take-append-le n a b (omega (arith, less)) ∙ sym (append-nil (take n a)) ∙ ap (λ (k : ℕ). take n a ++ take k b) {x = 0} {y = n - length a} (omega (arith, less))

pub settled_stay : (end : Bool) (a b : List ℕ) → IsFront (settled a) (lines_of end (take most_bytes (a ++ b)))
unfolding settled
settled_stay end a b =
    subst (λ (t : List ℕ). IsFront (lines_of false (take most_bytes a)) (lines_of end t)) (sym (take_more (nat_le (length a) most_bytes) most_bytes a b refl))
    (lines_go_on end (take most_bytes a) (take (most_bytes - length a) b))
