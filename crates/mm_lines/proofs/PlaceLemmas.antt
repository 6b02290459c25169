-- How the lines from one place are a piece and the lines from the next place, however the stream goes on.
use Rattle.std.proofs.Common.{◌≡◌, ℕ, suc, ◌+◌, ◌-◌, ◌<◌, ◌≤◌, Bool, true, false, not, List, [], ◌∷◌, ◌++◌, length, get_or, take, drop, refl, sym, ap, ◌∙◌, arith}
use Rattle.std.specs.Prelude.{if◌then◌else◌, ◌||◌, ◌&&◌, nat_le}
use Rattle.std.specs.List.{slice_split, onto_first}
use Rattle.std.specs.Str.Lines.{strip_carriage_return}
use Rattle.std.proofs.lemmas.Bool.{le-leb, leb-true, leb-false, or_right}
use Rattle.std.proofs.lemmas.List.{drop_more, drop-drop, drop_all, get_or-take, get_or-drop, get_or_append_left, take-append-drop, take-append-le, drop-append-le, length-take-le, length-drop, length-append, append-nil}
use Rattle.std.proofs.lemmas.List.Elements.{All-from_get_or}
use Rattle.std.proofs.lemmas.List.Splits.{slice_split_at, slice_split_none, slice_split-cons_no, length-slice_split}
use Rattle.mm_lines.specs.Tokens.{tokens}
use Rattle.mm_lines.specs.Lines.{is_newline, is_too_long, is_passed_over, kept_line, line_of, closed, numbered}
use Rattle.mm_lines.specs.Places.{NoNewline, Goes, lines_from, after_first}
use Rattle.mm_lines.specs.declared.line.Line.{Line}
use Rattle.mm_lines.specs.declared.line.LineText.TheVariants.{TooLong, Whole}
use Rattle.mm_lines.specs.declared.place.Place.{Place}

-- Newlines in a stream that goes on.

pub clean_more : (bytes more : List ℕ) (i j : ℕ) → j ≤ length bytes → NoNewline bytes i j → NoNewline (bytes ++ more) i j
clean_more bytes more i j within clean k low high = ap is_newline (get_or_append_left bytes more 0 k (omega (arith, within, high))) ∙ clean k low high

pub clean_join : (c : Bool) (bytes : List ℕ) (i j l k : ℕ) → c ≡ nat_le j k → NoNewline bytes i j → NoNewline bytes j l → i ≤ k → k < l → is_newline (get_or bytes k 0) ≡ false
clean_join true bytes i j l k e a b low high = b k (leb-true j k (sym e)) high
clean_join false bytes i j l k e a b low high = a k low (omega (arith, leb-false j k (sym e)))

-- no newline from i up to j and from j up to l
pub clean_both : (bytes : List ℕ) (i j l : ℕ) → NoNewline bytes i j → NoNewline bytes j l → NoNewline bytes i l
clean_both bytes i j l a b k low high = clean_join (nat_le j k) bytes i j l k refl a b low high

-- The pieces of a stream from a place on.

-- the first newline closes a piece
pub pieces_at : (bytes : List ℕ) (start stop : ℕ) → start ≤ stop → stop < length bytes → NoNewline bytes start stop → is_newline (get_or bytes stop 0) ≡ true
    → slice_split is_newline (drop start bytes) ≡ take (stop - start) (drop start bytes) ∷ slice_split is_newline (drop (stop + 1) bytes)
pieces_at bytes start stop order within clean at =
    let xs = drop start bytes in
    let i = stop - start in
    let here : start + i ≡ stop = omega (arith, order) in
    let inside : i < length xs = omega (arith, order, within, length-drop start bytes) in
    let next : drop (i + 1) xs ≡ drop (stop + 1) bytes = drop-drop (i + 1) start bytes ∙ ap (λ (n : ℕ). drop n bytes) {x = start + (i + 1)} {y = stop + 1} (omega (arith, order)) in
    let whole : xs ≡ take i xs ++ get_or xs i 0 ∷ drop (i + 1) xs = sym (take-append-drop i xs) ∙ ap (λ (r : List ℕ). take i xs ++ r) (drop_more xs i 0 inside) in
    let len : length (take i xs) ≡ i = length-take-le i xs (omega (arith, inside)) in
    let front = All-from_get_or (λ x. is_newline x ≡ false) (take i xs) 0
    (λ k below. ap is_newline (get_or-take i xs k 0 (omega (arith, len, below)) ∙ get_or-drop start bytes k 0) ∙ clean (start + k) (omega arith) (omega (arith, len, below, here))) in
    let closing : is_newline (get_or xs i 0) ≡ true = ap is_newline (get_or-drop start bytes i 0 ∙ ap (λ (n : ℕ). get_or bytes n 0) here) ∙ at in
    ap (slice_split is_newline) whole ∙ slice_split_at is_newline (take i xs) (get_or xs i 0) (drop (i + 1) xs) front closing ∙ ap (λ (r : List ℕ). take i xs ∷ slice_split is_newline r) next

all_clean : (bytes : List ℕ) (start : ℕ) → NoNewline bytes start (length bytes) → (k : ℕ) → k < length (drop start bytes) → is_newline (get_or (drop start bytes) k 0) ≡ false
all_clean bytes start clean k below =
    ap is_newline (get_or-drop start bytes k 0) ∙ clean (start + k) (omega arith) (omega (arith, below, length-drop start bytes))

-- without a newline there is one piece
pub pieces_open : (bytes : List ℕ) (start : ℕ) → NoNewline bytes start (length bytes) → slice_split is_newline (drop start bytes) ≡ drop start bytes ∷ []
pieces_open bytes start clean = slice_split_none is_newline (drop start bytes) (All-from_get_or (λ x. is_newline x ≡ false) (drop start bytes) 0 (all_clean bytes start clean))

abbrev pub first_of : List (List ℕ) → List ℕ
first_of [] = []
first_of (p ∷ ps) = p

abbrev pub after : List (List ℕ) → List (List ℕ)
after [] = []
after (p ∷ ps) = ps

pub begins : (ps : List (List ℕ)) → 0 < length ps → ps ≡ first_of ps ∷ after ps
begins [] h = absurd (omega (arith, h))
begins (p ∷ ps) h = refl

pub some_piece : (bytes : List ℕ) → 0 < length (slice_split is_newline bytes)
some_piece bytes = omega (arith, length-slice_split is_newline bytes)

-- bytes without a newline stand in front of the first piece of what follows
pieces_after : (xs ys : List ℕ) → ((k : ℕ) → k < length xs → is_newline (get_or xs k 0) ≡ false)
    → slice_split is_newline (xs ++ ys) ≡ (xs ++ first_of (slice_split is_newline ys)) ∷ after (slice_split is_newline ys)
pieces_after [] ys clean = begins (slice_split is_newline ys) (some_piece ys)
pieces_after (x ∷ xs) ys clean =
    slice_split-cons_no is_newline x (xs ++ ys) (clean 0 (omega arith))
    ∙ ap (onto_first x) (pieces_after xs ys (λ k below. clean (suc k) (omega (arith, below))))

-- Lines that are closed.

pub closed_cons : (e : Bool) (p : List ℕ) (ps : List (List ℕ)) → 0 < length ps → closed e (p ∷ ps) ≡ p ∷ closed e ps
closed_cons e p [] h = absurd (omega (arith, h))
closed_cons e p (q ∷ ps) h = refl

pub closed_long : (e : Bool) (p : List ℕ) (ps : List (List ℕ)) → is_too_long p ≡ true → closed e (p ∷ ps) ≡ p ∷ closed e ps
closed_long e p [] h = ap (λ (c : Bool). if c then p ∷ [] else []) (or_right e (is_too_long p) h)
closed_long e p (q ∷ ps) h = refl

pub line_long : (n : ℕ) (p : List ℕ) → is_too_long p ≡ true → line_of n p ≡ record { number = n; text = TooLong } ∷ []
line_long n p h = ap (λ (c : Bool). if c then record { number = n; text = TooLong } ∷ [] else kept_line n (strip_carriage_return p)) h

pub long_more : (xs ys : List ℕ) → is_too_long xs ≡ true → is_too_long (xs ++ ys) ≡ true
long_more xs ys h = le-leb 65537 (length (xs ++ ys)) (omega (arith, leb-true 65537 (length xs) h, length-append xs ys))

pub empty_line : (n : ℕ) → line_of n [] ≡ []
unfolding tokens
empty_line n = refl

-- The steps.

cut_case : (passing : Bool) (end : Bool) (n : ℕ) (ps : List (List ℕ)) (piece : List ℕ) (rest : List (List ℕ)) → 0 < length rest → ps ≡ piece ∷ rest
    → (if passing then after_first end n ps else numbered n (closed end ps)) ≡ (if passing then [] else line_of n piece) ++ numbered (n + 1) (closed end rest)
cut_case true end n ps piece rest h e = ap (after_first end n) e
cut_case false end n ps piece rest h e = ap (λ (l : List (List ℕ)). numbered n (closed end l)) e ∙ ap (numbered n) (closed_cons end piece rest h)

-- a newline closes the piece at a place
pub goes_after_newline : (ended : Bool) (bytes : List ℕ) (p : Place) (stop : ℕ) → p.start ≤ stop → stop < length bytes → NoNewline bytes p.start stop → is_newline (get_or bytes stop 0) ≡ true
    → Goes ended bytes p (if p.passing then [] else line_of p.number (take (stop - p.start) (drop p.start bytes)))
    (record { start = stop + 1; searched = stop + 1; number = p.number + 1; passing = false })
goes_after_newline ended bytes p stop order within clean at = λ end more may.
    let all = bytes ++ more in
    let inside : stop < length all = omega (arith, within, length-append bytes more) in
    let closing : is_newline (get_or all stop 0) ≡ true = ap is_newline (get_or_append_left bytes more 0 stop within) ∙ at in
    let piece : take (stop - p.start) (drop p.start all) ≡ take (stop - p.start) (drop p.start bytes) =
    ap (take (stop - p.start)) (drop-append-le p.start bytes more (omega (arith, order, within)))
    ∙ take-append-le (stop - p.start) (drop p.start bytes) more (omega (arith, within, length-drop p.start bytes)) in
    let pieces = pieces_at all p.start stop order inside (clean_more bytes more p.start stop (omega (arith, within)) clean) closing in
    let same = pieces ∙ ap (λ (l : List ℕ). l ∷ slice_split is_newline (drop (stop + 1) all)) piece in
    cut_case p.passing end p.number (slice_split is_newline (drop p.start all)) (take (stop - p.start) (drop p.start bytes)) (slice_split is_newline (drop (stop + 1) all)) (some_piece (drop (stop + 1) all)) same

-- the line at a place is too long already
pub goes_long : (ended : Bool) (bytes : List ℕ) (p : Place) (searched : ℕ) → p.start ≤ length bytes → p.passing ≡ false → NoNewline bytes p.start (length bytes) → is_too_long (drop p.start bytes) ≡ true
    → Goes ended bytes p (line_of p.number (drop p.start bytes)) (record { start = p.start; searched = searched; number = p.number; passing = true })
goes_long ended bytes p searched within fresh clean long = λ end more may.
    let n = p.number in
    let tail = drop p.start bytes in
    let ys = slice_split is_newline more in
    let piece = tail ++ first_of ys in
    let long_piece = long_more tail (first_of ys) long in
    let pieces : slice_split is_newline (drop p.start (bytes ++ more)) ≡ piece ∷ after ys =
    ap (slice_split is_newline) (drop-append-le p.start bytes more within) ∙ pieces_after tail more (all_clean bytes p.start clean) in
    let one : line_of n piece ≡ line_of n tail = line_long n piece long_piece ∙ sym (line_long n tail long) in
    ap (λ (c : Bool). if c then after_first end n (slice_split is_newline (drop p.start (bytes ++ more))) else numbered n (closed end (slice_split is_newline (drop p.start (bytes ++ more))))) fresh
    ∙ ap (λ (l : List (List ℕ)). numbered n (closed end l)) pieces
    ∙ ap (numbered n) (closed_long end piece (after ys) long_piece)
    ∙ ap (λ (l : List Line). l ++ numbered (n + 1) (closed end (after ys))) one
    ∙ ap (λ (l : List (List ℕ)). line_of n tail ++ after_first end n l) (sym pieces)

last_lines : (end : Bool) (n : ℕ) (bytes : List ℕ) (len : ℕ) → length bytes ≤ len → end ≡ true → numbered n (closed end (slice_split is_newline (drop len bytes))) ≡ []
last_lines true n bytes len h e =
    ap (λ (l : List ℕ). numbered n (closed true (slice_split is_newline l))) (drop_all len bytes h) ∙ ap (λ (l : List Line). l ++ []) (empty_line n)
last_lines false n bytes len h e = cc

-- the end of the stream closes the line at a place
pub goes_last : (ended : Bool) (bytes : List ℕ) (p : Place) (searched : ℕ) → ended ≡ true → p.passing ≡ false → NoNewline bytes p.start (length bytes)
    → Goes ended bytes p (line_of p.number (drop p.start bytes)) (record { start = length bytes; searched = searched; number = p.number + 1; passing = p.passing })
goes_last ended bytes p searched over fresh clean = λ end more may.
    let n = p.number in
    let tail = drop p.start bytes in
    let ends = (may over).0 in
    let whole : bytes ++ more ≡ bytes = ap (λ (l : List ℕ). bytes ++ l) (may over).1 ∙ append-nil bytes in
    let here : lines_from end p (bytes ++ more) ≡ line_of n tail ++ [] =
    ap (lines_from end p) whole
    ∙ ap (λ (c : Bool). if c then after_first end n (slice_split is_newline tail) else numbered n (closed end (slice_split is_newline tail))) fresh
    ∙ ap (λ (l : List (List ℕ)). numbered n (closed end l)) (pieces_open bytes p.start clean)
    ∙ ap (λ (e : Bool). numbered n (closed e (tail ∷ []))) ends in
    let last = slice_split is_newline (drop (length bytes) (bytes ++ more)) in
    let none : (if p.passing then after_first end (n + 1) last else numbered (n + 1) (closed end last)) ≡ [] =
    ap (λ (c : Bool). if c then after_first end (n + 1) last else numbered (n + 1) (closed end last)) fresh
    ∙ last_lines end (n + 1) (bytes ++ more) (length bytes) (omega (arith, ap length whole)) ends in
    here ∙ ap (λ (l : List Line). line_of n tail ++ l) (sym none)

-- nothing is closed at a place: its line was handed out
pub none_passing : (ended : Bool) (bytes : List ℕ) (p : Place) → p.passing ≡ true → NoNewline bytes p.start (length bytes) → lines_from ended p bytes ≡ []
none_passing ended bytes p passing clean =
    ap (λ (c : Bool). if c then after_first ended p.number (slice_split is_newline (drop p.start bytes)) else numbered p.number (closed ended (slice_split is_newline (drop p.start bytes)))) passing
    ∙ ap (after_first ended p.number) (pieces_open bytes p.start clean)

none_case : (ended : Bool) (n : ℕ) (tail : List ℕ) → is_too_long tail ≡ false → (ended ≡ true → tail ≡ []) → numbered n (closed ended (tail ∷ [])) ≡ []
none_case true n tail short h = ap (λ (l : List ℕ). line_of n l ++ []) (h refl) ∙ ap (λ (l : List Line). l ++ []) (empty_line n)
none_case false n tail short h = ap (λ (c : Bool). numbered n (if c then tail ∷ [] else [])) short

-- or it isn't too long, and there is none where the stream has ended
pub none_open : (ended : Bool) (bytes : List ℕ) (p : Place) → p.passing ≡ false → NoNewline bytes p.start (length bytes) → is_too_long (drop p.start bytes) ≡ false
    → (ended ≡ true → drop p.start bytes ≡ []) → lines_from ended p bytes ≡ []
none_open ended bytes p fresh clean short h =
    ap (λ (c : Bool). if c then after_first ended p.number (slice_split is_newline (drop p.start bytes)) else numbered p.number (closed ended (slice_split is_newline (drop p.start bytes)))) fresh
    ∙ ap (λ (l : List (List ℕ)). numbered p.number (closed ended l)) (pieces_open bytes p.start clean)
    ∙ none_case ended p.number (drop p.start bytes) short h

-- Steps one after another.

pub goes_same : (ended : Bool) (bytes : List ℕ) (p q : Place) → p.start ≡ q.start → p.number ≡ q.number → p.passing ≡ q.passing → Goes ended bytes p [] q
goes_same ended bytes p q start number passing = λ end more may.
    let b = bytes ++ more in
    ap (λ (s : ℕ). if p.passing then after_first end p.number (slice_split is_newline (drop s b)) else numbered p.number (closed end (slice_split is_newline (drop s b)))) start
    ∙ ap (λ (n : ℕ). if p.passing then after_first end n (slice_split is_newline (drop q.start b)) else numbered n (closed end (slice_split is_newline (drop q.start b)))) number
    ∙ ap (λ (c : Bool). if c then after_first end q.number (slice_split is_newline (drop q.start b)) else numbered q.number (closed end (slice_split is_newline (drop q.start b)))) passing

-- no line, and then those that are found
pub goes_on : (ended : Bool) (bytes : List ℕ) (p q r : Place) (found : List Line) → Goes ended bytes p [] q → Goes ended bytes q found r → Goes ended bytes p found r
goes_on ended bytes p q r found a b = λ end more may. a end more may ∙ b end more may

not_found : (passed long over : Bool) (xs ys : List Line) → (not passed && (long || not over)) ≡ false → (if passed then [] else if long then xs else if over then [] else ys) ≡ []
not_found true long over xs ys h = refl
not_found false true over xs ys h = cc
not_found false false true xs ys h = refl
not_found false false false xs ys h = cc

-- a piece that isn't handed out is no line
pub nothing_in : (passed : Bool) (n : ℕ) (b : List ℕ) → (not passed && (is_too_long b || not (is_passed_over (strip_carriage_return b)))) ≡ false → (if passed then [] else line_of n b) ≡ []
nothing_in passed n b h =
    not_found passed (is_too_long b) (is_passed_over (strip_carriage_return b)) (record { number = n; text = TooLong } ∷ []) (record { number = n; text = Whole (strip_carriage_return b) } ∷ []) h

pub begun_step : (c : Bool) (n : ℕ) → n + 1 ≡ (if c then n + 1 else n) + (if c then 0 else 1)
begun_step true n = omega arith
begun_step false n = omega arith

pub begun_one : (c : Bool) (n : ℕ) → c ≡ false → n + 1 ≡ (if c then n + 1 else n) + 1
begun_one false n h = refl
begun_one true n h = cc

pub long_is_handed_out : {A : Type 0} (a b : Bool) → a ≡ true → (a || b) ≡ false → A
long_is_handed_out true b h e = cc
long_is_handed_out false b h e = cc

pub begun_last : (c : Bool) (n : ℕ) → c ≡ false → (if c then n + 1 + 1 else n + 1) ≡ (if c then n + 1 else n) + 1
begun_last false n h = refl
begun_last true n h = cc
