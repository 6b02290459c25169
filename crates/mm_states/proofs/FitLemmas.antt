-- What holds of each element of a list: of parts, of images, and of sets of values.
use Rattle.std.proofs.Common.{◌≡◌, ◌<◌, ℕ, suc, zero, List, [], ◌∷◌, ◌++◌, map, length, take, get_or, All, Some, slice_get, sym, subst, arith}
use Rattle.std.proofs.lemmas.Option.{slice_get_within, get_or_from_slice_get}
use Rattle.std.specs.declared.cmp.Ordering.{Ordering}
use Rattle.std.specs.declared.cmp.Ordering.TheVariants.{Less, Equal, Greater}
use Rattle.mm_logic.specs.Order as order
use Rattle.mm_logic.specs.Order.{by_order}
use Rattle.mm_logic.specs.Value.{Value, members, collected, value_cmp}
use Rattle.mm_logic.specs.JoinRule.{all_pairs}
use Rattle.mm_logic.proofs.ValueLemmas.{members-set_of}
use Rattle.std.proofs.lemmas.List.Elements.{All-nil, All-cons, All-head, All-tail}
use Rattle.mm_states.specs.Lists.{AllFit}

pub AllFit-more : {K : Type 0} (P Q : K → Type 0) → ((k : K) → P k → Q k) → (ks : List K) → AllFit P ks → AllFit Q ks
AllFit-more P Q h [] f = tt
AllFit-more P Q h (k ∷ ks) f = (h k f.0, AllFit-more P Q h ks f.1)

pub AllFit-take : {K : Type 0} (P : K → Type 0) (n : ℕ) (ks : List K) → AllFit P ks → AllFit P (take n ks)
AllFit-take P zero ks f = tt
AllFit-take P (suc n) [] f = tt
AllFit-take P (suc n) (k ∷ ks) f = (f.0, AllFit-take P n ks f.1)

pub AllFit-append : {K : Type 0} (P : K → Type 0) (ks ls : List K) → AllFit P ks → AllFit P ls → AllFit P (ks ++ ls)
AllFit-append P [] ls f g = g
AllFit-append P (k ∷ ks) ls f g = (f.0, AllFit-append P ks ls f.1 g)

pub AllFit-map : {K L : Type 0} (P : K → Type 0) (Q : L → Type 0) (m : K → L) → ((k : K) → P k → Q (m k)) → (ks : List K) → AllFit P ks → AllFit Q (map m ks)
AllFit-map P Q m h [] f = tt
AllFit-map P Q m h (k ∷ ks) f = (h k f.0, AllFit-map P Q m h ks f.1)

pub AllFit-at : {K : Type 0} (P : K → Type 0) (ks : List K) (id : ℕ) (k : K) → AllFit P ks → slice_get ks id ≡ Some k → P k
AllFit-at P ks id k a at = subst P (get_or_from_slice_get ks id k k at) (go ks id a (slice_get_within ks id k at))
  where
    go : (xs : List _) (i : ℕ) → AllFit P xs → i < length xs → P (get_or xs i k)
    go [] i h l = absurd (omega arith)
    go (x ∷ xs) zero h l = h.0
    go (x ∷ xs) (suc i) h l = go xs i h.1 (omega arith)

pub AllFit-get : (P : ℕ → Type 0) (ids : List ℕ) (i : ℕ) → AllFit P ids → i < length ids → P (get_or ids i 0)
AllFit-get P [] i f l = absurd (omega arith)
AllFit-get P (k ∷ ids) zero f l = f.0
AllFit-get P (k ∷ ids) (suc i) f l = AllFit-get P ids i f.1 (omega arith)

pub AllFit-insert : {A : Type 0} (R : A → A → Ordering) (P : A → Type 0) (v : A) (vs : List A) → P v → AllFit P vs → AllFit P (order.insert R v vs)
AllFit-insert R P v [] h f = (h, tt)
AllFit-insert R P v (w ∷ ws) h f = by (R v w) (AllFit-insert R P v ws h f.1)
  where
    by : (r : Ordering) → AllFit P (order.insert R v ws) → AllFit P (by_order r (v ∷ w ∷ ws) (w ∷ ws) (w ∷ order.insert R v ws))
    by Less g = (h, f)
    by Equal g = f
    by Greater g = (f.0, g)

AllFit-normal : (P : Value → Type 0) (vs : List Value) → AllFit P vs → AllFit P (order.normal value_cmp vs)
AllFit-normal P [] f = tt
AllFit-normal P (v ∷ vs) f = AllFit-insert value_cmp P v (order.normal value_cmp vs) f.0 (AllFit-normal P vs f.1)

-- the members of a set are of those that it was made of
pub AllFit-collected : (P : Value → Type 0) (vs : List Value) → AllFit P vs → AllFit P (members (collected vs))
AllFit-collected P vs f = subst (AllFit P) (sym (members-set_of (order.normal value_cmp vs))) (AllFit-normal P vs f)

pub AllFit-all_pairs : (P Q R : Value → Type 0) (j : Value → Value → Value) → ((v w : Value) → P v → Q w → R (j v w)) → (vs ws : List Value) → AllFit P vs → AllFit Q ws → AllFit R (all_pairs j vs ws)
AllFit-all_pairs P Q R j h [] ws f g = tt
AllFit-all_pairs P Q R j h (v ∷ vs) ws f g = AllFit-append R (map (j v) ws) (all_pairs j vs ws) (AllFit-map Q R (j v) (λ w. h v w f.0) ws g) (AllFit-all_pairs P Q R j h vs ws f.1 g)

-- what holds of each by its place holds of each in turn, and the other way round
pub fits_all : {K : Type 0} (P : K → Type 0) (ks : List K) → All P ks → AllFit P ks
fits_all P [] h = tt
fits_all P (k ∷ ks) h = (All-head P k ks h, fits_all P ks (All-tail P k ks h))

pub all_fits : {K : Type 0} (P : K → Type 0) (ks : List K) → AllFit P ks → All P ks
all_fits P [] f = All-nil P
all_fits P (k ∷ ks) f = All-cons P k ks f.0 (all_fits P ks f.1)
